-- Printed lines are read as what they say.
use Rattle.std.proofs.Common.{◌≡◌, ℕ, ◌^◌, ◌<◌, ◌==◌, false, List, [], ◌∷◌, length, Some, refl, ap, ◌∙◌, lit<, arith, rules}
use Rattle.std.specs.Prelude.{codes}
use Rattle.std.specs.List.{All, AllByRecursion}
use Rattle.std.specs.Fmt.{digits}
use Rattle.rz_text.specs.Lines.{words}
use Rattle.rz_text.specs.Laws.Words.{IsVisible, words-joined, joined-no_end}
use Rattle.rz_trace.specs.declared.entry.Entry.{Entry}
use Rattle.rz_trace.specs.declared.entry.Entry.TheVariants.{Begin, Profile, Node, Edge, End}
use Rattle.rz_trace.specs.Grammar.{entry_of}
use Rattle.rz_trace.specs.Printed.{address_word, entry_line, entry_words}
use Rattle.rz_trace.proofs.AddressLaws.{IsLower, address_of-printed, digits_plain}

-- entries of version 2 and profile 2 whose addresses have 64 bits
abbrev pub IsPrintable : Entry → Type 0
IsPrintable (Begin version) = version ≡ 2
IsPrintable (Profile profile) = profile ≡ 2
IsPrintable (Node at) = at < 2 ^ 64
IsPrintable (Edge from to) = (from < 2 ^ 64) × (to < 2 ^ 64)
IsPrintable End = Unit {0}

lower_visible : (ds : List ℕ) → AllByRecursion IsLower ds → IsVisible ds
lower_visible [] h = tt
lower_visible (c ∷ cs) h = (h.0.visible, lower_visible cs h.1)

address_visible : (at : ℕ) → at < 2 ^ 64 → IsVisible (address_word at)
address_visible at fits = (lit< tt, (lit< tt, lower_visible (digits 16 false at) (digits_plain at fits).lower))

letters_visible : IsVisible (codes "razor-trace") × IsVisible (codes "2") × IsVisible (codes "profile") × IsVisible (codes "n") × IsVisible (codes "e") × IsVisible (codes "end")
letters_visible = search rules

entry_visible : (e : Entry) → IsPrintable e → AllByRecursion IsVisible (entry_words e)
entry_visible (Begin version) h = let known = letters_visible in rw h (known.0, (known.1, tt))
entry_visible (Profile profile) h = let known = letters_visible in rw h (known.2, (known.1, tt))
entry_visible (Node at) h = let known = letters_visible in (known.3, (address_visible at h, tt))
entry_visible (Edge from to) h = let known = letters_visible in (known.4, (address_visible from h.0, (address_visible to h.1, tt)))
entry_visible End h = let known = letters_visible in (known.5, tt)

-- ---- the words of printed lines

some_words : (e : Entry) → 0 < length (entry_words e)
some_words (Begin version) = omega arith
some_words (Profile profile) = omega arith
some_words (Node at) = omega arith
some_words (Edge from to) = omega arith
some_words End = omega arith

words-entry_line : (e : Entry) → IsPrintable e → words (entry_line e) ≡ entry_words e
words-entry_line e h = words-joined (entry_words e) (some_words e) (entry_visible e h)

-- ---- what printed words say

reads_entry : (e : Entry) → IsPrintable e → entry_of (entry_words e) ≡ Some e
unfolding entry_of
reads_entry (Begin version) h = rw h refl
reads_entry (Profile profile) h = rw h refl
reads_entry (Node at) h = let read = address_of-printed at h in rw read refl
reads_entry (Edge from to) h =
    let first = address_of-printed from h.0 in
    let second = address_of-printed to h.1 in
    rw (first, second) refl
reads_entry End h = refl

pub entry_of-line : (e : Entry) → IsPrintable e → entry_of (words (entry_line e)) ≡ Some e
entry_of-line e h = ap entry_of (words-entry_line e h) ∙ reads_entry e h

-- ---- printed lines have no line end

pub no_end-line : (e : Entry) → IsPrintable e → All (λ b. (b == 10) ≡ false) (entry_line e)
no_end-line e h = joined-no_end (entry_words e) (entry_visible e h)
