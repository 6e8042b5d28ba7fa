-- Printed lines are read as what they say.
use Rattle.std.proofs.Common.{◌≡◌, ℕ, zero, suc, ◌/◌, ◌%◌, ◌^◌, ◌<◌, ◌==◌, true, false, List, [], ◌∷◌, ◌++◌, length, Some, refl, ap, ◌∙◌, lit<, arith, rules}
use Rattle.std.specs.Prelude.{nat_le, codes, slice_index}
use Rattle.std.specs.List.{All, AllByRecursion, list_any}
use Rattle.std.specs.Fmt.{digits}
use Rattle.std.specs.Str.Parse.{AllDigits}
use Rattle.std.proofs.lemmas.Fmt.{decimal_is_IsNumeral}
use Rattle.hex.specs.Hex.{encode_lower, encode_with, hex_digit_value, lower_digits, IsBytes}
use Rattle.hex.proofs.HexLemmas.{decode_of-encode_lower, IsDigits-lower_digits}
use Rattle.rz_text.specs.Lines.{has_content, words}
use Rattle.rz_text.specs.Laws.Words.{IsVisible, words-joined, joined-no_end}
use Rattle.rz_text.specs.Laws.Numbers.{decimal-printed}
use Rattle.rz_sys.specs.Input.{IsValidReply}
use Rattle.rz_sys.specs.declared.input.Reply.{Reply as ReplyOf}
use Rattle.rz_sys.specs.declared.input.Reply.TheVariants.{Full, AtMost, Error}
use Rattle.rz_input.specs.declared.entry.Entry.{Entry}
use Rattle.rz_input.specs.declared.entry.Entry.TheVariants.{Arg, Stdin, Reply}
use Rattle.rz_input.specs.Grammar.{argument, bytes_of, entry_of, input_bytes, some_bytes}
use Rattle.rz_input.specs.Calls.Printing.{HasWord}
use Rattle.rz_input.specs.Printed.{entry_line, entry_words, reply_words}

-- entries that are printed
abbrev pub IsPrintable : Entry → Type 0
IsPrintable (Arg bytes) = AllByRecursion (λ b. (0 < b) × (b < 256)) bytes
IsPrintable (Stdin bytes) = AllByRecursion (λ b. b < 256) bytes × (0 < length bytes)
IsPrintable (Reply reply) = IsValidReply reply × HasWord reply

digit_visible : (c d : ℕ) → hex_digit_value c ≡ Some d → 32 < c
digit_visible c d h = grind arith

hex_visible : (bytes : List ℕ) → AllByRecursion (λ b. b < 256) bytes → IsVisible (encode_with lower_digits bytes)
unfolding encode_with
hex_visible [] h = tt
hex_visible (b ∷ bs) h =
    let fits = h.0 in
    let high : b / 16 < 16 = omega arith in
    let low : b % 16 < 16 = omega arith in (
      digit_visible (slice_index lower_digits (b / 16)) (b / 16) (IsDigits-lower_digits (b / 16) high),
      (digit_visible (slice_index lower_digits (b % 16)) (b % 16) (IsDigits-lower_digits (b % 16) low), hex_visible bs h.1),
    )

digits_visible : (ds : List ℕ) → AllDigits 10 ds → IsVisible ds
digits_visible [] h = tt
digits_visible (c ∷ cs) h = (let first = h.0 in grind (arith, first), digits_visible cs h.1)

number_visible : (n : ℕ) → n < 2 ^ 64 → IsVisible (digits 10 false n)
number_visible n fits = digits_visible (digits 10 false n) (decimal_is_IsNumeral n fits).0.1

bytes_from : (bytes : List ℕ) → AllByRecursion (λ b. b < 256) bytes → IsBytes bytes
bytes_from [] h i = lit< tt
bytes_from (b ∷ bs) h zero = h.0
bytes_from (b ∷ bs) h (suc i) = bytes_from bs h.1 i

small_from : (bytes : List ℕ) → AllByRecursion (λ b. (0 < b) × (b < 256)) bytes → AllByRecursion (λ b. b < 256) bytes
small_from [] h = tt
small_from (b ∷ bs) h = (h.0.1, small_from bs h.1)

no_zero : (bytes : List ℕ) → AllByRecursion (λ b. (0 < b) × (b < 256)) bytes → list_any (λ b. b == 0) bytes ≡ false
no_zero [] h = refl
no_zero (b ∷ bs) h =
    let positive = h.0.0 in
    let first : (b == 0) ≡ false = grind arith in
    rw first (no_zero bs h.1)

letters_visible : IsVisible (codes "arg") × IsVisible (codes "in") × IsVisible (codes "reply") × IsVisible (codes "full") × IsVisible (codes "atmost") × IsVisible (codes "error")
letters_visible = search rules

reply_visible : (reply : ReplyOf) → HasWord reply → AllByRecursion IsVisible (reply_words reply)
reply_visible Full h = let known = letters_visible in (known.2, (known.3, tt))
reply_visible (AtMost n) h = let known = letters_visible in (known.2, (known.4, (number_visible n h, tt)))
reply_visible (Error n) h = let known = letters_visible in (known.2, (known.5, (number_visible n h, tt)))

entry_visible : (e : Entry) → IsPrintable e → AllByRecursion IsVisible (entry_words e)
entry_visible (Arg []) h = let known = letters_visible in (known.0, tt)
entry_visible (Arg (b ∷ bs)) h = let known = letters_visible in (known.0, (hex_visible (b ∷ bs) (small_from (b ∷ bs) h), tt))
entry_visible (Stdin bytes) h = let known = letters_visible in (known.1, (hex_visible bytes h.0, tt))
entry_visible (Reply reply) h = reply_visible reply h.1

-- ---- the words of printed lines

some_words : (e : Entry) (P : List (List ℕ) → Type 0) → ((w : List ℕ) (ws : List (List ℕ)) → entry_words e ≡ w ∷ ws → P (w ∷ ws)) → P (entry_words e)
some_words (Arg []) P h = h _ _ refl
some_words (Arg (b ∷ bs)) P h = h _ _ refl
some_words (Stdin bytes) P h = h _ _ refl
some_words (Reply Full) P h = h _ _ refl
some_words (Reply (AtMost n)) P h = h _ _ refl
some_words (Reply (Error n)) P h = h _ _ refl

words-entry_line : (e : Entry) → IsPrintable e → words (entry_line e) ≡ entry_words e
words-entry_line e h = words-joined (entry_words e) (some_words e (λ ws. 0 < length ws) (λ w ws _. omega arith)) (entry_visible e h)

-- ---- what printed words say

entry_of-hex : (bytes : List ℕ) → AllByRecursion (λ b. b < 256) bytes → 0 < length bytes → bytes_of (encode_lower bytes) ≡ Some bytes
entry_of-hex [] h some = absurd (omega arith)
entry_of-hex (b ∷ bs) h some = ap some_bytes (decode_of-encode_lower (b ∷ bs) (bytes_from (b ∷ bs) h))

reads_reply : (reply : ReplyOf) → IsValidReply reply → HasWord reply → entry_of (reply_words reply) ≡ Some (Reply reply)
unfolding entry_of
reads_reply Full h k = refl
reads_reply (AtMost n) h k =
    let number = decimal-printed n k in
    let least : nat_le 1 n ≡ true = grind arith in
    rw (number, least) refl
reads_reply (Error n) h k =
    let number = decimal-printed n k in
    let low = h.0 in
    let high = h.1 in
    let least : nat_le 1 n ≡ true = grind arith in
    let most : nat_le n 4095 ≡ true = grind arith in
    rw (number, least, most) refl

pub reads_entry : (e : Entry) → IsPrintable e → entry_of (entry_words e) ≡ Some e
unfolding entry_of
reads_entry (Arg []) h = refl
reads_entry (Arg (b ∷ bs)) h =
    let named = entry_of-hex (b ∷ bs) (small_from (b ∷ bs) h) (omega arith) in
    let none = no_zero (b ∷ bs) h in
    ap argument named ∙ rw none refl
reads_entry (Stdin bytes) h = ap input_bytes (entry_of-hex bytes h.0 h.1)
reads_entry (Reply reply) h = reads_reply reply h.0 h.1

pub entry_of-line : (e : Entry) → IsPrintable e → entry_of (words (entry_line e)) ≡ Some e
entry_of-line e h = ap entry_of (words-entry_line e h) ∙ reads_entry e h

-- ---- printed lines say something

first_says : (c : ℕ) (cs : List ℕ) → (c == 35) ≡ false → has_content (c ∷ cs) ≡ true
first_says c cs h =
    let some : (length (c ∷ cs) == 0) ≡ false = grind arith in
    rw (some, h) refl

pub has_content-line : (e : Entry) → has_content (entry_line e) ≡ true
has_content-line (Arg []) = first_says 97 (codes "rg") refl
has_content-line (Arg (b ∷ bs)) = first_says 97 (codes "rg" ++ 32 ∷ encode_lower (b ∷ bs)) refl
has_content-line (Stdin bytes) = first_says 105 (codes "n" ++ 32 ∷ encode_lower bytes) refl
has_content-line (Reply Full) = first_says 114 (codes "eply" ++ 32 ∷ codes "full") refl
has_content-line (Reply (AtMost n)) = first_says 114 (codes "eply atmost" ++ 32 ∷ digits 10 false n) refl
has_content-line (Reply (Error n)) = first_says 114 (codes "eply error" ++ 32 ∷ digits 10 false n) refl

pub no_end-line : (e : Entry) → IsPrintable e → All (λ b. (b == 10) ≡ false) (entry_line e)
no_end-line e h = joined-no_end (entry_words e) (entry_visible e h)
