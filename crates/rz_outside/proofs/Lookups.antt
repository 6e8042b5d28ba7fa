-- Looking a name up in a list of entries: what its first place tells, and what a change of an entry leaves.
use Rattle.std.proofs.Common.{◌≡◌, ◌≢◌, ℕ, ◌<◌, ◌≤◌, Bool, true, false, List, [], ◌∷◌, ◌++◌, Option, Some, None, length, get_or, position, bytes_eq, refl, sym, ap, ◌∙◌, arith}
use Rattle.std.specs.List.{position_or_len}
use Rattle.std.proofs.Math.ListN.{set}
use Rattle.std.proofs.lemmas.Bool.Decides.{nat_tests}
use Rattle.std.proofs.lemmas.List.{get_or-set_same, get_or-set_other, length-set}
use Rattle.std.proofs.lemmas.List.Quantifiers.{position-Some}
use Rattle.std.proofs.lemmas.List.Recursion.{found_at, found_nowhere, found_set_other, found_push_other}
use Rattle.std.proofs.lemmas.List.Sums.{fails_before_first}
use Rattle.std.proofs.lemmas.Slice.Eq.{bytes_eq-Decides}
use Rattle.rz_outside.specs.Entries.{contents_of}

abbrev pub Entry : Type 0
Entry = List ℕ × List ℕ

-- the entry has this name
abbrev pub has_name : List ℕ → Entry → Bool
has_name name entry = bytes_eq entry.0 name

abbrev held : Entry → Option (List ℕ)
held entry = Some entry.1

bytes_eq-same : (name : List ℕ) → bytes_eq name name ≡ true
bytes_eq-same name = (bytes_eq-Decides name name).1 refl

-- a key that is one name is no other name
bytes_eq-other : (key name q : List ℕ) → bytes_eq key name ≡ true → q ≢ name → bytes_eq key q ≡ false
bytes_eq-other key name q same other =
    elim (bytes_eq key q) as (λ b. bytes_eq key q ≡ b → b ≡ false) [
      | true ↦ λ e. absurd (other (sym ((bytes_eq-Decides key q).0 e) ∙ (bytes_eq-Decides key name).0 same))
      | false ↦ λ e. refl
    ] refl

at_place : (name : List ℕ) (es : List Entry) (i : ℕ) (d : Entry) → i < length es → ((k : ℕ) → k < i → has_name name (get_or es k d) ≡ false) → has_name name (get_or es i d) ≡ true → contents_of es name ≡ Some (get_or es i d).1
at_place name es i d inside before here = found_at (λ l. contents_of l name) (has_name name) held None refl (λ _ _. refl) es i d inside before here

-- the name's first place has its contents
pub contents_at : (name : List ℕ) (es : List Entry) (i : ℕ) (d : Entry) → position (has_name name) es ≡ Some i → contents_of es name ≡ Some (get_or es i d).1
contents_at name es i d found = let facts = position-Some (has_name name) es i d found in at_place name es i d facts.0 facts.2 facts.1

nowhere_length : (p : Entry → Bool) (es : List Entry) → position p es ≡ None → length es ≤ position_or_len p es
nowhere_length p es none = grind (arith, nat_tests)

-- a name with no place holds nothing
pub contents_nowhere : (name : List ℕ) (es : List Entry) → position (has_name name) es ≡ None → contents_of es name ≡ None
contents_nowhere name es none =
    found_nowhere (λ l. contents_of l name) (has_name name) held None refl (λ _ _. refl) es ([], []) (λ k inside. let far : length es ≤ position_or_len (has_name name) es = nowhere_length (has_name name) es none in fails_before_first (has_name name) es k ([], []) (omega arith))

-- the first entry of a name with other contents, and no entry but that changed
pub contents_set : (name contents : List ℕ) (es : List Entry) (i : ℕ) (old : Entry) → position (has_name name) es ≡ Some i → old ≡ get_or es i old → contents_of (set es i (old.0, contents)) name ≡ Some contents
contents_set name contents es i old found here =
    let new : Entry = (old.0, contents) in
    let facts = position-Some (has_name name) es i old found in
    let named : has_name name (get_or (set es i new) i old) ≡ true = ap (has_name name) (get_or-set_same es i new old facts.0) ∙ ap (has_name name) here ∙ facts.1 in
    let earlier : (k : ℕ) → k < i → has_name name (get_or (set es i new) k old) ≡ false = λ k below. ap (has_name name) (get_or-set_other es i k new old (omega arith)) ∙ facts.2 k below in
    let inside : i < length (set es i new) = rw (length-set es i new) facts.0 in
    at_place name (set es i new) i old inside earlier named ∙ ap (λ (e : Entry). Some e.1) (get_or-set_same es i new old facts.0)

pub contents_set_other : (name contents q : List ℕ) (es : List Entry) (i : ℕ) (old : Entry) → position (has_name name) es ≡ Some i → old ≡ get_or es i old → q ≢ name → contents_of (set es i (old.0, contents)) q ≡ contents_of es q
contents_set_other name contents q es i old found here other =
    let facts = position-Some (has_name name) es i old found in
    let apart : has_name q old ≡ false = bytes_eq-other old.0 name q (ap (has_name name) here ∙ facts.1) other in
    found_set_other (λ l. contents_of l q) (has_name q) held None refl (λ _ _. refl) es i (old.0, contents) old (ap (has_name q) (sym here) ∙ apart) apart

-- an entry behind all others
push_here : (name : List ℕ) (es : List Entry) (y : Entry) → contents_of es name ≡ None → has_name name y ≡ true → contents_of (es ++ y ∷ []) name ≡ Some y.1
push_here name [] y none here = grind arith
push_here name (e ∷ es) y none here = let rest : contents_of es name ≡ None → contents_of (es ++ y ∷ []) name ≡ Some y.1 = λ n. push_here name es y n here in grind arith

pub contents_push : (name contents : List ℕ) (es : List Entry) → position (has_name name) es ≡ None → contents_of (es ++ (name, contents) ∷ []) name ≡ Some contents
contents_push name contents es none = push_here name es (name, contents) (contents_nowhere name es none) (bytes_eq-same name)

pub contents_push_other : (name contents q : List ℕ) (es : List Entry) → q ≢ name → contents_of (es ++ (name, contents) ∷ []) q ≡ contents_of es q
contents_push_other name contents q es other = found_push_other (λ l. contents_of l q) (has_name q) held None refl (λ _ _. refl) es (name, contents) (bytes_eq-other name name q (bytes_eq-same name) other)
