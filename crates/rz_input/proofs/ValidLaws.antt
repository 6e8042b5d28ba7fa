-- What a line says is valid.
use Rattle.std.proofs.Common.{◌≡◌, ℕ, suc, ◌<◌, ◌≤◌, ◌==◌, ◌&&◌, Bool, true, false, cond, List, [], ◌∷◌, ◌++◌, length, Option, Some, None, Result, Ok, Err, refl, arith}
use Rattle.std.specs.Prelude.{nat_le, codes, bytes_eq}
use Rattle.std.specs.List.{AllByRecursion, cons_option, list_any}
use Rattle.std.proofs.lemmas.Bool.{and_parts, leb-true}
use Rattle.hex.specs.Hex.{decode_of, IsBytes}
use Rattle.hex.specs.declared.error.FromHexError.{FromHexError}
use Rattle.hex.proofs.HexLemmas.{decode_of-ok}
use Rattle.rz_text.specs.Lines.{Line, words}
use Rattle.rz_text.specs.Number.{decimal}
use Rattle.rz_sys.specs.Input.{IsValid, IsValidReply, strings}
use Rattle.rz_sys.specs.declared.input.Reply.TheVariants.{Full}
use Rattle.rz_input.specs.declared.entry.Entry.{Entry}
use Rattle.rz_input.specs.declared.entry.Entry.TheVariants.{Arg, Stdin, Reply}
use Rattle.rz_input.specs.Grammar.{argument, bytes_of, entry_of, entry_of_two, input_bytes, numbered_reply, some_bytes}
use Rattle.rz_input.specs.Value.{entries, input_from}

-- entries that a valid input can have
abbrev pub IsValidEntry : Entry → Type 0
IsValidEntry (Arg bytes) = AllByRecursion (λ b. (0 < b) × (b < 256)) bytes
IsValidEntry (Stdin bytes) = AllByRecursion (λ b. b < 256) bytes
IsValidEntry (Reply reply) = IsValidReply reply

abbrev IsValidSome : Option Entry → Type 0
IsValidSome None = Unit {0}
IsValidSome (Some entry) = IsValidEntry entry

valid-if : (b : Bool) (x y : Option Entry) → (b ≡ true → IsValidSome x) → (b ≡ false → IsValidSome y) → IsValidSome (cond b x y)
valid-if true x y h k = h refl
valid-if false x y h k = k refl

small : (bytes : List ℕ) → IsBytes bytes → AllByRecursion (λ b. b < 256) bytes
small [] h = tt
small (b ∷ bs) h = (h 0, small bs (λ i. h (suc i)))

positive : (bytes : List ℕ) → IsBytes bytes → list_any (λ b. b == 0) bytes ≡ false → AllByRecursion (λ b. (0 < b) × (b < 256)) bytes
positive [] h none = tt
positive (b ∷ bs) h none =
    let first : (b == 0) ≡ false = grind (arith) in
    let others : list_any (λ (c : ℕ). c == 0) bs ≡ false = rw first at none in
    ((grind (arith), h 0), positive bs (λ i. h (suc i)) others)

-- the bytes of a word are bytes
abbrev IsBytesSome : Option (List ℕ) → Type 0
IsBytesSome None = Unit {0}
IsBytesSome (Some bytes) = IsBytes bytes

some_bytes-small : (r : Result (List ℕ) FromHexError) → ((bytes : List ℕ) → r ≡ Ok bytes → IsBytes bytes) → IsBytesSome (some_bytes r)
some_bytes-small (Ok []) h = tt
some_bytes-small (Ok (b ∷ bs)) h = h (b ∷ bs) refl
some_bytes-small (Err e) h = tt

bytes_of-small : (word : List ℕ) → IsBytesSome (bytes_of word)
bytes_of-small word = some_bytes-small (decode_of word) (λ bytes h. (decode_of-ok word bytes h).3)

argument-valid : (o : Option (List ℕ)) → IsBytesSome o → IsValidSome (argument o)
argument-valid None h = tt
argument-valid (Some bytes) h = valid-if (list_any (λ b. b == 0) bytes) None (Some (Arg bytes)) (λ _. tt) (λ none. positive bytes h none)

input_bytes-valid : (o : Option (List ℕ)) → IsBytesSome o → IsValidSome (input_bytes o)
input_bytes-valid None h = tt
input_bytes-valid (Some bytes) h = small bytes h

numbered_reply-valid : (kind : List ℕ) (r : Result ℕ ℕ) → IsValidSome (numbered_reply kind r)
numbered_reply-valid kind (Err place) = tt
numbered_reply-valid kind (Ok n) =
    valid-if (bytes_eq kind (codes "atmost") && nat_le 1 n) _ _ (λ h. leb-true 1 n (and_parts _ _ h).1) (λ _.
    valid-if (bytes_eq kind (codes "error") && nat_le 1 n && nat_le n 4095) _ None
    (λ h. let parts = and_parts (bytes_eq kind (codes "error") && nat_le 1 n) (nat_le n 4095) h in
    (leb-true 1 n (and_parts _ _ parts.0).1, leb-true n 4095 parts.1)) (λ _. tt))

entry_of_two-valid : (key value : List ℕ) → IsValidSome (entry_of_two key value)
entry_of_two-valid key value =
    valid-if (bytes_eq key (codes "arg")) _ _ (λ _. argument-valid (bytes_of value) (bytes_of-small value)) (λ _.
    valid-if (bytes_eq key (codes "in")) _ _ (λ _. input_bytes-valid (bytes_of value) (bytes_of-small value)) (λ _.
    valid-if (bytes_eq key (codes "reply") && bytes_eq value (codes "full")) (Some (Reply Full)) None (λ _. tt) (λ _. tt)))

entry_of-valid : (ws : List (List ℕ)) → IsValidSome (entry_of ws)
unfolding entry_of
entry_of-valid [] = tt
entry_of-valid (key ∷ []) = valid-if (bytes_eq key (codes "arg")) (Some (Arg [])) None (λ _. tt) (λ _. tt)
entry_of-valid (key ∷ value ∷ []) = entry_of_two-valid key value
entry_of-valid (key ∷ kind ∷ number ∷ []) =
    valid-if (bytes_eq key (codes "reply")) (numbered_reply kind (decimal number)) None (λ _. numbered_reply-valid kind (decimal number)) (λ _. tt)
entry_of-valid (a ∷ b ∷ c ∷ d ∷ ws) = tt

entries-one : (o : Option Entry) → IsValidSome o → (lines : List Line) → AllByRecursion IsValidEntry (entries lines) → AllByRecursion IsValidEntry (cons_option o (entries lines))
entries-one None h lines all = all
entries-one (Some e) h lines all = (h, all)

-- each entry of some lines is valid
entries-valid : (lines : List Line) → AllByRecursion IsValidEntry (entries lines)
entries-valid [] = tt
entries-valid (line ∷ lines) = entries-one (entry_of (words line.1)) (entry_of-valid (words line.1)) lines (entries-valid lines)

args-valid : (es : List Entry) → AllByRecursion IsValidEntry es → AllByRecursion (λ arg. AllByRecursion (λ b. (0 < b) × (b < 256)) arg) (input_from es).args
args-valid [] h = tt
args-valid (Arg bytes ∷ es) h = (h.0, args-valid es h.1)
args-valid (Stdin bytes ∷ es) h = args-valid es h.1
args-valid (Reply reply ∷ es) h = args-valid es h.1

replies-valid : (es : List Entry) → AllByRecursion IsValidEntry es → AllByRecursion IsValidReply (input_from es).replies
replies-valid [] h = tt
replies-valid (Arg bytes ∷ es) h = replies-valid es h.1
replies-valid (Stdin bytes ∷ es) h = replies-valid es h.1
replies-valid (Reply reply ∷ es) h = (h.0, replies-valid es h.1)

small-append : (xs ys : List ℕ) → AllByRecursion (λ b. b < 256) xs → AllByRecursion (λ b. b < 256) ys → AllByRecursion (λ b. b < 256) (xs ++ ys)
small-append [] ys h k = k
small-append (x ∷ xs) ys h k = (h.0, small-append xs ys h.1 k)

stdin-valid : (es : List Entry) → AllByRecursion IsValidEntry es → AllByRecursion (λ b. b < 256) (input_from es).stdin
stdin-valid [] h = tt
stdin-valid (Arg bytes ∷ es) h = stdin-valid es h.1
stdin-valid (Stdin bytes ∷ es) h = small-append bytes (input_from es).stdin h.0 (stdin-valid es h.1)
stdin-valid (Reply reply ∷ es) h = stdin-valid es h.1

-- the input of some lines is valid where its arguments aren't too many
pub IsValid-lines : (lines : List Line) → length (strings (input_from (entries lines)).args) ≤ 65536 → IsValid (input_from (entries lines))
IsValid-lines lines few = record {
  no_zeros = args-valid (entries lines) (entries-valid lines);
  few = few;
  replies = replies-valid (entries lines) (entries-valid lines);
  stdin = stdin-valid (entries lines) (entries-valid lines);
}
