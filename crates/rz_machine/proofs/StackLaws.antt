-- The stack in which a run begins: how many bytes its parts have, and where RSP stands.
use Rattle.std.proofs.Common.{◌≡◌, ℕ, ◌+◌, ◌-◌, ◌*◌, ◌%◌, ◌≤◌, List, [], ◌∷◌, ◌++◌, length, take, replicate, refl, ap, ap₂, ◌∙◌, arith, length-append, append_assoc}
use Rattle.std.specs.Prelude.{flat_map}
use Rattle.std.proofs.lemmas.List.{take_all}
use Rattle.byteorder.specs.Endian.{little_bytes}
use Rattle.rz_image.specs.Memory.{zeros}
use Rattle.rz_image.specs.Laws.Zeros.{length-zeros}
use Rattle.rz_sys.specs.Input.{strings}
use Rattle.rz_machine.specs.Start.{stack_base, stack_top, strings_at, string_addresses, stack_words, first_rsp, stack_bytes}

-- each string has its zero byte
pub length-args-le : (args : List (List ℕ)) → length args ≤ length (strings args)
length-args-le [] = omega arith
length-args-le (arg ∷ args) =
    let rest = length-args-le args in
    let a = length-append (arg ++ 0 ∷ []) (strings args) in
    let b = length-append arg (0 ∷ []) in
    omega arith

length-string_addresses : (at : ℕ) (args : List (List ℕ)) → length (string_addresses at args) ≡ length args
length-string_addresses at [] = refl
length-string_addresses at (arg ∷ args) = let rest = length-string_addresses (at + length arg + 1) args in omega arith

-- the number of arguments, an address for each, and four zeros
pub length-stack_words : (args : List (List ℕ)) → length (stack_words args) ≡ length args + 5
length-stack_words args =
    let a = length-append (string_addresses (strings_at args) args) (0 ∷ 0 ∷ 0 ∷ 0 ∷ []) in
    let b = length-string_addresses (strings_at args) args in
    omega arith

pub length-word_bytes : (words : List ℕ) → length (flat_map (little_bytes 8) words) ≡ 8 * length words
length-word_bytes [] = refl
length-word_bytes (w ∷ words) =
    let rest = length-word_bytes words in
    let a = length-append (little_bytes 8 w) (flat_map (little_bytes 8) words) in
    omega arith

-- where RSP stands: inside the stack, and no higher than the words have room below the strings
pub record IsPlaced (args : List (List ℕ)) : Type 0 where
  pub low : stack_base ≤ first_rsp args
  pub room : first_rsp args + 8 * (length args + 5) ≤ strings_at args
  pub high : strings_at args + length (strings args) ≡ stack_top

pub placed : (args : List (List ℕ)) → length (strings args) ≤ 65536 → IsPlaced args
unfolding first_rsp
placed args few = let n = length-args-le args in record { low = omega arith; room = omega arith; high = omega arith }

-- the stack has 1 MiB
pub length-stack_bytes : (args : List (List ℕ)) → length (strings args) ≤ 65536 → length (stack_bytes args) ≡ 1048576
unfolding stack_bytes
length-stack_bytes args few =
    let p = placed args few in
    let words = flat_map (little_bytes 8) (stack_words args) in
    let low = zeros (first_rsp args - stack_base) in
    let gap = zeros (strings_at args - (first_rsp args + length words)) in
    let a = length-append low (words ++ (gap ++ strings args)) in
    let b = length-append words (gap ++ strings args) in
    let c = length-append gap (strings args) in
    let d = length-zeros (first_rsp args - stack_base) in
    let e = length-zeros (strings_at args - (first_rsp args + length words)) in
    let f = length-word_bytes (stack_words args) in
    let g = length-stack_words args in
    omega arith

-- the words for strings that end at the top are those at RSP
abbrev pub AreWords : List (List ℕ) → ℕ → List ℕ → Type 0
AreWords args at words = words ≡ length args ∷ (string_addresses at args ++ 0 ∷ 0 ∷ 0 ∷ 0 ∷ [])

-- strings and words of arguments, as they are computed
pub record IsStack (args : List (List ℕ)) (bytes listed : List ℕ) : Type 0 where
  pub few : length (strings args) ≤ 65536
  pub strings_are : bytes ≡ strings args
  pub words_are : AreWords args (stack_top - length bytes) listed

stack_words_are : (args : List (List ℕ)) (bytes words : List ℕ) → IsStack args bytes words → words ≡ stack_words args
stack_words_are args bytes words is = is.words_are ∙ ap (λ (b : List ℕ). length args ∷ (string_addresses (stack_top - length b) args ++ 0 ∷ 0 ∷ 0 ∷ 0 ∷ [])) is.strings_are

-- where they lie
pub record Places (args : List (List ℕ)) (bytes listed : List ℕ) : Type 0 where
  pub at : stack_top - length bytes ≡ strings_at args
  pub count : length listed ≡ length args + 5
  pub rsp : stack_top - length bytes - 8 * length listed - (stack_top - length bytes - 8 * length listed) % 16 ≡ first_rsp args

pub places : (args : List (List ℕ)) (bytes words : List ℕ) → IsStack args bytes words → Places args bytes words
unfolding first_rsp
places args bytes words is =
    let a : stack_top - length bytes ≡ strings_at args = ap (λ (b : List ℕ). stack_top - length b) is.strings_are in
    let n : length words ≡ length args + 5 = ap length (stack_words_are args bytes words is) ∙ length-stack_words args in
    record { at = a; count = n; rsp = ap₂ (λ (a n : ℕ). let low = a - 8 * n in low - low % 16) a n }

-- an empty list filled up with zeros
pub zeros_from_nil : (n had : ℕ) (old new : List ℕ) → old ≡ [] → had ≡ 0 → new ≡ take n old ++ replicate (n - had) 0 → new ≡ replicate n 0
zeros_from_nil n had old new e z h =
    let left : n - had ≡ n = omega arith in
    h ∙ ap₂ (λ (l : List ℕ) (k : ℕ). take n l ++ replicate k 0) e left ∙ ap (λ (l : List ℕ). l ++ replicate n 0) (take_all n [] (omega arith))

-- zeros up to RSP, the words, zeros up to the strings, and the strings are the stack
pub stack_bytes_are : (args : List (List ℕ)) (bytes words b c d : List ℕ) (rsp at n : ℕ) → IsStack args bytes words → rsp ≡ first_rsp args → at ≡ strings_at args → b ≡ replicate (rsp - stack_base) 0
    → c ≡ b ++ flat_map (little_bytes 8) words → n ≡ length c → d ≡ take (at - stack_base) c ++ replicate (at - stack_base - n) 0 → d ++ bytes ≡ stack_bytes args
unfolding stack_bytes zeros
stack_bytes_are args bytes words b c d rsp at n is er ea eb ec en ed =
    let p = placed args is.few in
    let low : List ℕ = replicate (first_rsp args - stack_base) 0 in
    let ws : List ℕ = flat_map (little_bytes 8) (stack_words args) in
    let w : flat_map (little_bytes 8) words ≡ ws = ap (flat_map (little_bytes 8)) (stack_words_are args bytes words is) in
    let begin : b ≡ low = eb ∙ ap (λ (r : ℕ). replicate (r - stack_base) 0) er in
    let both : c ≡ low ++ ws = ec ∙ ap₂ (λ (x y : List ℕ). x ++ y) begin w in
    let len : length c ≡ first_rsp args - stack_base + length ws = ap length both ∙ length-append low ws ∙ ap (λ (k : ℕ). k + length ws) (length-zeros (first_rsp args - stack_base)) in
    let size = length-word_bytes (stack_words args) in
    let count = length-stack_words args in
    let fits : length c ≤ at - stack_base = omega arith in
    let gap : at - stack_base - n ≡ strings_at args - (first_rsp args + length ws) = omega arith in
    let fill : List ℕ = replicate (strings_at args - (first_rsp args + length ws)) 0 in
    let filled : d ≡ (low ++ ws) ++ fill = ed ∙ ap₂ (λ (x : List ℕ) (k : ℕ). x ++ replicate k 0) (take_all (at - stack_base) c fits ∙ both) gap in
    ap₂ (λ (x y : List ℕ). x ++ y) filled is.strings_are ∙ append_assoc (low ++ ws) fill (strings args) ∙ append_assoc low ws (fill ++ strings args)
