-- Worked rows: the words at RSP, where RSP stands, and the stack, with no argument, with one and with two.
use Rattle.std.proofs.Common.{◌≡◌, ℕ, List, [], ◌∷◌, ◌++◌, refl}
use Rattle.rz_image.specs.Memory.{zeros}
use Rattle.rz_machine.specs.Start.{stack_words, first_rsp, stack_bytes}

none : List (List ℕ)
none = []

-- `a`
one : List (List ℕ)
one = (97 ∷ []) ∷ []

-- `bc`, an empty argument, and `a`
three : List (List ℕ)
three = (98 ∷ 99 ∷ []) ∷ [] ∷ (97 ∷ []) ∷ []

rsp-none : first_rsp none ≡ 0x7fffffffefd0
unfolding none first_rsp
rsp-none = refl

rsp-one : first_rsp one ≡ 0x7fffffffefc0
unfolding one first_rsp
rsp-one = refl

rsp-three : first_rsp three ≡ 0x7fffffffefb0
unfolding three first_rsp
rsp-three = refl

words-none : stack_words none ≡ 0 ∷ 0 ∷ 0 ∷ 0 ∷ 0 ∷ []
unfolding none
words-none = refl

words-one : stack_words one ≡ 1 ∷ 0x7fffffffeffe ∷ 0 ∷ 0 ∷ 0 ∷ 0 ∷ []
unfolding one
words-one = refl

words-three : stack_words three ≡ 3 ∷ 0x7fffffffeffa ∷ 0x7fffffffeffd ∷ 0x7fffffffeffe ∷ 0 ∷ 0 ∷ 0 ∷ 0 ∷ []
unfolding three
words-three = refl

-- 40 bytes of words and 8 zeros, all of them 0
bytes-none : stack_bytes none
    ≡ zeros 0xfffd0
    ++ (0 ∷ 0 ∷ 0 ∷ 0 ∷ 0 ∷ 0 ∷ 0 ∷ 0
    ∷ 0 ∷ 0 ∷ 0 ∷ 0 ∷ 0 ∷ 0 ∷ 0 ∷ 0
    ∷ 0 ∷ 0 ∷ 0 ∷ 0 ∷ 0 ∷ 0 ∷ 0 ∷ 0
    ∷ 0 ∷ 0 ∷ 0 ∷ 0 ∷ 0 ∷ 0 ∷ 0 ∷ 0
    ∷ 0 ∷ 0 ∷ 0 ∷ 0 ∷ 0 ∷ 0 ∷ 0 ∷ 0
    ∷ (zeros 8 ++ []))
unfolding none stack_bytes first_rsp
bytes-none = refl

-- 48 bytes of words, 14 zeros and the string
bytes-one : stack_bytes one
    ≡ zeros 0xfffc0
    ++ (1 ∷ 0 ∷ 0 ∷ 0 ∷ 0 ∷ 0 ∷ 0 ∷ 0
    ∷ 0xfe ∷ 0xef ∷ 0xff ∷ 0xff ∷ 0xff ∷ 0x7f ∷ 0 ∷ 0
    ∷ 0 ∷ 0 ∷ 0 ∷ 0 ∷ 0 ∷ 0 ∷ 0 ∷ 0
    ∷ 0 ∷ 0 ∷ 0 ∷ 0 ∷ 0 ∷ 0 ∷ 0 ∷ 0
    ∷ 0 ∷ 0 ∷ 0 ∷ 0 ∷ 0 ∷ 0 ∷ 0 ∷ 0
    ∷ 0 ∷ 0 ∷ 0 ∷ 0 ∷ 0 ∷ 0 ∷ 0 ∷ 0
    ∷ (zeros 14 ++ 97 ∷ 0 ∷ []))
unfolding one stack_bytes first_rsp
bytes-one = refl
