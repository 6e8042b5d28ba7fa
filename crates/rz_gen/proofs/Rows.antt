-- A worked file: two functions.
use Rattle.std.proofs.Common.{◌≡◌, [], ◌∷◌, length, refl}
use Rattle.rz_gen.specs.Sequence.{number_at}
use Rattle.rz_gen.specs.Code.{each_below, filling, call, table_calls, head, function, function_adding, table_word, code}
use Rattle.rz_gen.proofs.Lengths.{length-code}

first_number : number_at 1 ≡ 1406932606
unfolding number_at
first_number = refl

second_number : number_at 2 ≡ 654583775
unfolding number_at
second_number = refl

-- the head: the calls go 0x29 and 0x34 bytes on, and the table is at 0x401050
two_calls : head 2 ≡ 0x31 ∷ 0xdb ∷ 0xe8 ∷ 0x29 ∷ 0 ∷ 0 ∷ 0 ∷ 0xe8 ∷ 0x34 ∷ 0 ∷ 0 ∷ 0 ∷ 0x41 ∷ 0xbc ∷ 2 ∷ 0 ∷ 0 ∷ 0 ∷ 0x42 ∷ 0xff ∷ 0x14 ∷ 0xe5 ∷ 0x48 ∷ 0x10 ∷ 0x40 ∷ 0 ∷ 0x41 ∷ 0xff ∷ 0xcc ∷ 0x75 ∷ 0xf3 ∷ 0x0f ∷ 0xb6 ∷ 0xfb ∷ 0xb8 ∷ 0x3c ∷ 0 ∷ 0 ∷ 0 ∷ 0x0f ∷ 0x05 ∷ 0xcc ∷ 0xcc ∷ 0xcc ∷ 0xcc ∷ 0xcc ∷ 0xcc ∷ 0xcc ∷ []
unfolding head each_below call table_calls filling
two_calls = refl

first_function : function 0 ≡ 0xb8 ∷ 0x7e ∷ 0x16 ∷ 0xdc ∷ 0x53 ∷ 0x01 ∷ 0xc3 ∷ 0xf6 ∷ 0xc3 ∷ 0x01 ∷ 0x74 ∷ 0x03 ∷ 0x83 ∷ 0xc3 ∷ 0x07 ∷ 0xc3 ∷ []
unfolding function_adding number_at
first_function = refl

last_function : function 1 ≡ 0xb8 ∷ 0xdf ∷ 0x27 ∷ 0x04 ∷ 0x27 ∷ 0x01 ∷ 0xc3 ∷ 0xf6 ∷ 0xc3 ∷ 0x01 ∷ 0x74 ∷ 0x03 ∷ 0x83 ∷ 0xc3 ∷ 0x07 ∷ 0xc3 ∷ []
unfolding function_adding number_at
last_function = refl

two_words : each_below (table_word 2) 2 ≡ 0x30 ∷ 0x10 ∷ 0x40 ∷ 0 ∷ 0 ∷ 0 ∷ 0 ∷ 0 ∷ 0x40 ∷ 0x10 ∷ 0x40 ∷ 0 ∷ 0 ∷ 0 ∷ 0 ∷ 0 ∷ []
unfolding each_below table_word
two_words = refl

-- 72 bytes of code for one function, 96 for two
one_length : length (code 1) ≡ 72
one_length = length-code 1

two_length : length (code 2) ≡ 96
two_length = length-code 2
