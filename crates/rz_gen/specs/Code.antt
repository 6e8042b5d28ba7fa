-- The code of a generated program (Intel SDM, volume 2, the entries of the instructions named).
use Rattle.std.specs.Prelude.{ℕ, zero, suc, ◌+◌, ◌-◌, ◌*◌, List, [], ◌∷◌, ◌++◌, replicate}
use Rattle.byteorder.specs.Endian.{little_bytes}
use Rattle.rz_gen.specs.Sequence.{number_at}
use Rattle.rz_gen.specs.Places.{head_length, head_size, code_at, function_at, table_at}

-- the pieces of the numbers below n, one after the other
unfoldable pub each_below : (ℕ → List ℕ) → ℕ → List ℕ
each_below piece zero = []
each_below piece (suc k) = each_below piece k ++ piece k

-- a byte so many times
unfoldable pub filling : ℕ → ℕ → List ℕ
filling byte count = replicate count byte

-- xor ebx, ebx
abbrev pub opening : List ℕ
opening = 0x31 ∷ 0xdb ∷ []

-- call of function j: the displacement is from the address behind the call
unfoldable pub call : ℕ → ℕ → List ℕ
call n j = 0xe8 ∷ little_bytes 4 (function_at n j - (code_at + 2 + 5 * (j + 1)))

-- mov r12d, n; call [r12*8 + table - 8]; dec r12d; jne back to the call; movzx edi, bl; mov eax, 60; syscall
unfoldable pub table_calls : ℕ → List ℕ
table_calls n =
    0x41 ∷ 0xbc ∷ little_bytes 4 n
    ++ (0x42 ∷ 0xff ∷ 0x14 ∷ 0xe5 ∷ little_bytes 4 (table_at n - 8)
    ++ (0x41 ∷ 0xff ∷ 0xcc ∷ 0x75 ∷ 0xf3 ∷ 0x0f ∷ 0xb6 ∷ 0xfb ∷ 0xb8 ∷ 0x3c ∷ 0 ∷ 0 ∷ 0 ∷ 0x0f ∷ 0x05 ∷ []))

-- a call of each function, then of each through the table from the last one on, and the exit with the low byte of EBX;
-- filled with int3 up to a multiple of 16 bytes
unfoldable pub head : ℕ → List ℕ
head n = opening ++ (each_below (call n) n ++ (table_calls n ++ filling 0xcc (head_size n - head_length n)))

-- mov eax, x; add ebx, eax; test bl, 1; je past the next; add ebx, 7; ret
unfoldable pub function_adding : ℕ → List ℕ
function_adding x =
    0xb8 ∷ little_bytes 4 x ++ (0x01 ∷ 0xc3 ∷ 0xf6 ∷ 0xc3 ∷ 0x01 ∷ 0x74 ∷ 0x03 ∷ 0x83 ∷ 0xc3 ∷ 0x07 ∷ 0xc3 ∷ [])

-- function j adds the number of the place behind j
abbrev pub function : ℕ → List ℕ
function j = function_adding (number_at (suc j))

-- word j of the table: the address of function j
unfoldable pub table_word : ℕ → ℕ → List ℕ
table_word n j = little_bytes 8 (function_at n j)

unfoldable pub code : ℕ → List ℕ
code n = head n ++ (each_below function n ++ each_below (table_word n) n)
