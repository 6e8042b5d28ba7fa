-- Where the parts of the generated code of so many functions stand: the head, the functions, the table of their addresses.
use Rattle.std.specs.Prelude.{ℕ, ◌+◌, ◌*◌, ◌/◌}

-- the bytes of the head, without and with those that fill it up to a multiple of 16
abbrev pub head_length : ℕ → ℕ
head_length n = 31 + 5 * n

abbrev pub head_size : ℕ → ℕ
head_size n = (head_length n + 15) / 16 * 16

-- the address of the code
abbrev pub code_at : ℕ
code_at = 0x401000

-- the address of function j, counted from 0
abbrev pub function_at : ℕ → ℕ → ℕ
function_at n j = code_at + head_size n + 16 * j

-- the address of the table, behind the last function
abbrev pub table_at : ℕ → ℕ
table_at n = function_at n n
