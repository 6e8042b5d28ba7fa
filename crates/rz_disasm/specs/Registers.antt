-- The names of registers (Intel SDM, volume 1, section 3.4.1.1).
use Rattle.std.specs.Prelude.{ℕ, List, [], ◌∷◌, codes, slice_get, unwrap_or}
use Rattle.rz_num.specs.declared.width.Width.{Width}
use Rattle.rz_num.specs.declared.width.Width.TheVariants.{W8, W16, W32, W64}
use Rattle.rz_isa.specs.declared.instruction.Reg.{Reg}
use Rattle.rz_isa.specs.declared.instruction.Reg.TheVariants.{R, High}

-- the names at each width, in the order of the numbers
abbrev pub register_names : Width → List (List ℕ)
register_names W8 =
    codes "al" ∷ codes "cl" ∷ codes "dl" ∷ codes "bl" ∷ codes "spl" ∷ codes "bpl" ∷ codes "sil" ∷ codes "dil"
    ∷ codes "r8b" ∷ codes "r9b" ∷ codes "r10b" ∷ codes "r11b" ∷ codes "r12b" ∷ codes "r13b" ∷ codes "r14b" ∷ codes "r15b" ∷ []
register_names W16 =
    codes "ax" ∷ codes "cx" ∷ codes "dx" ∷ codes "bx" ∷ codes "sp" ∷ codes "bp" ∷ codes "si" ∷ codes "di"
    ∷ codes "r8w" ∷ codes "r9w" ∷ codes "r10w" ∷ codes "r11w" ∷ codes "r12w" ∷ codes "r13w" ∷ codes "r14w" ∷ codes "r15w" ∷ []
register_names W32 =
    codes "eax" ∷ codes "ecx" ∷ codes "edx" ∷ codes "ebx" ∷ codes "esp" ∷ codes "ebp" ∷ codes "esi" ∷ codes "edi"
    ∷ codes "r8d" ∷ codes "r9d" ∷ codes "r10d" ∷ codes "r11d" ∷ codes "r12d" ∷ codes "r13d" ∷ codes "r14d" ∷ codes "r15d" ∷ []
register_names W64 =
    codes "rax" ∷ codes "rcx" ∷ codes "rdx" ∷ codes "rbx" ∷ codes "rsp" ∷ codes "rbp" ∷ codes "rsi" ∷ codes "rdi"
    ∷ codes "r8" ∷ codes "r9" ∷ codes "r10" ∷ codes "r11" ∷ codes "r12" ∷ codes "r13" ∷ codes "r14" ∷ codes "r15" ∷ []

-- the names of the second bytes
abbrev pub second_byte_names : List (List ℕ)
second_byte_names = codes "ah" ∷ codes "ch" ∷ codes "dh" ∷ codes "bh" ∷ []

-- the name at a place; a number that no register has is named by the empty text
abbrev name_at : List (List ℕ) → ℕ → List ℕ
name_at table n = unwrap_or (slice_get table n) []

-- the name of the register of a number
unfoldable pub number_name : Width → ℕ → List ℕ
number_name w n = name_at (register_names w) n

unfoldable pub second_byte_name : ℕ → List ℕ
second_byte_name n = name_at second_byte_names n

-- the name of a register at a width
abbrev pub register_name : Width → Reg → List ℕ
register_name w (R n) = number_name w n
register_name w (High n) = second_byte_name n
