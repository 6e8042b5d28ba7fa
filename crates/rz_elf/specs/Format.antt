-- The numbers of executable ELF-64 files for x86-64 (System V gABI, chapter 4, "ELF Header", and chapter 5, "Program Header"),
-- and of written files: their stamp, their added loads, the bytes of their stubs.
use Rattle.std.specs.Prelude.{ℕ, ◌+◌, List, [], ◌∷◌, ◌++◌, replicate}
use Rattle.byteorder.specs.Endian.{little_bytes}

-- `e_type` ET_EXEC, `e_machine` EM_X86_64, and the version EV_CURRENT
abbrev pub executable_type : ℕ
executable_type = 2

abbrev pub x86_64 : ℕ
x86_64 = 62

abbrev pub current_version : ℕ
current_version = 1

-- `p_type`: PT_LOAD, PT_DYNAMIC, PT_INTERP and PT_GNU_STACK
abbrev pub load_type : ℕ
load_type = 1

abbrev pub dynamic_type : ℕ
dynamic_type = 2

abbrev pub interpreter_type : ℕ
interpreter_type = 3

abbrev pub stack_type : ℕ
stack_type = 0x6474e551

-- the stamp of a number stands in the padding of the identification (chapter 4, "ELF Identification"): RZSTUB and a digit
abbrev pub stamp_at : ℕ
stamp_at = 9

abbrev pub stamp_with : ℕ → List ℕ
stamp_with n = 0x52 ∷ 0x5a ∷ 0x53 ∷ 0x54 ∷ 0x55 ∷ 0x42 ∷ (0x30 + n) ∷ []

-- the number of the stamp that is written
abbrev pub stamp_number : ℕ
stamp_number = 1

abbrev pub stamp : List ℕ
stamp = stamp_with stamp_number

-- a written file has four loads before those of its original: scratch, tables, code and stubs, the last with the number 3
abbrev pub added_loads : ℕ
added_loads = 4

abbrev pub stubs_load : ℕ
stubs_load = 3

-- INT3, which fills what is left of stubs and parts (Intel SDM, volume 2, "INT n/INTO/INT3/INT1")
abbrev pub int3 : ℕ
int3 = 0xcc

-- the bytes of a stub, and where its word stands in it
abbrev pub stub_size : ℕ
stub_size = 24

abbrev pub stub_word_at : ℕ
stub_word_at = 8

-- it begins with UD2 (Intel SDM, volume 2, "UD")
abbrev pub stub_front : List ℕ
stub_front = 0x0f ∷ 0x0b ∷ []

-- what stands in a stub before its word, and behind it
abbrev pub stub_head : List ℕ
stub_head = stub_front ++ replicate 6 0

abbrev pub stub_filler : List ℕ
stub_filler = replicate 8 int3

-- the stub of the address a that stands at another one
abbrev pub stub_bytes : (at a : ℕ) → List ℕ
stub_bytes at a = stub_head ++ (little_bytes 8 a ++ stub_filler)

-- the stubs of ascending addresses, one after the other from an address on
abbrev pub all_stubs : (from : ℕ) → List ℕ → List ℕ
all_stubs from [] = []
all_stubs from (a ∷ nodes) = stub_bytes from a ++ all_stubs (from + stub_size) nodes
