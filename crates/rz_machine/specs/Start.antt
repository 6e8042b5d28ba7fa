-- The opening state of an accepted file on a valid input
-- (after the System V ABI for x86-64, section 3.4.1, "Initial Stack and Register State", without environment or auxiliary entries).
use Rattle.std.specs.Prelude.{◌≡◌, ℕ, ◌+◌, ◌-◌, ◌*◌, ◌%◌, ◌^◌, ◌≤◌, false, List, [], ◌∷◌, ◌++◌, length, set, replicate, flat_map, None}
use Rattle.std.specs.List.{AllByRecursion}
use Rattle.byteorder.specs.Endian.{little_bytes}
use Rattle.rz_flags.specs.declared.Flags.{Flags}
use Rattle.rz_machine.specs.declared.machine.Machine.{Machine}
use Rattle.rz_image.specs.Perm.{read_write}
use Rattle.rz_image.specs.declared.region.Region.{Region}
use Rattle.rz_sys.specs.declared.input.Input.{Input}
use Rattle.rz_sys.specs.declared.world.World.{World}
use Rattle.rz_sys.specs.Input.{strings}
use Rattle.rz_image.specs.Memory.{zeros}
use Rattle.rz_elf.specs.Elf.{Image}
use Rattle.rz_elf.specs.Loaded.{ElfFile, loaded}

abbrev pub stack_base : ℕ
stack_base = 0x7fffffeff000

abbrev pub stack_top : ℕ
stack_top = 0x7ffffffff000

-- where the strings begin: they end at the top of the stack
abbrev pub strings_at : List (List ℕ) → ℕ
strings_at args = stack_top - length (strings args)

abbrev pub string_addresses : ℕ → List (List ℕ) → List ℕ
string_addresses at [] = []
string_addresses at (arg ∷ args) = at ∷ string_addresses (at + length arg + 1) args

-- the words at RSP: the number of arguments, their addresses, and the ends of three lists
abbrev pub stack_words : List (List ℕ) → List ℕ
stack_words args = length args ∷ (string_addresses (strings_at args) args ++ 0 ∷ 0 ∷ 0 ∷ 0 ∷ [])

unfoldable pub first_rsp : List (List ℕ) → ℕ
first_rsp args = let low = strings_at args - 8 * (length args + 5) in low - low % 16

unfoldable pub stack_bytes : List (List ℕ) → List ℕ
stack_bytes args =
    let words = flat_map (little_bytes 8) (stack_words args) in
    zeros (first_rsp args - stack_base) ++ (words ++ (zeros (strings_at args - (first_rsp args + length words)) ++ strings args))

abbrev pub stack_region : Input → Region
stack_region input = record { base = stack_base; bytes = stack_bytes input.args; opened = 2 ^ 20; perm = read_write }

-- 16 MiB from the first break on, with none open
abbrev pub heap_region : ℕ → Region
heap_region first_break = record { base = first_break; bytes = zeros 16777216; opened = 0; perm = read_write }

abbrev pub no_flags : Flags
no_flags = record { cf = false; pf = false; af = false; zf = false; sf = false; df = false; of = false }

-- all zero but for RSP
unfoldable pub first_regs : Input → List ℕ
first_regs input = set (replicate 16 0) 4 (first_rsp input.args)

-- nothing is read yet; the heap's region follows the loads
abbrev pub first_world : Image → Input → World
first_world image input =
    record {
      stdin = input.stdin;
      replies = input.replies;
      events = [];
      first_break = image.first_break;
      brk = image.first_break;
      heap = length image.loads;
    }

abbrev pub start : Image → Input → Machine
start image input =
    record {
      cpu = record { regs = first_regs input; rip = image.entry; flags = no_flags };
      mem = image.loads ++ heap_region image.first_break ∷ stack_region input ∷ [];
      world = first_world image input;
      end = None;
    }

-- what is loaded leaves room for a heap: the first break is a low page, and the loads end there or before
pub record HasHeapRoom (image : Image) : Type 0 where
  pub page : image.first_break % 4096 ≡ 0
  pub low : image.first_break ≤ 0x70000000
  pub loads : AllByRecursion (λ r. r.base + length r.bytes ≤ image.first_break) image.loads

-- the opening state of what was read of a file
abbrev pub first_state : ElfFile → Input → Machine
first_state elf input = start (loaded elf) input
