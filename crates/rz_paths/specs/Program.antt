-- The instructions of a file: their kinds and their static successors.
use Rattle.std.specs.Prelude.{ℕ, ◌+◌, ◌%◌, ◌^◌, Bool, true, false, List, [], Option, Some, None}
use Rattle.rz_isa.specs.declared.decoding.Decoded.{Decoded}
use Rattle.rz_isa.specs.declared.decoding.Decoded.TheVariants as decodeds
use Rattle.rz_isa.specs.declared.instruction.Kind.{Kind}
use Rattle.rz_isa.specs.declared.instruction.Kind.TheVariants.{Plain, Jcc, Jrcxz, Jmp, Ret}
use Rattle.rz_isa.specs.declared.rows.Row.{Row}
use Rattle.rz_isa.specs.Decoded.{decoded}
use Rattle.rz_isa.specs.Insn.{kind_of, target_of}
use Rattle.rz_isa.specs.Nodes.{Code, spelled_at, direct_by}
use Rattle.rz_elf.specs.Elf.{image_of}
use Rattle.rz_machine.specs.Nodes.{code_in}
use Rattle.rz_paths.specs.declared.node.Node.{Node}

-- the instruction at each address where one stands
abbrev pub Program : Type 0
Program = ℕ → Option Node

-- the executable bytes of a file, from an address on
abbrev pub code_of : List ℕ → Code
code_of bytes = code_in (image_of bytes).loads

-- what bytes at an address spell, as far as the flow of control goes
abbrev pub node_in : Decoded → ℕ → Option Node
node_in (decodeds.Insn x len) a = Some (record { kind = kind_of x; next = (a + len) % 2 ^ 64; target = target_of x })
node_in _ a = None

-- the instructions of a file, by the rows of a table
unfoldable pub program_of : List Row → List ℕ → Program
program_of rows bytes a = node_in (spelled_at (decoded rows) (code_of bytes) a) a

-- control leaves it for static successors alone
abbrev pub is_free : Kind → Bool
is_free Plain = true
is_free Jcc = true
is_free Jrcxz = true
is_free Jmp = true
is_free _ = false

abbrev pub is_branch : Kind → Bool
is_branch Jcc = true
is_branch Jrcxz = true
is_branch _ = false

abbrev pub is_ret : Kind → Bool
is_ret Ret = true
is_ret _ = false

abbrev pub direct_of : Option Node → List ℕ
direct_of None = []
direct_of (Some n) = direct_by n.kind n.target n.next

-- the static successors of the instruction at an address
abbrev pub direct_at : Program → ℕ → List ℕ
direct_at program a = direct_of (program a)

abbrev pub branch_of : Option Node → Bool
branch_of None = false
branch_of (Some n) = is_branch n.kind

abbrev pub is_branch_at : Program → ℕ → Bool
is_branch_at program a = branch_of (program a)

abbrev pub ret_of : Option Node → Bool
ret_of None = false
ret_of (Some n) = is_ret n.kind

abbrev pub is_ret_at : Program → ℕ → Bool
is_ret_at program a = ret_of (program a)
