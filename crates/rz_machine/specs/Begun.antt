-- What a run uses: the instructions that it begins, and the pairs of neighbours.
use Rattle.std.specs.Prelude.{ℕ, zero, suc, List, [], ◌∷◌, ◌++◌, Option, Some, None}
use Rattle.rz_isa.specs.declared.decoding.Decoded.{Decoded}
use Rattle.rz_isa.specs.declared.decoding.Decoded.TheVariants as decoded
use Rattle.rz_machine.specs.declared.machine.End.{End}
use Rattle.rz_machine.specs.declared.machine.Machine.{Machine}
use Rattle.rz_isa.specs.Nodes.{Decoder}
use Rattle.rz_machine.specs.Kept.{Kept, with_nodes, with_edges}
use Rattle.rz_machine.specs.State.{step, decoded_at}

-- an instruction is begun when it decodes
abbrev pub begun_by : Option End → Decoded → ℕ → List ℕ
begun_by None (decoded.Insn x len) a = a ∷ []
begun_by None d a = []
begun_by (Some why) d a = []

-- the address of the instruction that the next step begins, if it begins one
abbrev pub begun_at : Decoder → Machine → List ℕ
begun_at dec s = begun_by s.end (decoded_at dec s) s.cpu.rip

-- the addresses of the instructions begun in the first n steps, in their order
unfoldable pub begun : Decoder → ℕ → Machine → List ℕ
begun dec zero s = []
begun dec (suc n) s = begun_at dec s ++ begun dec n (step dec s)

-- the pairs of neighbours in a list
abbrev pub neighbours : List ℕ → List (ℕ × ℕ)
neighbours [] = []
neighbours (a ∷ []) = []
neighbours (a ∷ b ∷ rest) = (a, b) ∷ neighbours (b ∷ rest)

-- the nodes and the edges of the first n steps
unfoldable pub recorded : Decoder → ℕ → Machine → Kept
recorded dec n s = record { nodes = with_nodes [] (begun dec n s); edges = with_edges [] (neighbours (begun dec n s)) }
