use Rattle.std.specs.Prelude.{ℕ, ◌≡◌, ◌+◌, ◌%◌, ◌^◌, Bool, true, false, List, [], ◌∷◌, Option, Some, None}
use Rattle.rz_isa.specs.declared.decoding.Decoded.{Decoded}
use Rattle.rz_isa.specs.declared.decoding.Decoded.TheVariants as decodeds
use Rattle.rz_isa.specs.declared.instruction.Insn.{Insn}
use Rattle.rz_isa.specs.declared.instruction.Kind.{Kind}
use Rattle.rz_isa.specs.declared.instruction.Kind.TheVariants as kinds
use Rattle.rz_isa.specs.Insn.{kind_of, target_of}

-- Nodes: the addresses where an instruction stands; their kinds and successors.

-- what the bytes at an address spell
abbrev pub Decoder : Type 0
Decoder = List ℕ → ℕ → Decoded

-- the executable bytes from an address on, as many of the first 15 as there are
abbrev pub Code : Type 0
Code = ℕ → List ℕ

-- what the executable bytes at an address spell
abbrev pub spelled_at : Decoder → Code → ℕ → Decoded
spelled_at decoder code a = decoder (code a) a

-- an instruction stands at the address
pub record IsNode (decoder : Decoder) (code : Code) (a : ℕ) : Type 0 where
  pub insn : Insn
  pub len : ℕ
  pub spelled : spelled_at decoder code a ≡ decodeds.Insn insn len

-- a transfer whose target isn't in the instruction
abbrev pub is_site : Kind → Bool
is_site kinds.CallInd = true
is_site kinds.JmpInd = true
is_site kinds.Ret = true
is_site _ = false

abbrev pub kind_in : Decoded → Option Kind
kind_in (decodeds.Insn x len) = Some (kind_of x)
kind_in _ = None

-- the kind of the node at an address
abbrev pub kind_at : Decoder → Code → ℕ → Option Kind
kind_at decoder code a = kind_in (spelled_at decoder code a)

abbrev site_in : Option Kind → Bool
site_in None = false
site_in (Some k) = is_site k

-- whether a return or an indirect transfer stands at the address
abbrev pub is_site_at : Decoder → Code → ℕ → Bool
is_site_at decoder code a = site_in (kind_at decoder code a)

abbrev target_list : Option ℕ → List ℕ
target_list None = []
target_list (Some a) = a ∷ []

-- by kind, target and next address (Intel SDM, volume 1, section 7.3.8)
abbrev pub direct_by : Kind → Option ℕ → ℕ → List ℕ
direct_by kinds.Plain target next = next ∷ []
direct_by kinds.Syscall target next = next ∷ []
direct_by kinds.Jcc target next = next ∷ target_list target
direct_by kinds.Jrcxz target next = next ∷ target_list target
direct_by kinds.Jmp target next = target_list target
direct_by kinds.Call target next = target_list target
direct_by _ target next = []

-- the addresses that an instruction before `next` may lead to, as far as it says itself
abbrev pub direct : Insn → ℕ → List ℕ
direct x next = direct_by (kind_of x) (target_of x) next

abbrev direct_in : Decoded → ℕ → List ℕ
direct_in (decodeds.Insn x len) a = direct x ((a + len) % 2 ^ 64)
direct_in _ a = []

-- the static successors of the node at an address
abbrev pub direct_at : Decoder → Code → ℕ → List ℕ
direct_at decoder code a = direct_in (spelled_at decoder code a) a
