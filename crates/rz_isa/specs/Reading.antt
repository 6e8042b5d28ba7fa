use Rattle.std.specs.Prelude.{ℕ, ◌==◌, Bool, List, [], ◌∷◌, Option, Some, None, if◌then◌else◌}
use Rattle.std.specs.List.{take_while}
use Rattle.rz_isa.specs.declared.rows.OpMap.{OpMap}
use Rattle.rz_isa.specs.declared.rows.OpMap.TheVariants as maps
use Rattle.rz_isa.specs.Spelling.{is_prefix, is_rex}

-- What stands at the front of bytes, before any row is looked at: the prefixes, REX and the opcode.

abbrev pub skip_while : {X : Type 0} → (X → Bool) → List X → List X
skip_while p [] = []
skip_while p (x ∷ xs) = if p x then skip_while p xs else x ∷ xs

abbrev pub rex_at : List ℕ → Option ℕ
rex_at [] = None
rex_at (b ∷ bs) = if is_rex b then Some b else None

abbrev pub behind_rex : List ℕ → List ℕ
behind_rex [] = []
behind_rex (b ∷ bs) = if is_rex b then bs else b ∷ bs

-- an opcode with its map, and what is behind it
pub record Opcode : Type 0 where
  pub map : OpMap
  pub byte : ℕ
  pub rest : List ℕ

abbrev pub second_at : List ℕ → Option Opcode
second_at [] = None
second_at (b ∷ bs) = Some (record { map = maps.Two; byte = b; rest = bs })

abbrev pub opcode_at : List ℕ → Option Opcode
opcode_at [] = None
opcode_at (b ∷ bs) = if b == 0x0f then second_at bs else Some (record { map = maps.One; byte = b; rest = bs })

pub record Head : Type 0 where
  pub prefixes : List ℕ
  pub rex : Option ℕ
  pub opcode : Option Opcode

abbrev pub head_at : List ℕ → Head
head_at s = let t = skip_while is_prefix s in record {
  prefixes = take_while is_prefix s;
  rex = rex_at t;
  opcode = opcode_at (behind_rex t);
}
