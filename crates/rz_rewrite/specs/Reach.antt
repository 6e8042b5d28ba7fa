-- What instructions name relative to RIP has to be low, so that it is in reach from the code part.
use Rattle.std.specs.Prelude.{ℕ, ◌^◌, Bool, false, nat_le, if◌then◌else◌, List, [], ◌∷◌, Option, Some, None}
use Rattle.rz_isa.specs.declared.decoding.Decoded.{Decoded}
use Rattle.rz_isa.specs.declared.decoding.Decoded.TheVariants as decoded
use Rattle.rz_isa.specs.Insn.{rip_target_of}
use Rattle.rz_isa.specs.Nodes.{Decoder, Code, spelled_at}

abbrev pub is_high : Option ℕ → Bool
is_high (Some a) = nat_le (2 ^ 31) a
is_high None = false

-- what is decoded names an address of 2^31 or more relative to RIP
abbrev pub is_out_of_reach : Decoded → Bool
is_out_of_reach (decoded.Insn x len) = is_high (rip_target_of x)
is_out_of_reach d = false

-- the first of these nodes whose instruction does
abbrev pub first_out_of_reach : Decoder → Code → List ℕ → Option ℕ
first_out_of_reach dec code [] = None
first_out_of_reach dec code (a ∷ rest) =
    if is_out_of_reach (spelled_at dec code a) then Some a else first_out_of_reach dec code rest
