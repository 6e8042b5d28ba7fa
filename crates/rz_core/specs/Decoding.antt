-- What the tool takes instructions to be.
use Rattle.std.specs.Prelude.{ℕ, List}
use Rattle.rz_isa.specs.Decoded.{decoded}
use Rattle.rz_isa.specs.Nodes.{Decoder}
use Rattle.rz_paths.specs.Program.{Program, program_of}
use Rattle.rz_table.specs.Profile2.{PROFILE2}

-- where a file is traced, rewritten, run or listed: what some row of profile 2 spells
abbrev pub decode_profile : Decoder
decode_profile = decoded PROFILE2

-- and where its code is followed without running
abbrev pub profile_program : List ℕ → Program
profile_program x = program_of PROFILE2 x
