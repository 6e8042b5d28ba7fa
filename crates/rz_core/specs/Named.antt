-- The command `functions`: what a level keeps of each function that a file names.
use Rattle.std.specs.Prelude.{◌≡◌, ℕ, List, []}
use Rattle.rz_machine.specs.Kept.{Kept}
use Rattle.rz_paths.specs.declared.level.Level.{Level}
use Rattle.rz_syms.specs.declared.function.Function.{Function}
use Rattle.rz_syms.specs.Listing.{listing}
use Rattle.rz_core.specs.Debloated.{Sources, sources_in, IsKept}
use Rattle.rz_core.specs.Recorded.{TraceEnds}
use Rattle.rz_core.specs.Reading.{exe_of, named_in}
use Rattle.rz_core.specs.Command.{Work}

-- a text is the listing of functions by what a level keeps, in whatever order
abbrev pub IsListing : Level → ℕ → Sources → List Function → List ℕ → Type 0
IsListing level limit s functions text = (kept : Kept) × IsKept level limit s kept × (text ≡ listing functions kept.nodes)

abbrev pub functions_work : Level → ℕ → Work
functions_work level limit =
    record {
      Ends = λ r answer. TraceEnds limit (exe_of r) r.inputs answer;
      New = λ r ws. ws ≡ [];
      Text = λ r ws text. IsListing level limit (sources_in r) (named_in r) text;
    }
