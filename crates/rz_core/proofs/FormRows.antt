-- Worked rows of the forms.
use Rattle.std.proofs.Common.{◌≡◌, ℕ, [], ◌∷◌, Some, None, refl}
use Rattle.std.specs.Prelude.{codes}
use Rattle.rz_text.specs.Number.{decimal, hexadecimal}
use Rattle.rz_paths.specs.declared.level.Level.{Level}
use Rattle.rz_paths.specs.declared.level.Level.TheVariants as level
use Rattle.rz_core.specs.declared.plan.Demand.TheVariants.{Accepted, ClassFile, Input}
use Rattle.rz_core.specs.declared.plan.Values.{Values}
use Rattle.rz_core.specs.declared.plan.Verb.TheVariants as verb
use Rattle.rz_core.specs.Words.{form_of, wanted}

values : ℕ → ℕ → Level → Values
values number address at = record { number = number; address = address; level = at }

leading_zeros : form_of (codes "run" ∷ codes "e" ∷ codes "010" ∷ codes "i" ∷ [])
    ≡ Some (record { verb = verb.Run; values = values 10 0 level.Exact; reads = wanted (codes "e") Accepted ∷ wanted (codes "i") Input ∷ []; writes = [] })
unfolding decimal values
leading_zeros = refl

greatest_limit : form_of (codes "run" ∷ codes "e" ∷ codes "1000000000" ∷ codes "i" ∷ [])
    ≡ Some (record { verb = verb.Run; values = values 1000000000 0 level.Exact; reads = wanted (codes "e") Accepted ∷ wanted (codes "i") Input ∷ []; writes = [] })
unfolding decimal values
greatest_limit = refl

past_the_limit : form_of (codes "run" ∷ codes "e" ∷ codes "1000000001" ∷ codes "i" ∷ []) ≡ None
unfolding decimal
past_the_limit = refl

no_steps : form_of (codes "run" ∷ codes "e" ∷ codes "0" ∷ codes "i" ∷ []) ≡ None
unfolding decimal
no_steps = refl

no_name : form_of (codes "run" ∷ [] ∷ codes "1" ∷ codes "i" ∷ []) ≡ None
no_name = refl

no_words : form_of [] ≡ None
no_words = refl

a_class_file : form_of (codes "debloat" ∷ codes "e" ∷ codes "--" ∷ codes "zlib" ∷ codes "1" ∷ codes "w" ∷ codes "i" ∷ [])
    ≡ Some (record {
      verb = verb.Debloat;
      values = values 1 0 level.Zlib;
      reads = wanted (codes "e") Accepted ∷ wanted (codes "--") ClassFile ∷ wanted (codes "i") Input ∷ [];
      writes = codes "w" ∷ [];
    })
unfolding decimal values
a_class_file = refl

no_class_file : form_of (codes "debloat" ∷ codes "-" ∷ codes "-" ∷ codes "exact" ∷ codes "1" ∷ codes "-" ∷ codes "-" ∷ [])
    ≡ Some (record { verb = verb.Debloat; values = values 1 0 level.Exact; reads = wanted (codes "-") Accepted ∷ wanted (codes "-") Input ∷ []; writes = codes "-" ∷ [] })
unfolding decimal values
no_class_file = refl

no_name_of_classes : form_of (codes "debloat" ∷ codes "e" ∷ [] ∷ codes "exact" ∷ codes "1" ∷ codes "w" ∷ codes "i" ∷ []) ≡ None
no_name_of_classes = refl

another_level : form_of (codes "debloat" ∷ codes "e" ∷ codes "-" ∷ codes "Exact" ∷ codes "1" ∷ codes "w" ∷ codes "i" ∷ []) ≡ None
another_level = refl

either_case : form_of (codes "disasm" ∷ codes "e" ∷ codes "0x00aF" ∷ codes "100000" ∷ [])
    ≡ Some (record { verb = verb.Disasm; values = values 100000 175 level.Exact; reads = wanted (codes "e") Accepted ∷ []; writes = [] })
unfolding decimal hexadecimal values
either_case = refl

no_prefix : form_of (codes "disasm" ∷ codes "e" ∷ codes "af" ∷ codes "1" ∷ []) ≡ None
unfolding hexadecimal
no_prefix = refl

most_functions : form_of (codes "gen" ∷ codes "4000" ∷ codes "o" ∷ [])
    ≡ Some (record { verb = verb.Generate; values = values 4000 0 level.Exact; reads = []; writes = codes "o" ∷ [] })
unfolding decimal values
most_functions = refl

too_many_functions : form_of (codes "gen" ∷ codes "4001" ∷ codes "o" ∷ []) ≡ None
unfolding decimal
too_many_functions = refl

two_inputs : form_of (codes "trace" ∷ codes "e" ∷ codes "100" ∷ codes "t" ∷ codes "i" ∷ codes "j" ∷ [])
    ≡ Some (record {
      verb = verb.Trace;
      values = values 100 0 level.Exact;
      reads = wanted (codes "e") Accepted ∷ wanted (codes "i") Input ∷ wanted (codes "j") Input ∷ [];
      writes = codes "t" ∷ [];
    })
unfolding decimal values
two_inputs = refl

no_input : form_of (codes "trace" ∷ codes "e" ∷ codes "100" ∷ codes "t" ∷ []) ≡ None
unfolding decimal
no_input = refl

one_replay : form_of (codes "replay" ∷ codes "e" ∷ codes "w" ∷ codes "1000" ∷ codes "i" ∷ [])
    ≡ Some (record {
      verb = verb.Replay;
      values = values 1000 0 level.Exact;
      reads = wanted (codes "e") Accepted ∷ wanted (codes "w") Accepted ∷ wanted (codes "i") Input ∷ [];
      writes = [];
    })
unfolding decimal values
one_replay = refl

two_replays : form_of (codes "replay" ∷ codes "e" ∷ codes "w" ∷ codes "1000" ∷ codes "i" ∷ codes "j" ∷ []) ≡ None
unfolding decimal
two_replays = refl

one_report : form_of (codes "report" ∷ codes "e" ∷ codes "w" ∷ [])
    ≡ Some (record { verb = verb.Report; values = values 0 0 level.Exact; reads = wanted (codes "e") Accepted ∷ wanted (codes "w") Accepted ∷ []; writes = [] })
unfolding values
one_report = refl
