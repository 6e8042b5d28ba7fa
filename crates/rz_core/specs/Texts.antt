-- The texts of commands that are done, beside reports, listings and run texts.
use Rattle.std.specs.Prelude.{ℕ, List, [], ◌∷◌, ◌++◌, codes, decimal}
use Rattle.rz_num.specs.Texts.{hex_text}
use Rattle.rz_replay.specs.declared.compare.Verdict.{Verdict}
use Rattle.rz_replay.specs.declared.compare.Verdict.TheVariants as verdict

-- what is said of an accepted file: how many loads it has, its entry and its first break
abbrev pub check_text : ℕ → ℕ → ℕ → List ℕ
check_text loads entry first_break =
    codes "ok loads " ++ (decimal loads ++ (codes " entry " ++ (hex_text entry ++ (codes " break " ++ (hex_text first_break ++ codes "\n")))))

-- what is said of a generated file: how many bytes it has
abbrev pub generated_text : ℕ → List ℕ
generated_text len = codes "generated " ++ (decimal len ++ codes "\n")

-- what is said of a labelled file: how many bytes it has
abbrev pub labelled_text : ℕ → List ℕ
labelled_text len = codes "labelled " ++ (decimal len ++ codes "\n")

-- what is said of a trace: how many nodes and how many edges it has
abbrev pub traced_text : ℕ → ℕ → List ℕ
traced_text nodes edges = codes "traced " ++ (decimal nodes ++ (32 ∷ (decimal edges ++ 10 ∷ [])))

-- what is said of a verdict: how many system calls are the same, where they differ, or the word of the stub
abbrev pub verdict_text : Verdict → List ℕ
verdict_text (verdict.Same events) = codes "same " ++ (decimal events ++ 10 ∷ [])
verdict_text (verdict.Differ event) = codes "differ " ++ (decimal event ++ 10 ∷ [])
verdict_text (verdict.Stub source) = codes "stub " ++ (hex_text source ++ 10 ∷ [])

-- the word of a verdict
abbrev pub verdict_word : Verdict → List ℕ
verdict_word (verdict.Same events) = codes "same"
verdict_word (verdict.Differ event) = codes "differ"
verdict_word (verdict.Stub source) = codes "stub"

-- what is said of a generated program of so many functions, which makes so many steps
abbrev pub counted_text : ℕ → ℕ → List ℕ
counted_text functions steps = codes "functions " ++ (decimal functions ++ (codes "\nsteps " ++ (decimal steps ++ 10 ∷ [])))

-- and of a new file beside its old one
abbrev pub compared_text : Verdict → List ℕ
compared_text v = codes "replay " ++ (verdict_word v ++ 10 ∷ [])
