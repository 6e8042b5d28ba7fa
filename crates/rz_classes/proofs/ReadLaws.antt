-- Reading a class text line by line.
use Rattle.std.proofs.Common.{◌≡◌, ℕ, ◌+◌, ◌≤◌, ◌++◌, true, List, [], ◌∷◌, length, length-append, Option, Some, None, refl, sym, ap, ◌∙◌, arith}
use Rattle.std.specs.List.{cons_option}
use Rattle.std.specs.Option.{option_to_list}
use Rattle.std.proofs.lemmas.List.Elements.{filter_map-append}
use Rattle.rz_text.specs.Lines.{Line, has_content, lines_from, words}
use Rattle.rz_text.specs.Laws.Lines.{length-lines_from}
use Rattle.rz_text.specs.Laws.Reading.{IsRead, IsRead-start, IsRead-more}
use Rattle.rz_classes.specs.declared.listed.Function.{Function}
use Rattle.rz_classes.specs.Grammar.{function_of}
use Rattle.rz_classes.specs.Fault.{fault_behind, fault_of_line, functions}

-- the lines before the rest have no fault, and list these functions
pub record IsListed (text : List ℕ) (listed : List Function) (rest : List Line) : Type 0 where
  pub earlier : List Line
  pub read : IsRead fault_of_line text earlier rest
  pub value : listed ≡ functions earlier
  pub few : length listed + length rest ≤ 16777217

pub IsListed-start : (text : List ℕ) → length text ≤ 16777216 → IsListed text [] (lines_from 1 text)
IsListed-start text short = record {
  earlier = [];
  read = IsRead-start fault_of_line text;
  value = refl;
  few = let most = length-lines_from 1 text in omega arith;
}

listed-length : (o : Option Function) → length (option_to_list o) ≤ 1
listed-length None = omega arith
listed-length (Some f) = omega arith

cons_option-list : (o : Option Function) → cons_option o [] ≡ option_to_list o
cons_option-list None = refl
cons_option-list (Some f) = refl

functions-more : (earlier : List Line) (line : Line) → functions (earlier ++ line ∷ []) ≡ functions earlier ++ option_to_list (function_of (words line.1))
functions-more earlier line =
    filter_map-append (λ (l : Line). function_of (words l.1)) earlier (line ∷ [])
    ∙ ap (λ (fs : List Function). functions earlier ++ fs) (cons_option-list (function_of (words line.1)))

pub IsListed-more : (text : List ℕ) (listed new : List Function) (line : Line) (rest : List Line)
    → IsListed text listed (line ∷ rest) → has_content line.1 ≡ true → fault_behind listed line.0 (function_of (words line.1)) ≡ None
    → new ≡ listed ++ option_to_list (function_of (words line.1)) → IsListed text new rest
IsListed-more text listed new line rest so_far h sound e = record {
  earlier = so_far.earlier ++ line ∷ [];
  read = IsRead-more fault_of_line text so_far.earlier line rest so_far.read h (rw (← so_far.value) sound);
  value = e ∙ rw so_far.value (sym (functions-more so_far.earlier line));
  few =
      let few = so_far.few in
      let one = listed-length (function_of (words line.1)) in
      rw e (simp length-append (omega (arith, few, one)));
}
