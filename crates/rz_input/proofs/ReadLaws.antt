-- Reading an input text line by line.
use Rattle.std.proofs.Common.{◌≡◌, ℕ, ◌≤◌, ◌++◌, true, List, [], ◌∷◌, length, Option, Some, None, refl, sym, ap, ◌∙◌, append-nil}
use Rattle.std.specs.Prelude.{flat_map}
use Rattle.std.specs.List.{filter_map, cons_option}
use Rattle.std.proofs.lemmas.List.Elements.{filter_map-append}
use Rattle.std.proofs.lemmas.List.Concat.{flat_map-append}
use Rattle.rz_text.specs.Lines.{Line, has_content, lines_from, words}
use Rattle.rz_text.specs.Laws.Reading.{IsRead, IsRead-start, IsRead-more}
use Rattle.rz_sys.specs.declared.input.Input.{Input}
use Rattle.rz_sys.specs.declared.input.Reply.{Reply as ReplyOf}
use Rattle.rz_sys.specs.Input.{IsValid, strings}
use Rattle.rz_input.specs.declared.entry.Entry.{Entry}
use Rattle.rz_input.specs.declared.entry.Entry.TheVariants.{Arg, Stdin, Reply}
use Rattle.rz_input.specs.Grammar.{entry_of}
use Rattle.rz_input.specs.Fault.{fault_behind, fault_of_line}
use Rattle.rz_input.specs.Value.{arg_of, entries, input_from, reply_of, stdin_of}
use Rattle.rz_input.specs.Calls.Draft.{with_entry, with_some}
use Rattle.rz_input.proofs.ValidLaws.{IsValid-lines}

-- the lines before the rest have no fault, and give this input
pub record IsDraft (text : List ℕ) (input : Input) (rest : List Line) : Type 0 where
  pub earlier : List Line
  pub read : IsRead fault_of_line text earlier rest
  pub value : input ≡ input_from (entries earlier)

pub IsDraft-start : (text : List ℕ) (input : Input) → input ≡ input_from [] → IsDraft text input (lines_from 1 text)
IsDraft-start text input e = record {
  earlier = [];
  read = IsRead-start fault_of_line text;
  value = e;
}

abbrev pub input_with : List (List ℕ) → List ℕ → List ReplyOf → Input
input_with args stdin replies = record { args = args; stdin = stdin; replies = replies }

pub input_same : (args args' : List (List ℕ)) (stdin stdin' : List ℕ) (replies replies' : List ReplyOf) → args ≡ args' → stdin ≡ stdin' → replies ≡ replies'
    → input_with args stdin replies ≡ input_with args' stdin' replies'
input_same args args' stdin stdin' replies replies' e f g = rw (e, f, g) refl

-- the input of some entries and one more
input_from-one : (es : List Entry) (e : Entry) → input_from (es ++ e ∷ []) ≡ with_entry (input_from es) e
input_from-one es (Arg bytes) =
    input_same _ _ _ _ _ _ (filter_map-append arg_of es (Arg bytes ∷ []))
    (flat_map-append stdin_of es (Arg bytes ∷ []) ∙ append-nil (flat_map stdin_of es))
    (filter_map-append reply_of es (Arg bytes ∷ []) ∙ append-nil (filter_map reply_of es))
input_from-one es (Stdin bytes) =
    input_same _ _ _ _ _ _ (filter_map-append arg_of es (Stdin bytes ∷ []) ∙ append-nil (filter_map arg_of es))
    (flat_map-append stdin_of es (Stdin bytes ∷ []) ∙ ap (λ (bs : List ℕ). flat_map stdin_of es ++ bs) (append-nil bytes))
    (filter_map-append reply_of es (Stdin bytes ∷ []) ∙ append-nil (filter_map reply_of es))
input_from-one es (Reply reply) =
    input_same _ _ _ _ _ _ (filter_map-append arg_of es (Reply reply ∷ []) ∙ append-nil (filter_map arg_of es))
    (flat_map-append stdin_of es (Reply reply ∷ []) ∙ append-nil (flat_map stdin_of es))
    (filter_map-append reply_of es (Reply reply ∷ []))

input_from-some : (es : List Entry) (o : Option Entry) → input_from (es ++ cons_option o []) ≡ with_some (input_from es) o
input_from-some es None = ap input_from (append-nil es)
input_from-some es (Some e) = input_from-one es e

pub input_from-more : (earlier : List Line) (line : Line) → input_from (entries (earlier ++ line ∷ [])) ≡ with_some (input_from (entries earlier)) (entry_of (words line.1))
input_from-more earlier line =
    ap input_from (filter_map-append (λ (l : Line). entry_of (words l.1)) earlier (line ∷ []))
    ∙ input_from-some (entries earlier) (entry_of (words line.1))

pub IsDraft-more : (text : List ℕ) (input new : Input) (line : Line) (rest : List Line)
    → IsDraft text input (line ∷ rest) → has_content line.1 ≡ true → fault_behind input.args line.0 (entry_of (words line.1)) ≡ None
    → new ≡ with_some input (entry_of (words line.1)) → IsDraft text new rest
IsDraft-more text input new line rest so_far h sound e = record {
  earlier = so_far.earlier ++ line ∷ [];
  read = IsRead-more fault_of_line text so_far.earlier line rest so_far.read h (rw so_far.value at sound);
  value = e ∙ rw so_far.value (sym (input_from-more so_far.earlier line));
}

-- what is read is valid
pub IsDraft-valid : (text : List ℕ) (input : Input) (rest : List Line) → IsDraft text input rest → length (strings input.args) ≤ 65536 → IsValid input
IsDraft-valid text input rest so_far few =
    let valid = IsValid-lines so_far.earlier (rw so_far.value at few) in
    rw so_far.value valid
