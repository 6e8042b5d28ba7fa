-- Reading a trace text line by line.
use Rattle.std.proofs.Common.{◌≡◌, ℕ, ◌+◌, ◌++◌, List, [], ◌∷◌, length, length-append, Option, Some, None, refl, sym, ap, ◌∙◌, append_assoc, append-nil}
use Rattle.std.specs.Prelude.{fold}
use Rattle.std.specs.List.{cons_option, last_or}
use Rattle.std.proofs.lemmas.List.Elements.{filter_map-append}
use Rattle.rz_text.specs.Lines.{Line, lines_from, words}
use Rattle.rz_text.specs.Fault.{first_fault}
use Rattle.rz_aset.specs.declared.kept.Record.{Record}
use Rattle.rz_trace.specs.declared.file.TraceFile.{TraceFile}
use Rattle.rz_trace.specs.declared.entry.Entry.{Entry}
use Rattle.rz_trace.specs.Grammar.{entry_of}
use Rattle.rz_trace.specs.Value.{entries, no_file, file_from, with_entry, with_some}
use Rattle.rz_trace.specs.Fault.{fault_behind, fault_of_line, last_entry}

-- the lines before the rest have no fault, are this file and end so
pub record IsDraft (text : List ℕ) (file : TraceFile) (last : Option Entry) (passed : ℕ) (rest : List Line) : Type 0 where
  pub earlier : List Line
  pub split : lines_from 1 text ≡ earlier ++ rest
  pub later : first_fault fault_of_line [] (lines_from 1 text) ≡ first_fault fault_of_line earlier rest
  pub value : file ≡ file_from (entries earlier)
  pub ends : last ≡ last_entry earlier
  pub count : passed ≡ length earlier

pub IsDraft-start : (text : List ℕ) → IsDraft text no_file None 0 (lines_from 1 text)
IsDraft-start text = record { earlier = []; split = refl; later = refl; value = refl; ends = refl; count = refl }

file_from-more : (file : TraceFile) (es : List Entry) (e : Entry) → fold with_entry file (es ++ e ∷ []) ≡ with_entry (fold with_entry file es) e
file_from-more file [] e = refl
file_from-more file (f ∷ es) e = file_from-more (with_entry file f) es e

pub file_from-some : (es : List Entry) (o : Option Entry) → file_from (es ++ cons_option o []) ≡ with_some (file_from es) o
file_from-some es None = ap file_from (append-nil es)
file_from-some es (Some e) = file_from-more no_file es e

pub last_or-more : (o : Option Entry) (es : List Entry) (e : Entry) → last_or o (es ++ e ∷ []) ≡ Some e
last_or-more o [] e = refl
last_or-more o (f ∷ es) e = last_or-more (Some f) es e

-- a line without a fault says something
last_or-some : (kept : Record) (last : Option Entry) (n : ℕ) (es : List Entry) (o : Option Entry) → fault_behind kept last n o ≡ None → last_or None (es ++ cons_option o []) ≡ o
last_or-some kept last n es None h = cc
last_or-some kept last n es (Some e) h = last_or-more None es e

pub entries-more : (earlier : List Line) (line : Line) → entries (earlier ++ line ∷ []) ≡ entries earlier ++ cons_option (entry_of (words line.1)) []
entries-more earlier line = filter_map-append (λ (l : Line). entry_of (words l.1)) earlier (line ∷ [])

pub IsDraft-more : (text : List ℕ) (file new : TraceFile) (last next : Option Entry) (passed count : ℕ) (line : Line) (rest : List Line)
    → IsDraft text file last passed (line ∷ rest) → fault_behind file.rec last line.0 (entry_of (words line.1)) ≡ None
    → new ≡ with_some file (entry_of (words line.1)) → next ≡ entry_of (words line.1) → count ≡ passed + 1 → IsDraft text new next count rest
IsDraft-more text file new last next passed count line rest so_far sound e f g =
    let none : fault_of_line so_far.earlier line ≡ None = rw (so_far.value, so_far.ends) at sound in
    record {
      earlier = so_far.earlier ++ line ∷ [];
      split = so_far.split ∙ sym (append_assoc so_far.earlier (line ∷ []) rest);
      later = rw none at so_far.later;
      value = e ∙ rw so_far.value (sym (ap file_from (entries-more so_far.earlier line) ∙ file_from-some (entries so_far.earlier) (entry_of (words line.1))));
      ends = f ∙ sym (ap (last_or None) (entries-more so_far.earlier line) ∙ last_or-some file.rec last line.0 (entries so_far.earlier) (entry_of (words line.1)) sound);
      count = g ∙ rw so_far.count (simp length-append);
    }
