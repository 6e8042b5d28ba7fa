-- Reading a text line by line: what is known of the whole text behind some of its lines.
use Rattle.std.proofs.Common.{◌≡◌, ℕ, true, false, List, [], ◌∷◌, ◌++◌, Option, Some, None, refl, sym, ◌∙◌, append_assoc, append-nil}
use Rattle.rz_text.specs.Lines.{Line, content, content_of, has_content, lines_from}
use Rattle.rz_text.specs.Fault.{first_fault, line_fault}

-- the lines before the rest have no fault
pub record IsRead {E : Type 0} (fault : List Line → Line → Option E) (text : List ℕ) (earlier rest : List Line) : Type 0 where
  pub split : content text ≡ earlier ++ content_of rest
  pub later : line_fault fault text ≡ first_fault fault earlier (content_of rest)

pub IsRead-start : {E : Type 0} (fault : List Line → Line → Option E) (text : List ℕ) → IsRead fault text [] (lines_from 1 text)
IsRead-start fault text = record { split = refl; later = refl }

content_of-empty : (line : Line) (rest : List Line) → has_content line.1 ≡ false → content_of (line ∷ rest) ≡ content_of rest
content_of-empty line rest h = rw h refl

content_of-more : (line : Line) (rest : List Line) → has_content line.1 ≡ true → content_of (line ∷ rest) ≡ line ∷ content_of rest
content_of-more line rest h = rw h refl

-- a line that says nothing
pub IsRead-pass : {E : Type 0} (fault : List Line → Line → Option E) (text : List ℕ) (earlier : List Line) (line : Line) (rest : List Line)
    → IsRead fault text earlier (line ∷ rest) → has_content line.1 ≡ false → IsRead fault text earlier rest
IsRead-pass fault text earlier line rest read h =
    let e = content_of-empty line rest h in
    record { split = rw e at read.split; later = rw e at read.later }

-- a line without a fault
pub IsRead-more : {E : Type 0} (fault : List Line → Line → Option E) (text : List ℕ) (earlier : List Line) (line : Line) (rest : List Line)
    → IsRead fault text earlier (line ∷ rest) → has_content line.1 ≡ true → fault earlier line ≡ None
    → IsRead fault text (earlier ++ line ∷ []) rest
IsRead-more fault text earlier line rest read h none =
    let e = content_of-more line rest h in
    record {
      split = (rw e at read.split) ∙ sym (append_assoc earlier (line ∷ []) (content_of rest));
      later = rw (e, none) at read.later;
    }

-- a line with a fault
pub IsRead-fault : {E : Type 0} (fault : List Line → Line → Option E) (text : List ℕ) (earlier : List Line) (line : Line) (rest : List Line) (e : E)
    → IsRead fault text earlier (line ∷ rest) → has_content line.1 ≡ true → fault earlier line ≡ Some e
    → line_fault fault text ≡ Some e
IsRead-fault fault text earlier line rest e read h some =
    let more = content_of-more line rest h in
    rw (more, some) at read.later

-- the end of the text
pub IsRead-end : {E : Type 0} (fault : List Line → Line → Option E) (text : List ℕ) (earlier : List Line)
    → IsRead fault text earlier [] → (content text ≡ earlier) × (line_fault fault text ≡ None)
IsRead-end fault text earlier read = (read.split ∙ append-nil earlier, read.later)
