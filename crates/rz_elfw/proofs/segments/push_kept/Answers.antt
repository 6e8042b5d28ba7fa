use Rattle.std.proofs.Common.{◌≡◌, ℕ, ◌+◌, ◌*◌, ◌<◌, ◌≤◌, List, [], ◌∷◌, ◌++◌, drop, length, None, sym, ap, ◌∙◌, subst, append_assoc, append-nil}
use Rattle.rz_elf.specs.declared.header.FileHeader.{FileHeader}
use Rattle.rz_elf.specs.declared.segment.Segment.{Segment}
use Rattle.rz_elf.specs.Elf.{fault_of, file_header, segment_of, segments}
use Rattle.rz_elf.specs.Loaded.{ElfFile}
use Rattle.rz_elf.specs.WrittenFile.{moved}
use Rattle.rz_elfw.proofs.Original.{kept_of, kept_from, kept_end, kept_more, kept_same, movable, whole, table_inside}
use Rattle.rz_elfw.proofs.segments.push_kept.Goals.{then-is_kept+in_ok-push, else-is_kept}
use Rattle.rz_elfw.proofs.segments.push_kept.Goals as goal

-- the file is accepted
accepted : (file bytes : List ℕ) → file ≡ bytes → fault_of bytes ≡ None → fault_of file ≡ None
accepted file bytes e h = subst (λ (y : List ℕ). fault_of y ≡ None) (sym e) h

pub read_header-header-requires : goal.read_header-header-requires
read_header-header-requires c = whole c.as_slice-file.result.now (accepted _ _ c.as_slice-file.ensures.value c.elf.invariant.accepted)

pub segment_at-segment-requires-clause-inside : goal.segment_at-segment-requires-clause-inside
segment_at-segment-requires-clause-inside c =
    let x : List ℕ = c.as_slice-file.result.now in
    subst (λ (h : FileHeader). h.table_at + 56 * h.count ≤ length x) (sym c.read_header-header.ensures) (table_inside x (accepted x c.elf.inside.bytes c.as_slice-file.ensures.value c.elf.invariant.accepted))

pub moved-requires : goal.moved-requires
moved-requires c =
    let x : List ℕ = c.as_slice-file.result.now in
    let i = c.loop-index.index in
    let lt : i < (file_header x).count = subst (λ (h : FileHeader). i < h.count) c.read_header-header.ensures c.loop-index-test.true in
    let read = c.segment_at-segment.ensures ∙ ap (λ (h : FileHeader). segment_of (drop (h.table_at + 56 * i) x)) c.read_header-header.ensures in
    movable x (accepted x c.elf.inside.bytes c.as_slice-file.ensures.value c.elf.invariant.accepted) i c.segment_at-segment.result lt read

pub loop-index-preserved : goal.loop-index-preserved
loop-index-preserved c =
    let x : List ℕ = c.as_slice-file.result.now in
    let i = c.loop-index.index in
    let s = c.segment_at-segment.result in
    let lt : i < (file_header x).count = subst (λ (h : FileHeader). i < h.count) c.read_header-header.ensures c.loop-index-test.true in
    let read = c.segment_at-segment.ensures ∙ ap (λ (h : FileHeader). segment_of (drop (h.table_at + 56 * i) x)) c.read_header-header.ensures in
    let next : List Segment = kept_from x (i + 1) in
    elim c.if-is_kept.branch [
      | then-is_kept+in_ok-push w ↦
          rw (w.segments-is) (
          ap (λ (l : List Segment). l ++ next) (w.in_ok-push.ensures.items ∙ ap (λ (t : Segment). c.loop-index.segments.items ++ t ∷ []) w.moved.ensures)
          ∙ append_assoc c.loop-index.segments.items (moved s ∷ []) next
          ∙ ap (λ (l : List Segment). c.loop-index.segments.items ++ l) (sym (kept_more x i s lt read (sym c.is_kept.ensures ∙ w.if-is_kept.true)))
          ∙ c.loop-index.invariant
          )
      | else-is_kept w ↦
          rw (w.segments-is) (ap (λ (l : List Segment). c.loop-index.segments.items ++ l) (sym (kept_same x i s lt read (sym c.is_kept.ensures ∙ w.if-is_kept.false))) ∙ c.loop-index.invariant)
    ]

pub returns : goal.returns
returns c =
    let x : List ℕ = c.as_slice-file.result.now in
    let i = c.loop-index.index in
    let past : (file_header x).count ≤ i = subst (λ (h : FileHeader). h.count ≤ i) c.read_header-header.ensures c.loop-index-test.false in
    sym (append-nil c.loop-index.segments.items)
    ∙ ap (λ (l : List Segment). c.loop-index.segments.items ++ l) (sym (kept_end x i past))
    ∙ c.loop-index.invariant
    ∙ ap (λ (y : List ℕ). c.args.segments.now.items ++ kept_of (segments y)) (c.as_slice-file.ensures.value ∙ ap (λ (e : ElfFile). e.bytes) c.elf.view_is)
