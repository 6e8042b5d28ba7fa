use Rattle.std.proofs.Common.{◌≡◌, ℕ, ◌+◌, ◌*◌, ◌<◌, ◌≤◌, List, drop, length, None, sym, ap, ◌∙◌, subst, arith}
use Rattle.rz_elf.specs.declared.header.FileHeader.{FileHeader}
use Rattle.rz_elf.specs.Elf.{fault_of, file_header, segment_of, segments}
use Rattle.rz_elf.specs.Loaded.{ElfFile}
use Rattle.rz_elfw.proofs.Original.{kept_of, kept_from, kept_end, kept_more, kept_same, few_kept_headers, whole, table_inside}
use Rattle.rz_elfw.proofs.segments.kept_count.Goals.{then-is_kept, else-is_kept}
use Rattle.rz_elfw.proofs.segments.kept_count.Goals as goal

-- the file is accepted
accepted : (file bytes : List ℕ) → file ≡ bytes → fault_of bytes ≡ None → fault_of file ≡ None
accepted file bytes e h = subst (λ (y : List ℕ). fault_of y ≡ None) (sym e) h

pub read_header-header-requires : goal.read_header-header-requires
read_header-header-requires c = whole c.as_slice-file.result.now (accepted _ _ c.as_slice-file.ensures.value c.elf.invariant.accepted)

pub segment_at-requires-clause-inside : goal.segment_at-requires-clause-inside
segment_at-requires-clause-inside c =
    let x : List ℕ = c.as_slice-file.result.now in
    subst (λ (h : FileHeader). h.table_at + 56 * h.count ≤ length x) (sym c.read_header-header.ensures) (table_inside x (accepted x c.elf.inside.bytes c.as_slice-file.ensures.value c.elf.invariant.accepted))

pub overflow_add-count : goal.overflow_add-count
overflow_add-count c =
    let x : List ℕ = c.as_slice-file.result.now in
    let few = few_kept_headers x (accepted x c.elf.inside.bytes c.as_slice-file.ensures.value c.elf.invariant.accepted) in
    let so_far : c.loop-index.count + length (kept_from x c.loop-index.index) ≡ length (kept_of (segments x)) = c.loop-index.invariant in
    omega (arith, few, so_far)

pub loop-index-preserved : goal.loop-index-preserved
loop-index-preserved c =
    let x : List ℕ = c.as_slice-file.result.now in
    let i = c.loop-index.index in
    let s = c.segment_at.result in
    let lt : i < (file_header x).count = subst (λ (h : FileHeader). i < h.count) c.read_header-header.ensures c.loop-index-test.true in
    let read = c.segment_at.ensures ∙ ap (λ (h : FileHeader). segment_of (drop (h.table_at + 56 * i) x)) c.read_header-header.ensures in
    let so_far : c.loop-index.count + length (kept_from x i) ≡ length (kept_of (segments x)) = c.loop-index.invariant in
    elim c.if-is_kept.branch [
      | then-is_kept w ↦
          let more = ap length (kept_more x i s lt read (sym c.is_kept.ensures ∙ w.if-is_kept.true)) in
          omega (arith, more, so_far, w.count-is)
      | else-is_kept w ↦
          let same = ap length (kept_same x i s lt read (sym c.is_kept.ensures ∙ w.if-is_kept.false)) in
          omega (arith, same, so_far, w.count-is)
    ]

pub returns-clause-value : goal.returns-clause-value
returns-clause-value c =
    let x : List ℕ = c.as_slice-file.result.now in
    let i = c.loop-index.index in
    let past : (file_header x).count ≤ i = subst (λ (h : FileHeader). h.count ≤ i) c.read_header-header.ensures c.loop-index-test.false in
    let none = ap length (kept_end x i past) in
    let so_far : c.loop-index.count + length (kept_from x i) ≡ length (kept_of (segments x)) = c.loop-index.invariant in
    let all : c.loop-index.count ≡ length (kept_of (segments x)) = omega (arith, none, so_far) in
    all ∙ ap (λ (y : List ℕ). length (kept_of (segments y))) (c.as_slice-file.ensures.value ∙ ap (λ (e : ElfFile). e.bytes) c.elf.view_is)

pub returns-clause-few : goal.returns-clause-few
returns-clause-few c =
    let x : List ℕ = c.as_slice-file.result.now in
    let few = few_kept_headers x (accepted x c.elf.inside.bytes c.as_slice-file.ensures.value c.elf.invariant.accepted) in
    let so_far : c.loop-index.count + length (kept_from x c.loop-index.index) ≡ length (kept_of (segments x)) = c.loop-index.invariant in
    omega (arith, few, so_far)
