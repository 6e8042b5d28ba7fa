use Rattle.std.proofs.Common.{◌+◌, ◌-◌, ◌*◌, ◌++◌, ◌∷◌, [], ℕ, List, drop, Option, sym, ap, ap₂, ◌∙◌, arith}
use Rattle.std.proofs.lemmas.List.{take_rest}
use Rattle.rz_elf.specs.Elf.{Segment, Placed, segments_of, segment_of, placed_from}
use Rattle.rz_elf.specs.Laws.HeaderList.{placed_turn, placed_end, later}
use Rattle.rz_elf.proofs.placed.read_placed.Goals as goal

pub loop-index-preserved : goal.loop-index-preserved
loop-index-preserved c =
    let x : List ℕ = c.args.file.now in
    let h = c.args.header.now in
    let i = c.loop-index.index in
    let rest : Option Segment → List Placed = λ o. placed_from (i + 1) o (segments_of (h.count - (i + 1)) (drop (h.table_at + 56 * (i + 1)) x)) in
    let at = h.table_at + 56 * i in
    let read = c.read-segment.ensures ∙ ap segment_of (take_rest x at) in
    let p : Segment → Placed = λ s. record { index = i; before = c.loop-index.before; segment = s } in
    ap₂ (λ l o. l ++ rest o) c.in_ok-push.ensures.items c.later-before.ensures
    ∙ ap (λ (s : Segment). (c.loop-index.headers.items ++ p s ∷ []) ++ rest (later c.loop-index.before s)) read
    ∙ placed_turn x h.table_at h.count i c.loop-index.before c.loop-index.headers.items c.loop-index-test.true ∙ c.loop-index.invariant

pub returns : goal.returns
returns c =
    let x : List ℕ = c.args.file.now in
    let h = c.args.header.now in
    sym (placed_end x h.table_at h.count c.loop-index.index c.loop-index.before c.loop-index.headers.items (omega (arith, c.loop-index-test.false))) ∙ c.loop-index.invariant
