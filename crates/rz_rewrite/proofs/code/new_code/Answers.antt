use Rattle.std.proofs.Common.{◌≡◌, ℕ, List, ap, ap₂, ◌∙◌, subst}
use Rattle.rz_isa.specs.declared.rows.Row.{Row}
use Rattle.rz_isa.specs.Decoded.{decoded}
use Rattle.rz_elf.specs.Elf.{Image, image_of}
use Rattle.rz_elf.specs.Loaded.{ElfFile, IsRead}
use Rattle.rz_elf.specs.Laws.Loads.{loaded_image}
use Rattle.rz_machine.specs.Kept.{Kept, sorted}
use Rattle.rz_machine.specs.Laws.Sets.{IsAscending-sorted}
use Rattle.rz_machine.specs.Traced.{kept_in}
use Rattle.rz_rewrite.specs.Rewritten.{IsFit, fragments_of, place_by}
use Rattle.rz_rewrite.specs.Calls.Places.{beside_or_zero}
use Rattle.rz_rewrite.proofs.NewCodeLaws.{laid_places, new_code_is}
use Rattle.rz_rewrite.proofs.Planned.{fit_of}
use Rattle.rz_rewrite.proofs.TargetRange.{placed_ascend}
use Rattle.rz_rewrite.proofs.code.new_code.Goals as goal

entry_alike : (pairs p : List (ℕ × ℕ)) (a b : ℕ) → pairs ≡ p → a ≡ b → beside_or_zero pairs a ≡ beside_or_zero p b
entry_alike pairs p a b e f = ap₂ beside_or_zero e f

pub returns : goal.returns
returns g c =
    let rows : List Row = g.T.InsnTable.rows in
    let q = c.requires.can in
    let x : Image = image_of c.args.elf.now.bytes in
    let kept : Kept = kept_in c.args.kept.now in
    let fit : IsFit (decoded rows) x kept = fit_of (decoded rows) c.args.elf.now.bytes kept c.args.range.now q in
    let is : IsRead c.args.elf.now = subst IsRead c.elf.view_is c.elf.invariant in
    let entry = ap (λ (e : ElfFile). e.entry) c.elf.view_is ∙ ap (λ (y : Image). y.entry) (loaded_image c.args.elf.now is) in
    new_code_is rows c.table_facts.ensures x kept fit c.sized_stand_near.ensures c.least_is_shortest.ensures c.args.range.now c.in_ok-frags.frags c.in_ok-laid.laid c.place_beside-entry.result q.range_is c.in_ok-frags.ensures.all
    c.in_ok-laid.ensures (c.place_beside-entry.ensures ∙ entry_alike c.as_slice.result.now c.in_ok-laid.laid.places _ x.entry c.as_slice.ensures entry)

pub place_beside-entry-requires : goal.place_beside-entry-requires
place_beside-entry-requires g c =
    let rows : List Row = g.T.InsnTable.rows in
    let q = c.requires.can in
    let x : Image = image_of c.args.elf.now.bytes in
    let kept : Kept = kept_in c.args.kept.now in
    let fit : IsFit (decoded rows) x kept = fit_of (decoded rows) c.args.elf.now.bytes kept c.args.range.now q in
    let h = c.in_ok-laid.ensures in
    let places = laid_places rows c.table_facts.ensures x kept fit c.args.range.now c.in_ok-frags.frags c.in_ok-laid.laid q.range_is c.in_ok-frags.ensures.all h in
    placed_ascend (place_by rows (fragments_of (decoded rows) x kept) c.args.range.now.code h.laid.forms) (sorted kept.nodes) (IsAscending-sorted kept.nodes) _ (c.as_slice.ensures ∙ places)
