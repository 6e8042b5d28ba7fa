use Rattle.std.proofs.Common.{◌≡◌, ◌==◌, true, false, eq-eqb, arith, ap, ◌∙◌}
use Rattle.rz_syms.specs.Sections.{section_at}
use Rattle.rz_syms.proofs.TableLaws.{from_first, table_here, table_later, no_table}
use Rattle.rz_syms.proofs.table.first_table.Goals as goal

pub loop-index-init : goal.loop-index-init
loop-index-init c = from_first c.args.file.now c.args.header.now c.requires.header

pub returns-then-section-eq-SYMBOLS : goal.returns-then-section-eq-SYMBOLS
returns-then-section-eq-SYMBOLS c =
    let is_it : (c.section_at-section.result.kind == 2) ≡ true = eq-eqb c.section_at-section.result.kind 2 c.if-section-eq-SYMBOLS.true in
    table_here c.args.file.now c.args.header.now c.loop-index.index c.section_at-section.result c.requires.header c.loop-index-test.true (c.section_at-section.ensures ∙ ap (section_at c.args.file.now) c.from.ensures) is_it c.loop-index.invariant

pub loop-index-preserved : goal.loop-index-preserved
loop-index-preserved c =
    let other = c.if-section-eq-SYMBOLS.false in
    let misses : (c.section_at-section.result.kind == 2) ≡ false = grind (arith, other) in
    table_later c.args.file.now c.args.header.now c.loop-index.index c.section_at-section.result c.requires.header c.loop-index-test.true (c.section_at-section.ensures ∙ ap (section_at c.args.file.now) c.from.ensures) misses c.loop-index.invariant

pub returns : goal.returns
returns c = no_table c.args.file.now c.args.header.now c.loop-index.index c.loop-index-test.false c.loop-index.invariant
