use Rattle.std.proofs.Common.{◌++◌, ◌≤◌, ◌<◌, length, sym, ap, ap₂, ◌∙◌}
use Rattle.rz_syms.specs.Resolved.{resolved_lines}
use Rattle.rz_syms.proofs.ResolveLaws.{resolved_long, resolved_short, resolved_without_fs}
use Rattle.rz_syms.proofs.class_text.resolve.Goals as goal

pub returns-then-text-gt-TEXT_MAX-clause-text : goal.returns-then-text-gt-TEXT_MAX-clause-text
returns-then-text-gt-TEXT_MAX-clause-text c =
    let same = c.as_slice-text.ensures.value in
    let long : 16777216 < length c.args.bytes.now = rw same at c.if-text-gt-TEXT_MAX.true in
    c.in_ok-from_slice.ensures ∙ same ∙ sym (resolved_long c.args.symbols.now c.args.bytes.now long)

pub returns-clause-text : goal.returns-clause-text
returns-clause-text c =
    let same = c.as_slice-text.ensures.value in
    let short : length c.args.bytes.now ≤ 16777216 = rw same at c.if-text-gt-TEXT_MAX.false in
    let list = c.as_slice.ensures ∙ c.symbols.view_is in
    c.in_ok-push_resolved.ensures
    ∙ ap (λ l. l ++ resolved_lines c.as_slice.result.now c.as_slice-text.result.now) c.new-out.ensures
    ∙ ap₂ resolved_lines list same
    ∙ sym (resolved_short c.args.symbols.now c.args.bytes.now short)

pub returns-then-text-gt-TEXT_MAX-clause-unnamed : goal.returns-then-text-gt-TEXT_MAX-clause-unnamed
returns-then-text-gt-TEXT_MAX-clause-unnamed c = λ none. c.in_ok-from_slice.ensures ∙ c.as_slice-text.ensures.value

pub returns-clause-unnamed : goal.returns-clause-unnamed
returns-clause-unnamed c =
    let same = c.as_slice-text.ensures.value in
    let short : length c.args.bytes.now ≤ 16777216 = rw same at c.if-text-gt-TEXT_MAX.false in
    let list = c.as_slice.ensures ∙ c.symbols.view_is in
    λ none.
    c.in_ok-push_resolved.ensures
    ∙ ap (λ l. l ++ resolved_lines c.as_slice.result.now c.as_slice-text.result.now) c.new-out.ensures
    ∙ ap₂ resolved_lines list same
    ∙ sym (resolved_short c.args.symbols.now c.args.bytes.now short)
    ∙ resolved_without_fs c.args.symbols.now c.args.bytes.now none
