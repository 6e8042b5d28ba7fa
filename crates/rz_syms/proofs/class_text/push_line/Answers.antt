use Rattle.std.proofs.Common.{◌≡◌, ◌++◌, true, false, sym, ap, ◌∙◌}
use Rattle.rz_text.specs.Lines.{words}
use Rattle.rz_syms.specs.Resolved.{begins_with_fs}
use Rattle.rz_syms.proofs.ResolveLaws.{line_stays, line_named}
use Rattle.rz_syms.proofs.class_text.push_line.Goals as goal

pub returns-then-not-begins_with_fs : goal.returns-then-not-begins_with_fs
returns-then-not-begins_with_fs c =
    let other : begins_with_fs (words c.args.line.now) ≡ false = sym c.begins_with_fs.ensures ∙ c.if-not-begins_with_fs.true in
    c.in_ok-push_all.ensures.ok ∙ ap (λ l. c.args.out.now ++ l) (sym (line_stays c.args.functions.now c.args.line.now other))

pub returns-in_ok-push_function-in-Some : goal.returns-in_ok-push_function-in-Some
returns-in_ok-push_function-in-Some c =
    let says : begins_with_fs (words c.args.line.now) ≡ true = sym c.begins_with_fs.ensures ∙ c.if-not-begins_with_fs.false in
    c.in_ok-push_function-in-Some.ensures ∙ ap (λ l. c.args.out.now ++ l) (c.in-Some.ensures ∙ sym (line_named c.args.functions.now c.args.line.now says))

pub returns-in_ok-push_all-in-None : goal.returns-in_ok-push_all-in-None
returns-in_ok-push_all-in-None c =
    let says : begins_with_fs (words c.args.line.now) ≡ true = sym c.begins_with_fs.ensures ∙ c.if-not-begins_with_fs.false in
    c.in_ok-push_all-in-None.ensures.ok ∙ ap (λ l. c.args.out.now ++ l) (c.in-None.ensures ∙ sym (line_named c.args.functions.now c.args.line.now says))
