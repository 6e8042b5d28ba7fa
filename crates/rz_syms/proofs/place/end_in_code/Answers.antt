use Rattle.std.proofs.Common.{◌+◌, ◌<◌, ◌^◌, ap, sym, ◌∙◌, arith}
use Rattle.rz_elf.specs.Laws.Loads.{loadable}
use Rattle.rz_syms.specs.Symbols.{is_in_code}
use Rattle.rz_syms.proofs.LoadLaws.{in_code_low}
use Rattle.rz_syms.proofs.place.end_in_code.Goals as goal

pub overflow_add-result : goal.overflow_add-result
overflow_add-result c =
    let inside = ap (λ l. is_in_code l c.args.lo (c.args.lo + c.args.size)) (sym c.as_slice.ensures) ∙ sym c.is_in_code.ensures ∙ c.if-is_in_code.true in
    let low : c.args.lo + c.args.size < 2 ^ 63 = in_code_low _ c.args.lo (c.args.lo + c.args.size) c.elf.inside.loads (loadable _ c.elf.invariant).loads inside in
    omega (arith, low)
