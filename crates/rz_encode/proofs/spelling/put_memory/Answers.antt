use Rattle.std.proofs.Common.{ℤ, ◌≡◌, ◌+◌, ◌*◌, ◌%◌, ◌∷◌, [], subst, ap, ◌∙◌, to_z, of_z, w32, rules}
use Rattle.rz_isa.specs.Canonical.{little, low_32, mode_of, plain_or_sib, disp_bytes}
use Rattle.rz_encode.specs.Calls.Writer.{Wrote}
use Rattle.rz_encode.proofs.Written.{wrote_both, memory_none, memory_some}
use Rattle.rz_encode.proofs.spelling.put_memory.Goals as goal

pub returns-in-None : goal.returns-in-None
returns-in-None c =
    let z : to_z w32 (of_z w32 c.args.m.disp) ≡ c.args.m.disp = search rules in
    subst (λ k. Wrote c.args.out.now c.args.n c.put_little.new.out c.put_little.result k)
    (memory_none c.args.reg c.args.m.base c.args.m.index c.args.m.scale c.args.m.disp c.sib_for.result c.from.result c.in-None.is c.sib_for.ensures (c.from.ensures ∙ (c.low_32.ensures ∙ ap low_32 z)))
    (wrote_both c.args.out.now c.put_two-a.new.out c.put_little.new.out c.args.n c.put_two-a.result c.put_little.result ((8 * c.args.reg + 4) ∷ (c.sib_for.result ∷ [])) (little 4 c.from.result) c.put_two-a.ensures c.put_little.ensures)

pub returns-in-Some : goal.returns-in-Some
returns-in-Some c =
    let z : to_z w32 (of_z w32 c.args.m.disp) ≡ c.args.m.disp = search rules in
    subst (λ k. Wrote c.args.out.now c.args.n c.put_disp.new.out c.put_disp.result k)
    (memory_some c.args.reg c.args.m.base c.args.m.index c.args.m.scale c.args.m.disp c.in-Some.base c.mode_of-mode.result c.in-Some.is (c.mode_of-mode.ensures.value ∙ ap (mode_of (c.in-Some.base % 8)) z))
    (wrote_both c.args.out.now c.put_head-a.new.out c.put_disp.new.out c.args.n c.put_head-a.result c.put_disp.result
    (plain_or_sib c.args.reg (c.in-Some.base % 8) c.args.m.index c.args.m.scale [] c.mode_of-mode.result) (disp_bytes c.mode_of-mode.result c.args.m.disp) c.put_head-a.ensures.wrote
    (subst (λ (k : ℤ). Wrote c.put_head-a.new.out c.put_head-a.result c.put_disp.new.out c.put_disp.result (disp_bytes c.mode_of-mode.result k)) z c.put_disp.ensures))
