use Rattle.std.proofs.Common.{◌≡◌, ◌+◌, ◌-◌, ◌++◌, [], take, map, Some, None, ap, sym, ◌∙◌, subst, arith, append-nil}
use Rattle.rz_image.specs.Memory.{Regions, RegionsFit, code_of, cell_at, fetch}
use Rattle.rz_image.specs.Laws.Turns.{fetch_stops, fetch_turn, fetch_ends}
use Rattle.rz_image.specs.Laws.Run.{fetch_none}
use Rattle.rz_elf.specs.Loaded.{loaded_region}
use Rattle.rz_elf.specs.Laws.Loads.{loads_fit}
use Rattle.rz_elf.proofs.code.fetch.Goals as goal

pub returns-in_default-clause-bytes : goal.returns-in_default-clause-bytes
returns-in_default-clause-bytes c =
    let m : Regions = map (loaded_region c.args.file.now) c.args.loads.now in
    let fit : RegionsFit m = subst RegionsFit (append-nil m) (loads_fit c.args.file.now c.args.loads.now [] c.requires tt) in
    let past = c.in_default.ensures in
    fetch_stops m c.args.at c.loop-n.n c.loop-n.out fit (omega (arith, past)) c.loop-n.invariant.left

pub returns-in_default-code_byte-clause-bytes : goal.returns-in_default-code_byte-clause-bytes
returns-in_default-code_byte-clause-bytes c =
    let m : Regions = map (loaded_region c.args.file.now) c.args.loads.now in
    let n = c.loop-n.n in
    let at : c.in-Some.a ≡ c.args.at + n = c.in-Some.ensures.1 in
    let e : code_of (cell_at m (c.args.at + n)) ≡ None = ap (λ a. code_of (cell_at m a)) (sym at) ∙ sym c.in_default-code_byte.ensures in
    sym (append-nil (take n c.loop-n.out)) ∙ ap (λ l. take n c.loop-n.out ++ l) (sym (fetch_ends m (c.args.at + n) (15 - n) e)) ∙ c.loop-n.invariant.left

pub loop-n-preserved : goal.loop-n-preserved
loop-n-preserved c =
    let m : Regions = map (loaded_region c.args.file.now) c.args.loads.now in
    let at : c.in-Some.a ≡ c.args.at + c.loop-n.n = c.in-Some.ensures.1 in
    let e : code_of (cell_at m (c.args.at + c.loop-n.n)) ≡ Some c.in-Some-code_byte.byte = ap (λ a. code_of (cell_at m a)) (sym at) ∙ sym c.in-Some-code_byte.ensures in
    record {
      low = omega arith;
      left = fetch_turn m c.args.at c.loop-n.n c.loop-n.out c.in-Some-code_byte.byte (omega arith) (omega arith) e ∙ c.loop-n.invariant.left;
    }

pub returns-clause-bytes : goal.returns-clause-bytes
returns-clause-bytes c =
    let m : Regions = map (loaded_region c.args.file.now) c.args.loads.now in
    let n = c.loop-n.n in
    let left : 15 - n ≡ 0 = omega (arith, c.loop-n-test.false) in
    sym (append-nil (take n c.loop-n.out)) ∙ ap (λ l. take n c.loop-n.out ++ l) (sym (ap (fetch m (c.args.at + n)) left ∙ fetch_none m (c.args.at + n))) ∙ c.loop-n.invariant.left
