use Rattle.std.proofs.Common.{◌++◌, ◌∙◌, ap}
use Rattle.rz_syms.proofs.PlaceLaws.{places_on, all_places, places_first, place_found, place_passed, places_end}
use Rattle.rz_syms.proofs.place.found_places.Goals as goal
use Rattle.rz_syms.proofs.place.found_places.Goals.{in-Some+in_ok-push, in_default}

pub loop-number-init : goal.loop-number-init
loop-number-init c =
    ap (λ l. l ++ places_on c.args.elf.now.loads c.args.strings.now c.args.symbols.now 0) c.new-places.ensures.items ∙ places_first c.args.elf.now.loads c.args.strings.now c.args.symbols.now

pub loop-number-preserved : goal.loop-number-preserved
loop-number-preserved c =
    let loads = c.args.elf.now.loads in
    let table = c.args.strings.now in
    let bytes = c.args.symbols.now in
    let i = c.loop-number.number in
    elim c.match-place_of.branch [
      | in-Some+in_ok-push w ↦
          rw (w.places-is) (place_found loads table bytes i c.symbol_at-symbol.result w.in-Some.place c.loop-number.places.items _ (all_places loads table bytes) c.loop-number-test.true c.symbol_at-symbol.ensures w.in-Some.ensures w.in_ok-push.ensures.items c.loop-number.invariant)
      | in_default w ↦
          rw (w.places-is) (place_passed loads table bytes i c.symbol_at-symbol.result c.loop-number.places.items (all_places loads table bytes) c.loop-number-test.true c.symbol_at-symbol.ensures w.in_default.ensures c.loop-number.invariant)
    ]

pub returns : goal.returns
returns c =
    places_end c.args.elf.now.loads c.args.strings.now c.args.symbols.now c.loop-number.number c.loop-number.places.items _ c.loop-number-test.false c.loop-number.invariant
