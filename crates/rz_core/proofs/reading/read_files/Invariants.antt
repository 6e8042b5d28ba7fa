use Rattle.std.proofs.Common.{◌≡◌, ◌≤◌, drop}
use Rattle.std.specs.List.{All}
use Rattle.rz_sys.specs.Input.{IsValid}
use Rattle.rz_outside.specs.StoreAnswers.{SameFiles}
use Rattle.rz_core.specs.Reading.{read_in}
use Rattle.rz_core.proofs.ReachedLaws.{IsReached}
use Rattle.rz_core.proofs.reading.read_files.Given as goal

abbrev pub invariant-loop-wanted : goal.invariant-loop-wanted
invariant-loop-wanted g l =
    let store = g.S.Store in
    record {
      telling : store.told l.store ≡ store.told l.initial.store;
      kept : SameFiles (store.files l.initial.store) (store.files l.store);
      count : store.faults l.initial.store ≤ store.faults l.store;
      valid : All IsValid l.files.inputs.items;
      reached : IsReached (store.told l.initial.store) (store.files l.initial.store) (drop l.wanted-index l.reads) l.reads (read_in l.files);
    }
