use Rattle.std.proofs.Common.{◌≡◌}
use Rattle.rz_isa.specs.Decoded.{decoded}
use Rattle.rz_machine.specs.Calls.Cache.{Serves}
use Rattle.rz_machine.specs.State.{after}
use Rattle.rz_machine.specs.Laws.Until.{IsOpen}
use Rattle.rz_machine.proofs.machine.Machine.observe.Given as goal

abbrev pub invariant-loop-made : goal.invariant-loop-made
invariant-loop-made g l =
    record {
      at : l.self ≡ after (decoded g.T.InsnTable.rows) l.made l.initial.self;
      waits : IsOpen (g.O.Observer.stops_at l.initial.observer) (decoded g.T.InsnTable.rows) l.initial.self l.made;
      fixed : g.O.Observer.stops_at l.observer ≡ g.O.Observer.stops_at l.initial.observer;
      follows : g.O.Observer.Follows l.initial.observer (decoded g.T.InsnTable.rows) l.initial.self l.made l.observer;
      serves : Serves (decoded g.T.InsnTable.rows) l.self.mem l.cache;
    }
