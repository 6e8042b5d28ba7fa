use Rattle.std.proofs.Common.{◌==◌, get_or, length}
use Rattle.rz_flow.specs.Flow.{far, near}
use Rattle.rz_flow.specs.Calls.Linked.{places}
use Rattle.rz_flow.proofs.Places.{Walked, rank}
use Rattle.rz_flow.proofs.flow.Flow.neighbours.Given as goal

abbrev pub invariant-loop-next : goal.invariant-loop-next
invariant-loop-next l =
    let edges = l.self-inside.edges in
    Walked (places (λ e. near l.family e == l.at) 0 edges) (λ e. far l.family (get_or edges e (0, 0))) l.next l.found.items

abbrev pub decreases-loop-next : goal.decreases-loop-next
decreases-loop-next l = rank (length l.self-inside.edges) l.next
