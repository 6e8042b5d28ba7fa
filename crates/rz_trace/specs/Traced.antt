-- What the refusals of a trace say.
use Rattle.std.specs.Prelude.{◌≡◌, ℕ, ◌≤◌}
use Rattle.rz_isa.specs.Nodes.{Decoder}
use Rattle.rz_machine.specs.declared.machine.Machine.{Machine}
use Rattle.rz_machine.specs.Begun.{begun, neighbours}
use Rattle.rz_machine.specs.Kept.{Kept, with_nodes, with_edges}
use Rattle.rz_machine.specs.LeftCode.{LeavesCode}
use Rattle.rz_machine.specs.Traced.{with_run}
use Rattle.rz_trace.specs.declared.tracer.TraceRefusal.{TraceRefusal}
use Rattle.rz_trace.specs.declared.tracer.TraceRefusal.TheVariants as refusal

-- a kept set with nodes of some of the first n steps, and with edges of some
pub record HasPart (dec : Decoder) (n : ℕ) (s : Machine) (old new : Kept) : Type 0 where
  pub node_steps : ℕ
  pub edge_steps : ℕ
  pub few : (node_steps ≤ n) × (edge_steps ≤ n)
  pub nodes : new.nodes ≡ with_nodes old.nodes (begun dec node_steps s)
  pub edges : new.edges ≡ with_edges old.edges (neighbours (begun dec edge_steps s))

-- the run left the code at the address that the refusal names, and its steps are recorded;
-- or there was no memory, and what it held and a part of the run are recorded
abbrev pub IsRefused : Decoder → ℕ → Machine → Kept → Kept → TraceRefusal → Type 0
IsRefused dec n s old new (refusal.LeftCode a) = LeavesCode dec n s a × (new ≡ with_run dec n s old)
IsRefused dec n s old new refusal.OutOfMemory = HasPart dec n s old new
