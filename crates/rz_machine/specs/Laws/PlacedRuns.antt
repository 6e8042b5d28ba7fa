-- Whatever the placement, each run of the original is kept.
use Rattle.std.proofs.Common.{◌≡◌, ℕ, ◌+◌, ◌^◌, ◌<◌, ◌≤◌, true, replicate, Some, None, refl, sym, ap, ◌∙◌, subst, arith}
use Rattle.std.specs.List.{AllByRecursion}
use Rattle.rz_isa.specs.declared.instruction.Insn.TheVariants as insn
use Rattle.rz_machine.specs.declared.machine.End.TheVariants as end
use Rattle.rz_machine.specs.declared.machine.Machine.{Machine}
use Rattle.rz_sys.specs.declared.input.Input.{Input}
use Rattle.rz_sys.specs.World.{SameWorld}
use Rattle.rz_image.specs.Memory.{Regions, NoSelfWritten, RangeStands, wrap}
use Rattle.rz_elf.specs.Elf.{Image}
use Rattle.rz_isa.specs.Nodes.{Decoder}
use Rattle.rz_machine.specs.declared.way.Halt.TheVariants as halt
use Rattle.rz_machine.specs.Kept.{Kept, has_node, has_edge}
use Rattle.rz_machine.specs.Nodes.{code_in, IsPlausible}
use Rattle.rz_machine.specs.State.{step}
use Rattle.rz_machine.specs.Touches.{StepClear}
use Rattle.rz_machine.specs.Start.{start, first_regs, first_rsp}
use Rattle.rz_machine.specs.Added.{Layout, Places}
use Rattle.rz_machine.specs.Keeps.{StopsAtStub, KeepsRun}
use Rattle.rz_machine.specs.Pace.{Paced}
use Rattle.rz_machine.specs.Placement.{IsPlaced, PlacementsKeep}
use Rattle.rz_machine.specs.Simulates.{InsnAt, HasCode, Stand, Follows, Simulates, leads}
use Rattle.rz_exec.specs.Registers.{AreRegs}
use Rattle.rz_exec.specs.Laws.Registers.{set_regs}
use Rattle.rz_machine.specs.Laws.Runs.{keeps, paced}
use Rattle.rz_machine.specs.Laws.Targets.{targets_keep}
use Rattle.rz_machine.specs.Laws.Comes.{step_is, halt_is}
use Rattle.rz_machine.specs.Laws.StartHeap.{start_heap}
use Rattle.rz_machine.specs.Laws.StartCode.{start_code}

-- the registers at the start
first_regs-are : (input : Input) → AreRegs (first_regs input)
unfolding first_regs first_rsp
first_regs-are input = set_regs (replicate 16 0) 4 _ (record { sixteen = refl; words = zeros }) (omega arith)
  where
    zero_word : 0 < 2 ^ 64
    zero_word = omega arith

    zeros : AllByRecursion (λ v. v < 2 ^ 64) (replicate 16 0)
    zeros = let z = zero_word in (z, (z, (z, (z, (z, (z, (z, (z, (z, (z, (z, (z, (z, (z, (z, (z, tt))))))))))))))))

module _ (dec : Decoder) (x w : Image) (kept : Kept) (lay : Layout) (places : Places) (bound : ℕ → ℕ) (can : IsPlausible dec (code_in x.loads) x.entry kept)
    (x_fixed : NoSelfWritten x.loads) (w_fixed : NoSelfWritten w.loads) (are : IsPlaced dec x w kept lay places bound) (input : Input) where
  abbrev IsKept : ℕ → Type 0
  IsKept b = has_node kept.nodes b ≡ true

  abbrev old : Machine
  old = start x input

  abbrev new : Machine
  new = start w input

  abbrev wm : Regions
  wm = new.mem

  -- each kept node's fragment follows it
  each : (s t : Machine) → IsKept s.cpu.rip → Stand lay places.fragment x.loads wm s t → StepClear lay.added dec s → Follows dec lay (leads (has_edge kept.edges s.cpu.rip) places.fragment lay.stub s.cpu.rip) (bound s.cpu.rip) (step dec s) t
  unfolding Simulates
  each s t node st clear =
      let b : ℕ = s.cpu.rip in
      let nd = can.stands.nodes b node in
      let fetched = nd.spelled in
      let here : InsnAt dec x.loads b nd.insn (wrap (b + nd.len)) = record { len = nd.len; spelled = fetched; ends = refl } in
      let fragment = (are.placement input).fragments b node nd.insn nd.len fetched in
      subst (λ keeps. Follows dec lay (leads keeps places.fragment lay.stub b) (bound b) (step dec s) t) (targets_keep kept.edges b)
      (fragment.simulates lay places fragment.own x.loads wm here fragment.stand fragment.inside (are.placement input).scratch ((are.placement input).lookups b node nd.insn nd.len fetched) s t refl st clear)

  -- a kept node's stub ends the run
  stub_stops : (s t : Machine) → IsKept s.cpu.rip → t.end ≡ None → HasCode wm t.mem → RangeStands lay.added wm t.mem → t.cpu.rip ≡ lay.stub s.cpu.rip → StopsAtStub dec lay s t
  stub_stops s t node runs code range there =
      let at : ℕ = lay.stub s.cpu.rip in
      let ud2 : InsnAt dec wm at insn.Ud2 (at + 2) = ((are.placement input).stubs s.cpu.rip node).0 in
      ap (λ u. u.end) (step_is dec wm at insn.Ud2 (at + 2) ud2 t runs there code ∙ halt_is insn.Ud2 halt.Ud2 (at + 2) t refl)
      ∙ ap (λ (a : ℕ). Some (end.Illegal a)) there

  -- both runs stand at the start
  standing : Stand lay places.fragment x.loads wm old new
  standing =
      record {
        old_runs = refl;
        new_runs = refl;
        there = are.begins;
        same = record { regs = refl; flags = refl; world = same_start; mem = are.alike input };
        regs = first_regs-are input;
        old_code = start_code x input x_fixed;
        new_code = record { same = record { at = λ b. refl }; fixed = (start_code w input w_fixed).fixed };
        old_heap = start_heap x input are.old_heap;
        new_heap = start_heap w input are.new_heap;
        below = subst (λ k. lay.added.high ≤ k) (sym are.first_break) are.below;
        added = record { perms = λ b i. record { read = refl; write = refl; execute = refl }; bytes = λ b i w. refl };
      }
    where
      same_start : SameWorld old.world new.world
      same_start = record { stdin = refl; replies = refl; events = refl; first_break = sym are.first_break; brk = sym are.first_break }

  pub keeps_placed : KeepsRun dec kept.edges lay old new
  keeps_placed = keeps dec kept.edges lay places.fragment bound IsKept x.loads wm can.stands.ends each stub_stops old new can.entry_kept standing

  pub paced_placed : Paced dec kept.edges lay bound old new
  paced_placed = paced dec kept.edges lay places.fragment bound IsKept x.loads wm can.stands.ends each stub_stops old new can.entry_kept standing

-- the law
pub placements_keep : (dec : Decoder) → PlacementsKeep dec
placements_keep dec x w kept lay places bound can x_fixed w_fixed are input =
    (keeps_placed dec x w kept lay places bound can x_fixed w_fixed are input, paced_placed dec x w kept lay places bound can x_fixed w_fixed are input)
