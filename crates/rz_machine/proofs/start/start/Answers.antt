use Rattle.std.proofs.Common.{◌≡◌, ℕ, ◌^◌, List, None, [], ◌∷◌, ◌++◌, set, replicate, ap, subst, ◌∙◌}
use Rattle.rz_image.specs.declared.region.Region.{Region}
use Rattle.rz_image.specs.Perm.{read_write}
use Rattle.rz_elf.specs.Loaded.{ElfFile, IsRead, loaded}
use Rattle.rz_machine.specs.declared.machine.Machine.{Machine}
use Rattle.rz_machine.specs.Start.{first_regs, first_rsp, stack_base, stack_bytes, heap_region, no_flags}
use Rattle.rz_machine.specs.Laws.StartHeap.{start_heap, read_room}
use Rattle.rz_machine.proofs.StartRegions.{start_ascends}
use Rattle.rz_machine.proofs.start.start.Goals as goal

pub new-requires : goal.new-requires
new-requires c =
    rw (c.in_ok-regions.ensures, c.stack_region.ensures, c.in_ok-stack.ensures.bytes, c.as_slice.ensures) (start_ascends c.args.elf.now c.args.input.now (subst IsRead c.elf.view_is c.elf.invariant) c.requires.few)

-- a region of the stack with other bytes
with_bytes : (l k : List ℕ) → l ≡ k → (let r : Region = record { base = stack_base; bytes = l; opened = 2 ^ 20; perm = read_write } in r) ≡ (let r : Region = record { base = stack_base; bytes = k; opened = 2 ^ 20; perm = read_write } in r)
with_bytes l k e = ap (λ (x : List ℕ). let r : Region = record { base = stack_base; bytes = x; opened = 2 ^ 20; perm = read_write } in r) e

pub returns : goal.returns
unfolding first_regs
returns c =
    let image = loaded c.args.elf.now in
    let rsp = c.in_ok-stack.ensures.rsp ∙ ap first_rsp c.as_slice.ensures in
    let regs = c.first_registers.ensures ∙ ap (λ (n : ℕ). set (replicate 16 0) 4 n) rsp in
    let entry = ap (λ (e : ElfFile). e.entry) c.elf.view_is in
    let stack = c.stack_region.ensures ∙ with_bytes _ _ (c.in_ok-stack.ensures.bytes ∙ ap stack_bytes c.as_slice.ensures) in
    let mem = c.new.ensures ∙ (c.in_ok-regions.ensures ∙ ap (λ (r : Region). image.loads ++ heap_region image.first_break ∷ r ∷ []) stack) in
    let world = c.in_ok-first_world.ensures in
    λ i. let m : Machine = record { cpu = record { regs = regs i; rip = entry i; flags = no_flags }; mem = mem i; world = world i; end = None } in m

pub invariant_of-result : goal.invariant_of-result
invariant_of-result c =
    let elf = c.args.elf.now in
    let image = loaded elf in
    let is = subst IsRead c.elf.view_is c.elf.invariant in
    let stack = c.stack_region.ensures ∙ with_bytes _ _ (c.in_ok-stack.ensures.bytes ∙ ap stack_bytes c.as_slice.ensures) in
    let mem = c.new.ensures ∙ (c.in_ok-regions.ensures ∙ ap (λ (r : Region). image.loads ++ heap_region image.first_break ∷ r ∷ []) stack) in
    rw (mem, c.in_ok-first_world.ensures) (start_heap image c.args.input.now (read_room elf is))
