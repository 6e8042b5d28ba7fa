use Rattle.std.proofs.Common.{◌≡◌, ◌≤◌, List, ap, ◌∙◌, subst, arith}
use Rattle.rz_elf.specs.declared.elf.Load.{Load}
use Rattle.rz_elf.specs.Loaded.{ElfFile, IsRead}
use Rattle.rz_elf.specs.Executable.{executable_in}
use Rattle.rz_elf.proofs.ExecutableLaws.{executable_small}
use Rattle.rz_elf.proofs.executable.executable_size.Goals as goal

-- the same loads
few_bytes : (ls : List Load) (e : ElfFile) → ls ≡ e.loads → IsRead e → executable_in ls ≤ 268435456
few_bytes ls e same is =
    let h = ap executable_in same in
    let k = executable_small e is in
    omega (arith, h, k)

pub executable_in-requires : goal.executable_in-requires
executable_in-requires c =
    let loads = c.as_slice.ensures ∙ ap (λ (e : ElfFile). e.loads) c.elf.view_is in
    let few = few_bytes c.as_slice.result.now c.args.elf.now loads (subst IsRead c.elf.view_is c.elf.invariant) in
    omega (arith, few)

pub returns-clause-most : goal.returns-clause-most
returns-clause-most c =
    let loads = c.as_slice.ensures ∙ ap (λ (e : ElfFile). e.loads) c.elf.view_is in
    let few = few_bytes c.as_slice.result.now c.args.elf.now loads (subst IsRead c.elf.view_is c.elf.invariant) in
    omega (arith, few, c.executable_in.ensures)
