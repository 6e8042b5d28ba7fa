-- The regions in which a run begins.
use Rattle.std.proofs.Common.{◌≡◌, ◌≤◌, [], ◌∷◌, ◌++◌, length, map, filter, ap, ap₂, ◌∙◌, append_assoc, arith}
use Rattle.std.proofs.lemmas.List.{length-map}
use Rattle.rz_image.specs.declared.region.Region.{Region}
use Rattle.rz_image.specs.Memory.{Regions, Ascend}
use Rattle.rz_image.specs.Laws.Zeros.{length-zeros}
use Rattle.rz_sys.specs.declared.input.Input.{Input}
use Rattle.rz_sys.specs.Input.{strings}
use Rattle.rz_machine.specs.Start.{heap_region, stack_region}
use Rattle.rz_elf.specs.Elf.{placed}
use Rattle.rz_elf.specs.Loaded.{ElfFile, is_load_header, load_of, loaded, loaded_region, IsRead}
use Rattle.rz_elf.specs.Laws.Reading.{file_faultless, few_load_headers}
use Rattle.rz_elf.specs.Laws.Loads.{ascend_read, low_break}
use Rattle.rz_machine.proofs.StackLaws.{length-stack_bytes}

-- the regions of a run ascend: the loads, the heap and the stack
pub start_ascends : (elf : ElfFile) (input : Input) → IsRead elf → length (strings input.args) ≤ 65536 → Ascend (map (loaded_region elf.bytes) elf.loads ++ heap_region elf.first_break ∷ stack_region input ∷ [])
start_ascends elf input is few =
    let low = low_break elf is in
    let h = length-zeros 16777216 in
    let s = length-stack_bytes input.args few in
    ascend_read elf (heap_region elf.first_break ∷ stack_region input ∷ []) is
    (omega arith, omega (arith, low, h), omega arith, (omega (arith, low, h), omega (arith, s), omega (arith, s), tt))

-- two regions behind others
pub two_behind : (loads first both : Regions) (r s x y : Region) (m : Regions) → first ≡ loads ++ r ∷ [] → both ≡ first ++ s ∷ [] → loads ≡ m → r ≡ x → s ≡ y → both ≡ m ++ x ∷ y ∷ []
two_behind loads first both r s x y m a b l e f =
    let push = λ (m : Regions) (r : Region). m ++ r ∷ [] in
    b ∙ ap₂ push (a ∙ ap₂ push l e) f ∙ append_assoc m (x ∷ []) (y ∷ [])

-- there are as few loads as program headers
pub few_loads : (elf : ElfFile) → IsRead elf → length (loaded elf).loads ≤ 64
few_loads elf is =
    let x = elf.bytes in
    let few = few_load_headers x (file_faultless x is.accepted) in
    let e : length (loaded elf).loads ≡ length (filter is_load_header (placed x)) =
    length-map elf.loads (loaded_region x) ∙ ap (λ (y : ElfFile). length y.loads) is.read ∙ length-map (filter is_load_header (placed x)) load_of in
    omega (arith, few, e)
