-- A written file has the stamp that is written.
use Rattle.std.proofs.Common.{◌≡◌, ℕ, ◌≤◌, true, ◌&&◌, if◌then◌else◌, nat_le, List, length, Some, None, refl, ap, ap₂, ◌∙◌, arith}
use Rattle.std.specs.Prelude.{nat_eq, drop}
use Rattle.std.specs.List.{starts_with}
use Rattle.std.proofs.lemmas.List.{length-map}
use Rattle.std.proofs.lemmas.Bool.Decides.{nat_tests}
use Rattle.rz_elf.specs.Format.{stamp_at, stamp, stamp_number, added_loads}
use Rattle.rz_elf.specs.Elf.{Image, image_of}
use Rattle.rz_elf.specs.Loaded.{elf_of, loaded_region}
use Rattle.rz_elf.specs.Stamped.{stamp_of}
use Rattle.rz_elf.specs.WrittenFile.{Parts, written_file, new_image}
use Rattle.rz_elf.specs.Laws.Reading.{loaded-elf_of}

-- the stamp stands in the header
stamp_stands : (x : List ℕ) (p : Parts) (entry : ℕ) → starts_with nat_eq (drop stamp_at (written_file x p entry)) stamp ≡ true
unfolding written_file
stamp_stands x p entry = refl

-- the added loads are among those that are read
four_loads : (w : List ℕ) (x : Image) (p : Parts) (entry : ℕ) → image_of w ≡ new_image x p entry → added_loads ≤ length (elf_of w).loads
four_loads w x p entry e =
    let all = ap (λ (i : Image). length i.loads) (loaded-elf_of w ∙ e) in
    let each = length-map (elf_of w).loads (loaded_region w) in
    omega arith

pub written_stamped : (w x : List ℕ) (p : Parts) (entry : ℕ) → w ≡ written_file x p entry → image_of w ≡ new_image (image_of x) p entry → stamp_of (elf_of w) ≡ Some stamp_number
written_stamped w x p entry file image =
    let first : starts_with nat_eq (drop stamp_at w) stamp ≡ true = ap (λ (f : List ℕ). starts_with nat_eq (drop stamp_at f) stamp) file ∙ stamp_stands x p entry in
    let loads = four_loads w (image_of x) p entry image in
    let second : nat_le added_loads (length (elf_of w).loads) ≡ true = grind (arith, nat_tests) in
    ap (λ b. if b then Some stamp_number else None) (ap₂ ◌&&◌ first second)
