-- What is loaded of an accepted file of bytes is plain.
use Rattle.std.proofs.Common.{◌≡◌, ℕ, zero, suc, ◌+◌, ◌-◌, ◌<◌, ◌≤◌, true, false, List, [], ◌∷◌, ◌++◌, length, take, drop, map, filter, None, subst, arith, length-append, length-take}
use Rattle.std.specs.List.{AllByRecursion}
use Rattle.std.proofs.lemmas.Bool.Decides.{nat_tests}
use Rattle.rz_image.specs.Perm.{writes, executes, perm_of}
use Rattle.rz_image.specs.Memory.{zeros}
use Rattle.rz_image.specs.Laws.Zeros.{length-zeros}
use Rattle.rz_elf.specs.Elf.{Segment, Placed, placed, fault_of, load_bytes, load_region, image_of}
use Rattle.rz_elf.specs.Loaded.{is_load_header}
use Rattle.rz_elf.specs.PlainImage.{IsPlainImage, IsPlainRegion}
use Rattle.rz_elf.specs.Laws.HeaderList.{loads_placed}
use Rattle.rz_elf.specs.Laws.Reading.{accepted_loads}
use Rattle.rz_elf.specs.Laws.Sound.{IsSoundLoad}

-- bytes before and from a place on
all_take : (P : ℕ → Type 0) (n : ℕ) (bs : List ℕ) → AllByRecursion P bs → AllByRecursion P (take n bs)
all_take P zero bs h = tt
all_take P (suc n) [] h = tt
all_take P (suc n) (b ∷ bs) h = (h.0, all_take P n bs h.1)

all_drop : (P : ℕ → Type 0) (n : ℕ) (bs : List ℕ) → AllByRecursion P bs → AllByRecursion P (drop n bs)
all_drop P zero bs h = h
all_drop P (suc n) [] h = h
all_drop P (suc n) (b ∷ bs) h = all_drop P n bs h.1

-- two lists of bytes
all_two : (P : ℕ → Type 0) (a b : List ℕ) → AllByRecursion P a → AllByRecursion P b → AllByRecursion P (a ++ b)
all_two P [] b h k = k
all_two P (c ∷ a) b h k = (h.0, all_two P a b h.1 k)

-- zeros are bytes
all_zeros : (n : ℕ) → AllByRecursion (λ b. b < 256) (zeros n)
unfolding zeros
all_zeros zero = tt
all_zeros (suc n) = (omega arith, all_zeros n)

-- flags of a load don't allow both to write and to execute
fixed_perm : (flags : ℕ) → 4 ≤ flags → flags ≤ 6 → writes (perm_of flags) ≡ true → executes (perm_of flags) ≡ false
fixed_perm flags low high w = grind (arith, nat_tests, w)

-- a sound load is loaded as a plain region
plain_load : (x : List ℕ) (p : Placed) → AllByRecursion (λ b. b < 256) x → IsSoundLoad (length x) p → IsPlainRegion (load_region x p.segment)
plain_load x p bytes h = record {
  fixed = fixed_perm p.segment.flags h.readable h.harmless;
  low = low p.segment h.small h.high;
  bytes = all_two (λ b. b < 256) _ _ (all_take (λ b. b < 256) p.segment.filesz _ (all_drop (λ b. b < 256) p.segment.offset x bytes)) (all_zeros (p.segment.memsz - p.segment.filesz));
}
  where
    low : (s : Segment) → s.filesz ≤ s.memsz → s.vaddr + s.memsz ≤ 0x70000000 → s.vaddr + length (load_bytes x s) ≤ 0x70000000
    low s small high =
        let a = length-append (take s.filesz (drop s.offset x)) (zeros (s.memsz - s.filesz)) in
        let b = length-take s.filesz (drop s.offset x) in
        let c = length-zeros (s.memsz - s.filesz) in
        omega (arith, a, b, c, small, high)

plain_loads : (x : List ℕ) → AllByRecursion (λ b. b < 256) x → (ps : List Placed) → AllByRecursion (IsSoundLoad (length x)) ps → AllByRecursion IsPlainRegion (map (load_region x) (map (λ (p : Placed). p.segment) ps))
plain_loads x bytes [] h = tt
plain_loads x bytes (p ∷ ps) h = (plain_load x p bytes h.0, plain_loads x bytes ps h.1)

-- an accepted file of bytes
pub accepted_plain : (x : List ℕ) → AllByRecursion (λ b. b < 256) x → fault_of x ≡ None → IsPlainImage (image_of x)
unfolding image_of
accepted_plain x bytes accepted =
    subst (λ (l : List Segment). AllByRecursion IsPlainRegion (map (load_region x) l)) (loads_placed x) (plain_loads x bytes (filter is_load_header (placed x)) (accepted_loads x accepted))
