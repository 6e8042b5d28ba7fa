-- Words of stubs, byte by byte.
use Rattle.std.proofs.Common.{◌≡◌, ℕ, zero, suc, ◌+◌, ◌-◌, ◌*◌, ◌%◌, ◌≤◌, ◌<◌, Bool, true, false, ◌&&◌, if◌then◌else◌, nat_le, ◌==◌, List, length, get_or, drop, Option, Some, None, refl, sym, ap, ap₂, ◌∙◌, arith}
use Rattle.std.specs.Option.{option_map}
use Rattle.std.specs.List.{slice_get}
use Rattle.std.specs.Prelude.{option_and_then}
use Rattle.std.proofs.lemmas.List.{get_or-drop}
use Rattle.std.proofs.lemmas.Option.{slice_get-map, slice_get_read, slice_get_past}
use Rattle.std.proofs.lemmas.Bool.Decides.{nat_tests}
use Rattle.byteorder.specs.Endian.{little_from, little_number}
use Rattle.rz_image.specs.declared.region.Region.{Region}
use Rattle.rz_image.specs.Memory.{contains}
use Rattle.rz_elf.specs.declared.elf.Load.{Load}
use Rattle.rz_elf.specs.Format.{stub_size, stub_word_at, stubs_load}
use Rattle.rz_elf.specs.Loaded.{ElfFile, loaded_region}
use Rattle.rz_machine.specs.Stub.{word_in, stub_in, stub_at}

-- lists with the same bytes have the same number
little_from-same : (i n : ℕ) (xs ys : List ℕ) → ((k : ℕ) → k < i + n → get_or xs k 0 ≡ get_or ys k 0) → little_from i n xs ≡ little_from i n ys
little_from-same i zero xs ys same = refl
little_from-same i (suc n) xs ys same =
    ap₂ (λ (b r : ℕ). b + 256 * r) (same i (omega arith)) (little_from-same (suc i) n xs ys (λ k lt. same k (omega arith)))

-- the word at a place, of its eight bytes
pub word-from_bytes : (r : Region) (place number : ℕ) (word : List ℕ) → place + 8 ≤ length r.bytes → ((k : ℕ) → k < 8 → get_or word k 0 ≡ get_or r.bytes (place + k) 0) → number ≡ little_number 8 word → Some number ≡ word_in r place
word-from_bytes r place number word inside same e =
    let n = e ∙ little_from-same 0 8 word (drop place r.bytes) (λ k lt. same k (omega arith) ∙ sym (get_or-drop place r.bytes k 0)) in
    let test : nat_le (place + 8) (length r.bytes) ≡ true = grind (arith, nat_tests) in
    ap Some n ∙ sym (ap (λ b. if b then Some (little_number 8 (drop place r.bytes)) else None) test)

-- no word leaves its region
pub word-none : (r : Region) (place size : ℕ) → length r.bytes ≡ size → size < place + 8 → None ≡ word_in r place
word-none r place size e past =
    let test : nat_le (place + 8) (length r.bytes) ≡ false = grind (arith, nat_tests) in
    sym (ap (λ b. if b then Some (little_number 8 (drop place r.bytes)) else None) test)

-- no stub begins outside the region, nor between two
pub stub-none_outside : (at : ℕ) (r : Region) (size place : ℕ) → length r.bytes ≡ size → r.base ≤ at → place ≡ at - r.base → size ≤ place → None ≡ stub_in at r
stub-none_outside at r size place e low p past =
    let test : contains r at ≡ false = grind (arith, nat_tests) in
    sym (ap (λ b. if b && (at - r.base) % stub_size == 0 then word_in r (at - r.base + stub_word_at) else None) test)

stub_in-none : (b t : Bool) (w : Option ℕ) → t ≡ false → (if b && t then w else None) ≡ None
stub_in-none true t w e = ap (λ x. if x then w else None) e
stub_in-none false t w e = refl

pub stub-none_between : (at : ℕ) (r : Region) (place : ℕ) → place ≡ at - r.base → (place % stub_size ≡ 0 → ⊥) → None ≡ stub_in at r
stub-none_between at r place p apart =
    let test : ((at - r.base) % stub_size == 0) ≡ false = grind (arith, nat_tests) in
    sym (stub_in-none (contains r at) ((at - r.base) % stub_size == 0) (word_in r (at - r.base + stub_word_at)) test)

-- the stub at an address is that of the load of stubs, where there is one
stub_of_load : (elf : ElfFile) (at : ℕ) (o : Option Load) → slice_get elf.loads stubs_load ≡ o → option_and_then (stub_in at) (option_map (loaded_region elf.bytes) o) ≡ stub_at elf at
stub_of_load elf at o e =
    sym (ap (option_and_then (stub_in at)) (slice_get-map (loaded_region elf.bytes) elf.loads stubs_load ∙ ap (option_map (loaded_region elf.bytes)) e))

pub stub-in_load : (elf : ElfFile) (at : ℕ) (file : List ℕ) (loads : List Load) (one : Load) → file ≡ elf.bytes → loads ≡ elf.loads → stubs_load < length loads → one ≡ get_or loads stubs_load one → stub_in at (loaded_region file one) ≡ stub_at elf at
stub-in_load elf at file loads one bytes same some is =
    ap (λ (x : List ℕ). stub_in at (loaded_region x one)) bytes
    ∙ stub_of_load elf at (Some one) (ap (λ (l : List Load). slice_get l stubs_load) (sym same) ∙ slice_get_read loads (length loads) stubs_load one refl some is)

pub stub-no_load : (elf : ElfFile) (at : ℕ) (loads : List Load) → loads ≡ elf.loads → length loads ≤ stubs_load → None ≡ stub_at elf at
stub-no_load elf at loads same few =
    stub_of_load elf at None (ap (λ (l : List Load). slice_get l stubs_load) (sym same) ∙ slice_get_past loads stubs_load few)
