-- Stubs counted piece by piece from the front of a load.
use Rattle.std.proofs.Common.{◌≡◌, ℕ, zero, suc, ◌+◌, ◌-◌, ◌*◌, ◌/◌, ◌≤◌, ◌<◌, Bool, true, false, ◌&&◌, nat_eq, List, [], ◌∷◌, length, get_or, take, drop, refl, sym, ap, ap₂, ◌∙◌, arith, length-drop}
use Rattle.std.proofs.lemmas.List.{get_or-drop, get_or-take, get_or_append_left, drop-drop, length-take-le}
use Rattle.std.proofs.lemmas.List.Sums.{prefix_len-drop_yes, prefix_len-drop_no, prefix_len-drop_all}
use Rattle.std.specs.List.{prefix_len}
use Rattle.rz_image.specs.Memory.{zeros}
use Rattle.rz_elf.specs.declared.elf.Load.{Load}
use Rattle.rz_elf.specs.Format.{stub_size}
use Rattle.rz_elf.specs.Loaded.{IsLoad, loaded_region}
use Rattle.rz_elf.specs.Laws.Loads.{length-loaded, zero_past}
use Rattle.rz_report.specs.Stubs.{begins_stub, pieces, stubs_in}

-- ---- pieces

pub length-pieces : (n : ℕ) (bytes : List ℕ) → length (pieces n bytes) ≡ n
length-pieces zero bytes = refl
length-pieces (suc n) bytes = ap suc (length-pieces n (drop stub_size bytes))

pub get_or-pieces : (n : ℕ) (bytes : List ℕ) (k : ℕ) → k < n → get_or (pieces n bytes) k [] ≡ take stub_size (drop (stub_size * k) bytes)
get_or-pieces zero bytes k h = absurd (omega arith)
get_or-pieces (suc n) bytes zero h = refl
get_or-pieces (suc n) bytes (suc k) h =
    get_or-pieces n (drop stub_size bytes) k (omega arith) ∙ ap (take stub_size) (drop-drop (stub_size * k) stub_size bytes ∙ ap (λ (m : ℕ). drop m bytes) (omega arith))

-- the k pieces before begin as stubs do: one more, the first that doesn't, and none left
pub stubs-more : (bytes : List ℕ) (size k : ℕ) → length bytes ≡ size → k < size / stub_size → begins_stub (take stub_size (drop (stub_size * k) bytes)) ≡ true
    → k + prefix_len begins_stub (drop k (pieces (length bytes / stub_size) bytes)) ≡ stubs_in bytes
    → k + 1 + prefix_len begins_stub (drop (k + 1) (pieces (length bytes / stub_size) bytes)) ≡ stubs_in bytes
stubs-more bytes size k e h is so =
    let count = ap (λ (m : ℕ). m / stub_size) e in
    let all = length-pieces (length bytes / stub_size) bytes in
    let here = prefix_len-drop_yes begins_stub (pieces (length bytes / stub_size) bytes) k [] (omega (arith, h, count, all)) (ap begins_stub (get_or-pieces (length bytes / stub_size) bytes k (omega (arith, h, count))) ∙ is) in
    omega (arith, here, so)

pub stubs-last : (bytes : List ℕ) (size k : ℕ) → length bytes ≡ size → k < size / stub_size → begins_stub (take stub_size (drop (stub_size * k) bytes)) ≡ false
    → k + prefix_len begins_stub (drop k (pieces (length bytes / stub_size) bytes)) ≡ stubs_in bytes → k ≡ stubs_in bytes
stubs-last bytes size k e h is so =
    let count = ap (λ (m : ℕ). m / stub_size) e in
    let all = length-pieces (length bytes / stub_size) bytes in
    let here = prefix_len-drop_no begins_stub (pieces (length bytes / stub_size) bytes) k [] (omega (arith, h, count, all)) (ap begins_stub (get_or-pieces (length bytes / stub_size) bytes k (omega (arith, h, count))) ∙ is) in
    omega (arith, here, so)

pub stubs-all : (bytes : List ℕ) (size k : ℕ) → length bytes ≡ size → k ≤ size / stub_size → size / stub_size ≤ k
    → k + prefix_len begins_stub (drop k (pieces (length bytes / stub_size) bytes)) ≡ stubs_in bytes → size / stub_size ≡ stubs_in bytes
stubs-all bytes size k e low high so =
    let count = ap (λ (m : ℕ). m / stub_size) e in
    let all = length-pieces (length bytes / stub_size) bytes in
    let here = prefix_len-drop_all begins_stub (pieces (length bytes / stub_size) bytes) k (omega (arith, high, count, all)) in
    omega (arith, low, high, here, so)

-- ---- the first two bytes

begins-two : (xs : List ℕ) → 2 ≤ length xs → begins_stub xs ≡ begins_stub (get_or xs 0 0 ∷ get_or xs 1 0 ∷ [])
begins-two [] h = absurd (omega arith)
begins-two (x ∷ []) h = absurd (omega arith)
begins-two (x ∷ y ∷ rest) h = refl

and_false : (b : Bool) → (b && false) ≡ false
and_false true = refl
and_false false = refl

-- the bytes of a piece
at_piece : (bytes : List ℕ) (place k : ℕ) → k < stub_size → get_or (take stub_size (drop place bytes)) k 0 ≡ get_or bytes (place + k) 0
at_piece bytes place k h = get_or-take stub_size (drop place bytes) k 0 h ∙ get_or-drop place bytes k 0

begins-piece : (bytes : List ℕ) (place : ℕ) → place + stub_size ≤ length bytes → begins_stub (take stub_size (drop place bytes)) ≡ begins_stub (get_or bytes place 0 ∷ get_or bytes (place + 1) 0 ∷ [])
begins-piece bytes place h =
    let n = length-take-le stub_size (drop place bytes) (omega (arith, length-drop place bytes)) in
    begins-two (take stub_size (drop place bytes)) (omega arith)
    ∙ ap₂ (λ (x y : ℕ). begins_stub (x ∷ y ∷ [])) (at_piece bytes place 0 (omega arith) ∙ ap (λ (k : ℕ). get_or bytes k 0) (omega arith)) (at_piece bytes place 1 (omega arith))

-- where both bytes are of the file
at_file : (file : List ℕ) (l : Load) (place : ℕ) → IsLoad (length file) l → place < l.file_size → get_or (loaded_region file l).bytes place 0 ≡ get_or file (l.file_at + place) 0
at_file file l place is h =
    let inside = is.inside in
    let n = length-take-le l.file_size (drop l.file_at file) (omega (arith, length-drop l.file_at file)) in
    get_or_append_left (take l.file_size (drop l.file_at file)) (zeros (l.size - l.file_size)) 0 place (omega arith)
    ∙ get_or-take l.file_size (drop l.file_at file) place 0 h ∙ get_or-drop l.file_at file place 0

pub begins-file : (file : List ℕ) (l : Load) (place : ℕ) → IsLoad (length file) l → place + stub_size ≤ l.size → place + 2 ≤ l.file_size
    → begins_stub (drop (l.file_at + place) file) ≡ begins_stub (take stub_size (drop place (loaded_region file l).bytes))
begins-file file l place is whole stored =
    let inside = is.inside in
    let size = length-loaded file l is in
    let left = length-drop (l.file_at + place) file in
    let first = at_file file l place is (omega arith) in
    let second = at_file file l (place + 1) is (omega arith) in
    begins-two (drop (l.file_at + place) file) (omega arith)
    ∙ ap₂ (λ (x y : ℕ). begins_stub (x ∷ y ∷ []))
    (get_or-drop (l.file_at + place) file 0 0 ∙ ap (λ (k : ℕ). get_or file k 0) (omega arith) ∙ sym first)
    (get_or-drop (l.file_at + place) file 1 0 ∙ ap (λ (k : ℕ). get_or file k 0) (omega arith) ∙ sym second)
    ∙ sym (begins-piece (loaded_region file l).bytes place (omega arith))

-- where the second isn't, it is zero
pub begins-past : (file : List ℕ) (l : Load) (place : ℕ) → IsLoad (length file) l → place + stub_size ≤ l.size → l.file_size < place + 2
    → begins_stub (take stub_size (drop place (loaded_region file l).bytes)) ≡ false
begins-past file l place is whole past =
    let size = length-loaded file l is in
    begins-piece (loaded_region file l).bytes place (omega arith)
    ∙ ap (λ (y : ℕ). begins_stub (get_or (loaded_region file l).bytes place 0 ∷ y ∷ [])) (zero_past file l (place + 1) is (omega arith))
    ∙ and_false (nat_eq 0x0f (get_or (loaded_region file l).bytes place 0))
