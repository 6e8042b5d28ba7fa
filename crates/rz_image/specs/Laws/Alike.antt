-- Memories that are alike outside a range answer each access outside it alike; and what every put of a byte leaves stands.
use Rattle.std.proofs.Common.{◌≡◌, ℕ, zero, suc, ◌+◌, ◌≤◌, Bool, if◌then◌else◌, List, [], ◌∷◌, Some, refl, ap₂, arith}
use Rattle.rz_image.specs.Memory.{Cell, Regions, Range, IsClear, SameCell, Alike, bytes_at, refused, is_readable, is_writable, put_byte, put_bytes, wrap}
use Rattle.rz_image.specs.Laws.Puts.{head_clear, tail_clear}

-- a shorter access is clear too
pub fewer_clear : (r : Range) (a n k : ℕ) → k ≤ n → IsClear r a n → IsClear r a k
fewer_clear r a n k le clear i lt = clear i (omega arith)

-- the same bytes are read
pub alike_bytes : (r : Range) (m m' : Regions) (a n : ℕ) → IsClear r a n → Alike r m m' → bytes_at m a n ≡ bytes_at m' a n
unfolding bytes_at
alike_bytes r m m' a zero clear h = refl
alike_bytes r m m' a (suc n) clear h = ap₂ ◌∷◌ (h.at (wrap a) (head_clear r a n clear)).byte (alike_bytes r m m' (a + 1) n (tail_clear r a n clear) h)

-- and the same address is the first that is refused
alike_refused : (test : Cell → Bool) → ((c d : Cell) → SameCell c d → test c ≡ test d) → (r : Range) (m m' : Regions) (a n : ℕ) → IsClear r a n → Alike r m m'
    → refused test m a n ≡ refused test m' a n
unfolding refused
alike_refused test same r m m' a zero clear h = refl
alike_refused test same r m m' a (suc n) clear h =
    ap₂ (λ b o. if b then o else Some (wrap a)) (same _ _ (h.at (wrap a) (head_clear r a n clear))) (alike_refused test same r m m' (a + 1) n (tail_clear r a n clear) h)

-- for a read
pub alike_readable : (r : Range) (m m' : Regions) (a n : ℕ) → IsClear r a n → Alike r m m' → refused is_readable m a n ≡ refused is_readable m' a n
alike_readable = alike_refused is_readable (λ c d s. s.read)

-- for a write
pub alike_writable : (r : Range) (m m' : Regions) (a n : ℕ) → IsClear r a n → Alike r m m' → refused is_writable m a n ≡ refused is_writable m' a n
alike_writable = alike_refused is_writable (λ c d s. s.write)

-- a property of memory that stands under a put of one byte
abbrev pub StandsPut : (Regions → Type 0) → Type 0
StandsPut P = (m : Regions) (a b : ℕ) → P m → P (put_byte m a b)

-- stands under puts of a list of bytes
pub puts_stand : (P : Regions → Type 0) → StandsPut P → (m : Regions) (a : ℕ) (bs : List ℕ) → P m → P (put_bytes m a bs)
unfolding put_bytes
puts_stand P stands m a [] h = h
puts_stand P stands m a (b ∷ bs) h = puts_stand P stands (put_byte m (wrap a) b) (a + 1) bs (stands m (wrap a) b h)
