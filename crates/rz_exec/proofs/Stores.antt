-- Many elements of a string stored at once.
use Rattle.std.proofs.Common.{◌≡◌, ℕ, zero, suc, ◌+◌, ◌-◌, ◌*◌, ◌/◌, ◌%◌, ◌^◌, ◌<◌, ◌≤◌, inr, true, false, if◌then◌else◌, List, [], ◌∷◌, ◌++◌, length, get_or, set, None, refl, sym, ap, ◌∙◌, subst, arith}
use Rattle.byteorder.specs.Endian.{little_bytes, little_number}
use Rattle.byteorder.specs.Numbers.{length-bytes_low_first}
use Rattle.rz_num.specs.declared.width.Width.{Width}
use Rattle.rz_num.specs.declared.width.Width.TheVariants.{W8, W16, W32, W64}
use Rattle.rz_num.specs.Width.{low_bits}
use Rattle.rz_flags.specs.declared.Flags.{Flags}
use Rattle.rz_image.specs.Memory.{Regions, Range, IsClear, Alike, put_bytes, refused, is_writable}
use Rattle.rz_image.specs.Word.{byte_count}
use Rattle.rz_image.specs.Laws.Alike.{alike_writable}
use Rattle.rz_image.specs.Laws.Parts.{put_parts, none_refused, puts_alike}
use Rattle.rz_exec.specs.Form.{NewValues, Effect, Completion, allowed, after_write, carry, iterate}
use Rattle.rz_exec.specs.Strings.{moved, counted, stos_effect, each_time}
use Rattle.rz_exec.specs.Calls.Carried.{pattern_of}
use Rattle.rz_exec.proofs.Iterations.{next}
use Rattle.rz_exec.proofs.Copies.{span, bytes_back}

-- so many copies of bytes, one after the other
abbrev pub copies : ℕ → List ℕ → List ℕ
copies zero bs = []
copies (suc j) bs = bs ++ copies j bs

module _ (w : Width) (flags : Flags) (up : flags.df ≡ false) (r0 r2 r3 r4 r5 r6 : ℕ) (rest : List ℕ) where
  abbrev n : ℕ
  n = byte_count w

  -- registers by RCX and RDI
  abbrev frame : (count to : ℕ) → List ℕ
  frame count to = r0 ∷ count ∷ r2 ∷ r3 ∷ r4 ∷ r5 ∷ r6 ∷ to ∷ rest

  abbrev each : List ℕ → Flags → Effect
  each = stos_effect w true

  abbrev word : ℕ
  word = low_bits w r0

  abbrev element : List ℕ
  element = little_bytes n word

  abbrev whole : List ℕ → Regions → Completion
  whole regs m = record { regs = regs; flags = flags; mem = m; exception = None }

  step_regs : (k b : ℕ) → suc k < 2 ^ 64 → b + n < 2 ^ 64 → counted true (moved w flags 7 (frame (suc k) b)) ≡ frame k (b + n)
  step_regs k b lc lb =
      let c : (suc k - 1) % 2 ^ 64 ≡ k = omega arith in
      let to : (b + n) % 2 ^ 64 ≡ b + n = omega arith in
      ap (λ d. frame ((suc k - 1) % 2 ^ 64) ((b + (if d then 2 ^ 64 - n else n)) % 2 ^ 64)) up ∙ (λ i. frame (c i) (to i))

  one : (k b : ℕ) (m : Regions) → suc k < 2 ^ 64 → b + n < 2 ^ 64 → refused is_writable m b n ≡ None
      → whole (frame k (b + n)) (put_bytes m b element) ≡ carry (each (frame (suc k) b) flags) (frame (suc k) b) flags m
  unfolding carry
  one k b m lc lb writable =
      let regs = frame (suc k) b in
      let v : NewValues = record { regs = counted true (moved w flags 7 regs); flags = flags; word = word } in
      sym (ap (λ o. after_write regs flags m v (allowed o (put_bytes m b element))) writable
      ∙ (λ i. whole (step_regs k b lc lb i) (put_bytes m b element)))

  many : (j k b : ℕ) (m : Regions) → j + k < 2 ^ 64 → b + span w j < 2 ^ 64 → refused is_writable m b (span w j) ≡ None
      → iterate (each_time each) (j + k) (frame (j + k) b) flags m ≡ iterate (each_time each) k (frame k (b + span w j)) flags (put_bytes m b (copies j element))
  unfolding put_bytes
  many zero k b m lc lb writable =
      let c : 0 + k ≡ k = omega arith in
      let to : b ≡ b + 0 = omega arith in
      λ i. iterate (each_time each) (c i) (frame (c i) (to i)) flags m
  many (suc j) k b m lc lb writable =
      let c : suc j + k ≡ suc (j + k) = omega arith in
      let s = span w j in
      let to : b + n + s ≡ b + (n + s) = omega arith in
      let write = none_refused is_writable m b n s writable in
      let m' = put_bytes m b element in
      let len : length element ≡ n = length-bytes_low_first 0 n word in
      let r : Range = record { low = b; high = b + length element } in
      let alike : Alike r m m' = puts_alike m b element (omega (arith, len)) in
      let write' : refused is_writable m' (b + n) s ≡ None = sym (alike_writable r m m' (b + n) s (clear b s element len (omega arith)) alike) ∙ write.1 in
      let put : put_bytes m' (b + n) (copies j element) ≡ put_bytes m b (element ++ copies j element) =
      ap (λ x. put_bytes m' (b + x) (copies j element)) (sym len) ∙ sym (put_parts m b element (copies j element)) in
      (λ i. iterate (each_time each) (c i) (frame (c i) b) flags m)
      ∙ next (each_time each) (j + k) (frame (suc (j + k)) b) flags m (whole (frame (j + k) (b + n)) m') (one (j + k) b m (omega arith) (omega arith) write.0) refl refl
      ∙ many j k (b + n) m' (omega arith) (omega arith) write'
      ∙ (λ i. iterate (each_time each) k (frame k (to i)) flags (put i))
    where
      clear : (b s : ℕ) (xs : List ℕ) → length xs ≡ n → b + (n + s) < 2 ^ 64 → IsClear (record { low = b; high = b + length xs }) (b + n) s
      clear b s xs len fits i lt = inr (omega arith)

-- ---- eight bytes

pub spans_8 : (w : Width) → span w (8 / byte_count w) ≡ 8
spans_8 W8 = refl
spans_8 W16 = refl
spans_8 W32 = refl
spans_8 W64 = refl

-- the bytes of the pattern
pub pattern_bytes : (w : Width) (v : ℕ) → little_bytes 8 (pattern_of w v) ≡ copies (8 / byte_count w) (little_bytes (byte_count w) (low_bits w v))
pattern_bytes W8 v =
    let a = v % 256 % 256 in
    let h : a < 256 = omega arith in
    let e : v % 2 ^ 8 * 0x0101_0101_0101_0101 ≡ little_number 8 (a ∷ a ∷ a ∷ a ∷ a ∷ a ∷ a ∷ a ∷ []) = omega arith in
    ap (little_bytes 8) e ∙ bytes_back (a ∷ a ∷ a ∷ a ∷ a ∷ a ∷ a ∷ a ∷ []) (h, (h, (h, (h, (h, (h, (h, (h, tt))))))))
pattern_bytes W16 v =
    let a = v % 2 ^ 16 % 256 in
    let b = v % 2 ^ 16 / 256 % 256 in
    let ha : a < 256 = omega arith in
    let hb : b < 256 = omega arith in
    let e : v % 2 ^ 16 * 0x0001_0001_0001_0001 ≡ little_number 8 (a ∷ b ∷ a ∷ b ∷ a ∷ b ∷ a ∷ b ∷ []) = omega arith in
    ap (little_bytes 8) e ∙ bytes_back (a ∷ b ∷ a ∷ b ∷ a ∷ b ∷ a ∷ b ∷ []) (ha, (hb, (ha, (hb, (ha, (hb, (ha, (hb, tt))))))))
pattern_bytes W32 v =
    let x = v % 2 ^ 32 in
    let a = x % 256 in
    let b = x / 256 % 256 in
    let c = x / 65536 % 256 in
    let d = x / 16777216 % 256 in
    let ha : a < 256 = omega arith in
    let hb : b < 256 = omega arith in
    let hc : c < 256 = omega arith in
    let hd : d < 256 = omega arith in
    let e : v % 2 ^ 32 * 0x1_0000_0001 ≡ little_number 8 (a ∷ b ∷ c ∷ d ∷ a ∷ b ∷ c ∷ d ∷ []) = omega arith in
    ap (little_bytes 8) e ∙ bytes_back (a ∷ b ∷ c ∷ d ∷ a ∷ b ∷ c ∷ d ∷ []) (ha, (hb, (hc, (hd, (ha, (hb, (hc, (hd, tt))))))))
pattern_bytes W64 v = refl

-- ---- registers after so many bytes

abbrev pub stored : ℕ → ℕ → List ℕ → List ℕ
stored s j regs = let moved = set regs 7 (get_or regs 7 0 + s) in set moved 1 (get_or moved 1 0 - j)

-- what is left to do after a store of s bytes stands for the whole
abbrev StoredAs : Width → ℕ → List ℕ → Flags → Regions → ℕ → Type 0
StoredAs w j regs flags m s =
    length regs ≡ 16 → flags.df ≡ false → j ≤ get_or regs 1 0 → get_or regs 1 0 < 2 ^ 64 → get_or regs 7 0 + s < 2 ^ 64 → refused is_writable m (get_or regs 7 0) s ≡ None
    → iterate (each_time (stos_effect w true)) (get_or (stored s j regs) 1 0) (stored s j regs) flags (put_bytes m (get_or regs 7 0) (copies j (little_bytes (byte_count w) (low_bits w (get_or regs 0 0)))))
    ≡ iterate (each_time (stos_effect w true)) (get_or regs 1 0) regs flags m

stored_elements : (w : Width) (j : ℕ) (regs : List ℕ) (flags : Flags) (m : Regions) → StoredAs w j regs flags m (span w j)
stored_elements w j (r0 ∷ r1 ∷ r2 ∷ r3 ∷ r4 ∷ r5 ∷ r6 ∷ r7 ∷ rest) flags m len up le lc lb writable =
    let k = r1 - j in
    let c : j + k ≡ r1 = omega arith in
    sym (subst (λ x. iterate (each_time (stos_effect w true)) x (frame w flags up r0 r2 r3 r4 r5 r6 rest x r7) flags m ≡ iterate (each_time (stos_effect w true)) k (frame w flags up r0 r2 r3 r4 r5 r6 rest k (r7 + span w j)) flags (put_bytes m r7 (copies j (little_bytes (byte_count w) (low_bits w r0)))))
    c (many w flags up r0 r2 r3 r4 r5 r6 rest j k r7 m (omega arith) lb writable))
stored_elements w j [] flags m len up le lc lb writable = absurd (omega (arith, len))
stored_elements w j (a ∷ []) flags m len up le lc lb writable = absurd (omega (arith, len))
stored_elements w j (a ∷ b ∷ []) flags m len up le lc lb writable = absurd (omega (arith, len))
stored_elements w j (a ∷ b ∷ c ∷ []) flags m len up le lc lb writable = absurd (omega (arith, len))
stored_elements w j (a ∷ b ∷ c ∷ d ∷ []) flags m len up le lc lb writable = absurd (omega (arith, len))
stored_elements w j (a ∷ b ∷ c ∷ d ∷ e ∷ []) flags m len up le lc lb writable = absurd (omega (arith, len))
stored_elements w j (a ∷ b ∷ c ∷ d ∷ e ∷ f ∷ []) flags m len up le lc lb writable = absurd (omega (arith, len))
stored_elements w j (a ∷ b ∷ c ∷ d ∷ e ∷ f ∷ g ∷ []) flags m len up le lc lb writable = absurd (omega (arith, len))

pub stored_bytes : (w : Width) (j s : ℕ) (regs : List ℕ) (flags : Flags) (m : Regions) → span w j ≡ s → StoredAs w j regs flags m s
stored_bytes w j s regs flags m e = subst (StoredAs w j regs flags m) e (stored_elements w j regs flags m)
