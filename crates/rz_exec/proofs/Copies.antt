-- Many elements of a string copied at once.
use Rattle.std.proofs.Common.{◌≡◌, ℕ, zero, suc, ◌+◌, ◌-◌, ◌*◌, ◌/◌, ◌%◌, ◌^◌, ◌<◌, ◌≤◌, ◌⊎◌, inl, inr, true, false, if◌then◌else◌, List, [], ◌∷◌, ◌++◌, length, get_or, set, None, refl, sym, ap, ap₂, ◌∙◌, subst, arith}
use Rattle.std.proofs.Math.Nat.{div-div-eq-div-mul, pow-succ'}
use Rattle.std.specs.Int.{byte_at, bytes_low_first}
use Rattle.byteorder.specs.Endian.{little_bytes, little_number, little_from}
use Rattle.byteorder.specs.Numbers.{little_from-cons}
use Rattle.rz_num.specs.declared.width.Width.{Width}
use Rattle.rz_num.specs.declared.width.Width.TheVariants.{W8, W16, W32, W64}
use Rattle.rz_flags.specs.declared.Flags.{Flags}
use Rattle.rz_image.specs.Memory.{Regions, Range, IsClear, Alike, bytes_at, put_bytes, refused, is_readable, is_writable}
use Rattle.rz_image.specs.Word.{byte_count}
use Rattle.rz_image.specs.Laws.Alike.{alike_bytes, alike_readable, alike_writable}
use Rattle.rz_image.specs.Laws.Parts.{bytes_parts, put_parts, none_refused, puts_alike}
use Rattle.rz_exec.specs.Form.{NewValues, Effect, Completion, allowed, after_write, after_first, carry, iterate}
use Rattle.rz_exec.specs.Calls.Carried.{AreBytes}
use Rattle.rz_exec.specs.Strings.{moved, counted, movs_effect, each_time}
use Rattle.rz_exec.proofs.Iterations.{next}

-- ---- bytes of numbers

byte_shift : (j x : ℕ) → byte_at (suc j) x ≡ byte_at j (x / 256)
byte_shift zero x = refl
byte_shift (suc j) x = ap (λ y. y % 256) (ap (λ p. x / p) (pow-succ' 256 (suc j)) ∙ sym (div-div-eq-div-mul x 256 (256 ^ suc j)))

bytes_shift : (j k x : ℕ) → bytes_low_first (suc j) k x ≡ bytes_low_first j k (x / 256)
bytes_shift j zero x = refl
bytes_shift j (suc k) x = ap₂ ◌∷◌ (byte_shift j x) (bytes_shift (suc j) k x)

-- the bytes of the number in bytes
pub bytes_back : (bs : List ℕ) → AreBytes bs → little_bytes (length bs) (little_number (length bs) bs) ≡ bs
bytes_back [] h = refl
bytes_back (b ∷ bs) h =
    let k = length bs in
    let v = little_from 0 k bs in
    let low = h.0 in
    let first : (b + 256 * v) % 256 ≡ b = omega arith in
    let others : (b + 256 * v) / 256 ≡ v = omega arith in
    ap (λ r. bytes_low_first 0 (suc k) (b + 256 * r)) (little_from-cons 0 k b bs)
    ∙ ap₂ ◌∷◌ first (bytes_shift 0 k (b + 256 * v) ∙ ap (bytes_low_first 0 k) others ∙ bytes_back bs h.1)

length_bytes : (m : Regions) (a n : ℕ) → length (bytes_at m a n) ≡ n
unfolding bytes_at
length_bytes m a zero = refl
length_bytes m a (suc n) = let e = length_bytes m (a + 1) n in omega (arith, e)

word_back : (m : Regions) (a n : ℕ) → AreBytes (bytes_at m a n) → little_bytes n (little_number n (bytes_at m a n)) ≡ bytes_at m a n
word_back m a n h = subst (λ k. little_bytes k (little_number k (bytes_at m a n)) ≡ bytes_at m a n) (length_bytes m a n) (bytes_back (bytes_at m a n) h)

bytes_of_parts : (xs ys : List ℕ) → AreBytes (xs ++ ys) → AreBytes xs × AreBytes ys
bytes_of_parts [] ys h = (tt, h)
bytes_of_parts (x ∷ xs) ys h = let p = bytes_of_parts xs ys h.1 in ((h.0, p.0), p.1)

-- ---- elements

-- how many bytes so many elements have
abbrev pub span : Width → ℕ → ℕ
span w zero = 0
span w (suc j) = byte_count w + span w j

some_byte : (w : Width) → 0 < byte_count w
some_byte W8 = omega arith
some_byte W16 = omega arith
some_byte W32 = omega arith
some_byte W64 = omega arith

few_bytes : (w : Width) → byte_count w ≤ 8
few_bytes W8 = omega arith
few_bytes W16 = omega arith
few_bytes W32 = omega arith
few_bytes W64 = omega arith

module _ (w : Width) (flags : Flags) (up : flags.df ≡ false) (r0 r2 r3 r4 r5 : ℕ) (rest : List ℕ) where
  abbrev n : ℕ
  n = byte_count w

  -- registers by RCX, RSI and RDI
  abbrev pub frame : (count from to : ℕ) → List ℕ
  frame count from to = r0 ∷ count ∷ r2 ∷ r3 ∷ r4 ∷ r5 ∷ from ∷ to ∷ rest

  abbrev each : List ℕ → Flags → Effect
  each = movs_effect w true

  abbrev whole : List ℕ → Regions → Completion
  whole regs m = record { regs = regs; flags = flags; mem = m; exception = None }

  step_regs : (k a b : ℕ) → suc k < 2 ^ 64 → a + n < 2 ^ 64 → b + n < 2 ^ 64 → counted true (moved w flags 7 (moved w flags 6 (frame (suc k) a b))) ≡ frame k (a + n) (b + n)
  step_regs k a b lc la lb =
      let c : (suc k - 1) % 2 ^ 64 ≡ k = omega arith in
      let from : (a + n) % 2 ^ 64 ≡ a + n = omega arith in
      let to : (b + n) % 2 ^ 64 ≡ b + n = omega arith in
      ap (λ d. frame ((suc k - 1) % 2 ^ 64) ((a + (if d then 2 ^ 64 - n else n)) % 2 ^ 64) ((b + (if d then 2 ^ 64 - n else n)) % 2 ^ 64)) up
      ∙ (λ i. frame (c i) (from i) (to i))

  one : (k a b : ℕ) (m : Regions) → suc k < 2 ^ 64 → a + n < 2 ^ 64 → b + n < 2 ^ 64 → AreBytes (bytes_at m a n) → refused is_readable m a n ≡ None → refused is_writable m b n ≡ None
      → whole (frame k (a + n) (b + n)) (put_bytes m b (bytes_at m a n)) ≡ carry (each (frame (suc k) a b) flags) (frame (suc k) a b) flags m
  unfolding carry
  one k a b m lc la lb bytes readable writable =
      let regs = frame (suc k) a b in
      let word = little_number n (bytes_at m a n) in
      let v : NewValues = record { regs = counted true (moved w flags 7 (moved w flags 6 regs)); flags = flags; word = word } in
      sym (ap (λ o. after_first (each regs flags) regs flags m (allowed o word)) readable
      ∙ ap (λ o. after_write regs flags m v (allowed o (put_bytes m b (little_bytes n word)))) writable
      ∙ (λ i. whole (step_regs k a b lc la lb i) (put_bytes m b (word_back m a n bytes i))))

  -- so many elements, that nothing overwrites before they are read
  pub many : (j k a b : ℕ) (m : Regions) → j + k < 2 ^ 64 → a + span w j < 2 ^ 64 → b + span w j < 2 ^ 64 → (b ≤ a) ⊎ (a + span w j ≤ b)
      → AreBytes (bytes_at m a (span w j)) → refused is_readable m a (span w j) ≡ None → refused is_writable m b (span w j) ≡ None
      → iterate (each_time each) (j + k) (frame (j + k) a b) flags m ≡ iterate (each_time each) k (frame k (a + span w j) (b + span w j)) flags (put_bytes m b (bytes_at m a (span w j)))
  unfolding bytes_at put_bytes
  many zero k a b m lc la lb apart bytes readable writable =
      let c : 0 + k ≡ k = omega arith in
      let from : a ≡ a + 0 = omega arith in
      let to : b ≡ b + 0 = omega arith in
      λ i. iterate (each_time each) (c i) (frame (c i) (from i) (to i)) flags m
  many (suc j) k a b m lc la lb apart bytes readable writable =
      let c : suc j + k ≡ suc (j + k) = omega arith in
      let s = span w j in
      let from : a + n + s ≡ a + (n + s) = omega arith in
      let to : b + n + s ≡ b + (n + s) = omega arith in
      let split = bytes_parts m a n s in
      let xs = bytes_at m a n in
      let ys = bytes_at m (a + n) s in
      let parts = bytes_of_parts xs ys (subst AreBytes split bytes) in
      let read = none_refused is_readable m a n s readable in
      let write = none_refused is_writable m b n s writable in
      let m' = put_bytes m b xs in
      let len : length xs ≡ n = length_bytes m a n in
      let r : Range = record { low = b; high = b + length xs } in
      let alike : Alike r m m' = puts_alike m b xs (omega (arith, len)) in
      let out_from : IsClear r (a + n) s = clear_from a b s xs len (omega arith) apart in
      let out_to : IsClear r (b + n) s = clear_to b s xs len (omega arith) in
      let same : ys ≡ bytes_at m' (a + n) s = alike_bytes r m m' (a + n) s out_from alike in
      let read' : refused is_readable m' (a + n) s ≡ None = sym (alike_readable r m m' (a + n) s out_from alike) ∙ read.1 in
      let write' : refused is_writable m' (b + n) s ≡ None = sym (alike_writable r m m' (b + n) s out_to alike) ∙ write.1 in
      let ih = many j k (a + n) (b + n) m' (omega arith) (omega arith) (omega arith) (later a b s apart) (subst AreBytes same parts.1) read' write' in
      let put : put_bytes m' (b + n) (bytes_at m' (a + n) s) ≡ put_bytes m b (bytes_at m a (n + s)) =
      ap (put_bytes m' (b + n)) (sym same) ∙ ap (λ x. put_bytes m' (b + x) ys) (sym len) ∙ sym (put_parts m b xs ys) ∙ ap (put_bytes m b) (sym split) in
      (λ i. iterate (each_time each) (c i) (frame (c i) a b) flags m)
      ∙ next (each_time each) (j + k) (frame (suc (j + k)) a b) flags m (whole (frame (j + k) (a + n) (b + n)) m') (one (j + k) a b m (omega arith) (omega arith) (omega arith) parts.0 read.0 write.0) refl refl
      ∙ ih
      ∙ (λ i. iterate (each_time each) k (frame k (from i) (to i)) flags (put i))
    where
      clear_from : (a b s : ℕ) (xs : List ℕ) → length xs ≡ n → a + (n + s) < 2 ^ 64 → (b ≤ a) ⊎ (a + (n + s) ≤ b) → IsClear (record { low = b; high = b + length xs }) (a + n) s
      clear_from a b s xs len fits (inl le) i lt = inr (omega arith)
      clear_from a b s xs len fits (inr le) i lt = inl (omega arith)

      clear_to : (b s : ℕ) (xs : List ℕ) → length xs ≡ n → b + (n + s) < 2 ^ 64 → IsClear (record { low = b; high = b + length xs }) (b + n) s
      clear_to b s xs len fits i lt = inr (omega arith)

      later : (a b s : ℕ) → (b ≤ a) ⊎ (a + (n + s) ≤ b) → (b + n ≤ a + n) ⊎ (a + n + s ≤ b + n)
      later a b s (inl le) = inl (omega arith)
      later a b s (inr le) = inr (omega arith)

-- ---- registers after so many elements

abbrev pub moved_by : ℕ → List ℕ → List ℕ
moved_by s regs = set (set regs 6 (get_or regs 6 0 + s)) 7 (get_or regs 7 0 + s)

abbrev pub copied : ℕ → ℕ → List ℕ → List ℕ
copied s j regs = set (moved_by s regs) 1 (get_or (moved_by s regs) 1 0 - j)

-- what is left to do after a copy of s bytes stands for the whole
abbrev Copied : Width → ℕ → List ℕ → Flags → Regions → ℕ → Type 0
Copied w j regs flags m s =
    length regs ≡ 16 → flags.df ≡ false → j ≤ get_or regs 1 0 → get_or regs 1 0 < 2 ^ 64
    → get_or regs 6 0 + s < 2 ^ 64 → get_or regs 7 0 + s < 2 ^ 64 → (get_or regs 7 0 ≤ get_or regs 6 0) ⊎ (get_or regs 6 0 + s ≤ get_or regs 7 0)
    → AreBytes (bytes_at m (get_or regs 6 0) s) → refused is_readable m (get_or regs 6 0) s ≡ None → refused is_writable m (get_or regs 7 0) s ≡ None
    → iterate (each_time (movs_effect w true)) (get_or (copied s j regs) 1 0) (copied s j regs) flags (put_bytes m (get_or regs 7 0) (bytes_at m (get_or regs 6 0) s)) ≡ iterate (each_time (movs_effect w true)) (get_or regs 1 0) regs flags m

copied_elements : (w : Width) (j : ℕ) (regs : List ℕ) (flags : Flags) (m : Regions) → Copied w j regs flags m (span w j)
copied_elements w j (r0 ∷ r1 ∷ r2 ∷ r3 ∷ r4 ∷ r5 ∷ r6 ∷ r7 ∷ rest) flags m len up le lc la lb apart bytes readable writable =
    let k = r1 - j in
    let c : j + k ≡ r1 = omega arith in
    sym (subst (λ x. iterate (each_time (movs_effect w true)) x (frame w flags up r0 r2 r3 r4 r5 rest x r6 r7) flags m ≡ iterate (each_time (movs_effect w true)) k (frame w flags up r0 r2 r3 r4 r5 rest k (r6 + span w j) (r7 + span w j)) flags (put_bytes m r7 (bytes_at m r6 (span w j))))
    c (many w flags up r0 r2 r3 r4 r5 rest j k r6 r7 m (omega arith) la lb apart bytes readable writable))
copied_elements w j [] flags m len up le lc la lb apart bytes readable writable = absurd (omega (arith, len))
copied_elements w j (a ∷ []) flags m len up le lc la lb apart bytes readable writable = absurd (omega (arith, len))
copied_elements w j (a ∷ b ∷ []) flags m len up le lc la lb apart bytes readable writable = absurd (omega (arith, len))
copied_elements w j (a ∷ b ∷ c ∷ []) flags m len up le lc la lb apart bytes readable writable = absurd (omega (arith, len))
copied_elements w j (a ∷ b ∷ c ∷ d ∷ []) flags m len up le lc la lb apart bytes readable writable = absurd (omega (arith, len))
copied_elements w j (a ∷ b ∷ c ∷ d ∷ e ∷ []) flags m len up le lc la lb apart bytes readable writable = absurd (omega (arith, len))
copied_elements w j (a ∷ b ∷ c ∷ d ∷ e ∷ f ∷ []) flags m len up le lc la lb apart bytes readable writable = absurd (omega (arith, len))
copied_elements w j (a ∷ b ∷ c ∷ d ∷ e ∷ f ∷ g ∷ []) flags m len up le lc la lb apart bytes readable writable = absurd (omega (arith, len))

pub copied_bytes : (w : Width) (j s : ℕ) (regs : List ℕ) (flags : Flags) (m : Regions) → span w j ≡ s → Copied w j regs flags m s
copied_bytes w j s regs flags m e = subst (Copied w j regs flags m) e (copied_elements w j regs flags m)

-- 64 bytes are whole elements
pub spans_64 : (w : Width) → span w (64 / byte_count w) ≡ 64
spans_64 W8 = refl
spans_64 W16 = refl
spans_64 W32 = refl
spans_64 W64 = refl

pub bytes_below : (bs : List ℕ) → ((i : ℕ) → get_or bs i 0 < 256) → AreBytes bs
bytes_below [] h = tt
bytes_below (b ∷ bs) h = (h 0, bytes_below bs (λ i. h (suc i)))
