-- Files that differ in `e_shoff`, in the last six bytes of the file header, and by what stands behind them.
use Rattle.std.proofs.Common.{◌≡◌, ℕ, zero, suc, ◌+◌, ◌-◌, ◌*◌, ◌≤◌, List, [], ◌∷◌, ◌++◌, length, take, drop, refl, sym, ap, ap₂, ◌∙◌, arith, append_assoc, append-nil, length-append, length-take-le, length-drop, drop-drop}
use Rattle.std.proofs.lemmas.List.{drop_at, take-append-le, drop-append-le, take-append-drop}
use Rattle.byteorder.specs.Endian.{little_bytes, little_number}
use Rattle.byteorder.specs.Numbers.{little_from-take}
use Rattle.rz_elf.specs.Elf.{field, file_header, segment_of, segments_of}
use Rattle.rz_label.specs.Labelled.{with_sections_at}

-- what stands behind a front doesn't show in it
front_only : (n i : ℕ) (front r s : List ℕ) → i + n ≤ length front → take n (drop i (front ++ r)) ≡ take n (drop i (front ++ s))
front_only n i front r s le =
    let len = length-drop i front in
    let inside : n ≤ length (drop i front) = omega (arith, len, le) in
    let within : i ≤ length front = omega (arith, le) in
    ap (take n) (drop-append-le i front r within)
    ∙ take-append-le n (drop i front) r inside
    ∙ sym (take-append-le n (drop i front) s inside)
    ∙ ap (take n) (sym (drop-append-le i front s within))

-- the bytes of a field are the field
pub field_by_bytes : (n i : ℕ) (a b : List ℕ) → take n (drop i a) ≡ take n (drop i b) → field a i n ≡ field b i n
field_by_bytes n i a b e =
    let le : 0 + n ≤ n = omega arith in
    sym (little_from-take 0 n n (drop i a) le) ∙ ap (little_number n) e ∙ little_from-take 0 n n (drop i b) le

-- fields of bytes with the same front
field_in_front : (m n i : ℕ) (a b : List ℕ) → i + n ≤ m → m ≤ length a → take m a ≡ take m b → field a i n ≡ field b i n
field_in_front m n i a b le within e =
    let len = length-take-le m a within in
    field_by_bytes n i a b
    (ap (λ z. take n (drop i z)) (sym (take-append-drop m a))
    ∙ front_only n i (take m a) (drop m a) (drop m b) (omega (arith, len, le))
    ∙ ap (λ f. take n (drop i (f ++ drop m b))) e
    ∙ ap (λ z. take n (drop i z)) (take-append-drop m b))

module _ (x : List ℕ) (at : ℕ) (tail : List ℕ) (whole : 64 ≤ length x) where
  abbrev pub changed : List ℕ
  changed = with_sections_at x at ++ tail

  -- what stands in the place of the last six bytes
  numbers : List ℕ
  numbers = little_bytes 2 64 ++ (little_bytes 2 6 ++ little_bytes 2 5)

  -- the first 40 bytes, the next eight, ten more, and the last six of the header
  header : List ℕ
  header = take 40 x ++ (little_bytes 8 at ++ (take 10 (drop 48 x) ++ (little_bytes 2 64 ++ (little_bytes 2 6 ++ little_bytes 2 5))))

  len40 : length (take 40 x) ≡ 40
  len40 = length-take-le 40 x (omega (arith, whole))

  len10 : length (take 10 (drop 48 x)) ≡ 10
  len10 = let d = length-drop 48 x in length-take-le 10 (drop 48 x) (omega (arith, d, whole))

  len_header : length header ≡ 64
  unfolding header
  len_header =
      let a = length-append (take 40 x) (little_bytes 8 at ++ (take 10 (drop 48 x) ++ (little_bytes 2 64 ++ (little_bytes 2 6 ++ little_bytes 2 5)))) in
      let b = length-append (take 10 (drop 48 x)) (little_bytes 2 64 ++ (little_bytes 2 6 ++ little_bytes 2 5)) in
      let d = len40 in
      let e = len10 in
      omega (arith, a, b, d, e)

  split : changed ≡ header ++ (drop 64 x ++ tail)
  unfolding header
  split = simp append_assoc

  -- the bytes before `e_shoff`
  pub low : (n i : ℕ) → i + n ≤ 40 → take n (drop i changed) ≡ take n (drop i x)
  low n i le =
      let rest = little_bytes 8 at ++ (take 10 (drop 48 x) ++ (little_bytes 2 64 ++ (little_bytes 2 6 ++ (little_bytes 2 5 ++ drop 64 x)))) in
      let len = len40 in
      ap (λ z. take n (drop i z)) (append_assoc (take 40 x) rest tail)
      ∙ front_only n i (take 40 x) (rest ++ tail) (drop 40 x) (omega (arith, le, len))
      ∙ ap (λ z. take n (drop i z)) (take-append-drop 40 x)

  -- the ten bytes behind it
  pub middle : (n j : ℕ) → j + n ≤ 10 → take n (drop (48 + j) changed) ≡ take n (drop (48 + j) x)
  middle n j le =
      let rest = little_bytes 2 64 ++ (little_bytes 2 6 ++ (little_bytes 2 5 ++ drop 64 x)) in
      let front = take 40 x ++ little_bytes 8 at in
      let len = len40 in
      let all = length-append (take 40 x) (little_bytes 8 at) in
      let parted : changed ≡ front ++ (take 10 (drop 48 x) ++ (rest ++ tail)) = simp append_assoc in
      let behind : drop 48 changed ≡ take 10 (drop 48 x) ++ (rest ++ tail) = ap (drop 48) parted ∙ drop_at front (take 10 (drop 48 x) ++ (rest ++ tail)) 48 (omega (arith, len, all)) in
      let len2 = len10 in
      ap (take n) (sym (drop-drop j 48 changed))
      ∙ ap (λ z. take n (drop j z)) behind
      ∙ front_only n j (take 10 (drop 48 x)) (rest ++ tail) (drop 10 (drop 48 x)) (omega (arith, le, len2))
      ∙ ap (λ z. take n (drop j z)) (take-append-drop 10 (drop 48 x))
      ∙ ap (take n) (drop-drop j 48 x)

  -- the bytes behind the header
  pub high : (n i : ℕ) → 64 ≤ i → i + n ≤ length x → take n (drop i changed) ≡ take n (drop i x)
  high n i past le =
      let behind : drop 64 changed ≡ drop 64 x ++ tail = ap (drop 64) split ∙ drop_at header (drop 64 x ++ tail) 64 len_header in
      let to : 64 + (i - 64) ≡ i = omega (arith, past) in
      let len = length-drop 64 x in
      ap (λ k. take n (drop k changed)) (sym to)
      ∙ ap (take n) (sym (drop-drop (i - 64) 64 changed))
      ∙ ap (λ z. take n (drop (i - 64) z)) behind
      ∙ front_only n (i - 64) (drop 64 x) tail [] (omega (arith, le, len, past))
      ∙ ap (λ z. take n (drop (i - 64) z)) (append-nil (drop 64 x))
      ∙ ap (take n) (drop-drop (i - 64) 64 x)
      ∙ ap (λ k. take n (drop k x)) to

  pub len_changed : length changed ≡ length x + length tail
  len_changed =
      let a = ap length split in
      let b = length-append header (drop 64 x ++ tail) in
      let d = length-append (drop 64 x) tail in
      let e = length-drop 64 x in
      let f = len_header in
      omega (arith, a, b, d, e, f, whole)

  -- so the fields that are read are the same
  pub same_header : file_header changed ≡ file_header x
  same_header =
      let h0 = field_by_bytes 2 16 changed x (low 2 16 (omega arith)) in
      let h1 = field_by_bytes 2 18 changed x (low 2 18 (omega arith)) in
      let h2 = field_by_bytes 4 20 changed x (low 4 20 (omega arith)) in
      let h3 = field_by_bytes 8 24 changed x (low 8 24 (omega arith)) in
      let h4 = field_by_bytes 8 32 changed x (low 8 32 (omega arith)) in
      let h5 = field_by_bytes 2 52 changed x (middle 2 4 (omega arith)) in
      let h6 = field_by_bytes 2 54 changed x (middle 2 6 (omega arith)) in
      let h7 = field_by_bytes 2 56 changed x (middle 2 8 (omega arith)) in
      λ i. record { file_type = h0 i; machine = h1 i; version = h2 i; entry = h3 i; table_at = h4 i; header_size = h5 i; entry_size = h6 i; count = h7 i }

  same_segment : (t : ℕ) → 64 ≤ t → t + 56 ≤ length x → segment_of (drop t changed) ≡ segment_of (drop t x)
  same_segment t past le =
      let e = high 56 t past le in
      let len = length-drop t changed in
      let total = len_changed in
      let within : 56 ≤ length (drop t changed) = omega (arith, len, total, le) in
      let at_field : (n i : ℕ) → i + n ≤ 56 → field (drop t changed) i n ≡ field (drop t x) i n = λ n i h. field_in_front 56 n i (drop t changed) (drop t x) h within e in
      let h0 = at_field 4 0 (omega arith) in
      let h1 = at_field 4 4 (omega arith) in
      let h2 = at_field 8 8 (omega arith) in
      let h3 = at_field 8 16 (omega arith) in
      let h4 = at_field 8 24 (omega arith) in
      let h5 = at_field 8 32 (omega arith) in
      let h6 = at_field 8 40 (omega arith) in
      let h7 = at_field 8 48 (omega arith) in
      λ i. record { kind = h0 i; flags = h1 i; offset = h2 i; vaddr = h3 i; paddr = h4 i; filesz = h5 i; memsz = h6 i; align = h7 i }

  -- and so are program headers behind the file header
  pub same_segments : (n t : ℕ) → 64 ≤ t → t + 56 * n ≤ length x → segments_of n (drop t changed) ≡ segments_of n (drop t x)
  same_segments zero t past le = refl
  same_segments (suc n) t past le =
      let first = same_segment t past (omega (arith, le)) in
      let rest = same_segments n (t + 56) (omega (arith, past)) (omega (arith, le)) in
      ap₂ (λ s ss. s ∷ ss) first (ap (segments_of n) (drop-drop 56 t changed) ∙ rest ∙ ap (segments_of n) (sym (drop-drop 56 t x)))
