-- The added parts of a rewritten file: where they lie, and that fragments and stubs fit them.
use Rattle.std.proofs.Common.{◌≡◌, ℕ, ◌+◌, ◌-◌, ◌*◌, ◌≤◌, Bool, true, false, ◌||◌, if◌then◌else◌, ◌==◌, List, [], ◌∷◌, ◌++◌, length, replicate, refl, sym, ap, ◌∙◌, subst, arith, append_assoc, length-append, eqb-true}
use Rattle.std.specs.List.{AllByRecursion}
use Rattle.std.proofs.lemmas.List.{length-replicate}
use Rattle.rz_num.specs.Page.{page_up}
use Rattle.rz_image.specs.Memory.{Regions}
use Rattle.rz_machine.specs.Added.{index_of}
use Rattle.rz_elf.specs.Format.{int3, stub_size, stub_bytes, all_stubs}
use Rattle.rz_elf.specs.AddedRange.{Added, lowest, parts_below, scratch_size, filled}
use Rattle.rz_machine.specs.Kept.{has_node}
use Rattle.rz_elf.specs.PlainImage.{IsPlainRegion}
use Rattle.rz_machine.specs.Laws.Placed.{BytesAt, bytes_front, bytes_back}

-- rounding up doesn't lower
pub page_up-least : (n : ℕ) → n ≤ page_up n
page_up-least n = omega arith

-- the lowest load of a plain image begins at a low address
pub lowest_low : (m : Regions) → AllByRecursion IsPlainRegion m → lowest m ≤ 0x70000000
lowest_low [] h = omega arith
lowest_low (r ∷ []) h = let p = h.0.low in omega (arith, p)
lowest_low (r ∷ s ∷ rest) h = let p = h.0.low in omega (arith, p)

-- where the parts of a file lie, by their sizes
pub record Lie (a : Added) (base t c s : ℕ) : Type 0 where
  pub scratch : base ≡ a.scratch
  pub code : base + scratch_size + t ≡ a.code
  pub stubs : base + scratch_size + t + c ≡ a.stubs
  pub stop : base + scratch_size + t + c + s ≡ a.stop

-- parts of these sizes lie one after the other up to the stop
pub parts_lie : (tables_len code_len stubs_len stop base t c s : ℕ) → scratch_size + tables_len + code_len + stubs_len ≤ stop
    → let a = parts_below tables_len code_len stubs_len stop in base ≡ a.scratch → t ≡ a.code - a.tables → c ≡ a.stubs - a.code → s ≡ a.stop - a.stubs → Lie a base t c s
parts_lie tables_len code_len stubs_len stop base t c s room b tl cl sl = record { scratch = b; code = omega arith; stubs = omega arith; stop = omega arith }

-- parts that fit are as long as their sizes say
pub code_size_is : (code_len stubs_len stop : ℕ) → code_len + stubs_len ≤ stop → stop - stubs_len - (stop - stubs_len - code_len) ≡ code_len
code_size_is code_len stubs_len stop room = omega arith

pub stubs_size_is : (stubs_len stop : ℕ) → stubs_len ≤ stop → stop - (stop - stubs_len) ≡ stubs_len
stubs_size_is stubs_len stop room = omega arith

-- a part filled up is as long as it should be
pub length-filled : (len : ℕ) (bytes : List ℕ) → length bytes ≤ len → length (filled len bytes) ≡ len
length-filled len bytes h = let a = length-append bytes (replicate (len - length bytes) int3) in let b = length-replicate {A = ℕ} (len - length bytes) int3 in omega (arith, a, b)

-- so many bytes a stub
pub length-all_stubs : (from : ℕ) (nodes : List ℕ) → length (all_stubs from nodes) ≡ stub_size * length nodes
length-all_stubs from [] = refl
length-all_stubs from (a ∷ nodes) = let e = length-append (stub_bytes from a) (all_stubs (from + stub_size) nodes) in let h = length-all_stubs (from + stub_size) nodes in omega (arith, e, h)

-- a place in a list is not past its end
pub index_low : (nodes : List ℕ) (a : ℕ) → index_of nodes a ≤ length nodes
index_low [] a = omega arith
index_low (c ∷ nodes) a = go (c == a) (index_low nodes a)
  where
    go : (b : Bool) → index_of nodes a ≤ length nodes → (if b then 0 else 1 + index_of nodes a) ≤ length (c ∷ nodes)
    go true h = omega arith
    go false h = omega (arith, h)

-- the stub of a node stands at its place
pub stub_found : (m : Regions) (base a : ℕ) (nodes fill : List ℕ) → has_node nodes a ≡ true → BytesAt m base (all_stubs base nodes ++ fill)
    → let at = base + stub_size * index_of nodes a in BytesAt m at (stub_bytes at a)
stub_found m base a [] fill e h = absurd (cc)
stub_found m base a (c ∷ nodes) fill e h =
    go (c == a) refl (λ f. stub_found m (base + stub_size) a nodes fill f (bytes_back m base (stub_bytes base c) rest split))
  where
    rest : List ℕ
    rest = all_stubs (base + stub_size) nodes ++ fill

    split : BytesAt m base (stub_bytes base c ++ rest)
    split = subst (BytesAt m base) (append_assoc (stub_bytes base c) (all_stubs (base + stub_size) nodes) fill) h

    StubAt : ℕ → Type 0
    StubAt p = BytesAt m p (stub_bytes p a)

    go : (b : Bool) → (c == a) ≡ b → (has_node nodes a ≡ true → StubAt (base + stub_size + stub_size * index_of nodes a)) → StubAt (base + stub_size * (if b then 0 else 1 + index_of nodes a))
    go true f ih =
        let same : c ≡ a = eqb-true c a f in
        let n : base ≡ base + stub_size * 0 = omega arith in
        subst StubAt n (bytes_front m base (stub_bytes base a) rest (subst (λ (k : ℕ). BytesAt m base (stub_bytes base k ++ rest)) same split))
    go false f ih =
        let later : has_node nodes a ≡ true = ap (λ t. t || has_node nodes a) (sym f) ∙ e in
        let n : base + stub_size + stub_size * index_of nodes a ≡ base + stub_size * (1 + index_of nodes a) = omega arith in
        subst StubAt n (ih later)
