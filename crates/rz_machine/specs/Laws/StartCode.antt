-- The code of a state at the start is that of the loads.
use Rattle.std.proofs.Common.{◌≡◌, ℕ, ◌-◌, ◌⊎◌, inl, inr, ⊎_elim, Bool, true, false, ◌&&◌, if◌then◌else◌, nat_lt, [], ◌∷◌, ◌++◌, refl, ap, sym, ◌∙◌}
use Rattle.std.specs.List.{AllByRecursion}
use Rattle.rz_image.specs.Perm.{writes, executes}
use Rattle.rz_image.specs.Memory.{Cell}
use Rattle.rz_sys.specs.declared.input.Input.{Input}
use Rattle.rz_image.specs.Memory.{Regions, no_cell, contains, cell_in, cell_at, code_of, NoSelfWritten}
use Rattle.rz_elf.specs.Elf.{Image}
use Rattle.rz_machine.specs.Start.{start, heap_region, stack_region}
use Rattle.rz_machine.specs.Simulates.{HasCode}

-- an address is in the first regions, or it has no cell there and that of the rest
pub cell_at-append : (m n : Regions) (a : ℕ) → (cell_at (m ++ n) a ≡ cell_at m a) ⊎ ((cell_at m a ≡ no_cell) × (cell_at (m ++ n) a ≡ cell_at n a))
unfolding cell_at
cell_at-append [] n a = inr (refl, refl)
cell_at-append (r ∷ rs) n a = go (contains r a) (cell_at-append rs n a)
  where
    here : Bool → Cell → Cell
    here b rest = if b then cell_in r (a - r.base) else rest

    go : (b : Bool) → (cell_at (rs ++ n) a ≡ cell_at rs a) ⊎ ((cell_at rs a ≡ no_cell) × (cell_at (rs ++ n) a ≡ cell_at n a))
        → (here b (cell_at (rs ++ n) a) ≡ here b (cell_at rs a)) ⊎ ((here b (cell_at rs a) ≡ no_cell) × (here b (cell_at (rs ++ n) a) ≡ cell_at n a))
    go true ih = inl refl
    go false ih = ih

-- no region may be executed
abbrev pub NoneExecuted : Regions → Type 0
NoneExecuted m = AllByRecursion (λ r. executes r.perm ≡ false) m

and_false : (x y : Bool) → y ≡ false → (x && y) ≡ false
and_false true y e = e
and_false false y e = refl

no_code : (m : Regions) (a : ℕ) → NoneExecuted m → (cell_at m a).execute ≡ false
unfolding cell_at
no_code [] a h = refl
no_code (r ∷ rs) a h = go (contains r a) (no_code rs a h.1)
  where
    go : (b : Bool) → (cell_at rs a).execute ≡ false → (if b then cell_in r (a - r.base) else cell_at rs a).execute ≡ false
    go true ih = and_false (nat_lt (a - r.base) r.opened) (executes r.perm) h.0
    go false ih = ih

-- regions that may not be executed add no code
pub HasCode-append : (m n : Regions) → NoSelfWritten m → NoneExecuted n → HasCode m (m ++ n)
HasCode-append m n fixed none = record { same = record { at = same }; fixed = record { at = apart } }
  where
    no_byte : (c : Cell) → c.execute ≡ false → code_of no_cell ≡ code_of c
    no_byte c e = rw e refl

    same : (a : ℕ) → code_of (cell_at m a) ≡ code_of (cell_at (m ++ n) a)
    same a =
        ⊎_elim (λ e. ap code_of (sym e)) (λ p. ap code_of p.0 ∙ no_byte (cell_at n a) (no_code n a none) ∙ ap code_of (sym p.1)) (cell_at-append m n a)

    apart : (a : ℕ) → (cell_at (m ++ n) a).write ≡ true → (cell_at (m ++ n) a).execute ≡ false
    apart a w =
        ⊎_elim (λ e. ap (λ c. c.execute) e ∙ fixed.at a (ap (λ c. c.write) (sym e) ∙ w)) (λ p. ap (λ c. c.execute) p.1 ∙ no_code n a none) (cell_at-append m n a)

-- the heap and the stack have no code
pub start_code : (x : Image) (input : Input) → NoSelfWritten x.loads → HasCode x.loads (start x input).mem
start_code x input fixed = HasCode-append x.loads (heap_region x.first_break ∷ stack_region input ∷ []) fixed (refl, (refl, tt))

-- none of the regions may be both written and executed
abbrev pub NoneSelfWritten : Regions → Type 0
NoneSelfWritten m = AllByRecursion (λ r. writes r.perm ≡ true → executes r.perm ≡ false) m

both_parts : (o w x : Bool) → (w ≡ true → x ≡ false) → (o && w) ≡ true → (o && x) ≡ false
both_parts true w x f e = f e
both_parts false w x f e = refl

cells_apart : (m : Regions) (a : ℕ) → NoneSelfWritten m → (cell_at m a).write ≡ true → (cell_at m a).execute ≡ false
unfolding cell_at
cells_apart [] a h e = refl
cells_apart (r ∷ rs) a h e = go (contains r a) (cells_apart rs a h.1) e
  where
    here : Bool → Cell
    here b = if b then cell_in r (a - r.base) else cell_at rs a

    go : (b : Bool) → ((cell_at rs a).write ≡ true → (cell_at rs a).execute ≡ false) → (here b).write ≡ true → (here b).execute ≡ false
    go true ih e = both_parts (nat_lt (a - r.base) r.opened) (writes r.perm) (executes r.perm) h.0 e
    go false ih e = ih e

pub NoSelfWritten-from_regions : (m : Regions) → NoneSelfWritten m → NoSelfWritten m
NoSelfWritten-from_regions m h = record { at = λ a. cells_apart m a h }
