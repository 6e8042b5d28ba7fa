-- Lists of conditions: which of them is the first that holds.
use Rattle.std.proofs.Common.{◌≡◌, ℕ, ◌+◌, ◌<◌, Bool, true, false, if◌then◌else◌, List, [], ◌∷◌, ◌++◌, length, get_or, drop, Some, None, refl, sym, ap, ◌∙◌, append-nil}
use Rattle.std.specs.List.{AllByRecursion}
use Rattle.std.proofs.lemmas.List.{drop_more}
use Rattle.rz_elf.specs.declared.fault.ElfFault.{ElfFault}
use Rattle.rz_elf.specs.declared.header_faults.HeaderFault.{HeaderFault}
use Rattle.rz_elf.specs.declared.header_faults.HeaderFault.TheVariants as kind
use Rattle.rz_elf.specs.Elf.{Placed, Condition, first_of, each, header_conditions}
use Rattle.rz_elf.specs.HeaderFaults.{of_kind, of_kinds}

-- no condition of the list holds
abbrev pub NoneHolds : List Condition → Type 0
NoneHolds cs = AllByRecursion (λ c. c.0 ≡ false) cs

pub first_of_none : (cs : List Condition) → NoneHolds cs → first_of cs ≡ None
first_of_none [] h = refl
first_of_none (c ∷ cs) h = rw (h.0) (first_of_none cs h.1)

pub NoneHolds-append : (a b : List Condition) → NoneHolds a → NoneHolds b → NoneHolds (a ++ b)
NoneHolds-append [] b h k = k
NoneHolds-append (c ∷ a) b h k = (h.0, NoneHolds-append a b h.1 k)

pub NoneHolds-each : (P : Placed → Type 0) (test : Placed → Bool) (name : ℕ → ElfFault) → ((p : Placed) → P p → test p ≡ false) → (ps : List Placed) → AllByRecursion P ps → NoneHolds (each test name ps)
NoneHolds-each P test name h [] a = tt
NoneHolds-each P test name h (p ∷ ps) a = (h p a.0, NoneHolds-each P test name h ps a.1)

-- where there is no first, no condition holds
pub none_holds : (cs : List Condition) → first_of cs ≡ None → NoneHolds cs
none_holds [] h = tt
none_holds (c ∷ cs) h = go c.0 refl h (none_holds cs)
  where
    go : (b : Bool) → c.0 ≡ b → (if b then Some c.1 else first_of cs) ≡ None → (first_of cs ≡ None → NoneHolds cs) → (c.0 ≡ false) × NoneHolds cs
    go true e h ih = absurd (cc)
    go false e h ih = (e, ih h)

-- of two lists of conditions
pub first_none : (a b : List Condition) → NoneHolds (a ++ b) → NoneHolds a
first_none [] b h = tt
first_none (c ∷ a) b h = (h.0, first_none a b h.1)

pub second_none : (a b : List Condition) → NoneHolds (a ++ b) → NoneHolds b
second_none [] b h = h
second_none (c ∷ a) b h = second_none a b h.1

pub first_left : (a b : List Condition) (f : ElfFault) → first_of a ≡ Some f → first_of (a ++ b) ≡ Some f
first_left [] b f h = absurd (cc)
first_left (c ∷ a) b f h = go c.0 h (first_left a b f)
  where
    go : (t : Bool) → (if t then Some c.1 else first_of a) ≡ Some f → (first_of a ≡ Some f → first_of (a ++ b) ≡ Some f) → (if t then Some c.1 else first_of (a ++ b)) ≡ Some f
    go true h ih = h
    go false h ih = ih h

pub first_right : (a b : List Condition) → first_of a ≡ None → first_of (a ++ b) ≡ first_of b
first_right [] b h = refl
first_right (c ∷ a) b h = go c.0 h (first_right a b)
  where
    go : (t : Bool) → (if t then Some c.1 else first_of a) ≡ None → (first_of a ≡ None → first_of (a ++ b) ≡ first_of b) → (if t then Some c.1 else first_of (a ++ b)) ≡ first_of b
    go true h ih = absurd (cc)
    go false h ih = ih h

-- one condition for each header
pub each_none : (test : Placed → Bool) (name : ℕ → ElfFault) (ps : List Placed) → NoneHolds (each test name ps) → AllByRecursion (λ p. test p ≡ false) ps
each_none test name [] h = tt
each_none test name (p ∷ ps) h = (h.0, each_none test name ps h.1)

-- all kinds in their order
abbrev pub all_kinds : List HeaderFault
all_kinds =
    kind.Dynamic ∷ kind.StackCode ∷ kind.Flags ∷ kind.WritableCode ∷ kind.SizeOrder ∷ kind.FileRange ∷ kind.Align ∷ kind.Address ∷ kind.Order ∷ kind.SharedPage ∷ []

pub kinds_together : (len : ℕ) (ps : List Placed) → of_kinds len ps all_kinds ≡ header_conditions len ps
kinds_together len ps =
    let of : HeaderFault → List Condition = of_kind len ps in
    ap (λ l. of kind.Dynamic ++ (of kind.StackCode ++ (of kind.Flags ++ (of kind.WritableCode ++ (of kind.SizeOrder ++ (of kind.FileRange ++ (of kind.Align ++ (of kind.Address ++ (of kind.Order ++ l))))))))) (append-nil (of kind.SharedPage))

module _ (len : ℕ) (ps : List Placed) (ks : List HeaderFault) (i : ℕ) (d : HeaderFault) (lt : i < length ks) where
  next_kind : of_kinds len ps (drop i ks) ≡ of_kind len ps (get_or ks i d) ++ of_kinds len ps (drop (i + 1) ks)
  next_kind = ap (of_kinds len ps) (drop_more ks i d lt)

  -- the fault of a kind that is tried
  pub kind_found : (f : ElfFault) → Some f ≡ first_of (of_kind len ps (get_or ks i d)) → Some f ≡ first_of (of_kinds len ps (drop i ks))
  kind_found f h = sym (ap first_of next_kind ∙ first_left (of_kind len ps (get_or ks i d)) _ f (sym h))

  -- a kind that no header has
  pub kind_passed : None ≡ first_of (of_kind len ps (get_or ks i d)) → first_of (of_kinds len ps (drop (i + 1) ks)) ≡ first_of (of_kinds len ps (drop i ks))
  kind_passed h = sym (ap first_of next_kind ∙ first_right (of_kind len ps (get_or ks i d)) _ (sym h))
