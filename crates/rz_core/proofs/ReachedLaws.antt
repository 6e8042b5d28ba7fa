-- Files that are read one after another.
use Rattle.std.proofs.Common.{◌≡◌, ℕ, suc, ◌+◌, ◌<◌, ◌≤◌, List, [], ◌∷◌, length, drop, get_or, inl, inr, refl, sym, ap, ◌∙◌, subst, add-one, drop-cons}
use Rattle.std.proofs.lemmas.List.{drop_all}
use Rattle.std.specs.Prelude.{Bool, IsTrue, Some}
use Rattle.rz_outside.specs.StoreAnswers.{Files}
use Rattle.rz_outside.specs.StoreCalls.{StoreCalls, Held}
use Rattle.rz_core.specs.declared.status.Status.{Status}
use Rattle.rz_core.specs.declared.plan.Wanted.{Wanted}
use Rattle.rz_core.specs.Reading.{Read, nothing, IsTaken, AreTaken, FileRefusal, IsUnread}

-- what a store held
abbrev pub HeldIn : Bool → Files → List ℕ → List ℕ → Type 0
HeldIn told files name bytes = IsTrue told → files name ≡ Some bytes

-- the rest of the reads was reached with this read: what comes of the rest comes of all
pub record IsReached (told : Bool) (files : Files) (rest reads : List Wanted) (r : Read) : Type 0 where
  pub read : (last : Read) → AreTaken (HeldIn told files) rest r last → AreTaken (HeldIn told files) reads nothing last
  pub refused : (s : StoreCalls) (st : Status) → s.told ≡ told → s.old ≡ files → IsUnread rest r s st → IsUnread reads nothing s st

pub reached_first : (told : Bool) (files : Files) (reads : List Wanted) (r : Read) → r ≡ nothing → IsReached told files reads reads r
reached_first told files reads r e =
    record {
      read = λ last h. subst (λ (x : Read). AreTaken (HeldIn told files) reads x last) e h;
      refused = λ s st t o h. subst (λ (x : Read). IsUnread reads x s st) e h;
    }

module _ (told : Bool) (files : Files) (reads : List Wanted) (i : ℕ) (w : Wanted) (inside : i < length reads) (is : w ≡ get_or reads i w) where
  splits : drop i reads ≡ w ∷ drop (i + 1) reads
  splits = rw (add-one, drop-cons reads i w inside) (ap (λ (e : Wanted). e ∷ drop (suc i) reads) (sym is))

  module _ (r : Read) (so : IsReached told files (drop i reads) reads r) where
    before : IsReached told files (w ∷ drop (i + 1) reads) reads r
    before = subst (λ (ws : List Wanted). IsReached told files ws reads r) splits so

    pub reached_next : (next : Read) → IsTaken (HeldIn told files) w r next → IsReached told files (drop (i + 1) reads) reads next
    reached_next next taken =
        record {
          read = λ last h. before.read last (next, taken, h);
          refused = λ s st t o h.
              let held : Held s w.name taken.0 = λ y. ap (λ (f : Files). f w.name) o ∙ taken.1 (subst IsTrue t y) in
              before.refused s st t o (inr (next, (taken.0, held, taken.2), h));
        }

    pub reached_not : (s : StoreCalls) (st : Status) → s.told ≡ told → s.old ≡ files → FileRefusal w r s st → IsUnread reads nothing s st
    reached_not s st t o h = before.refused s st t o (inl h)

pub reached_last : (told : Bool) (files : Files) (reads : List Wanted) (i : ℕ) (r : Read) → length reads ≤ i → IsReached told files (drop i reads) reads r → AreTaken (HeldIn told files) reads nothing r
reached_last told files reads i r past so =
    let last : IsReached told files [] reads r = subst (λ (ws : List Wanted). IsReached told files ws reads r) (drop_all i reads past) so in
    last.read r refl
