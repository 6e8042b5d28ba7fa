-- A cache of decoded instructions serves a run: its entries stand for each memory of it.
use Rattle.std.proofs.Common.{◌≡◌, ℕ, ⊎_elim, Bool, true, false, ◌&&◌, not, List, [], ◌∷◌, length, get_or, All, Option, Some, None, is_some, Result, Ok, Err, OnOk, OnErr, refl, sym, ap, ◌∙◌, subst, arith}
use Rattle.std.specs.List.{AllByRecursion, AllClonesOf, list_all}
use Rattle.std.proofs.lemmas.List.Elements.{All-from_recursion}
use Rattle.rz_image.specs.Perm.{writes, executes}
use Rattle.rz_image.specs.Apart.{is_apart, are_apart}
use Rattle.rz_image.specs.Memory.{Regions, SameCode, NoSelfWritten}
use Rattle.rz_isa.specs.Nodes.{Decoder}
use Rattle.rz_sys.specs.Heap.{HasHeap}
use Rattle.rz_machine.specs.declared.cache.Entry.{Entry}
use Rattle.rz_machine.specs.declared.cache.DecodeCache.{DecodeCache}
use Rattle.rz_machine.specs.declared.machine.Machine.{Machine}
use Rattle.rz_machine.specs.declared.machine.End.{End}
use Rattle.rz_machine.specs.State.{step, act, running, decoded_at}
use Rattle.rz_isa.specs.declared.decoding.Decoded.{Decoded}
use Rattle.rz_isa.specs.declared.decoding.Decoded.TheVariants as decodeds
use Rattle.rz_isa.specs.declared.rows.Row.{Row}
use Rattle.rz_isa.specs.Decoded.{decoded}
use Rattle.rz_exec.specs.Laws.Named.{decoded_named}
use Rattle.rz_machine.specs.Calls.Cache.{HasNames, IsEntry, Serves}
use Rattle.rz_machine.specs.Laws.Code.{fetch_same, step_code}
use Rattle.rz_machine.specs.Laws.StartCode.{NoneSelfWritten, NoSelfWritten-from_regions}

-- regions that are apart
regions_apart : (m : Regions) → are_apart m ≡ true → NoneSelfWritten m
regions_apart [] h = tt
regions_apart (r ∷ rs) h =
    (here (writes r.perm) (executes r.perm) (list_all is_apart rs) h, regions_apart rs (rest (writes r.perm) (executes r.perm) (list_all is_apart rs) h))
  where
    here : (w x o : Bool) → (not (w && x) && o) ≡ true → w ≡ true → x ≡ false
    here true true o h e = cc
    here true false o h e = refl
    here false x o h e = cc

    rest : (w x o : Bool) → (not (w && x) && o) ≡ true → o ≡ true
    rest true true o h = cc
    rest true false o h = h
    rest false x o h = h

pub NoSelfWritten-from_test : (m : Regions) → are_apart m ≡ true → NoSelfWritten m
NoSelfWritten-from_test m h = NoSelfWritten-from_regions m (regions_apart m h)

-- copies of an element
pub All-clones : {A : Type 0} (P : A → Type 0) (clones : A → A → Type 0) (x : A) (ys : List A) → ((y : A) → clones x y → y ≡ x) → P x → AllClonesOf clones x ys → All P ys
All-clones {A} P clones x ys exact p h = All-from_recursion P ys (each ys h)
  where
    each : (ys : List A) → AllClonesOf clones x ys → AllByRecursion P ys
    each [] h = tt
    each (y ∷ ys) h = (subst P (sym (⊎_elim (λ e. e) (exact y) h.0)) p, each ys h.1)

module _ (dec : Decoder) where
  entries_same : (m n : Regions) (es : List Entry) → SameCode m n → All (IsEntry dec m) es → All (IsEntry dec n) es
  entries_same m n es h all = λ k d lt. all k d lt ∙ ap (λ bytes. dec bytes (get_or es k d).at) (fetch_same m n (get_or es k d).at 15 h)

  none_same : (n : Regions) (es : List Entry) → length es ≡ 0 → All (IsEntry dec n) es
  none_same n es none = λ k d lt. absurd (omega (arith, none, lt))

  -- after a step
  pub Serves-step : (s : Machine) (c : DecodeCache) → HasHeap s.mem s.world → Serves dec s.mem c → Serves dec (step dec s).mem c
  Serves-step s c heap h = go c.is_used refl
    where
      go : (used : Bool) → c.is_used ≡ used → Serves dec (step dec s).mem c
      go true e =
          let code = step_code s.mem dec s heap (record { same = record { at = λ a. refl }; fixed = h.fixed e }) in
          record { entries = entries_same s.mem (step dec s).mem c.entries.items code.same h.entries; fixed = λ u. code.fixed; unused = h.unused }
      go false e =
          record { entries = none_same (step dec s).mem c.entries.items (h.unused e); fixed = λ u. absurd (cc (e, u)); unused = h.unused }

  -- a step of a state that has not ended
  step_act : (s : Machine) (d : Decoded) → is_some s.end ≡ false → d ≡ decoded_at dec s → step dec s ≡ act d s
  unfolding step
  step_act s d runs is = go s.end runs
    where
      go : (o : Option End) → is_some o ≡ false → running o dec s ≡ act d s
      go None h = ap (λ e. act e s) (sym is)
      go (Some why) h = cc

  -- after it or a want of memory
  pub Serves-after : {A E : Type 0} (r : Result A E) (old new : Machine) (c : DecodeCache) (d : Decoded) → HasHeap old.mem old.world → is_some old.end ≡ false → d ≡ decoded_at dec old
      → OnOk r (new ≡ act d old) → OnErr r (new ≡ old) → Serves dec old.mem c → Serves dec new.mem c
  Serves-after (Ok a) old new c d heap runs is ok err h = subst (λ (s : Machine). Serves dec s.mem c) (step_act old d runs is ∙ sym ok) (Serves-step old c heap h)
  Serves-after (Err e) old new c d heap runs is ok err h = subst (λ (s : Machine). Serves dec s.mem c) (sym err) h

-- what bytes decode to has names
pub names_from : (rows : List Row) (bytes : List ℕ) (at : ℕ) (d : Decoded) → d ≡ decoded rows bytes at → HasNames d
names_from rows bytes at (decodeds.Insn x len) e = decoded_named rows bytes at x len (sym e)
names_from rows bytes at decodeds.Short e = tt
names_from rows bytes at decodeds.Unknown e = tt
