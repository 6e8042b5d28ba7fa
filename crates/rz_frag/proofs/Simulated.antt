-- The items of a fragment, wherever they stand, do what the instruction does.
use Rattle.std.proofs.Common.{◌≡◌, ℕ, suc, ◌+◌, ◌^◌, ◌<◌, ◌≤◌, ◌⊎◌, ⊎_elim, Bool, true, false, if◌then◌else◌, List, [], ◌∷◌, Some, IsSomeAnd, refl, sym, ap, ◌∙◌, subst, arith}
use Rattle.std.specs.Option.{option_map}
use Rattle.rz_flags.specs.declared.Cond.{Cond}
use Rattle.rz_isa.specs.declared.instruction.Insn.{Insn}
use Rattle.rz_isa.specs.declared.instruction.Insn.TheVariants as insn
use Rattle.rz_isa.specs.declared.item_list.Label.TheVariants as label
use Rattle.rz_isa.specs.declared.item_list.Item.{Item}
use Rattle.rz_isa.specs.declared.item_list.Item.TheVariants as item
use Rattle.rz_isa.specs.Items.{Addresses}
use Rattle.rz_isa.specs.Nodes.{Decoder, is_site}
use Rattle.rz_image.specs.Memory.{Regions, IsInside, wrap}
use Rattle.rz_machine.specs.declared.machine.Machine.{Machine}
use Rattle.rz_machine.specs.declared.way.Transfer.{Transfer}
use Rattle.rz_machine.specs.declared.way.Transfer.TheVariants as transfer
use Rattle.rz_machine.specs.declared.way.Way.{Way}
use Rattle.rz_machine.specs.declared.way.Way.TheVariants.{Onward, Jumps, Branches, BranchesOnRcx, Transfers, Calls, Halts}
use Rattle.rz_machine.specs.Way.{way_of}
use Rattle.rz_machine.specs.Added.{Layout, Places}
use Rattle.rz_machine.specs.Kept.{has_node}
use Rattle.rz_machine.specs.State.{step}
use Rattle.rz_machine.specs.Touches.{StepClear, WayClear}
use Rattle.rz_machine.specs.Simulates.{InsnAt, ItemAt, ItemsFrom, Stand, Follows, Simulates, label_at, leads}
use Rattle.rz_machine.specs.Laws.Ways.{kind_in, kind_by_way}
use Rattle.rz_machine.specs.Sequence.{to_label, jump_to, mov_number, push_number, items_by}
use Rattle.rz_frag.specs.Fragment.{FragmentsSimulate}
use Rattle.rz_frag.proofs.Follows.{Onto, Falls, ByJump, plain_follows, jump_follows, branch_follows, count_follows, halt_follows, syscall_follows, push_follows, insn_clear}

module _ (dec : Decoder) (keeps : ℕ → Bool) (lay : Layout) (places : Places) (own : ℕ → ℕ) (wm : Regions) (a : ℕ) where
  abbrev place : ℕ → ℕ
  place = places.fragment

  abbrev at : Addresses
  at = label_at lay places own

  abbrev to : ℕ → ℕ
  to = leads keeps place lay.stub a

  -- where a label of an edge leads
  label_is : (b : ℕ) → at (to_label keeps a b) ≡ Some (to b)
  label_is b = go (keeps b)
    where
      go : (v : Bool) → at (if v then label.Place b else label.Stub a) ≡ Some (if v then place b else lay.stub a)
      go true = refl
      go false = refl

  -- an item that isn't the last one stands
  abbrev Stands : ℕ → ℕ → Item → List Item → Type 0
  Stands k p i rest = (next : ℕ) × ItemAt dec wm at p i next × ItemsFrom dec wm at own (suc k) next rest

  stands : (k p : ℕ) (i j : Item) (rest : List Item) → ItemsFrom dec wm at own k p (i ∷ j ∷ rest) → Stands k p i (j ∷ rest)
  stands k p i j rest h = ⊎_elim (λ s. s) (λ none. absurd none) h.1

  -- and so does the only item
  only : (p : ℕ) (i : Item) → ItemsFrom dec wm at own 0 p (i ∷ []) → Stands 0 p i []
  only p i h = ⊎_elim (λ s. s) (λ none. absurd (let m : 0 < 0 = none.0 in omega arith)) h.1

  jump_at : (p b next : ℕ) → ItemAt dec wm at p (jump_to keeps a b) next → InsnAt dec wm p (insn.Jmp (to b)) next
  jump_at p b next h = subst (λ o. IsSomeAnd (option_map (λ t. insn.Jmp t) o) (λ x. InsnAt dec wm p x next)) (label_is b) h

  branch_at : (c : Cond) (p b next : ℕ) → ItemAt dec wm at p (item.Jump (Some c) (to_label keeps a b)) next → InsnAt dec wm p (insn.Jcc c (to b)) next
  branch_at c p b next h = subst (λ o. IsSomeAnd (option_map (λ t. insn.Jcc c t) o) (λ x. InsnAt dec wm p x next)) (label_is b) h

  -- from a last jump, which may be missing, the run comes to where its label leads
  last : (k p b : ℕ) → ItemsFrom dec wm at own k p (jump_to keeps a b ∷ []) → Onto dec wm p (to b)
  last k p b h = ⊎_elim (λ s. ByJump s.0 (jump_at p b s.0 s.1)) (λ none. Falls (same (sym none.1 ∙ label_is b))) h.1
    where
      same : {p q : ℕ} → Some p ≡ Some q → p ≡ q
      same e = cc

  module _ (xm : Regions) (n : ℕ) (x : Insn) (low : n < 2 ^ 31) (old : InsnAt dec xm a x n) (inside : IsInside lay.code (place a)) (s t : Machine)
      (rip : s.cpu.rip ≡ a) (st : Stand lay place xm wm s t) (clear : StepClear lay.added dec s) where
    abbrev Goal : Type 0
    Goal = Follows dec lay to 64 (step dec s) t

    room : 3 ≤ 64
    room = omega arith

    low_word : n < 2 ^ 32
    low_word = omega (arith, low)

    by_transfer : (how : Transfer) → way_of x ≡ Transfers how → is_site (kind_in (Transfers how)) ≡ false → ItemsFrom dec wm at own 0 (place a) (items_by (Transfers how) keeps a n x) → Goal
    by_transfer (transfer.Call b) is site h =
        let s1 = stands 0 (place a) (item.Whole (push_number n)) (jump_to keeps a b) [] h in
        push_follows dec lay place to 64 room xm wm x b a n s1.0 s t is old s1.1 (last 1 s1.0 b s1.2) (subst (λ q. WayClear lay.added (Transfers (transfer.Call b)) x q s) (ap (λ r. wrap (r + old.len)) rip ∙ old.ends) (insn_clear dec lay place to 64 room xm wm x (Transfers (transfer.Call b)) a n s is old rip st.old_runs st.old_code clear)) rip st
    by_transfer (transfer.CallInd src) is site h = absurd (cc)
    by_transfer (transfer.JmpInd src) is site h = absurd (cc)
    by_transfer (transfer.Ret pop) is site h = absurd (cc)

    by_way : (w : Way) → way_of x ≡ w → is_site (kind_in w) ≡ false → ItemsFrom dec wm at own 0 (place a) (items_by w keeps a n x) → Goal
    by_way Onward is site h =
        let s1 = stands 0 (place a) (item.Whole x) (jump_to keeps a n) [] h in
        plain_follows dec lay place to 64 room xm wm x a n s1.0 s t is old s1.1 (last 1 s1.0 n s1.2) (insn_clear dec lay place to 64 room xm wm x Onward a n s is old rip st.old_runs st.old_code clear) rip st
    by_way (Jumps b) is site h =
        let s1 = only (place a) (jump_to keeps a b) h in
        jump_follows dec lay place to 64 room xm wm x a b n s1.0 s t is old (jump_at (place a) b s1.0 s1.1) rip st
    by_way (Branches c b) is site h =
        let s1 = stands 0 (place a) (item.Jump (Some c) (to_label keeps a b)) (jump_to keeps a n) [] h in
        branch_follows dec lay place to 64 room xm wm x c a b n s1.0 s t is old (branch_at c (place a) b s1.0 s1.1) (last 1 s1.0 n s1.2) rip st
    by_way (BranchesOnRcx b) is site h =
        let s1 = stands 0 (place a) (item.Jrcxz (label.Item 2)) (jump_to keeps a n) (jump_to keeps a b ∷ []) h in
        let s2 = stands 1 s1.0 (jump_to keeps a n) (jump_to keeps a b) [] s1.2 in
        let there : own 2 ≡ s2.0 = s2.2.0 in
        let over : InsnAt dec wm (place a) (insn.Jrcxz s2.0) s1.0 = subst (λ q. InsnAt dec wm (place a) (insn.Jrcxz q) s1.0) there s1.1 in
        count_follows dec lay place to 64 room xm wm x a b n s1.0 s2.0 s2.0 s t is old over (jump_at s1.0 n s2.0 s2.1) (last 2 s2.0 b s2.2) rip st
    by_way (Transfers how) is site h = by_transfer how is site h
    by_way Calls is site h =
        let s1 = stands 0 (place a) (item.Whole x) (item.Whole (mov_number 1 n)) (jump_to keeps a n ∷ []) h in
        let s2 = stands 1 s1.0 (item.Whole (mov_number 1 n)) (jump_to keeps a n) [] s1.2 in
        syscall_follows dec lay place to 64 room xm wm x a n s1.0 s2.0 s t is old low_word s1.1 s2.1 (last 2 s2.0 n s2.2) (insn_clear dec lay place to 64 room xm wm x Calls a n s is old rip st.old_runs st.old_code clear) rip st
    by_way (Halts how) is site h =
        let s1 = only (place a) (item.Whole x) h in
        halt_follows dec lay place to 64 room xm wm x how a n s1.0 s t is old s1.1 inside rip st

-- the law
pub fragments_simulate : (dec : Decoder) → FragmentsSimulate dec 64
unfolding Simulates
fragments_simulate dec scratch targets a n x site low lay places own xm wm old items inside page has s t rip st clear =
    by_way dec (has_node targets) lay places own wm a xm n x low old inside s t rip st clear (way_of x) refl (sym (ap is_site (kind_by_way x)) ∙ site) items
