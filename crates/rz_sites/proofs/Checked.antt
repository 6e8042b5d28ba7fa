-- The check of a site leads the value to its target, or to the stub, and gives RCX back.
use Rattle.std.proofs.Common.{◌≡◌, ◌≢◌, ℕ, suc, ◌+◌, ◌-◌, ◌*◌, ◌%◌, ◌^◌, ◌<◌, ◌≤◌, ◌⊎◌, inl, inr, ⊎_elim, Bool, true, false, if◌then◌else◌, ◌==◌, ◌||◌, List, [], ◌∷◌, length, get_or, set, Some, None, Ok, refl, sym, ap, ◌∙◌, subst, arith, ne_eqb, eq-eqb, get_or-set_same}
use Rattle.std.specs.List.{AllByRecursion}
use Rattle.std.specs.Prelude.{pos, ◌-ℤ◌}
use Rattle.std.proofs.lemmas.Bool.{cases_eq}
use Rattle.std.proofs.lemmas.List.{set-set, set-get_or}
use Rattle.rz_isa.specs.declared.instruction.Insn.TheVariants as insn
use Rattle.rz_isa.specs.declared.instruction.Place.TheVariants as operands
use Rattle.rz_isa.specs.declared.item_list.Label.TheVariants as label
use Rattle.rz_isa.specs.declared.item_list.Item.{Item}
use Rattle.rz_isa.specs.declared.item_list.Item.TheVariants as item
use Rattle.rz_isa.specs.Items.{Addresses, absolute}
use Rattle.rz_isa.specs.Nodes.{Decoder}
use Rattle.rz_image.specs.Memory.{Regions, Alike, RangeStands}
use Rattle.rz_exec.specs.Form.{read_word}
use Rattle.rz_exec.specs.Registers.{AreRegs}
use Rattle.rz_exec.specs.Laws.Registers.{get_word}
use Rattle.rz_sys.specs.Heap.{HasHeap}
use Rattle.rz_sys.specs.World.{SameWorld}
use Rattle.rz_machine.specs.declared.machine.Machine.{Machine}
use Rattle.rz_machine.specs.Added.{Layout, Places}
use Rattle.rz_machine.specs.Keeps.{Same}
use Rattle.rz_machine.specs.Kept.{has_node}
use Rattle.rz_machine.specs.State.{step}
use Rattle.rz_machine.specs.Simulates.{InsnAt, ItemAt, ItemsFrom, HasCode, label_at, leads}
use Rattle.rz_machine.specs.Laws.Comes.{step_is, jump_is, count_is, Comes, stay, one_more, weaker, jump_comes}
use Rattle.rz_machine.specs.Sequence.{add_to, load_at, jump, check}
use Rattle.rz_machine.specs.Laws.Stored.{word}
use Rattle.rz_machine.specs.Laws.States.{now}
use Rattle.rz_sites.proofs.Steps.{load_insn, load_at_is, subtract_is}

-- the new run's memory m and the state s that the old run has come to are the same but for RCX, which is kept at the scratch page
pub record Saved (lay : Layout) (wm : Regions) (scratch : ℕ) (s t : Machine) (m : Regions) : Type 0 where
  pub runs : t.end ≡ None
  pub code : HasCode wm m
  pub heap : HasHeap m t.world
  pub below : lay.added.high ≤ t.world.first_break
  pub added : RangeStands lay.added wm m
  pub regs : AreRegs s.cpu.regs
  pub world : SameWorld s.world t.world
  pub mem : Alike lay.added s.mem m
  pub rcx : read_word m (word scratch) ≡ Ok (get_or s.cpu.regs 1 0)

module _ (dec : Decoder) (lay : Layout) (places : Places) (own : ℕ → ℕ) (wm : Regions) where
  abbrev at : Addresses
  at = label_at lay places own

  abbrev place : ℕ → ℕ
  place = places.fragment

  -- ---- items that stand one after the other

  abbrev pub Stands : ℕ → ℕ → Item → List Item → Type 0
  Stands k p i rest = (next : ℕ) × ItemAt dec wm at p i next × ItemsFrom dec wm at own (suc k) next rest

  pub stands : (k p : ℕ) (i j : Item) (rest : List Item) → ItemsFrom dec wm at own k p (i ∷ j ∷ rest) → Stands k p i (j ∷ rest)
  stands k p i j rest h = ⊎_elim (λ s. s) (λ none. absurd none) h.1

  own_first : (k p : ℕ) (items : List Item) → ItemsFrom dec wm at own k p items → own k ≡ p
  own_first k p [] h = h
  own_first k p (i ∷ rest) h = h.0

  module _ (scratch a : ℕ) (low : scratch < 2 ^ 31) where
    -- an item before a check
    pub before_check : (k p j previous : ℕ) (i : Item) (ts : List ℕ) → ItemsFrom dec wm at own k p (i ∷ check scratch a j previous ts) → Stands k p i (check scratch a j previous ts)
    before_check k p j previous i [] h = stands k p i (load_at scratch) (jump (label.Stub a) ∷ []) h
    before_check k p j previous i (t ∷ ts) h =
        let rest : List Item = item.Jrcxz (label.Item (j + 3)) ∷ jump (label.Item (j + 5)) ∷ load_at scratch ∷ jump (label.Place t) ∷ check scratch a (j + 5) t ts in
        stands k p i (add_to 1 (pos previous -ℤ pos t)) rest h

    module _ (s t : Machine) (m : Regions) (saved : Saved lay wm scratch s t m) where
      -- RCX holds another value
      abbrev mid : ℕ → ℕ → Machine
      mid u p = now t (set s.cpu.regs 1 u) s.cpu.flags p m

      -- RCX is given back
      abbrev back : ℕ → Machine
      back p = now t s.cpu.regs s.cpu.flags p m

      same : (p : ℕ) → Same lay.added s (back p)
      same p = record { regs = refl; flags = refl; world = saved.world; mem = saved.mem }

      long : 1 < length s.cpu.regs
      long = omega (arith, saved.regs.sixteen)

      give_back : (u p next : ℕ) → InsnAt dec wm p (load_insn (operands.Mem (absolute scratch))) next → step dec (mid u p) ≡ back next
      give_back u p next i =
          let v : ℕ = get_or s.cpu.regs 1 0 in
          step_is dec wm p _ next i (mid u p) saved.runs refl saved.code
          ∙ load_at_is scratch v next t (set s.cpu.regs 1 u) s.cpu.flags p m low (get_word s.cpu.regs 1 saved.regs.words) saved.rcx
          ∙ ap (λ l. now t l s.cpu.flags next m) (set-set s.cpu.regs 1 u v ∙ set-get_or s.cpu.regs 1 0)

      -- to a target
      to_target : (u p next p2 q : ℕ) → InsnAt dec wm p (load_insn (operands.Mem (absolute scratch))) next → InsnAt dec wm next (insn.Jmp q) p2 → Comes dec lay.added s (mid u p) 2 2 q
      to_target u p next p2 q i j =
          one_more dec lay.added s (mid u p) (back next) 1 1 q (give_back u p next i)
          (jump_comes dec lay.added wm next q p2 j s (back next) saved.runs refl saved.code (same next))

      -- to the stub, where the last jump may be missing
      to_stub : (u k p : ℕ) → ItemsFrom dec wm at own k p (check scratch a k 0 []) → Comes dec lay.added s (mid u p) 1 2 (lay.stub a)
      to_stub u k p h =
          let one : Stands k p (load_at scratch) (jump (label.Stub a) ∷ []) = stands k p (load_at scratch) (jump (label.Stub a)) [] h in
          ⊎_elim (λ two. weaker dec lay.added s (mid u p) 2 2 1 2 (lay.stub a) (omega arith) (omega arith) (to_target u p one.0 two.0 (lay.stub a) one.1 two.1))
          (λ none. weaker dec lay.added s (mid u p) 1 1 1 2 (lay.stub a) (omega arith) (omega arith)
          (one_more dec lay.added s (mid u p) (back one.0) 0 0 (lay.stub a) (give_back u p one.0 one.1)
          (stay dec lay.added s (back one.0) (lay.stub a) saved.runs (let e : Some (lay.stub a) ≡ Some one.0 = none.1 in cc) (same one.0)))) one.2.1

      -- ---- the targets in turn

      abbrev to : List ℕ → ℕ → ℕ
      to ts v = leads (has_node ts) place lay.stub a v

      -- where the value minus the target before is in RCX
      abbrev Chain : List ℕ → Type 0
      Chain ts = (k p previous u v : ℕ) → v < 2 ^ 64 → previous < 2 ^ 31 → AllByRecursion (λ x. x < 2 ^ 31) ts → u ≡ (v + (2 ^ 64 - previous)) % 2 ^ 64
          → ItemsFrom dec wm at own k p (check scratch a k previous ts) → Comes dec lay.added s (mid u p) 1 (2 + 4 * length ts) (to ts v)

      -- by one piece
      chain_more : (x : ℕ) (ts : List ℕ) → Chain ts → Chain (x ∷ ts)
      chain_more x ts rest k p previous u v fits below all is h = go (cases_eq x v)
        where
          tail : List Item
          tail = check scratch a (k + 5) x ts

          r3 : List Item
          r3 = load_at scratch ∷ jump (label.Place x) ∷ tail

          r2 : List Item
          r2 = jump (label.Item (k + 5)) ∷ r3

          s1 : Stands k p (add_to 1 (pos previous -ℤ pos x)) (item.Jrcxz (label.Item (k + 3)) ∷ r2)
          s1 = stands k p (add_to 1 (pos previous -ℤ pos x)) (item.Jrcxz (label.Item (k + 3))) r2 h

          s2 : Stands (suc k) s1.0 (item.Jrcxz (label.Item (k + 3))) r2
          s2 = stands (suc k) s1.0 (item.Jrcxz (label.Item (k + 3))) (jump (label.Item (k + 5))) r3 s1.2

          s3 : Stands (suc (suc k)) s2.0 (jump (label.Item (k + 5))) r3
          s3 = stands (suc (suc k)) s2.0 (jump (label.Item (k + 5))) (load_at scratch) (jump (label.Place x) ∷ tail) s2.2

          s4 : Stands (suc (suc (suc k))) s3.0 (load_at scratch) (jump (label.Place x) ∷ tail)
          s4 = stands (suc (suc (suc k))) s3.0 (load_at scratch) (jump (label.Place x)) tail s3.2

          s5 : Stands (suc (suc (suc (suc k)))) s4.0 (jump (label.Place x)) tail
          s5 = before_check (suc (suc (suc (suc k)))) s4.0 (k + 5) x (jump (label.Place x)) ts s4.2

          w : ℕ
          w = (v + (2 ^ 64 - x)) % 2 ^ 64

          -- where the labels lead
          over : own (k + 3) ≡ s3.0
          over = let e : k + 3 ≡ suc (suc (suc k)) = omega arith in ap own e ∙ s3.2.0

          next : ItemsFrom dec wm at own (k + 5) s5.0 tail
          next = let e : suc (suc (suc (suc (suc k)))) ≡ k + 5 = omega arith in subst (λ j. ItemsFrom dec wm at own j s5.0 tail) e s5.2

          behind : own (k + 5) ≡ s5.0
          behind = own_first (k + 5) s5.0 tail next

          rcx : get_or (set s.cpu.regs 1 u) 1 0 ≡ u
          rcx = get_or-set_same s.cpu.regs 1 u 0 long

          e1 : step dec (mid u p) ≡ mid w s1.0
          e1 =
              step_is dec wm p _ s1.0 s1.1 (mid u p) saved.runs refl saved.code
              ∙ subtract_is previous x u v s1.0 t (set s.cpu.regs 1 u) s.cpu.flags p m below all.0 fits rcx is
              ∙ ap (λ l. now t l s.cpu.flags s1.0 m) (set-set s.cpu.regs 1 u w)

          tested : (b : Bool) → (w == 0) ≡ b → step dec (mid w s1.0) ≡ mid w (if b then own (k + 3) else s2.0)
          tested b e =
              step_is dec wm s1.0 (insn.Jrcxz (own (k + 3))) s2.0 s2.1 (mid w s1.0) saved.runs refl saved.code
              ∙ count_is (insn.Jrcxz (own (k + 3))) (own (k + 3)) s2.0 (mid w s1.0) refl
              ∙ ap (λ c. mid w (if c == 0 then own (k + 3) else s2.0)) (get_or-set_same s.cpu.regs 1 w 0 long)
              ∙ ap (λ c. mid w (if c then own (k + 3) else s2.0)) e

          go : (x ≡ v) ⊎ (x ≢ v) → Comes dec lay.added s (mid u p) 1 (2 + 4 * suc (length ts)) (to (x ∷ ts) v)
          go (inl e) =
              let none : w ≡ 0 = omega (arith, fits, e) in
              let e2 : step dec (mid w s1.0) ≡ mid w s3.0 = tested true (eq-eqb w 0 none) ∙ ap (mid w) over in
              let c = to_target w s3.0 s4.0 s5.0 (place x) s4.1 s5.1 in
              let all4 = one_more dec lay.added s (mid u p) (mid w s1.0) 3 3 (place x) e1 (one_more dec lay.added s (mid w s1.0) (mid w s3.0) 2 2 (place x) e2 c) in
              let there : place x ≡ to (x ∷ ts) v = ap place e ∙ sym (ap (λ b. if b then place v else lay.stub a) (ap (λ b. b || has_node ts v) (eq-eqb x v e))) in
              subst (Comes dec lay.added s (mid u p) 1 (2 + 4 * suc (length ts))) there (weaker dec lay.added s (mid u p) 4 4 1 (2 + 4 * suc (length ts)) (place x) (omega arith) (omega arith) all4)
          go (inr ne) =
              let some : w ≢ 0 = λ z. ne (let h : x < 2 ^ 31 = all.0 in omega (arith, fits, z)) in
              let e2 : step dec (mid w s1.0) ≡ mid w s2.0 = tested false (ne_eqb w 0 some) in
              let e3 : step dec (mid w s2.0) ≡ mid w s5.0 =
              step_is dec wm s2.0 (insn.Jmp (own (k + 5))) s3.0 s3.1 (mid w s2.0) saved.runs refl saved.code ∙ jump_is (insn.Jmp (own (k + 5))) (own (k + 5)) s3.0 (mid w s2.0) refl ∙ ap (mid w) behind in
              let c = rest (k + 5) s5.0 x w v fits all.0 all.1 refl next in
              let most : ℕ = 2 + 4 * length ts in
              let q : ℕ = to ts v in
              let all3 = one_more dec lay.added s (mid u p) (mid w s1.0) 3 (suc (suc most)) q e1 (one_more dec lay.added s (mid w s1.0) (mid w s2.0) 2 (suc most) q e2 (one_more dec lay.added s (mid w s2.0) (mid w s5.0) 1 most q e3 c)) in
              let there : q ≡ to (x ∷ ts) v = sym (ap (λ b. if b then place v else lay.stub a) (ap (λ b. b || has_node ts v) (ne_eqb x v ne))) in
              subst (Comes dec lay.added s (mid u p) 1 (2 + 4 * suc (length ts))) there (weaker dec lay.added s (mid u p) 4 (suc (suc (suc most))) 1 (2 + 4 * suc (length ts)) q (omega arith) (omega arith) all3)

      chain : (ts : List ℕ) → Chain ts
      chain [] k p previous u v fits below all is h = to_stub u k p h
      chain (x ∷ ts) k p previous u v fits below all is h = chain_more x ts (λ k p previous u v. chain ts k p previous u v) k p previous u v fits below all is h

      -- the check, where the value is in RCX
      pub checked : (ts : List ℕ) (k p v : ℕ) → v < 2 ^ 64 → AllByRecursion (λ x. x < 2 ^ 31) ts → ItemsFrom dec wm at own k p (check scratch a k 0 ts)
          → Comes dec lay.added s (now t (set s.cpu.regs 1 v) s.cpu.flags p m) 1 (2 + 4 * length ts) (to ts v)
      checked ts k p v fits all h = let is : v ≡ (v + (2 ^ 64 - 0)) % 2 ^ 64 = omega (arith, fits) in chain ts k p 0 v v fits (omega arith) all is h
