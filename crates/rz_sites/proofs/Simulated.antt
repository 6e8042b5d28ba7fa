-- The items of a site simulate their instruction.
use Rattle.std.proofs.Common.{◌≡◌, ◌≢◌, ℕ, zero, suc, ◌+◌, ◌*◌, ◌%◌, ◌^◌, ◌<◌, ◌≤◌, ◌⊎◌, inl, inr, Bool, true, false, nat_le, if◌then◌else◌, IsTrue, List, [], ◌∷◌, ◌++◌, length, get_or, set, Option, Some, None, Result, Ok, Err, refl, sym, ap, ◌∙◌, subst, arith, get_or-set_same, get_or-set_other}
use Rattle.std.specs.List.{AllByRecursion}
use Rattle.std.specs.Prelude.{pos}
use Rattle.std.proofs.lemmas.Bool.{leb-true}
use Rattle.std.proofs.lemmas.List.{set-set, set-get_or}
use Rattle.byteorder.specs.Endian.{little_bytes}
use Rattle.rz_num.specs.declared.width.Width.TheVariants.{W64}
use Rattle.rz_flags.specs.declared.Flags.{Flags}
use Rattle.rz_isa.specs.declared.instruction.Insn.{Insn}
use Rattle.rz_isa.specs.declared.instruction.Insn.TheVariants as insn
use Rattle.rz_isa.specs.declared.instruction.Place.{Place}
use Rattle.rz_isa.specs.declared.instruction.Place.TheVariants as operands
use Rattle.rz_isa.specs.declared.instruction.Operand.TheVariants as operand
use Rattle.rz_isa.specs.declared.item_list.Label.TheVariants as label
use Rattle.rz_isa.specs.declared.item_list.Item.{Item}
use Rattle.rz_isa.specs.declared.item_list.Item.TheVariants as item
use Rattle.rz_isa.specs.Emitted.{register}
use Rattle.rz_isa.specs.Insn.{kind_of}
use Rattle.rz_isa.specs.Items.{Addresses, absolute}
use Rattle.rz_isa.specs.Nodes.{Decoder, is_site}
use Rattle.rz_image.specs.Memory.{Regions, Alike, IsClear, refused, is_writable, put_bytes, wrap}
use Rattle.rz_image.specs.Laws.Alike.{alike_writable}
use Rattle.rz_image.specs.Laws.Puts.{alike_puts}
use Rattle.rz_exec.specs.Attempts.{WordClear, EffectClear, FirstClear}
use Rattle.rz_exec.specs.Form.{Exception, Memory, read_word}
use Rattle.rz_exec.specs.Operands.{word_of, value_of}
use Rattle.rz_exec.specs.Stack.{below_top}
use Rattle.rz_exec.specs.Laws.OneForm.{alike_read}
use Rattle.rz_exec.specs.Laws.Registers.{get_word, set_regs}
use Rattle.rz_machine.specs.declared.machine.Machine.{Machine}
use Rattle.rz_machine.specs.declared.way.Transfer.TheVariants as transfer
use Rattle.rz_machine.specs.declared.way.Way.TheVariants.{Transfers}
use Rattle.rz_machine.specs.Action.{transfer_effect}
use Rattle.rz_machine.specs.Added.{Layout, Places}
use Rattle.rz_machine.specs.Keeps.{Same}
use Rattle.rz_machine.specs.Kept.{has_node}
use Rattle.rz_machine.specs.State.{step, after}
use Rattle.rz_machine.specs.Touches.{StepClear}
use Rattle.rz_machine.specs.Simulates.{InsnAt, ItemsFrom, HasScratch, Stand, Follows, Simulates, label_at, leads}
use Rattle.rz_machine.specs.Laws.Comes.{step_is, Comes, one_more, weaker}
use Rattle.rz_machine.specs.Lookup.{HasLookup, lookup_steps}
use Rattle.rz_machine.specs.Tables.{binary_digits, site_steps}
use Rattle.rz_machine.specs.Laws.Lookups.{digits_enough}
use Rattle.rz_machine.specs.Sequence.{save_at, load, load_at, load_value, add_to, jump, check, look_up}
use Rattle.rz_sites.specs.Site.{IsSite, SitesSimulate}
use Rattle.rz_sites.proofs.Checked.{Saved, Stands, stands, before_check, checked}
use Rattle.rz_sites.proofs.Routed.{routed}
use Rattle.rz_sites.proofs.Moved.{goes_on, both_end, none_after, after_more, insn_clear, Ready, ready_to, steps_by, open_word, saves}
use Rattle.rz_machine.specs.Laws.States.{now, fault_at}
use Rattle.rz_sites.proofs.Steps.{save_insn, load_insn, add_insn, loaded, load_is, load_at_is, popped_to, pop_is, drop_is, pushed, push_is}
use Rattle.rz_machine.specs.Laws.Stored.{word, IsOpen, eight, word_again, word_stays, word_stays_inside, alike_inside}
use Rattle.rz_machine.specs.Laws.Transfers.{jumped, jump_is, returned, return_is, called_by, called, call_is}

-- numbers of registers
unequal : (i j : ℕ) → (i < j) ⊎ (j < i) → i ≢ j
unequal i j (inl h) e = omega (arith, h, e)
unequal i j (inr h) e = omega (arith, h, e)

-- an item before these is not the last
abbrev Begins : Decoder → Layout → Places → (own : ℕ → ℕ) → Regions → (ℕ → List Item) → Type 0
Begins dec lay places own wm rest = (k p j : ℕ) (i : Item) → ItemsFrom dec wm (label_at lay places own) own k p (i ∷ rest j) → Stands dec lay places own wm k p i (rest j)

-- from these, with the value in RCX, the new run comes to where the value leads
abbrev LeadsOn : Decoder → Layout → Places → (own : ℕ → ℕ) → Regions → (scratch a most : ℕ) → List ℕ → (ℕ → List Item) → Type 0
LeadsOn dec lay places own wm scratch a most ts rest =
    (u t : Machine) (m : Regions) → Saved lay wm scratch u t m → (k p v : ℕ) → v < 2 ^ 64 → ItemsFrom dec wm (label_at lay places own) own k p (rest k)
    → Comes dec lay.added u (now t (set u.cpu.regs 1 v) u.cpu.flags p m) 1 most (leads (has_node ts) places.fragment lay.stub a v)

module _ (dec : Decoder) (lay : Layout) (places : Places) (own : ℕ → ℕ) (xm wm : Regions) (scratch a n : ℕ) (ts : List ℕ) (low : scratch + 16 < 2 ^ 31)
    (rest : ℕ → List Item) (most bound : ℕ) (room : 8 + most ≤ bound) (begins : Begins dec lay places own wm rest) (leads_to : LeadsOn dec lay places own wm scratch a most ts rest)
    (page : HasScratch scratch lay.added wm) (s t : Machine) (rip : s.cpu.rip ≡ a) (st : Stand lay places.fragment xm wm s t) where
  abbrev at : Addresses
  at = label_at lay places own

  abbrev place : ℕ → ℕ
  place = places.fragment

  abbrev to : ℕ → ℕ
  to = leads (has_node ts) place lay.stub a

  abbrev Goal : Machine → Type 0
  Goal u = Follows dec lay to bound u t

  abbrev regs : List ℕ
  regs = s.cpu.regs

  abbrev flags : Flags
  flags = s.cpu.flags

  -- ---- the new run begins with the old one's registers, and saves RCX

  starts : t ≡ now t regs flags (place a) t.mem
  starts =
      let there : t.cpu.rip ≡ place a = st.there ∙ ap place rip in
      ap (λ r. now t r t.cpu.flags t.cpu.rip t.mem) (sym st.same.regs) ∙ ap (λ f. now t regs f t.cpu.rip t.mem) (sym st.same.flags)
      ∙ ap (λ p. now t regs flags p t.mem) there

  from_start : (u : Machine) → Follows dec lay to bound u (now t regs flags (place a) t.mem) → Goal u
  from_start u f = subst (λ v. Follows dec lay to bound u v) (sym starts) f

  ready : Ready dec lay wm scratch low page (now t regs flags (place a) t.mem)
  ready = record { runs = st.new_runs; code = st.new_code; heap = st.new_heap; below = st.below; added = st.added }

  rcx_fits : get_or s.cpu.regs 1 0 < 2 ^ 64
  rcx_fits = get_word regs 1 st.regs.words

  long : 4 < length s.cpu.regs
  long = omega (arith, st.regs.sixteen)

  abbrev first_mem : Regions
  first_mem = put_bytes t.mem scratch (little_bytes 8 (get_or s.cpu.regs 1 0))

  abbrev first : ℕ → Machine
  first p = now t s.cpu.regs s.cpu.flags p (put_bytes t.mem scratch (little_bytes 8 (get_or s.cpu.regs 1 0)))

  first_step : (p : ℕ) → InsnAt dec wm (place a) (save_insn scratch) p → step dec (now t regs flags (place a) t.mem) ≡ first p
  first_step p i = let e : scratch + 0 ≡ scratch = omega arith in saves dec lay wm scratch low page (now t regs flags (place a) t.mem) 0 scratch (get_or s.cpu.regs 1 0) p e (omega arith) ready refl rcx_fits i

  first_ready : (p : ℕ) → InsnAt dec wm (place a) (save_insn scratch) p → Ready dec lay wm scratch low page (first p)
  first_ready p i = ready_to dec lay wm scratch low page (now t regs flags (place a) t.mem) regs flags p first_mem ready (first_step p i)

  high : scratch + 16 ≤ lay.added.high
  high = omega (arith, page.last)

  top : lay.added.high ≤ 2 ^ 64
  top = omega (arith, page.top)

  bottom : lay.added.low ≤ scratch
  bottom = omega (arith, page.first)

  first_alike : Alike lay.added s.mem first_mem
  first_alike = alike_inside lay.added s.mem t.mem scratch (little_bytes 8 (get_or s.cpu.regs 1 0)) bottom (omega (arith, eight (get_or s.cpu.regs 1 0), high)) top st.same.mem

  first_word : read_word first_mem (word scratch) ≡ Ok (get_or s.cpu.regs 1 0)
  first_word =
      let e : scratch + 0 ≡ scratch = omega arith in
      word_again t.mem scratch (get_or s.cpu.regs 1 0) (subst (IsOpen t.mem) e (open_word dec lay wm scratch low page (now t regs flags (place a) t.mem) 0 ready (omega arith))) rcx_fits

  -- a fault of the second step finds the original's registers
  second_faults : (x : Exception) (p : ℕ) → InsnAt dec wm (place a) (save_insn scratch) p → step dec (first p) ≡ fault_at x (first p) → Goal (fault_at x s)
  second_faults x p i e =
      let u : Machine = fault_at x (first p) in
      let over : after dec 2 (now t regs flags (place a) t.mem) ≡ u = after_more dec 1 _ (first p) u (first_step p i) (after_more dec 0 (first p) u u e (none_after dec u)) in
      let same : Same lay.added (fault_at x s) u = record { regs = refl; flags = refl; world = st.same.world; mem = first_alike } in
      from_start (fault_at x s) (both_end dec lay to bound (fault_at x s) _ u 2 x (omega arith) (omega (arith, room)) over refl refl same)

  -- ---- an indirect jump

  by_jump : (src : Place) → InsnAt dec xm a (insn.JmpInd src) n → StepClear lay.added dec s → ItemsFrom dec wm at own 0 (place a) (load_value scratch n (insn.JmpInd src) ++ rest 2) → Goal (step dec s)
  by_jump src old clear h =
      subst Goal (sym (step_is dec xm a (insn.JmpInd src) n old s st.old_runs rip st.old_code ∙ jump_is src n s o refl)) (go o refl)
    where
      o : Result ℕ Exception
      o = read_word s.mem (word_of W64 regs src)

      touched : WordClear lay.added (word_of W64 regs src)
      touched = let c = insn_clear dec lay.added xm (insn.JmpInd src) (Transfers (transfer.JmpInd src)) a n s refl old rip st.old_runs st.old_code clear in c.first

      s1 : Stands dec lay places own wm 0 (place a) (save_at scratch) (load src ∷ rest 2)
      s1 = stands dec lay places own wm 0 (place a) (save_at scratch) (load src) (rest 2) h

      s2 : Stands dec lay places own wm 1 s1.0 (load src) (rest 2)
      s2 = begins 1 s1.0 2 (load src) s1.2

      second : (r : Result ℕ Exception) → o ≡ r → step dec (first s1.0) ≡ loaded src s2.0 t regs flags s1.0 first_mem r
      second r e =
          let same : read_word first_mem (word_of W64 regs src) ≡ r = sym (alike_read lay.added s.mem first_mem (word_of W64 regs src) touched first_alike) ∙ e in
          steps_by dec lay wm scratch low page (load_insn src) (first s1.0) s2.0 _ (first_ready s1.0 s1.1) s2.1 (load_is src s2.0 t regs flags s1.0 first_mem r same)

      go : (r : Result ℕ Exception) → o ≡ r → Goal (jumped src s r)
      go (Err x) e = second_faults x s1.0 s1.1 (second (Err x) e)
      go (Ok w) e =
          let v : ℕ = value_of W64 regs src w % 2 ^ 64 in
          let u : Machine = jumped src s (Ok w) in
          let t2 : Machine = now t (set regs 1 v) flags s2.0 first_mem in
          let saved : Saved lay wm scratch u t first_mem = record { runs = st.new_runs; code = (first_ready s1.0 s1.1).code; heap = (first_ready s1.0 s1.1).heap; below = st.below; added = (first_ready s1.0 s1.1).added; regs = st.regs; world = st.same.world; mem = first_alike; rcx = first_word } in
          let c = leads_to u t first_mem saved 2 s2.0 v (omega arith) s2.2 in
          let both = one_more dec lay.added u (now t regs flags (place a) t.mem) (first s1.0) 2 (suc most) (to v) (first_step s1.0 s1.1) (one_more dec lay.added u (first s1.0) t2 1 most (to v) (second (Ok w) e) c) in
          from_start u (goes_on dec lay to bound u _ 3 (suc (suc most)) st.old_runs (omega arith) (omega (arith, room)) both)

  -- ---- a return

  -- RSP grows in two parts, and RCX in between
  set_between : (xs : List ℕ) (b c d : ℕ) → set (set (set xs 4 b) 1 c) 4 d ≡ set (set xs 4 d) 1 c
  set_between [] b c d = refl
  set_between (x ∷ []) b c d = refl
  set_between (x ∷ y ∷ xs) b c d = ap (λ l. x ∷ c ∷ l) (set-set xs 2 b d)

  get_between : (xs : List ℕ) (b c : ℕ) → 4 < length xs → get_or (set (set xs 4 b) 1 c) 4 0 ≡ b
  get_between xs b c h = get_or-set_other (set xs 4 b) 1 4 c 0 (unequal 4 1 (inr (omega arith))) ∙ get_or-set_same xs 4 b 0 h

  abbrev return_items : ℕ → List Item
  return_items count = load_value scratch n (insn.Ret count) ++ rest (length (load_value scratch n (insn.Ret count)))

  by_return : (bytes : ℕ) → InsnAt dec xm a (insn.Ret bytes) n → StepClear lay.added dec s → ItemsFrom dec wm at own 0 (place a) (return_items bytes) → Goal (step dec s)
  by_return bytes old clear h =
      subst Goal (sym (step_is dec xm a (insn.Ret bytes) n old s st.old_runs rip st.old_code ∙ return_is bytes n s o refl)) (by_count bytes h)
    where
      o : Result ℕ Exception
      o = read_word s.mem (word (get_or s.cpu.regs 4 0))

      touched : WordClear lay.added (word (get_or s.cpu.regs 4 0))
      touched = let c = insn_clear dec lay.added xm (insn.Ret bytes) (Transfers (transfer.Ret bytes)) a n s refl old rip st.old_runs st.old_code clear in c.first

      popped : (w : ℕ) → List ℕ
      popped w = set (set regs 4 ((get_or s.cpu.regs 4 0 + 8) % 2 ^ 64)) 1 (w % 2 ^ 64)

      second : (r : Result ℕ Exception) (p q : ℕ) → InsnAt dec wm (place a) (save_insn scratch) p → InsnAt dec wm p (insn.Pop (register 1)) q → o ≡ r → step dec (first p) ≡ popped_to q t regs flags p first_mem r
      second r p q i j e =
          let same : read_word first_mem (word (get_or s.cpu.regs 4 0)) ≡ r = sym (alike_read lay.added s.mem first_mem (word (get_or s.cpu.regs 4 0)) touched first_alike) ∙ e in
          steps_by dec lay wm scratch low page (insn.Pop (register 1)) (first p) q _ (first_ready p i) j (pop_is q t regs flags p first_mem r same)

      -- where RSP has grown by all, the check leads on
      leads_on : (k w p q z grown : ℕ) → (i : InsnAt dec wm (place a) (save_insn scratch) p) → step dec (first p) ≡ now t (popped w) flags q first_mem → grown < 2 ^ 64
          → ((u : Machine) (most y : ℕ) → Comes dec lay.added u (now t (set (set regs 4 grown) 1 (w % 2 ^ 64)) flags z first_mem) 1 most y → Comes dec lay.added u (now t (popped w) flags q first_mem) 1 (suc most) y)
          → ItemsFrom dec wm at own k z (rest k) → Goal (now s (set regs 4 grown) flags (wrap w) s.mem)
      leads_on k w p q z grown i e fits more items =
          from_start u (goes_on dec lay to bound u _ 3 (suc (suc (suc most))) st.old_runs (omega arith) (omega (arith, room)) three)
        where
          u : Machine
          u = now s (set regs 4 grown) flags (wrap w) s.mem

          kept : get_or s.cpu.regs 1 0 ≡ get_or (set regs 4 grown) 1 0
          kept = sym (get_or-set_other regs 4 1 grown 0 (unequal 1 4 (inl (omega arith))))

          saved : Saved lay wm scratch u t first_mem
          saved = record { runs = st.new_runs; code = (first_ready p i).code; heap = (first_ready p i).heap; below = st.below; added = (first_ready p i).added; regs = set_regs regs 4 grown st.regs fits; world = st.same.world; mem = first_alike; rcx = first_word ∙ ap Ok kept }

          last : Comes dec lay.added u (now t (set (set regs 4 grown) 1 (w % 2 ^ 64)) flags z first_mem) 1 most (to (w % 2 ^ 64))
          last = leads_to u t first_mem saved k z (w % 2 ^ 64) (omega arith) items

          three : Comes dec lay.added u (now t regs flags (place a) t.mem) 3 (suc (suc (suc most))) (to (w % 2 ^ 64))
          three =
              one_more dec lay.added u (now t regs flags (place a) t.mem) (first p) 2 (suc (suc most)) (to (w % 2 ^ 64)) (first_step p i)
              (one_more dec lay.added u (first p) (now t (popped w) flags q first_mem) 1 (suc most) (to (w % 2 ^ 64)) e (more u most (to (w % 2 ^ 64)) last))

      by_count : (count : ℕ) → ItemsFrom dec wm at own 0 (place a) (return_items count) → Goal (returned count s o)
      by_count zero h = go o refl
        where
          s1 : Stands dec lay places own wm 0 (place a) (save_at scratch) (item.Whole (insn.Pop (register 1)) ∷ rest 2)
          s1 = stands dec lay places own wm 0 (place a) (save_at scratch) (item.Whole (insn.Pop (register 1))) (rest 2) h

          s2 : Stands dec lay places own wm 1 s1.0 (item.Whole (insn.Pop (register 1))) (rest 2)
          s2 = begins 1 s1.0 2 (item.Whole (insn.Pop (register 1))) s1.2

          go : (r : Result ℕ Exception) → o ≡ r → Goal (returned 0 s r)
          go (Err x) e = second_faults x s1.0 s1.1 (second (Err x) s1.0 s2.0 s1.1 s2.1 e)
          go (Ok w) e =
              let same : (get_or s.cpu.regs 4 0 + 8 + 0) % 2 ^ 64 ≡ (get_or s.cpu.regs 4 0 + 8) % 2 ^ 64 = omega arith in
              leads_on 2 w s1.0 s2.0 s2.0 ((get_or s.cpu.regs 4 0 + 8 + 0) % 2 ^ 64) s1.1 (second (Ok w) s1.0 s2.0 s1.1 s2.1 e) (omega arith)
              (λ u most y c. weaker dec lay.added u _ 1 most 1 (suc most) y (omega arith) (omega arith) (subst (λ g. Comes dec lay.added u (now t (set (set regs 4 g) 1 (w % 2 ^ 64)) flags s2.0 first_mem) 1 most y) same c)) s2.2
      by_count (suc j) h = go o refl
        where
          s1 : Stands dec lay places own wm 0 (place a) (save_at scratch) (item.Whole (insn.Pop (register 1)) ∷ add_to 4 (pos (suc j)) ∷ rest 3)
          s1 = stands dec lay places own wm 0 (place a) (save_at scratch) (item.Whole (insn.Pop (register 1))) (add_to 4 (pos (suc j)) ∷ rest 3) h

          s2 : Stands dec lay places own wm 1 s1.0 (item.Whole (insn.Pop (register 1))) (add_to 4 (pos (suc j)) ∷ rest 3)
          s2 = stands dec lay places own wm 1 s1.0 (item.Whole (insn.Pop (register 1))) (add_to 4 (pos (suc j))) (rest 3) s1.2

          s3 : Stands dec lay places own wm 2 s2.0 (add_to 4 (pos (suc j))) (rest 3)
          s3 = begins 2 s2.0 3 (add_to 4 (pos (suc j))) s2.2

          go : (r : Result ℕ Exception) → o ≡ r → Goal (returned (suc j) s r)
          go (Err x) e = second_faults x s1.0 s1.1 (second (Err x) s1.0 s2.0 s1.1 s2.1 e)
          go (Ok w) e =
              leads_on 3 w s1.0 s2.0 s3.0 ((get_or s.cpu.regs 4 0 + 8 + suc j) % 2 ^ 64) s1.1 (second (Ok w) s1.0 s2.0 s1.1 s2.1 e) (omega arith)
              (λ u most y c. weaker dec lay.added u (now t (popped w) flags s2.0 first_mem) 2 (suc most) 1 (suc most) y (omega arith) (omega arith) (one_more dec lay.added u (now t (popped w) flags s2.0 first_mem) _ 1 most y (third w e) c)) s3.2
            where
              third : (w : ℕ) → o ≡ Ok w → step dec (now t (popped w) flags s2.0 first_mem) ≡ now t (set (set regs 4 ((get_or s.cpu.regs 4 0 + 8 + suc j) % 2 ^ 64)) 1 (w % 2 ^ 64)) flags s3.0 first_mem
              third w e =
                  let b : ℕ = (get_or s.cpu.regs 4 0 + 8) % 2 ^ 64 in
                  let there : get_or (popped w) 4 0 ≡ (get_or s.cpu.regs 4 0 + 8) % 2 ^ 64 = get_between regs ((get_or s.cpu.regs 4 0 + 8) % 2 ^ 64) (w % 2 ^ 64) long in
                  let sum : (get_or (popped w) 4 0 + suc j) % 2 ^ 64 ≡ (get_or s.cpu.regs 4 0 + 8 + suc j) % 2 ^ 64 = omega (arith, there) in
                  let is = ready_to dec lay wm scratch low page (first s1.0) (popped w) flags s2.0 first_mem (first_ready s1.0 s1.1) (second (Ok w) s1.0 s2.0 s1.1 s2.1 e) in
                  steps_by dec lay wm scratch low page (add_insn 4 (pos (suc j))) (now t (popped w) flags s2.0 first_mem) s3.0 _ is s3.1
                  (drop_is (suc j) s3.0 t (popped w) flags s2.0 first_mem
                  ∙ ap (λ x. now t (set (popped w) 4 x) flags s3.0 first_mem) sum
                  ∙ ap (λ l. now t l flags s3.0 first_mem) (set_between regs b (w % 2 ^ 64) ((get_or s.cpu.regs 4 0 + 8 + suc j) % 2 ^ 64)))

  -- ---- an indirect call

  module _ (src : Place) (old : InsnAt dec xm a (insn.CallInd src) n) (clear : StepClear lay.added dec s) (h : ItemsFrom dec wm at own 0 (place a) (load_value scratch n (insn.CallInd src) ++ rest 6)) where
    abbrev operand_read : Result ℕ Exception
    operand_read = read_word s.mem (word_of W64 s.cpu.regs src)

    abbrev not_written : Option ℕ
    not_written = refused is_writable s.mem (below_top s.cpu.regs) 8

    touched : EffectClear lay.added (transfer_effect (transfer.CallInd src) n regs flags) s.mem
    touched =
        let c = insn_clear dec lay.added xm (insn.CallInd src) (Transfers (transfer.CallInd src)) a n s refl old rip st.old_runs st.old_code clear in
        record { first = c.first; rest = c.rest }

    abbrev r5 : List Item
    r5 = load_at (scratch + 8) ∷ rest 6

    abbrev r4 : List Item
    r4 = item.Whole (insn.Push (operand.Imm n)) ∷ r5

    abbrev r3 : List Item
    r3 = load_at scratch ∷ r4

    abbrev r2 : List Item
    r2 = save_at (scratch + 8) ∷ r3

    s1 : Stands dec lay places own wm 0 (place a) (save_at scratch) (load src ∷ r2)
    s1 = stands dec lay places own wm 0 (place a) (save_at scratch) (load src) r2 h

    s2 : Stands dec lay places own wm 1 s1.0 (load src) r2
    s2 = stands dec lay places own wm 1 s1.0 (load src) (save_at (scratch + 8)) r3 s1.2

    s3 : Stands dec lay places own wm 2 s2.0 (save_at (scratch + 8)) r3
    s3 = stands dec lay places own wm 2 s2.0 (save_at (scratch + 8)) (load_at scratch) r4 s2.2

    s4 : Stands dec lay places own wm 3 s3.0 (load_at scratch) r4
    s4 = stands dec lay places own wm 3 s3.0 (load_at scratch) (item.Whole (insn.Push (operand.Imm n))) r5 s3.2

    s5 : Stands dec lay places own wm 4 s4.0 (item.Whole (insn.Push (operand.Imm n))) r5
    s5 = stands dec lay places own wm 4 s4.0 (item.Whole (insn.Push (operand.Imm n))) (load_at (scratch + 8)) (rest 6) s4.2

    s6 : Stands dec lay places own wm 5 s5.0 (load_at (scratch + 8)) (rest 6)
    s6 = begins 5 s5.0 6 (load_at (scratch + 8)) s5.2

    second : (r : Result ℕ Exception) → operand_read ≡ r → step dec (first s1.0) ≡ loaded src s2.0 t regs flags s1.0 first_mem r
    second r e =
        let same : read_word first_mem (word_of W64 regs src) ≡ r = sym (alike_read lay.added s.mem first_mem (word_of W64 regs src) touched.first first_alike) ∙ e in
        steps_by dec lay wm scratch low page (load_insn src) (first s1.0) s2.0 _ (first_ready s1.0 s1.1) s2.1 (load_is src s2.0 t regs flags s1.0 first_mem r same)

    -- ---- the operand's word was read: the value is kept beside RCX, and RCX is given back

    module _ (w : ℕ) (read : operand_read ≡ Ok w) where
      abbrev v : ℕ
      v = value_of W64 s.cpu.regs src w % 2 ^ 64

      v_fits : value_of W64 s.cpu.regs src w % 2 ^ 64 < 2 ^ 64
      v_fits = omega arith

      abbrev top_word : ℕ
      top_word = below_top s.cpu.regs

      abbrev t1 : Machine
      t1 = first s1.0

      abbrev t2 : Machine
      t2 = now t (set regs 1 v) flags s2.0 first_mem

      e2 : step dec t1 ≡ t2
      e2 = second (Ok w) read

      ready2 : Ready dec lay wm scratch low page t2
      ready2 = ready_to dec lay wm scratch low page t1 (set regs 1 v) flags s2.0 first_mem (first_ready s1.0 s1.1) e2

      abbrev both_mem : Regions
      both_mem = put_bytes first_mem (scratch + 8) (little_bytes 8 v)

      abbrev t3 : Machine
      t3 = now t (set regs 1 v) flags s3.0 both_mem

      e3 : step dec t2 ≡ t3
      e3 = saves dec lay wm scratch low page t2 8 (scratch + 8) v s3.0 refl (omega arith) ready2 (get_or-set_same regs 1 v 0 (omega (arith, long))) v_fits s3.1

      ready3 : Ready dec lay wm scratch low page t3
      ready3 = ready_to dec lay wm scratch low page t2 (set regs 1 v) flags s3.0 both_mem ready2 e3

      count : length (little_bytes 8 v) ≡ 8
      count = eight v

      both_alike : Alike lay.added s.mem both_mem
      both_alike = alike_inside lay.added s.mem first_mem (scratch + 8) (little_bytes 8 v) (omega (arith, bottom)) (omega (arith, count, high)) top first_alike

      both_rcx : read_word both_mem (word scratch) ≡ Ok (get_or s.cpu.regs 1 0)
      both_rcx = word_stays first_mem scratch (scratch + 8) (little_bytes 8 v) (omega (arith, low)) (omega (arith, count, low)) (omega arith) ∙ first_word

      both_value : read_word both_mem (word (scratch + 8)) ≡ Ok v
      both_value = word_again first_mem (scratch + 8) v (open_word dec lay wm scratch low page t2 8 ready2 (omega arith)) v_fits

      abbrev t4 : Machine
      t4 = now t regs flags s4.0 both_mem

      e4 : step dec t3 ≡ t4
      e4 =
          steps_by dec lay wm scratch low page (load_insn (operands.Mem (absolute scratch))) t3 s4.0 t4 ready3 s4.1
          (load_at_is scratch (get_or s.cpu.regs 1 0) s4.0 t (set regs 1 v) flags s3.0 both_mem (omega (arith, low)) rcx_fits both_rcx
          ∙ ap (λ l. now t l flags s4.0 both_mem) (set-set regs 1 v (get_or s.cpu.regs 1 0) ∙ set-get_or regs 1 0))

      ready4 : Ready dec lay wm scratch low page t4
      ready4 = ready_to dec lay wm scratch low page t3 regs flags s4.0 both_mem ready3 e4

      -- the push is clear of what is added
      push_clear : IsClear lay.added top_word 8
      push_clear =
          let P : Result ℕ Exception → Type 0 = λ r. FirstClear lay.added (transfer_effect (transfer.CallInd src) n regs flags) s.mem r in
          let c = subst P read touched.rest in
          c.1

      push_alike : refused is_writable both_mem top_word 8 ≡ not_written
      push_alike = sym (alike_writable lay.added s.mem both_mem top_word 8 push_clear both_alike)

      fifth : (r : Option ℕ) → not_written ≡ r → step dec t4 ≡ pushed n s5.0 t regs flags s4.0 both_mem r
      fifth r e = steps_by dec lay wm scratch low page (insn.Push (operand.Imm n)) t4 s5.0 _ ready4 s5.1 (push_is n s5.0 t regs flags s4.0 both_mem r (push_alike ∙ e))

      -- four steps before it
      abbrev start0 : Machine
      start0 = now t regs flags (place a) t.mem

      fifth_faults : (bad : ℕ) → not_written ≡ Some bad → Goal (fault_at (Memory bad) s)
      fifth_faults bad e =
          let u : Machine = fault_at (Memory bad) t4 in
          let over : after dec 5 start0 ≡ u =
          after_more dec 4 start0 t1 u (first_step s1.0 s1.1) (after_more dec 3 t1 t2 u e2 (after_more dec 2 t2 t3 u e3 (after_more dec 1 t3 t4 u e4 (after_more dec 0 t4 u u (fifth (Some bad) e) (none_after dec u))))) in
          let same : Same lay.added (fault_at (Memory bad) s) u = record { regs = refl; flags = refl; world = st.same.world; mem = both_alike } in
          from_start (fault_at (Memory bad) s) (both_end dec lay to bound (fault_at (Memory bad) s) start0 u 5 (Memory bad) (omega arith) (omega (arith, room)) over refl refl same)

      -- ---- the push was allowed: the value comes back into RCX, and is checked

      abbrev grown : List ℕ
      grown = set s.cpu.regs 4 (top_word % 2 ^ 64)

      abbrev pushed_mem : Regions
      pushed_mem = put_bytes both_mem top_word (little_bytes 8 n)

      abbrev t5 : Machine
      t5 = now t grown flags s5.0 pushed_mem

      pushed_clear : IsClear lay.added top_word (length (little_bytes 8 n))
      pushed_clear = subst (IsClear lay.added top_word) (sym (eight n)) push_clear

      pushed_rcx : read_word pushed_mem (word scratch) ≡ Ok (get_or grown 1 0)
      pushed_rcx =
          word_stays_inside lay.added both_mem scratch top_word (little_bytes 8 n) bottom (omega (arith, high)) top pushed_clear ∙ both_rcx
          ∙ ap Ok (sym (get_or-set_other regs 4 1 (top_word % 2 ^ 64) 0 (unequal 1 4 (inl (omega arith)))))

      pushed_value : read_word pushed_mem (word (scratch + 8)) ≡ Ok v
      pushed_value = word_stays_inside lay.added both_mem (scratch + 8) top_word (little_bytes 8 n) (omega (arith, bottom)) (omega (arith, high)) top pushed_clear ∙ both_value

      pushed_goes : not_written ≡ None → Goal (called_by src n s w None)
      pushed_goes e = from_start u (goes_on dec lay to bound u start0 7 (6 + most) st.old_runs (omega arith) (omega (arith, room)) whole)
        where
          u : Machine
          u = called_by src n s w None

          e5 : step dec t4 ≡ t5
          e5 = fifth None e

          ready5 : Ready dec lay wm scratch low page t5
          ready5 = ready_to dec lay wm scratch low page t4 grown flags s5.0 pushed_mem ready4 e5

          e6 : step dec t5 ≡ now t (set grown 1 v) flags s6.0 pushed_mem
          e6 =
              steps_by dec lay wm scratch low page (load_insn (operands.Mem (absolute (scratch + 8)))) t5 s6.0 _ ready5 s6.1
              (load_at_is (scratch + 8) v s6.0 t grown flags s5.0 pushed_mem (omega (arith, low)) v_fits pushed_value)

          saved : Saved lay wm scratch u t pushed_mem
          saved =
              record {
                runs = st.new_runs;
                code = ready5.code;
                heap = ready5.heap;
                below = ready5.below;
                added = ready5.added;
                regs = set_regs regs 4 (top_word % 2 ^ 64) st.regs (omega arith);
                world = st.same.world;
                mem = alike_puts lay.added s.mem both_mem top_word (little_bytes 8 n) pushed_clear both_alike;
                rcx = pushed_rcx;
              }

          last : Comes dec lay.added u (now t (set grown 1 v) flags s6.0 pushed_mem) 1 most (to v)
          last = leads_to u t pushed_mem saved 6 s6.0 v v_fits s6.2

          three : Comes dec lay.added u t3 4 (3 + most) (to v)
          three = weaker dec lay.added u t3 4 (suc (suc (suc most))) 4 (3 + most) (to v) (omega arith) (omega arith) (one_more dec lay.added u t3 t4 3 (suc (suc most)) (to v) e4 (one_more dec lay.added u t4 t5 2 (suc most) (to v) e5 (one_more dec lay.added u t5 _ 1 most (to v) e6 last)))

          whole : Comes dec lay.added u start0 7 (6 + most) (to v)
          whole =
              weaker dec lay.added u start0 7 (suc (suc (suc (3 + most)))) 7 (6 + most) (to v) (omega arith) (omega arith)
              (one_more dec lay.added u start0 t1 6 (suc (suc (3 + most))) (to v) (first_step s1.0 s1.1) (one_more dec lay.added u t1 t2 5 (suc (3 + most)) (to v) e2 (one_more dec lay.added u t2 t3 4 (3 + most) (to v) e3 three)))

      pushed_or_not : (r : Option ℕ) → not_written ≡ r → Goal (called_by src n s w r)
      pushed_or_not (Some bad) e = fifth_faults bad e
      pushed_or_not None e = pushed_goes e

    by_call : Goal (step dec s)
    by_call = subst Goal (sym (step_is dec xm a (insn.CallInd src) n old s st.old_runs rip st.old_code ∙ call_is src n s operand_read not_written refl refl)) (go operand_read refl)
      where
        go : (r : Result ℕ Exception) → operand_read ≡ r → Goal (called src n s not_written r)
        go (Err x) e = second_faults x s1.0 s1.1 (second (Err x) e)
        go (Ok w) e = pushed_or_not w e not_written refl

-- ---- by either form

-- the steps of a check are within the bound
few_steps : (c : ℕ) → c ≤ 32 → 8 + (2 + 4 * c) ≤ site_steps c
few_steps c h = by_digits (binary_digits c) (digits_enough c (omega (arith, h)))
  where
    by_digits : (d : ℕ) → c < 2 ^ d → 8 + (2 + 4 * c) ≤ 64 + 16 * d
    by_digits zero lt = omega (arith, lt)
    by_digits (suc zero) lt = omega (arith, lt)
    by_digits (suc (suc zero)) lt = omega (arith, lt)
    by_digits (suc (suc (suc zero))) lt = omega (arith, lt)
    by_digits (suc (suc (suc (suc zero)))) lt = omega (arith, lt)
    by_digits (suc (suc (suc (suc (suc d))))) lt = omega (arith, h)

module _ (dec : Decoder) (scratch : ℕ) (ts : List ℕ) (a n : ℕ) (x : Insn) (site : IsSite scratch ts n x) (lay : Layout) (places : Places) (own : ℕ → ℕ) (xm wm : Regions)
    (old : InsnAt dec xm a x n) (page : HasScratch scratch lay.added wm) (has : HasLookup dec scratch lay places ts a wm) (s t : Machine) (rip : s.cpu.rip ≡ a)
    (st : Stand lay places.fragment xm wm s t) (clear : StepClear lay.added dec s) where
  abbrev Led : Type 0
  Led = Follows dec lay (leads (has_node ts) places.fragment lay.stub a) (site_steps (length ts)) (step dec s) t

  module _ (rest : ℕ → List Item) (most : ℕ) (room : 8 + most ≤ site_steps (length ts)) (begins : Begins dec lay places own wm rest) (leads_to : LeadsOn dec lay places own wm scratch a most ts rest) where
    by_kind : (y : Insn) → IsTrue (is_site (kind_of y)) → InsnAt dec xm a y n
        → ItemsFrom dec wm (label_at lay places own) own 0 (places.fragment a) (load_value scratch n y ++ rest (length (load_value scratch n y))) → Led
    by_kind (insn.Ret bytes) is here items = by_return dec lay places own xm wm scratch a n ts site.scratch_low rest most (site_steps (length ts)) room begins leads_to page s t rip st bytes here clear items
    by_kind (insn.JmpInd src) is here items = by_jump dec lay places own xm wm scratch a n ts site.scratch_low rest most (site_steps (length ts)) room begins leads_to page s t rip st src here clear items
    by_kind (insn.CallInd src) is here items = by_call dec lay places own xm wm scratch a n ts site.scratch_low rest most (site_steps (length ts)) room begins leads_to page s t rip st src here clear items
    by_kind y is here items = cc

  either : (b : Bool) → nat_le (length ts) 32 ≡ b
      → ItemsFrom dec wm (label_at lay places own) own 0 (places.fragment a) (load_value scratch n x ++ (if b then check scratch a (length (load_value scratch n x)) 0 ts else look_up scratch a)) → Led
  either true short items =
      by_kind (λ first. check scratch a first 0 ts) (2 + 4 * length ts) (few_steps (length ts) (leb-true (length ts) 32 short))
      (λ k p j i h. before_check dec lay places own wm scratch a (omega (arith, site.scratch_low)) k p j 0 i ts h)
      (λ u t' m saved k p v fits h. checked dec lay places own wm scratch a (omega (arith, site.scratch_low)) u t' m saved ts k p v fits site.targets_low h)
      x site.kind old items
  either false long items =
      by_kind (λ first. look_up scratch a) (2 + lookup_steps (binary_digits (length ts))) (omega arith)
      (λ k p j i h. stands dec lay places own wm k p i (item.Store (scratch + 16) (label.Table a)) (jump label.Routine ∷ []) h)
      (λ u t' m saved k p v fits h. routed dec lay places own wm scratch a ts site.scratch_low site.few page has u t' m saved v fits k p h)
      x site.kind old items

-- the law
pub sites_simulate : (dec : Decoder) → SitesSimulate dec
unfolding Simulates
sites_simulate dec scratch ts a n x site lay places own xm wm old items inside page has s t rip st clear =
    either dec scratch ts a n x site lay places own xm wm old page (has site.kind) s t rip st clear (nat_le (length ts) 32) refl items
