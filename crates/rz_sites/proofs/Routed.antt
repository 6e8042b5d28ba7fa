-- Where a site has its value looked up, the routine leads it to its target, or to the stub, and gives RCX back.
use Rattle.std.proofs.Common.{◌≡◌, ℕ, suc, ◌+◌, ◌*◌, ◌^◌, ◌<◌, ◌≤◌, ⊎_elim, Bool, if◌then◌else◌, List, [], ◌∷◌, length, get_or, set, Some, None, Ok, IsSomeAnd, refl, sym, ap, ◌∙◌, subst, arith, lt-ltb, get_or-set_same}
use Rattle.std.proofs.lemmas.List.{length-map, set-set, set-get_or}
use Rattle.byteorder.specs.Endian.{little_bytes}
use Rattle.rz_isa.specs.declared.instruction.Insn.TheVariants as insn
use Rattle.rz_isa.specs.declared.item_list.Label.TheVariants as label
use Rattle.rz_isa.specs.declared.item_list.Item.{Item}
use Rattle.rz_isa.specs.declared.item_list.Item.TheVariants as item
use Rattle.rz_isa.specs.Items.{Addresses, store}
use Rattle.rz_isa.specs.Nodes.{Decoder}
use Rattle.rz_image.specs.Memory.{Regions, Alike, RangeStands, cell_at, put_bytes}
use Rattle.rz_exec.specs.Laws.Registers.{get_word, set_regs}
use Rattle.rz_machine.specs.declared.machine.Machine.{Machine}
use Rattle.rz_machine.specs.Added.{Layout, Places}
use Rattle.rz_machine.specs.Kept.{has_node}
use Rattle.rz_machine.specs.Lookup.{HasBytes, HasLookup, LooksUp, lookup_steps}
use Rattle.rz_machine.specs.Tables.{table_of, placed, led, binary_digits}
use Rattle.rz_machine.specs.State.{step}
use Rattle.rz_machine.specs.Simulates.{InsnAt, ItemAt, ItemsFrom, HasScratch, label_at, leads}
use Rattle.rz_machine.specs.Sequence.{jump, look_up}
use Rattle.rz_machine.specs.Laws.Comes.{step_is, jump_is, Comes, one_more, weaker}
use Rattle.rz_machine.specs.Laws.Lookups.{looked_up_comes, led_by_targets, digits_enough}
use Rattle.rz_machine.specs.Laws.States.{now}
use Rattle.rz_machine.specs.Laws.Stored.{word, allowed_write, eight, word_again, word_stays, alike_inside}
use Rattle.rz_sites.proofs.Checked.{Saved, Stands, stands}
use Rattle.rz_sites.proofs.Moved.{Ready, ready_to, steps_by, open_word}
use Rattle.rz_sites.proofs.Steps.{store_is}

module _ (dec : Decoder) (lay : Layout) (places : Places) (own : ℕ → ℕ) (wm : Regions) (scratch a : ℕ) (ts : List ℕ) (low : scratch + 16 < 2 ^ 31) (few : length ts < 2 ^ 28)
    (page : HasScratch scratch lay.added wm) (has : HasLookup dec scratch lay places ts a wm) (s t : Machine) (m : Regions) (saved : Saved lay wm scratch s t m) where
  abbrev at : Addresses
  at = label_at lay places own

  -- RCX holds another value
  abbrev mid : ℕ → ℕ → Regions → Machine
  mid v p n = now t (set s.cpu.regs 1 v) s.cpu.flags p n

  abbrev table : ℕ
  table = places.table a

  abbrev bytes : List ℕ
  bytes = table_of (lay.stub a) (placed places.fragment ts)

  table_low : table < 2 ^ 64
  table_low = omega (arith, has.table.inside, page.top)

  abbrev stored : Regions
  stored = put_bytes m (scratch + 16) (little_bytes 8 table)

  stored_alike : Alike lay.added s.mem stored
  stored_alike =
      let first = page.first in
      let last = page.last in
      let count = eight table in
      alike_inside lay.added s.mem m (scratch + 16) (little_bytes 8 table) (omega (arith, first)) (omega (arith, last, count)) (omega (arith, page.top)) saved.mem

  long : 1 < length s.cpu.regs
  long = omega (arith, saved.regs.sixteen)

  -- the table stands in the memory that the two items have left
  there : RangeStands lay.added wm stored → HasBytes stored table bytes
  there stands' =
      record {
        same = λ k lt. stands'.bytes (table + k) (inside k lt) (has.table.fixed k lt) ∙ has.table.stand.same k lt;
        readable = λ k lt. let p = stands'.perms (table + k) (inside k lt) in sym p.read ∙ has.table.stand.readable k lt;
      }
    where
      inside : (k : ℕ) → k < length bytes → (lay.added.low ≤ table + k) × (table + k < lay.added.high)
      inside k lt = let behind = has.table.behind in let end = has.table.inside in (omega (arith, behind, page.first), omega (arith, end, lt))

  module _ (v : ℕ) (fits : v < 2 ^ 64) where
    ready : (p : ℕ) → Ready dec lay wm scratch low page (mid v p m)
    ready p = record { runs = saved.runs; code = saved.code; heap = saved.heap; below = saved.below; added = saved.added }

    begins : (p : ℕ) → Ready dec lay wm scratch low page (mid v p stored) → LooksUp lay wm scratch table (get_or s.cpu.regs 1 0) bytes (mid v p stored)
    begins p r =
        let count = eight table in
        record {
          runs = r.runs;
          regs = set_regs s.cpu.regs 1 v saved.regs fits;
          code = r.code;
          added = r.added;
          heap = r.heap;
          below = r.below;
          rcx_low = get_word s.cpu.regs 1 saved.regs.words;
          kept = word_stays m scratch (scratch + 16) (little_bytes 8 table) (omega (arith, low)) (omega (arith, count, low)) (omega arith) ∙ saved.rcx;
          named = word_again m (scratch + 16) table (open_word dec lay wm scratch low page (mid v p m) 16 (ready p) (omega arith)) table_low;
          behind = has.table.behind;
          inside = has.table.inside;
          stands = there r.added;
        }

    abbrev to : ℕ
    to = leads (has_node ts) places.fragment lay.stub a v

    abbrev most : ℕ
    most = lookup_steps (binary_digits (length ts))

    looks : Ready dec lay wm scratch low page (mid v places.routine stored) → Comes dec lay.added s (mid v places.routine stored) 1 most to
    looks r =
        let start : Machine = mid v places.routine stored in
        let count : length (placed places.fragment ts) ≡ length ts = length-map ts _ in
        let below = digits_enough (length ts) (omega (arith, few)) in
        let within : length (placed places.fragment ts) ≤ 2 ^ binary_digits (length ts) = omega (arith, count, below) in
        let value : get_or (set s.cpu.regs 1 v) 1 0 ≡ v = get_or-set_same s.cpu.regs 1 v 0 long in
        let found = has.routine table (get_or s.cpu.regs 1 0) (lay.stub a) (binary_digits (length ts)) (placed places.fragment ts) start refl has.is_table within (begins places.routine r) in
        let back : s.cpu.regs ≡ set (set s.cpu.regs 1 v) 1 (get_or s.cpu.regs 1 0) = sym (set-set s.cpu.regs 1 v (get_or s.cpu.regs 1 0) ∙ set-get_or s.cpu.regs 1 0) in
        let came = looked_up_comes dec lay wm scratch (get_or s.cpu.regs 1 0) most (led (lay.stub a) (placed places.fragment ts) (get_or (set s.cpu.regs 1 v) 1 0)) s start page back refl saved.world stored_alike found in
        subst (Comes dec lay.added s start 1 most) (ap (led (lay.stub a) (placed places.fragment ts)) value ∙ led_by_targets places.fragment lay.stub a v ts) came

    -- the two items, the jump perhaps missing
    pub routed : (k p : ℕ) → ItemsFrom dec wm at own k p (look_up scratch a) → Comes dec lay.added s (mid v p m) 1 (2 + most) to
    routed k p h = ⊎_elim jumps falls s1.2.1
      where
        s1 : Stands dec lay places own wm k p (item.Store (scratch + 16) (label.Table a)) (jump label.Routine ∷ [])
        s1 = stands dec lay places own wm k p (item.Store (scratch + 16) (label.Table a)) (jump label.Routine) [] h

        stores : InsnAt dec wm p (store (scratch + 16) table) s1.0
        stores =
            let P : Bool → Type 0 = λ b. IsSomeAnd (if b then Some (store (scratch + 16) table) else None) (λ x. InsnAt dec wm p x s1.0) in
            subst P (lt-ltb (scratch + 16) (2 ^ 31) low) s1.1

        e1 : step dec (mid v p m) ≡ mid v s1.0 stored
        e1 =
            steps_by dec lay wm scratch low page (store (scratch + 16) table) (mid v p m) s1.0 _ (ready p) stores
            (store_is (scratch + 16) table s1.0 t (set s.cpu.regs 1 v) s.cpu.flags p m low
            (allowed_write m (scratch + 16) (open_word dec lay wm scratch low page (mid v p m) 16 (ready p) (omega arith))))

        ready1 : Ready dec lay wm scratch low page (mid v s1.0 stored)
        ready1 = ready_to dec lay wm scratch low page (mid v p m) (set s.cpu.regs 1 v) s.cpu.flags s1.0 stored (ready p) e1

        jumps : (next : ℕ) × ItemAt dec wm at s1.0 (jump label.Routine) next × ItemsFrom dec wm at own (suc (suc k)) next [] → Comes dec lay.added s (mid v p m) 1 (2 + most) to
        jumps two =
            let e2 : step dec (mid v s1.0 stored) ≡ mid v places.routine stored =
            step_is dec wm s1.0 (insn.Jmp places.routine) two.0 two.1 (mid v s1.0 stored) ready1.runs refl ready1.code ∙ jump_is (insn.Jmp places.routine) places.routine two.0 (mid v s1.0 stored) refl in
            let ready2 = ready_to dec lay wm scratch low page (mid v s1.0 stored) (set s.cpu.regs 1 v) s.cpu.flags places.routine stored ready1 e2 in
            weaker dec lay.added s (mid v p m) 3 (suc (suc most)) 1 (2 + most) to (omega arith) (omega arith)
            (one_more dec lay.added s (mid v p m) (mid v s1.0 stored) 2 (suc most) to e1 (one_more dec lay.added s (mid v s1.0 stored) (mid v places.routine stored) 1 most to e2 (looks ready2)))

        falls : (0 < suc k) × (Some places.routine ≡ Some s1.0) → Comes dec lay.added s (mid v p m) 1 (2 + most) to
        falls none =
            let arrives : s1.0 ≡ places.routine = let e = none.1 in cc in
            let e2 : step dec (mid v p m) ≡ mid v places.routine stored = e1 ∙ ap (λ q. mid v q stored) arrives in
            let ready2 = ready_to dec lay wm scratch low page (mid v p m) (set s.cpu.regs 1 v) s.cpu.flags places.routine stored (ready p) e2 in
            weaker dec lay.added s (mid v p m) 2 (suc most) 1 (2 + most) to (omega arith) (omega arith)
            (one_more dec lay.added s (mid v p m) (mid v places.routine stored) 1 most to e2 (looks ready2))
