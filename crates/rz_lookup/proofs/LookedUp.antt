-- The lookup routine goes where the table leads the value.
use Rattle.std.proofs.Common.{◌≡◌, ◌≢◌, ℕ, zero, suc, ◌+◌, ◌-◌, ◌*◌, ◌/◌, ◌%◌, ◌^◌, ◌<◌, ◌≤◌, inr, ⊎_elim, Bool, true, false, not, if◌then◌else◌, ◌==◌, nat_lt, List, [], ◌∷◌, ◌++◌, length, take, drop, get_or, set, Some, None, Ok, refl, sym, ap, ap₂, ◌∙◌, subst, arith, mod-eq_of_lt, ne_eqb, eq-eqb, eqb-true, le-ltb, ltb-true, ltb-false}
use Rattle.std.specs.Prelude.{unwrap_or, slice_get}
use Rattle.std.specs.List.{AllByRecursion}
use Rattle.std.proofs.Math.Nat.{pow-suc}
use Rattle.std.proofs.lemmas.Bool.{cases_eq}
use Rattle.std.proofs.lemmas.List.{length-append}
use Rattle.byteorder.specs.Endian.{little_bytes}
use Rattle.rz_num.specs.declared.width.Width.TheVariants.{W32, W64}
use Rattle.rz_flags.specs.declared.Flags.{Flags}
use Rattle.rz_flags.specs.declared.Cond.{Cond}
use Rattle.rz_flags.specs.declared.Cond.TheVariants.{B, E, NE}
use Rattle.rz_flags.specs.Cond.{holds}
use Rattle.rz_flags.specs.Word.{flags_word, bit_of}
use Rattle.rz_flags.specs.Laws.Word.{flags_in-flags_word}
use Rattle.rz_isa.specs.declared.instruction.Insn.{Insn}
use Rattle.rz_isa.specs.declared.instruction.Insn.TheVariants as insn
use Rattle.rz_isa.specs.declared.instruction.Place.TheVariants as place
use Rattle.rz_isa.specs.declared.instruction.Operand.TheVariants as operand
use Rattle.rz_isa.specs.declared.item_list.Item.TheVariants as item
use Rattle.rz_isa.specs.Emitted.{register}
use Rattle.rz_isa.specs.Items.{Addresses, absolute, beside}
use Rattle.rz_isa.specs.Nodes.{Decoder}
use Rattle.rz_image.specs.Memory.{Regions, RangeStands, Alike, cell_at, put_bytes, refused, is_writable}
use Rattle.rz_exec.specs.Form.{read_word}
use Rattle.rz_exec.specs.Operands.{address}
use Rattle.rz_exec.specs.Stack.{below_top}
use Rattle.rz_sys.specs.Heap.{HasHeap}
use Rattle.rz_machine.specs.declared.machine.Machine.{Machine}
use Rattle.rz_machine.specs.Added.{Layout}
use Rattle.rz_machine.specs.State.{step, after, perform}
use Rattle.rz_machine.specs.Simulates.{InsnAt, ItemsFrom, HasCode, HasScratch}
use Rattle.rz_machine.specs.Laws.Code.{step_code, after_range}
use Rattle.rz_machine.specs.Laws.Comes.{step_is, branch_is, jump_is}
use Rattle.rz_machine.specs.Laws.Steps.{step_heap}
use Rattle.rz_machine.specs.Tables.{IsTable, table_of, pairs_bytes, led}
use Rattle.rz_machine.specs.Lookup.{HasWord, HasBytes, LooksUp, LookedUp, lookup_steps, working}
use Rattle.rz_lookup.specs.Routine.{NamesItems, RoutineLooksUp, branch, jump_to, lookup_items, based, paired, store, load, load_number, halve, compare, compare_low, advance}
use Rattle.rz_lookup.proofs.Bytes.{bytes_behind, bytes_before, bytes_in, read_number, pairs_len, pairs_behind}
use Rattle.rz_lookup.proofs.LookupRun.{based_is, paired_is, equal_is, unequal_is, below_is, Leads, there, first, in_more}
use Rattle.rz_lookup.proofs.LookupSteps.{store_is, load_is, number_is, advance_is, halved, halve_is, difference, compare_is, compare_number_is, compare_low_is, push_flags_is, pop_flags_is}
use Rattle.rz_lookup.proofs.Placed.{whole_at, branch_at, jump_at}
use Rattle.rz_lookup.proofs.Searched.{Pairs, IsLeft, left_lower, left_upper, length_drop, length_front, HasPair, has_pair}
use Rattle.rz_machine.specs.Laws.States.{now, absolute_is}
use Rattle.rz_machine.specs.Laws.Stored.{word, is_open, allowed_write, word_again, word_stays, puts_low, eight, alike_inside}
use Rattle.rz_machine.specs.Laws.Transfers.{jump_is as jump_indirect_is}

-- code, heap and added range stand in a memory
record Usable (lay : Layout) (wm : Regions) (t : Machine) (m : Regions) : Type 0 where
  code : HasCode wm m
  heap : HasHeap m t.world
  added : RangeStands lay.added wm m

module _ (dec : Decoder) (lay : Layout) (at : Addresses) (own : ℕ → ℕ) (wm : Regions) (scratch table rcx stub : ℕ) (pairs : Pairs) (t : Machine) (names : NamesItems at own)
    (items : ItemsFrom dec wm at own 0 t.cpu.rip (lookup_items scratch)) (page : HasScratch scratch lay.added wm) (is : IsTable stub pairs) (looks : LooksUp lay wm scratch table rcx (table_of stub pairs) t) where
  low : scratch + 4096 < 2 ^ 31
  low = omega (arith, page.last, page.top)

  abbrev Ready : Regions → Type 0
  Ready m = Usable lay wm t m

  -- ---- the instructions of the items

  whole : (n : ℕ) (x : Insn) → slice_get (lookup_items scratch) n ≡ Some (item.Whole x) → InsnAt dec wm (own n) x (own (suc n))
  whole n x e = whole_at dec wm at own names t.cpu.rip (lookup_items scratch) tt items n x e

  fork : (n : ℕ) (c : Cond) (k : ℕ) → slice_get (lookup_items scratch) n ≡ Some (branch c k) → InsnAt dec wm (own n) (insn.Jcc c (own k)) (own (suc n))
  fork n c k e = branch_at dec wm at own names t.cpu.rip (lookup_items scratch) tt items n c k e

  back_to : (n k : ℕ) → slice_get (lookup_items scratch) n ≡ Some (jump_to k) → InsnAt dec wm (own n) (insn.Jmp (own k)) (own (suc n))
  back_to n k e = jump_at dec wm at own names t.cpu.rip (lookup_items scratch) tt items n k e

  -- ---- one step

  module _ (regs : List ℕ) (f : Flags) (m : Regions) (u : Usable lay wm t m) (p next : ℕ) where
    goes : (x : Insn) (s : Machine) → InsnAt dec wm p x next → perform x next (now t regs f p m) ≡ s → step dec (now t regs f p m) ≡ s
    goes x s i e = step_is dec wm p x next i (now t regs f p m) looks.runs refl u.code ∙ e

    usable : (regs' : List ℕ) (f' : Flags) (p' : ℕ) (m' : Regions) → step dec (now t regs f p m) ≡ now t regs' f' p' m' → Usable lay wm t m'
    unfolding after
    usable regs' f' p' m' e =
        record {
          code = subst (λ (s : Machine). HasCode wm s.mem) e (step_code wm dec (now t regs f p m) u.heap u.code);
          heap = subst (λ (s : Machine). HasHeap s.mem s.world) e (step_heap dec (now t regs f p m) u.heap);
          added = subst (λ (s : Machine). RangeStands lay.added wm s.mem) e (after_range lay.added wm dec 1 (now t regs f p m) u.heap looks.below u.added);
        }

    -- a register is stored
    stores : (i r w : ℕ) → i + 8 ≤ 4096 → get_or regs r 0 ≡ w → w < 2 ^ 64 → InsnAt dec wm p (store (scratch + i) r) next
        → step dec (now t regs f p m) ≡ now t regs f next (put_bytes m (scratch + i) (little_bytes 8 w))
    stores i r w few e fits at =
        let cut : get_or regs r 0 % 2 ^ 64 ≡ w = ap (λ v. v % 2 ^ 64) e ∙ mod-eq_of_lt fits in
        goes (store (scratch + i) r) _ at
        (store_is t regs f p m next (scratch + i) r (omega (arith, low)) (allowed_write m (scratch + i) (is_open scratch i lay.added wm m page u.added few))
        ∙ ap (λ v. now t regs f next (put_bytes m (scratch + i) (little_bytes 8 v))) cut)

    -- a register is loaded: from the scratch page, from a word behind another register, and from half a word there
    loads : (a r w : ℕ) → a < 2 ^ 31 → w < 2 ^ 64 → HasWord m a w → InsnAt dec wm p (load W64 r (absolute a)) next
        → step dec (now t regs f p m) ≡ now t (set regs r w) f next m
    loads a r w small fits h at =
        let e : read_word m (word (address regs (absolute a))) ≡ Ok w = ap (λ x. read_word m (word x)) (absolute_is regs a small) ∙ h in
        goes (load W64 r (absolute a)) _ at (load_is t regs f p m next W64 r (absolute a) w e ∙ ap (λ x. now t (set regs r x) f next m) (mod-eq_of_lt fits))

    loads_based : (r q disp b w : ℕ) → get_or regs q 0 ≡ b → b < 2 ^ 31 → disp < 2 ^ 31 → w < 2 ^ 64 → HasWord m (b + disp) w → InsnAt dec wm p (load W64 r (based q disp)) next
        → step dec (now t regs f p m) ≡ now t (set regs r w) f next m
    loads_based r q disp b w is small near fits h at =
        let e : read_word m (word (address regs (based q disp))) ≡ Ok w = ap (λ x. read_word m (word x)) (based_is regs q disp b is small near) ∙ h in
        goes (load W64 r (based q disp)) _ at (load_is t regs f p m next W64 r (based q disp) w e ∙ ap (λ x. now t (set regs r x) f next m) (mod-eq_of_lt fits))

    loads_half : (r q disp b w : ℕ) → get_or regs q 0 ≡ b → b < 2 ^ 31 → disp < 2 ^ 31 → w < 2 ^ 32 → read_word m (Some (record { at = b + disp; width = W32 })) ≡ Ok w
        → InsnAt dec wm p (load W32 r (based q disp)) next → step dec (now t regs f p m) ≡ now t (set regs r w) f next m
    loads_half r q disp b w is small near fits h at =
        let e : read_word m (Some (record { at = address regs (based q disp); width = W32 })) ≡ Ok w = ap (λ x. read_word m (Some (record { at = x; width = W32 }))) (based_is regs q disp b is small near) ∙ h in
        goes (load W32 r (based q disp)) _ at (load_is t regs f p m next W32 r (based q disp) w e ∙ ap (λ x. now t (set regs r x) f next m) (mod-eq_of_lt fits))

    -- a number below 2^31 is loaded
    numbers : (r n : ℕ) → n < 2 ^ 31 → InsnAt dec wm p (load_number r n) next → step dec (now t regs f p m) ≡ now t (set regs r n) f next m
    numbers r n small at =
        let same : n % 2 ^ 32 ≡ n = omega (arith, small) in
        goes (load_number r n) _ at (number_is t regs f p m next r n ∙ ap (λ x. now t (set regs r x) f next m) same)

    -- a register is halved
    halves : (r n : ℕ) → get_or regs r 0 ≡ n → n < 2 ^ 31 → InsnAt dec wm p (halve r) next
        → step dec (now t regs f p m) ≡ now t (set regs r (n / 2)) (halved t regs f p m next r) next m
    halves r n e small at =
        let half : get_or regs r 0 % 2 ^ 64 % 2 ^ 64 / 2 % 2 ^ 64 ≡ n / 2 = omega (arith, e, small) in
        goes (halve r) _ at (halve_is t regs f p m next r ∙ ap (λ x. now t (set regs r x) (halved t regs f p m next r) next m) half)

    half_zero : (r n : ℕ) (z : Bool) → get_or regs r 0 ≡ n → n < 2 ^ 31 → (n / 2 == 0) ≡ z → (halved t regs f p m next r).zf ≡ z
    half_zero r n z e small h = let s : get_or regs r 0 % 2 ^ 64 % 2 ^ 64 / 2 ≡ n / 2 = omega (arith, e, small) in ap (λ x. x == 0) s ∙ h

    half_carry : (r n : ℕ) → get_or regs r 0 ≡ n → n < 2 ^ 31 → (halved t regs f p m next r).cf ≡ (n % 2 == 1)
    half_carry r n e small = let s : get_or regs r 0 % 2 ^ 64 % 2 ^ 64 / 1 % 2 ≡ n % 2 = omega (arith, e, small) in ap (λ x. x == 1) s

    -- jumps
    branches : (c : Cond) (k : ℕ) (b : Bool) → holds c f ≡ b → InsnAt dec wm p (insn.Jcc c k) next
        → step dec (now t regs f p m) ≡ now t regs f (if b then k else next) m
    branches c k b e at =
        goes (insn.Jcc c k) _ at (branch_is (insn.Jcc c k) c k next (now t regs f p m) refl ∙ ap (λ x. now t regs f (if x then k else next) m) e)

    jumps : (k : ℕ) → InsnAt dec wm p (insn.Jmp k) next → step dec (now t regs f p m) ≡ now t regs f k m
    jumps k at = goes (insn.Jmp k) _ at (jump_is (insn.Jmp k) k next (now t regs f p m) refl)

  -- a word of the scratch page stays under a store behind it
  keeps : (m : Regions) (i j w x : ℕ) → i + 8 ≤ j → j + 8 ≤ 4096 → HasWord m (scratch + i) w → HasWord (put_bytes m (scratch + j) (little_bytes 8 x)) (scratch + i) w
  keeps m i j w x apart few h =
      let n = eight x in
      word_stays m (scratch + i) (scratch + j) (little_bytes 8 x) (omega (arith, low)) (omega (arith, low, n)) (omega arith) ∙ h

  stored : (m : Regions) (i w : ℕ) → i + 8 ≤ 4096 → w < 2 ^ 64 → Ready m → HasWord (put_bytes m (scratch + i) (little_bytes 8 w)) (scratch + i) w
  stored m i w few fits u = word_again m (scratch + i) w (is_open scratch i lay.added wm m page u.added few) fits

  -- ---- where the table leads

  flags_fit : (f : Flags) → flags_word f < 2 ^ 64
  flags_fit f = omega (arith, bits f.cf 1, bits f.pf 4, bits f.af 16, bits f.zf 64, bits f.sf 128, bits f.df 1024, bits f.of 2048)
    where
      bits : (b : Bool) (n : ℕ) → bit_of b n ≤ n
      bits true n = omega arith
      bits false n = omega arith

  led_fits : (v : ℕ) (ps : Pairs) → AllByRecursion (λ p. p.1 < 2 ^ 32) ps → led stub ps v < 2 ^ 64
  led_fits v [] h = let l = is.stub_low in omega (arith, l)
  led_fits v (p ∷ ps) h = go (p.0 == v) (led_fits v ps h.1)
    where
      go : (c : Bool) → led stub ps v < 2 ^ 64 → unwrap_or (if c then Some p.1 else beside ps v) stub < 2 ^ 64
      go true rest = let l : p.1 < 2 ^ 32 = h.0 in omega (arith, l)
      go false rest = rest

  -- ---- the registers that it uses

  module _ (a0 v a2 a3 a4 : ℕ) (rest : List ℕ) (shape : t.cpu.regs ≡ a0 ∷ v ∷ a2 ∷ a3 ∷ a4 ∷ rest) where
    -- with others in RAX and RSP
    abbrev regs : (rax rsp : ℕ) → List ℕ
    regs rax rsp = rax ∷ v ∷ a2 ∷ a3 ∷ rsp ∷ rest

    abbrev state : (rax rsp : ℕ) → Flags → ℕ → Regions → Machine
    state rax rsp f p m = now t (rax ∷ v ∷ a2 ∷ a3 ∷ rsp ∷ rest) f p m

    words : AllByRecursion (λ w. w < 2 ^ 64) (a0 ∷ v ∷ a2 ∷ a3 ∷ a4 ∷ rest)
    words = subst (AllByRecursion (λ w. w < 2 ^ 64)) shape looks.regs.words

    a0_fits : a0 < 2 ^ 64
    a0_fits = words.0

    v_fits : v < 2 ^ 64
    v_fits = words.1.0

    a4_fits : a4 < 2 ^ 64
    a4_fits = words.1.1.1.1.0

    abbrev flags : Flags
    flags = t.cpu.flags

    -- ---- memory, as the routine writes it: RSP, the flags and RAX, and at last the place that it goes to

    abbrev m1 : Regions
    m1 = put_bytes t.mem (scratch + 24) (little_bytes 8 a4)

    abbrev m2 : Regions
    m2 = put_bytes m1 (scratch + 32) (little_bytes 8 (flags_word t.cpu.flags))

    abbrev m3 : Regions
    m3 = put_bytes m2 (scratch + 40) (little_bytes 8 a0)

    abbrev m4 : ℕ → Regions
    m4 q = put_bytes m3 (scratch + 48) (little_bytes 8 q)

    abbrev final : ℕ → Machine
    final q = now t (a0 ∷ rcx ∷ a2 ∷ a3 ∷ a4 ∷ rest) t.cpu.flags q (m4 q)

    abbrev goal : Machine
    goal = final (led stub pairs v)

    -- ---- the registers and flags are kept

    starts : t ≡ state a0 a4 flags (own 0) t.mem
    starts = ap (λ r. now t r t.cpu.flags t.cpu.rip t.mem) shape ∙ ap (λ p. state a0 a4 t.cpu.flags p t.mem) (sym items.0)

    ready0 : Ready t.mem
    ready0 = record { code = looks.code; heap = looks.heap; added = looks.added }

    s0 : step dec (state a0 a4 flags (own 0) t.mem) ≡ state a0 a4 flags (own 1) m1
    s0 = stores (regs a0 a4) flags t.mem ready0 (own 0) (own 1) 24 4 a4 (omega arith) refl a4_fits (whole 0 (store (scratch + 24) 4) refl)

    ready1 : Ready m1
    ready1 = usable (regs a0 a4) flags t.mem ready0 (own 0) (own 1) _ _ _ _ s0

    s1 : step dec (state a0 a4 flags (own 1) m1) ≡ state a0 (scratch + 40) flags (own 2) m1
    s1 = numbers (regs a0 a4) flags m1 ready1 (own 1) (own 2) 4 (scratch + 40) (omega (arith, low)) (whole 1 (load_number 4 (scratch + 40)) refl)

    s2 : step dec (state a0 (scratch + 40) flags (own 2) m1) ≡ state a0 (scratch + 32) flags (own 3) m2
    s2 =
        let top : below_top (regs a0 (scratch + 40)) ≡ scratch + 32 = omega (arith, low) in
        let open' : refused is_writable m1 (below_top (regs a0 (scratch + 40))) 8 ≡ None =
        ap (λ x. refused is_writable m1 x 8) top ∙ allowed_write m1 (scratch + 32) (is_open scratch 32 lay.added wm m1 page ready1.added (omega arith)) in
        let same : (scratch + 32) % 2 ^ 64 ≡ scratch + 32 = omega (arith, low) in
        goes (regs a0 (scratch + 40)) flags m1 ready1 (own 2) (own 3) insn.PushFlags _ (whole 2 insn.PushFlags refl)
        (push_flags_is t (regs a0 (scratch + 40)) flags (own 2) m1 (own 3) open'
        ∙ ap (λ x. state a0 (x % 2 ^ 64) flags (own 3) (put_bytes m1 x (little_bytes 8 (flags_word t.cpu.flags)))) top
        ∙ ap (λ x. state a0 x flags (own 3) m2) same)

    ready2 : Ready m2
    ready2 = usable (regs a0 (scratch + 40)) flags m1 ready1 (own 2) (own 3) _ _ _ _ s2

    s3 : step dec (state a0 (scratch + 32) flags (own 3) m2) ≡ state a0 (scratch + 32) flags (own 4) m3
    s3 = stores (regs a0 (scratch + 32)) flags m2 ready2 (own 3) (own 4) 40 0 a0 (omega arith) refl a0_fits (whole 3 (store (scratch + 40) 0) refl)

    ready : Ready m3
    ready = usable (regs a0 (scratch + 32)) flags m2 ready2 (own 3) (own 4) _ _ _ _ s3

    -- ---- what is read again

    kept_before : (i w : ℕ) → i + 8 ≤ 24 → HasWord t.mem (scratch + i) w → HasWord m3 (scratch + i) w
    kept_before i w few h =
        keeps m2 i 40 w a0 (omega arith) (omega arith) (keeps m1 i 32 w (flags_word t.cpu.flags) (omega arith) (omega arith) (keeps t.mem i 24 w a4 (omega arith) (omega arith) h))

    rcx_kept : HasWord m3 (scratch + 0) rcx
    rcx_kept = let e : scratch ≡ scratch + 0 = omega arith in kept_before 0 rcx (omega arith) (subst (λ a. HasWord t.mem a rcx) e looks.kept)

    table_kept : HasWord m3 (scratch + 16) table
    table_kept = kept_before 16 table (omega arith) looks.named

    rsp_kept : HasWord m3 (scratch + 24) a4
    rsp_kept =
        keeps m2 24 40 a4 a0 (omega arith) (omega arith)
        (keeps m1 24 32 a4 (flags_word t.cpu.flags) (omega arith) (omega arith) (stored t.mem 24 a4 (omega arith) a4_fits ready0))

    flags_kept : HasWord m3 (scratch + 32) (flags_word t.cpu.flags)
    flags_kept = keeps m2 32 40 (flags_word t.cpu.flags) a0 (omega arith) (omega arith) (stored m1 32 (flags_word t.cpu.flags) (omega arith) (flags_fit t.cpu.flags) ready1)

    rax_kept : HasWord m3 (scratch + 40) a0
    rax_kept = stored m2 40 a0 (omega arith) a0_fits ready2

    -- the table stands

    bytes_count : length (table_of stub pairs) ≡ 16 + 8 * length pairs
    bytes_count =
        let head = length-append (little_bytes 8 stub) (little_bytes 8 (length pairs) ++ pairs_bytes pairs) in
        let tail = length-append (little_bytes 8 (length pairs)) (pairs_bytes pairs) in
        omega (arith, head, tail, pairs_len pairs, eight stub, eight (length pairs))

    table_low : table + 16 + 8 * length pairs ≤ 0x70000000
    table_low = omega (arith, looks.inside, page.top, bytes_count)

    cell_stays : (m : Regions) (i x c : ℕ) → i + 8 ≤ 4096 → scratch + 4096 ≤ c → cell_at (put_bytes m (scratch + i) (little_bytes 8 x)) c ≡ cell_at m c
    cell_stays m i x c few behind = let n = eight x in puts_low m (scratch + i) (little_bytes 8 x) c (omega (arith, low, n)) (inr (omega (arith, n, behind)))

    table_stands : HasBytes m3 table (table_of stub pairs)
    table_stands =
        bytes_in t.mem m3 table (table_of stub pairs)
        (λ k lt.
        let b : scratch + 4096 ≤ table + k = let l = looks.behind in omega (arith, l) in
        cell_stays m2 40 a0 (table + k) (omega arith) b ∙ cell_stays m1 32 (flags_word t.cpu.flags) (table + k) (omega arith) b
        ∙ cell_stays t.mem 24 a4 (table + k) (omega arith) b)
        looks.stands

    stub_read : HasWord m3 (table + 0) stub
    stub_read =
        let e : table ≡ table + 0 = omega arith in
        let b : HasBytes m3 table (little_bytes 8 stub) = bytes_before m3 table (little_bytes 8 stub) (little_bytes 8 (length pairs) ++ pairs_bytes pairs) table_stands in
        subst (λ a. HasWord m3 a stub) e (read_number W64 m3 table stub (omega (arith, table_low)) (let l = is.stub_low in omega (arith, l)) b)

    behind_stub : HasBytes m3 (table + 8) (little_bytes 8 (length pairs) ++ pairs_bytes pairs)
    behind_stub = let n = eight stub in bytes_behind m3 table (table + 8) (little_bytes 8 stub) (little_bytes 8 (length pairs) ++ pairs_bytes pairs) (omega (arith, n)) table_stands

    count_read : HasWord m3 (table + 8) (length pairs)
    count_read =
        read_number W64 m3 (table + 8) (length pairs) (omega (arith, table_low)) (let l = is.few in omega (arith, l)) (bytes_before m3 (table + 8) (little_bytes 8 (length pairs)) (pairs_bytes pairs) behind_stub)

    all_left : IsLeft m3 pairs v table pairs
    all_left =
        record {
          same = refl;
          ascend = is.ascend;
          targets_low = is.targets_low;
          places_low = is.places_low;
          stands = let n = eight (length pairs) in bytes_behind m3 (table + 8) (table + 16) (little_bytes 8 (length pairs)) (pairs_bytes pairs) (omega (arith, n)) behind_stub;
          low = omega (arith, table_low);
        }

    -- ---- the registers and flags are given back

    leaves : (q rsp : ℕ) (f : Flags) → q < 2 ^ 64 → Leads dec (state q rsp f (own 29) m3) (final q) 7
    leaves q rsp f small =
        first dec _ _ _ 6 s29 (first dec _ _ _ 5 s30 (first dec _ _ _ 4 s31 (first dec _ _ _ 3 s32 (first dec _ _ _ 2 s33 (first dec _ _ _ 1 s34 (first dec _ _ _ 0 s35 (there dec (final q))))))))
      where
        q_fits : q < 2 ^ 64
        q_fits = omega (arith, small)

        s29 : step dec (state q rsp f (own 29) m3) ≡ state q rsp f (own 30) (m4 q)
        s29 = stores (regs q rsp) f m3 ready (own 29) (own 30) 48 0 q (omega arith) refl q_fits (whole 29 (store (scratch + 48) 0) refl)

        ready4 : Ready (m4 q)
        ready4 = usable (regs q rsp) f m3 ready (own 29) (own 30) _ _ _ _ s29

        s30 : step dec (state q rsp f (own 30) (m4 q)) ≡ state q (scratch + 32) f (own 31) (m4 q)
        s30 = numbers (regs q rsp) f (m4 q) ready4 (own 30) (own 31) 4 (scratch + 32) (omega (arith, low)) (whole 30 (load_number 4 (scratch + 32)) refl)

        s31 : step dec (state q (scratch + 32) f (own 31) (m4 q)) ≡ state q (scratch + 40) flags (own 32) (m4 q)
        s31 =
            let same : (scratch + 32 + 8) % 2 ^ 64 ≡ scratch + 40 = omega (arith, low) in
            let read = keeps m3 32 48 (flags_word t.cpu.flags) q (omega arith) (omega arith) flags_kept in
            goes (regs q (scratch + 32)) f (m4 q) ready4 (own 31) (own 32) insn.PopFlags _ (whole 31 insn.PopFlags refl)
            (pop_flags_is t (regs q (scratch + 32)) f (own 31) (m4 q) (own 32) (flags_word t.cpu.flags) t.cpu.flags read (flags_in-flags_word t.cpu.flags)
            ∙ ap (λ x. state q x flags (own 32) (m4 q)) same)

        s32 : step dec (state q (scratch + 40) flags (own 32) (m4 q)) ≡ state a0 (scratch + 40) flags (own 33) (m4 q)
        s32 =
            loads (regs q (scratch + 40)) flags (m4 q) ready4 (own 32) (own 33) (scratch + 40) 0 a0 (omega (arith, low)) a0_fits
            (keeps m3 40 48 a0 q (omega arith) (omega arith) rax_kept) (whole 32 (load W64 0 (absolute (scratch + 40))) refl)

        s33 : step dec (state a0 (scratch + 40) flags (own 33) (m4 q)) ≡ state a0 a4 flags (own 34) (m4 q)
        s33 =
            loads (regs a0 (scratch + 40)) flags (m4 q) ready4 (own 33) (own 34) (scratch + 24) 4 a4 (omega (arith, low)) a4_fits
            (keeps m3 24 48 a4 q (omega arith) (omega arith) rsp_kept) (whole 33 (load W64 4 (absolute (scratch + 24))) refl)

        s34 : step dec (state a0 a4 flags (own 34) (m4 q)) ≡ now t (a0 ∷ rcx ∷ a2 ∷ a3 ∷ a4 ∷ rest) flags (own 35) (m4 q)
        s34 =
            let e : scratch + 0 ≡ scratch = omega arith in
            loads (regs a0 a4) flags (m4 q) ready4 (own 34) (own 35) scratch 1 rcx (omega (arith, low)) looks.rcx_low
            (subst (λ a. HasWord (m4 q) a rcx) e (keeps m3 0 48 rcx q (omega arith) (omega arith) rcx_kept)) (whole 34 (load W64 1 (absolute scratch)) refl)

        s35 : step dec (now t (a0 ∷ rcx ∷ a2 ∷ a3 ∷ a4 ∷ rest) flags (own 35) (m4 q)) ≡ final q
        s35 =
            let r : List ℕ = a0 ∷ rcx ∷ a2 ∷ a3 ∷ a4 ∷ rest in
            let src = place.Mem (absolute (scratch + 48)) in
            let e : read_word (m4 q) (word (address r (absolute (scratch + 48)))) ≡ Ok q =
            ap (λ x. read_word (m4 q) (word x)) (absolute_is r (scratch + 48) (omega (arith, low))) ∙ stored m3 48 q (omega arith) q_fits ready in
            goes r flags (m4 q) ready4 (own 35) (own 36) (insn.JmpInd src) _ (whole 35 (insn.JmpInd src) refl)
            (jump_indirect_is src (own 36) (now t r flags (own 35) (m4 q)) (Ok q) e ∙ ap (λ x. now t r flags x (m4 q)) (mod-eq_of_lt q_fits))

    -- ---- no pair has the value

    leaves_to_stub : (rax rsp : ℕ) (f : Flags) → Leads dec (state rax rsp f (own 19) m3) (final stub) 10
    leaves_to_stub rax rsp f =
        first dec _ _ _ 9 s19 (first dec _ _ _ 8 s20 (first dec _ _ _ 7 s21 (leaves stub rsp f (let l = is.stub_low in omega (arith, l)))))
      where
        s19 : step dec (state rax rsp f (own 19) m3) ≡ state table rsp f (own 20) m3
        s19 =
            loads (regs rax rsp) f m3 ready (own 19) (own 20) (scratch + 16) 0 table (omega (arith, low)) (omega (arith, table_low))
            table_kept (whole 19 (load W64 0 (absolute (scratch + 16))) refl)

        s20 : step dec (state table rsp f (own 20) m3) ≡ state stub rsp f (own 21) m3
        s20 =
            loads_based (regs table rsp) f m3 ready (own 20) (own 21) 0 0 0 table stub refl (omega (arith, table_low)) (omega arith)
            (let l = is.stub_low in omega (arith, l)) stub_read (whole 20 (load W64 0 (based 0 0)) refl)

        s21 : step dec (state stub rsp f (own 21) m3) ≡ state stub rsp f (own 29) m3
        s21 = jumps (regs stub rsp) f m3 ready (own 21) (own 22) (own 29) (back_to 21 29 refl)

    -- ---- one pair is left

    decides : (b rax : ℕ) (f : Flags) (p : ℕ × ℕ) → IsLeft m3 pairs v b (p ∷ []) → Leads dec (state rax b f (own 16) m3) goal 13
    decides b rax f p left = first dec _ _ _ 12 s16 (first dec _ _ _ 11 s17 (⊎_elim same other (cases_eq p.0 v)))
      where
        b_low : b + 24 ≤ 2 ^ 31
        b_low = let l = left.low in omega (arith, l)

        target_fits : p.0 < 2 ^ 32
        target_fits = left.targets_low.0

        place_fits : p.1 < 2 ^ 32
        place_fits = left.places_low.0

        target_read : read_word m3 (Some (record { at = b + 16; width = W32 })) ≡ Ok p.0
        target_read = read_number W32 m3 (b + 16) p.0 (omega (arith, b_low)) (omega (arith, target_fits)) (bytes_before m3 (b + 16) (little_bytes 4 p.0) (little_bytes 4 p.1 ++ []) left.stands)

        place_read : read_word m3 (Some (record { at = b + 20; width = W32 })) ≡ Ok p.1
        place_read =
            read_number W32 m3 (b + 20) p.1 (omega (arith, b_low)) (omega (arith, place_fits))
            (bytes_before m3 (b + 20) (little_bytes 4 p.1) [] (bytes_behind m3 (b + 16) (b + 20) (little_bytes 4 p.0) (little_bytes 4 p.1 ++ []) (omega arith) left.stands))

        s16 : step dec (state rax b f (own 16) m3) ≡ state p.0 b f (own 17) m3
        s16 =
            loads_half (regs rax b) f m3 ready (own 16) (own 17) 0 4 16 b p.0 refl (omega (arith, b_low)) (omega arith) (omega (arith, target_fits))
            target_read (whole 16 (load W32 0 (based 4 16)) refl)

        compared : Flags
        compared = difference t (regs p.0 b) f (own 17) m3 (own 18) W64 (p.0 % 2 ^ 64) (v % 2 ^ 64)

        s17 : step dec (state p.0 b f (own 17) m3) ≡ state p.0 b compared (own 18) m3
        s17 = goes (regs p.0 b) f m3 ready (own 17) (own 18) _ _ (whole 17 (compare 0 (operand.Place (register 1))) refl) (compare_is t (regs p.0 b) f (own 17) m3 (own 18) 0 1)

        left_over : ℕ
        left_over = (p.0 % 2 ^ 64 % 2 ^ 64 + (2 ^ 64 - v % 2 ^ 64 % 2 ^ 64 - 0)) % 2 ^ 64

        s18 : (e : Bool) → (left_over == 0) ≡ e → step dec (state p.0 b compared (own 18) m3) ≡ state p.0 b compared (if e then own 28 else own 19) m3
        s18 e is = branches (regs p.0 b) compared m3 ready (own 18) (own 19) E (own 28) e (equal_is compared e is) (fork 18 E 28 refl)

        same : p.0 ≡ v → Leads dec (state p.0 b compared (own 18) m3) goal 11
        same e =
            let none : left_over ≡ 0 = omega (arith, e, v_fits) in
            let s28 : step dec (state p.0 b compared (own 28) m3) ≡ state p.1 b compared (own 29) m3 =
            loads_half (regs p.0 b) compared m3 ready (own 28) (own 29) 0 4 20 b p.1 refl (omega (arith, b_low)) (omega arith) (omega (arith, place_fits))
            place_read (whole 28 (load W32 0 (based 4 20)) refl) in
            let to : p.1 ≡ led stub pairs v = sym (ap (λ c. unwrap_or (if c then Some p.1 else None) stub) (eq-eqb p.0 v e)) ∙ ap (λ o. unwrap_or o stub) left.same in
            subst (λ q. Leads dec (state p.0 b compared (own 18) m3) (final q) 11) to
            (in_more dec _ _ 9 11 (omega arith) (first dec _ _ _ 8 (s18 true (eq-eqb left_over 0 none)) (first dec _ _ _ 7 s28 (leaves p.1 b compared (omega (arith, place_fits))))))

        other : p.0 ≢ v → Leads dec (state p.0 b compared (own 18) m3) goal 11
        other ne =
            let some : left_over ≢ 0 = λ z. ne (omega (arith, z, v_fits, target_fits)) in
            let to : stub ≡ led stub pairs v = sym (ap (λ c. unwrap_or (if c then Some p.1 else None) stub) (ne_eqb p.0 v ne)) ∙ ap (λ o. unwrap_or o stub) left.same in
            subst (λ q. Leads dec (state p.0 b compared (own 18) m3) (final q) 11) to
            (first dec _ _ _ 10 (s18 false (ne_eqb left_over 0 some)) (leaves_to_stub p.0 b compared))

    -- ---- the search

    -- RAX is the number of pairs, and is halved next
    abbrev Halves : (d : ℕ) → Type 0
    Halves d = (b : ℕ) (f : Flags) (ps : Pairs) → IsLeft m3 pairs v b ps → 1 ≤ length ps → length ps ≤ 2 ^ d → Leads dec (state (length ps) b f (own 14) m3) goal (15 + 7 * d)

    -- RAX is half the number of pairs, and CF is set where that is odd
    abbrev Searches : (d : ℕ) → Type 0
    Searches d =
        (b : ℕ) (f : Flags) (ps : Pairs) → IsLeft m3 pairs v b ps → 2 ≤ length ps → length ps ≤ 2 ^ d → f.cf ≡ (length ps % 2 == 1)
        → Leads dec (state (length ps / 2) b f (own 10) m3) goal (12 + 7 * d)

    few_left : (b : ℕ) (ps : Pairs) → IsLeft m3 pairs v b ps → length ps < 2 ^ 31
    few_left b ps left = let l = left.low in omega (arith, l)

    -- by whether one pair is left
    halves_by : (d : ℕ) → Searches d → Halves d
    halves_by d more b f ps left some few = in_more dec _ _ (suc (14 + 7 * d)) (15 + 7 * d) (omega arith) (first dec _ _ _ (14 + 7 * d) s14 (go (length ps / 2 == 0) refl))
      where
        small : length ps < 2 ^ 31
        small = few_left b ps left

        f' : Flags
        f' = halved t (regs (length ps) b) f (own 14) m3 (own 15) 0

        s14 : step dec (state (length ps) b f (own 14) m3) ≡ state (length ps / 2) b f' (own 15) m3
        s14 = halves (regs (length ps) b) f m3 ready (own 14) (own 15) 0 (length ps) refl small (whole 14 (halve 0) refl)

        s15 : (z : Bool) → (length ps / 2 == 0) ≡ z → step dec (state (length ps / 2) b f' (own 15) m3) ≡ state (length ps / 2) b f' (if not z then own 10 else own 16) m3
        s15 z e =
            branches (regs (length ps / 2) b) f' m3 ready (own 15) (own 16) NE (own 10) (not z)
            (unequal_is f' z (half_zero (regs (length ps) b) f m3 ready (own 14) (own 15) 0 (length ps) z refl small e)) (fork 15 NE 10 refl)

        one_left : (qs : Pairs) (rax : ℕ) → IsLeft m3 pairs v b qs → 1 ≤ length qs → length qs ≤ 1 → Leads dec (state rax b f' (own 16) m3) goal 13
        one_left [] rax left some le = absurd (omega arith)
        one_left (p ∷ []) rax left some le = decides b rax f' p left
        one_left (p ∷ q ∷ qs) rax left some le = absurd (omega arith)

        go : (z : Bool) → (length ps / 2 == 0) ≡ z → Leads dec (state (length ps / 2) b f' (own 15) m3) goal (14 + 7 * d)
        go true e =
            let none : length ps / 2 ≡ 0 = eqb-true (length ps / 2) 0 e in
            in_more dec _ _ 14 (14 + 7 * d) (omega arith) (first dec _ _ _ 13 (s15 true e) (one_left ps (length ps / 2) left some (omega (arith, none))))
        go false e =
            let two : 2 ≤ length ps = (let z : length ps / 2 ≢ 0 = λ f. let g : true ≡ false = sym (eq-eqb (length ps / 2) 0 f) ∙ e in cc in omega (arith, z)) in
            in_more dec _ _ (suc (12 + 7 * d)) (14 + 7 * d) (omega arith)
            (first dec _ _ _ (12 + 7 * d) (s15 false e) (more b f' ps left two few (half_carry (regs (length ps) b) f m3 ready (own 14) (own 15) 0 (length ps) refl small)))

    -- the pair in the middle is compared
    module _ (b : ℕ) (f : Flags) (ps : Pairs) (left : IsLeft m3 pairs v b ps) (two : 2 ≤ length ps) where
      abbrev h : ℕ
      h = length ps / 2

      mid : HasPair (length ps / 2) ps
      mid = has_pair (length ps / 2) ps left.targets_low (omega (arith, two))

      mid_read : read_word m3 (Some (record { at = address (regs (length ps / 2) b) (paired 16); width = W32 })) ≡ Ok mid.pair.0
      mid_read =
          let a : ℕ = b + 16 + 8 * (length ps / 2) in
          let to : address (regs (length ps / 2) b) (paired 16) ≡ b + 16 + 8 * (length ps / 2) =
          (let e = paired_is (regs (length ps / 2) b) 16 b (length ps / 2) refl refl (omega (arith, left.low)) (omega arith) in omega (arith, e)) in
          let bytes : HasBytes m3 (b + 16 + 8 * (length ps / 2)) (pairs_bytes (mid.pair ∷ mid.behind)) =
          subst (λ l. HasBytes m3 (b + 16 + 8 * (length ps / 2)) (pairs_bytes l)) mid.is (pairs_behind m3 (b + 16) (length ps / 2) ps (omega arith) left.stands) in
          ap (λ a. read_word m3 (Some (record { at = a; width = W32 }))) to
          ∙ read_number W32 m3 (b + 16 + 8 * (length ps / 2)) mid.pair.0 (omega (arith, left.low)) (let l = mid.low in omega (arith, l))
          (bytes_before m3 (b + 16 + 8 * (length ps / 2)) (little_bytes 4 mid.pair.0) (little_bytes 4 mid.pair.1 ++ pairs_bytes mid.behind) bytes)

      abbrev compared_at : ℕ → Flags
      compared_at k = difference t (regs (length ps / 2) b) f (own k) m3 (own (suc k)) W32 (v % 2 ^ 32) mid.pair.0

      compares : (k : ℕ) → InsnAt dec wm (own k) (compare_low 1 (paired 16)) (own (suc k)) → InsnAt dec wm (own (suc k)) (insn.Jcc B (own 14)) (own (suc (suc k)))
          → (c : Bool) → nat_lt (v % 2 ^ 32) mid.pair.0 ≡ c → (u : Machine) (most : ℕ)
          → Leads dec (state (length ps / 2) b (compared_at k) (if c then own 14 else own (suc (suc k))) m3) u most
          → Leads dec (state (length ps / 2) b f (own k) m3) u (suc (suc most))
      compares k i j c e u most l =
          let carry : (compared_at k).cf ≡ c =
          (let x : v % 2 ^ 32 % 2 ^ 32 ≡ v % 2 ^ 32 = omega arith in
          let y : mid.pair.0 % 2 ^ 32 + 0 ≡ mid.pair.0 = let l = mid.low in omega (arith, l) in
          ap₂ nat_lt x y ∙ e) in
          first dec _ _ u (suc most)
          (goes (regs (length ps / 2) b) f m3 ready (own k) (own (suc k)) _ _ i (compare_low_is t (regs (length ps / 2) b) f (own k) m3 (own (suc k)) 1 (paired 16) mid.pair.0 mid_read))
          (first dec _ _ u most
          (branches (regs (length ps / 2) b) (compared_at k) m3 ready (own (suc k)) (own (suc (suc k))) B (own 14) c (below_is (compared_at k) c carry) j) l)

      -- the pairs before it are left
      lower : (d : ℕ) → Halves d → length ps / 2 ≤ 2 ^ d → v % 2 ^ 32 < mid.pair.0 → (f' : Flags) → Leads dec (state (length ps / 2) b f' (own 14) m3) goal (15 + 7 * d)
      lower d next few lt f' =
          let count : length (take (length ps / 2) ps) ≡ length ps / 2 = length_front (length ps / 2) ps (omega arith) in
          let less = left_lower m3 pairs v b ps left (length ps / 2) (length ps / 2) mid.pair mid.behind mid.is lt (omega arith) in
          subst (λ n. Leads dec (state n b f' (own 14) m3) goal (15 + 7 * d)) count (next b f' (take (length ps / 2) ps) less (omega (arith, count, two)) (omega (arith, count, few)))

      -- it and those behind it are left
      upper : mid.pair.0 ≤ v % 2 ^ 32 → IsLeft m3 pairs v (b + 8 * (length ps / 2)) (drop (length ps / 2) ps)
      upper le = left_upper m3 pairs v b ps left (length ps / 2) mid.pair mid.behind (omega arith) mid.is le

      advances : (k : ℕ) (f' : Flags) → InsnAt dec wm (own k) (advance 4 (paired 0)) (own (suc k))
          → step dec (state (length ps / 2) b f' (own k) m3) ≡ state (length ps / 2) (b + 8 * (length ps / 2)) f' (own (suc k)) m3
      advances k f' i =
          let to : address (regs (length ps / 2) b) (paired 0) % 2 ^ 64 ≡ b + 8 * (length ps / 2) =
          (let e = paired_is (regs (length ps / 2) b) 0 b (length ps / 2) refl refl (omega (arith, left.low)) (omega arith) in omega (arith, e, left.low)) in
          goes (regs (length ps / 2) b) f' m3 ready (own k) (own (suc k)) _ _ i
          (advance_is t (regs (length ps / 2) b) f' (own k) m3 (own (suc k)) 4 (paired 0) ∙ ap (λ x. state (length ps / 2) x f' (own (suc k)) m3) to)

    -- from 2^d pairs to twice as many
    searches_more : (d : ℕ) → Halves d → Searches d → Searches (suc d)
    searches_more d next again b f ps left two few odd = by_parity (length ps % 2 == 1) refl
      where
        twice : 2 ^ suc d ≡ 2 ^ d * 2
        twice = pow-suc 2 d

        middle : HasPair (length ps / 2) ps
        middle = mid b f ps left two

        s10 : (c : Bool) → (length ps % 2 == 1) ≡ c → step dec (state (length ps / 2) b f (own 10) m3) ≡ state (length ps / 2) b f (if c then own 22 else own 11) m3
        s10 c e = branches (regs (length ps / 2) b) f m3 ready (own 10) (own 11) B (own 22) c (below_is f c (odd ∙ e)) (fork 10 B 22 refl)

        rest_len : length ps / 2 + length (drop (length ps / 2) ps) ≡ length ps
        rest_len = length_drop (length ps / 2) ps (omega arith)

        b' : ℕ
        b' = b + 8 * (length ps / 2)

        even : length ps % 2 ≢ 1 → (c : Bool) → nat_lt (v % 2 ^ 32) middle.pair.0 ≡ c → Leads dec (state (length ps / 2) b f (own 11) m3) goal (18 + 7 * d)
        even ev true e =
            let lt : v % 2 ^ 32 < middle.pair.0 = ltb-true (v % 2 ^ 32) middle.pair.0 e in
            in_more dec _ _ (suc (suc (15 + 7 * d))) (18 + 7 * d) (omega arith)
            (compares b f ps left two 11 (whole 11 (compare_low 1 (paired 16)) refl) (fork 12 B 14 refl) true e goal (15 + 7 * d)
            (lower b f ps left two d next (omega (arith, few, twice)) lt (compared_at b f ps left two 11)))
        even ev false e =
            let le : middle.pair.0 ≤ v % 2 ^ 32 = ltb-false (v % 2 ^ 32) middle.pair.0 e in
            let count : length (drop (length ps / 2) ps) ≡ length ps / 2 = omega (arith, rest_len, ev) in
            let l = next b' (compared_at b f ps left two 11) (drop (length ps / 2) ps) (upper b f ps left two le) (omega (arith, count, two)) (omega (arith, count, few, twice)) in
            let l' : Leads dec (state (length ps / 2) b' (compared_at b f ps left two 11) (own 14) m3) goal (15 + 7 * d) =
            subst (λ n. Leads dec (state n b' (compared_at b f ps left two 11) (own 14) m3) goal (15 + 7 * d)) count l in
            in_more dec _ _ (suc (suc (suc (15 + 7 * d)))) (18 + 7 * d) (omega arith)
            (compares b f ps left two 11 (whole 11 (compare_low 1 (paired 16)) refl) (fork 12 B 14 refl) false e goal (suc (15 + 7 * d))
            (first dec _ _ goal (15 + 7 * d) (advances b f ps left two 13 (compared_at b f ps left two 11) (whole 13 (advance 4 (paired 0)) refl)) l'))

        odd_number : length ps % 2 ≡ 1 → (c : Bool) → nat_lt (v % 2 ^ 32) middle.pair.0 ≡ c → Leads dec (state (length ps / 2) b f (own 22) m3) goal (18 + 7 * d)
        odd_number od true e =
            let lt : v % 2 ^ 32 < middle.pair.0 = ltb-true (v % 2 ^ 32) middle.pair.0 e in
            in_more dec _ _ (suc (suc (15 + 7 * d))) (18 + 7 * d) (omega arith)
            (compares b f ps left two 22 (whole 22 (compare_low 1 (paired 16)) refl) (fork 23 B 14 refl) true e goal (15 + 7 * d)
            (lower b f ps left two d next (omega (arith, few, twice)) lt (compared_at b f ps left two 22)))
        odd_number od false e =
            let le : middle.pair.0 ≤ v % 2 ^ 32 = ltb-false (v % 2 ^ 32) middle.pair.0 e in
            let n : ℕ = length (drop (length ps / 2) ps) in
            let f1 : Flags = compared_at b f ps left two 22 in
            let count : length (drop (length ps / 2) ps) ≡ length ps / 2 + 1 = omega (arith, rest_len, od) in
            let less = upper b f ps left two le in
            let small : length (drop (length ps / 2) ps) < 2 ^ 31 = few_left b' (drop (length ps / 2) ps) less in
            let f2 : Flags = halved t (regs (length (drop (length ps / 2) ps)) b') (compared_at b f ps left two 22) (own 26) m3 (own 27) 0 in
            let s25 : step dec (state (length ps / 2) b' f1 (own 25) m3) ≡ state (length (drop (length ps / 2) ps)) b' f1 (own 26) m3 =
            (let to : address (regs (length ps / 2) b') (based 0 1) % 2 ^ 64 ≡ length (drop (length ps / 2) ps) =
            (let a = based_is (regs (length ps / 2) b') 0 1 (length ps / 2) refl (omega (arith, left.low)) (omega arith) in omega (arith, a, count, left.low)) in
            goes (regs (length ps / 2) b') f1 m3 ready (own 25) (own 26) _ _ (whole 25 (advance 0 (based 0 1)) refl)
            (advance_is t (regs (length ps / 2) b') f1 (own 25) m3 (own 26) 0 (based 0 1) ∙ ap (λ x. state x b' f1 (own 26) m3) to)) in
            let s26 : step dec (state (length (drop (length ps / 2) ps)) b' f1 (own 26) m3) ≡ state (length (drop (length ps / 2) ps) / 2) b' f2 (own 27) m3 =
            halves (regs (length (drop (length ps / 2) ps)) b') f1 m3 ready (own 26) (own 27) 0 (length (drop (length ps / 2) ps)) refl small (whole 26 (halve 0) refl) in
            let s27 : step dec (state (length (drop (length ps / 2) ps) / 2) b' f2 (own 27) m3) ≡ state (length (drop (length ps / 2) ps) / 2) b' f2 (own 10) m3 =
            jumps (regs (length (drop (length ps / 2) ps) / 2) b') f2 m3 ready (own 27) (own 28) (own 10) (back_to 27 10 refl) in
            let l = again b' f2 (drop (length ps / 2) ps) less (omega (arith, count, two)) (omega (arith, count, few, twice, od))
            (half_carry (regs (length (drop (length ps / 2) ps)) b') f1 m3 ready (own 26) (own 27) 0 (length (drop (length ps / 2) ps)) refl small) in
            let most : ℕ = 12 + 7 * d in
            in_more dec _ _ (suc (suc (suc (suc (suc (suc most)))))) (18 + 7 * d) (omega arith)
            (compares b f ps left two 22 (whole 22 (compare_low 1 (paired 16)) refl) (fork 23 B 14 refl) false e goal (suc (suc (suc (suc most))))
            (first dec _ _ goal (suc (suc (suc most))) (advances b f ps left two 24 f1 (whole 24 (advance 4 (paired 0)) refl))
            (first dec _ _ goal (suc (suc most)) s25 (first dec _ _ goal (suc most) s26 (first dec _ _ goal most s27 l)))))

        by_parity : (c : Bool) → (length ps % 2 == 1) ≡ c → Leads dec (state (length ps / 2) b f (own 10) m3) goal (12 + 7 * suc d)
        by_parity true e =
            let od : length ps % 2 ≡ 1 = eqb-true (length ps % 2) 1 e in
            in_more dec _ _ (suc (18 + 7 * d)) (12 + 7 * suc d) (omega arith) (first dec _ _ goal (18 + 7 * d) (s10 true e) (odd_number od (nat_lt (v % 2 ^ 32) middle.pair.0) refl))
        by_parity false e =
            let ev : length ps % 2 ≢ 1 = λ o. let g : true ≡ false = sym (eq-eqb (length ps % 2) 1 o) ∙ e in cc in
            in_more dec _ _ (suc (18 + 7 * d)) (12 + 7 * suc d) (omega arith) (first dec _ _ goal (18 + 7 * d) (s10 false e) (even ev (nat_lt (v % 2 ^ 32) middle.pair.0) refl))

    searches : (d : ℕ) → Searches d
    searches zero b f ps left two few odd = absurd (omega (arith, two, few))
    searches (suc d) b f ps left two few odd = searches_more d (halves_by d (searches d)) (searches d) b f ps left two few odd

    -- ---- the whole

    s4 : step dec (state a0 (scratch + 32) flags (own 4) m3) ≡ state a0 table flags (own 5) m3
    s4 =
        loads (regs a0 (scratch + 32)) flags m3 ready (own 4) (own 5) (scratch + 16) 4 table (omega (arith, low)) (omega (arith, table_low))
        table_kept (whole 4 (load W64 4 (absolute (scratch + 16))) refl)

    s5 : step dec (state a0 table flags (own 5) m3) ≡ state (length pairs) table flags (own 6) m3
    s5 =
        loads_based (regs a0 table) flags m3 ready (own 5) (own 6) 0 4 8 table (length pairs) refl (omega (arith, table_low)) (omega arith)
        (let l = is.few in omega (arith, l)) count_read (whole 5 (load W64 0 (based 4 8)) refl)

    -- with one
    compared_one : Flags
    compared_one = difference t (regs (length pairs) table) flags (own 6) m3 (own 7) W64 (length pairs % 2 ^ 64) 1

    count_fits : length pairs < 2 ^ 31
    count_fits = few_left table pairs all_left

    s6 : step dec (state (length pairs) table flags (own 6) m3) ≡ state (length pairs) table compared_one (own 7) m3
    unfolding compared_one
    s6 = goes (regs (length pairs) table) flags m3 ready (own 6) (own 7) _ _ (whole 6 (compare 0 (operand.Imm 1)) refl) (compare_number_is t (regs (length pairs) table) flags (own 6) m3 (own 7) 0 1)

    s7 : (z : Bool) → compared_one.zf ≡ z → step dec (state (length pairs) table compared_one (own 7) m3) ≡ state (length pairs) table compared_one (if z then own 16 else own 8) m3
    s7 z e = branches (regs (length pairs) table) compared_one m3 ready (own 7) (own 8) E (own 16) z (equal_is compared_one z e) (fork 7 E 16 refl)

    s8 : (c : Bool) → compared_one.cf ≡ c → step dec (state (length pairs) table compared_one (own 8) m3) ≡ state (length pairs) table compared_one (if c then own 19 else own 9) m3
    s8 c e = branches (regs (length pairs) table) compared_one m3 ready (own 8) (own 9) B (own 19) c (below_is compared_one c e) (fork 8 B 19 refl)

    -- by the number of pairs
    counts : (ps : Pairs) → pairs ≡ ps → (d : ℕ) → length pairs ≤ 2 ^ d → Leads dec (state (length pairs) table compared_one (own 7) m3) goal (15 + 7 * d)
    unfolding compared_one
    counts [] e d few =
        let none : length pairs ≡ 0 = ap length e in
        let to : stub ≡ led stub pairs v = sym (ap (λ ps. led stub ps v) e) in
        let zf : compared_one.zf ≡ false = ap (λ n. (n % 2 ^ 64 % 2 ^ 64 + (2 ^ 64 - 1 % 2 ^ 64 - 0)) % 2 ^ 64 == 0) none in
        let cf : compared_one.cf ≡ true = ap (λ n. nat_lt (n % 2 ^ 64 % 2 ^ 64) (1 % 2 ^ 64 + 0)) none in
        in_more dec _ _ 12 (15 + 7 * d) (omega arith)
        (first dec _ _ goal 11 (s7 false zf) (first dec _ _ goal 10 (s8 true cf) (subst (λ q. Leads dec (state (length pairs) table compared_one (own 19) m3) (final q) 10) to (leaves_to_stub (length pairs) table compared_one))))
    counts (p ∷ []) e d few =
        let one : length pairs ≡ 1 = ap length e in
        let zf : compared_one.zf ≡ true = ap (λ n. (n % 2 ^ 64 % 2 ^ 64 + (2 ^ 64 - 1 % 2 ^ 64 - 0)) % 2 ^ 64 == 0) one in
        in_more dec _ _ 14 (15 + 7 * d) (omega arith)
        (first dec _ _ goal 13 (s7 true zf) (decides table (length pairs) compared_one p (subst (IsLeft m3 pairs v table) e all_left)))
    counts (p ∷ q ∷ ps) e d few =
        let two : 2 ≤ length pairs = (let n : length pairs ≡ suc (suc (length ps)) = ap length e in omega (arith, n)) in
        let zf : compared_one.zf ≡ false =
        (let ne : (length pairs % 2 ^ 64 % 2 ^ 64 + (2 ^ 64 - 1 % 2 ^ 64 - 0)) % 2 ^ 64 ≢ 0 = omega (arith, two, count_fits) in ne_eqb ((length pairs % 2 ^ 64 % 2 ^ 64 + (2 ^ 64 - 1 % 2 ^ 64 - 0)) % 2 ^ 64) 0 ne) in
        let cf : compared_one.cf ≡ false = le-ltb (length pairs % 2 ^ 64 % 2 ^ 64) (1 % 2 ^ 64 + 0) (omega (arith, two, count_fits)) in
        let f : Flags = halved t (regs (length pairs) table) compared_one (own 9) m3 (own 10) 0 in
        let s9 : step dec (state (length pairs) table compared_one (own 9) m3) ≡ state (length pairs / 2) table f (own 10) m3 =
        halves (regs (length pairs) table) compared_one m3 ready (own 9) (own 10) 0 (length pairs) refl count_fits (whole 9 (halve 0) refl) in
        let l = searches d table f pairs all_left two few (half_carry (regs (length pairs) table) compared_one m3 ready (own 9) (own 10) 0 (length pairs) refl count_fits) in
        let most : ℕ = 12 + 7 * d in
        in_more dec _ _ (suc (suc (suc most))) (15 + 7 * d) (omega arith)
        (first dec _ _ goal (suc (suc most)) (s7 false zf) (first dec _ _ goal (suc most) (s8 false cf) (first dec _ _ goal most s9 l)))

    -- all but the first step
    goes_on : (d : ℕ) → length pairs ≤ 2 ^ d → Leads dec (state a0 a4 flags (own 1) m1) goal (21 + 7 * d)
    goes_on d few =
        let most : ℕ = 15 + 7 * d in
        in_more dec _ _ (suc (suc (suc (suc (suc (suc most)))))) (21 + 7 * d) (omega arith)
        (first dec _ _ goal _ s1 (first dec _ _ goal _ s2 (first dec _ _ goal _ s3 (first dec _ _ goal _ s4 (first dec _ _ goal _ s5 (first dec _ _ goal most s6 (counts pairs refl d few)))))))

    -- ---- what it leaves

    alike_behind : (m : Regions) (i x : ℕ) → 24 ≤ i → i + 8 ≤ 4096 → Alike (working scratch) t.mem m → Alike (working scratch) t.mem (put_bytes m (scratch + i) (little_bytes 8 x))
    alike_behind m i x behind few h =
        let n = eight x in
        alike_inside (working scratch) t.mem m (scratch + i) (little_bytes 8 x) (omega (arith, behind)) (omega (arith, n, few)) (omega (arith, low)) h

    final_alike : (q : ℕ) → Alike (working scratch) t.mem (m4 q)
    final_alike q =
        alike_behind m3 48 q (omega arith) (omega arith)
        (alike_behind m2 40 a0 (omega arith) (omega arith)
        (alike_behind m1 32 (flags_word t.cpu.flags) (omega arith) (omega arith)
        (alike_behind t.mem 24 a4 (omega arith) (omega arith) (record { at = λ a out. record { byte = refl; read = refl; write = refl } }))))

    final_ready : (q : ℕ) → q < 2 ^ 64 → Ready (m4 q)
    final_ready q fits =
        usable (regs q 0) flags m3 ready (own 29) (own 30) _ _ _ _
        (stores (regs q 0) flags m3 ready (own 29) (own 30) 48 0 q (omega arith) refl fits (whole 29 (store (scratch + 48) 0) refl))

    looked_up : (d : ℕ) → length pairs ≤ 2 ^ d → LookedUp dec lay wm scratch rcx (lookup_steps d) (led stub pairs v) t
    unfolding after
    looked_up d few =
        record {
          steps = suc l.steps;
          some = omega arith;
          few = let f = l.few in omega (arith, f);
          runs = ap (λ u. u.end) arrived ∙ looks.runs;
          there = ap (λ u. u.cpu.rip) arrived;
          regs = ap (λ u. u.cpu.regs) arrived ∙ sym (ap (λ r. set r 1 rcx) shape);
          flags = ap (λ u. u.cpu.flags) arrived;
          world = ap (λ u. u.world) arrived;
          mem = subst (λ (u : Machine). Alike (working scratch) t.mem u.mem) (sym arrived) (final_alike q);
          code = subst (λ (u : Machine). HasCode wm u.mem) (sym arrived) stands.code;
          added = subst (λ (u : Machine). RangeStands lay.added wm u.mem) (sym arrived) stands.added;
          heap = subst (λ (u : Machine). HasHeap u.mem t.world) (sym arrived) stands.heap;
        }
      where
        q : ℕ
        q = led stub pairs v

        l : Leads dec (state a0 a4 flags (own 1) m1) goal (21 + 7 * d)
        l = goes_on d few

        stands : Ready (m4 (led stub pairs v))
        stands = final_ready q (led_fits v pairs is.places_low)

        arrived : after dec (suc l.steps) t ≡ goal
        arrived = ap (after dec l.steps) (ap (step dec) starts ∙ s0) ∙ l.is

  -- for all registers
  looked_up_by : (d : ℕ) → length pairs ≤ 2 ^ d → (regs : List ℕ) → t.cpu.regs ≡ regs → length regs ≡ 16 → LookedUp dec lay wm scratch rcx (lookup_steps d) (led stub pairs (get_or t.cpu.regs 1 0)) t
  looked_up_by d few (a0 ∷ v ∷ a2 ∷ a3 ∷ a4 ∷ rest) shape n =
      subst (λ r. LookedUp dec lay wm scratch rcx (lookup_steps d) (led stub pairs (get_or r 1 0)) t) (sym shape) (looked_up a0 v a2 a3 a4 rest shape d few)
  looked_up_by d few [] shape n = absurd (omega (arith, n))
  looked_up_by d few (_ ∷ []) shape n = absurd (omega (arith, n))
  looked_up_by d few (_ ∷ _ ∷ []) shape n = absurd (omega (arith, n))
  looked_up_by d few (_ ∷ _ ∷ _ ∷ []) shape n = absurd (omega (arith, n))
  looked_up_by d few (_ ∷ _ ∷ _ ∷ _ ∷ []) shape n = absurd (omega (arith, n))

-- the law
pub routine_looks_up : (dec : Decoder) → RoutineLooksUp dec
routine_looks_up dec scratch lay at own wm p names items page table rcx stub d pairs t there is few looks =
    let begun = subst (λ q. ItemsFrom dec wm at own 0 q (lookup_items scratch)) (sym there) items in
    looked_up_by dec lay at own wm scratch table rcx stub pairs t names begun page is looks d few t.cpu.regs refl looks.regs.sixteen
