-- What a run begins: its instructions stand in the file, and its edges are what the instructions lead to.
use Rattle.std.proofs.Common.{◌≡◌, ℕ, zero, suc, ◌+◌, ◌⊎◌, inl, inr, ⊎_elim, Bool, true, false, if◌then◌else◌, ◌&&◌, ◌||◌, ◌==◌, List, [], ◌∷◌, ◌++◌, get_or, Option, Some, None, refl, sym, ap, ap₂, ◌∙◌, subst, eqb-true, eq-eqb}
use Rattle.std.proofs.lemmas.Bool.{and_parts, or_left, or_right}
use Rattle.rz_flags.specs.Cond.{holds}
use Rattle.rz_isa.specs.declared.instruction.Insn.{Insn}
use Rattle.rz_isa.specs.declared.decoding.Decoded.{Decoded}
use Rattle.rz_isa.specs.declared.decoding.Decoded.TheVariants as decoded
use Rattle.rz_machine.specs.declared.machine.End.{End}
use Rattle.rz_machine.specs.declared.machine.End.TheVariants as end
use Rattle.rz_machine.specs.declared.machine.Machine.{Machine}
use Rattle.rz_image.specs.Memory.{Regions, wrap}
use Rattle.rz_isa.specs.Nodes.{Decoder}
use Rattle.rz_machine.specs.declared.way.Way.{Way}
use Rattle.rz_machine.specs.declared.way.Transfer.TheVariants as transfer
use Rattle.rz_machine.specs.declared.way.Halt.TheVariants as halt
use Rattle.rz_machine.specs.declared.way.Way.TheVariants.{Onward, Jumps, Branches, BranchesOnRcx, Transfers, Calls, Halts}
use Rattle.rz_machine.specs.Way.{way_of}
use Rattle.rz_isa.specs.Insn.{kind_of}
use Rattle.rz_isa.specs.Nodes.{is_site, direct_by, direct}
use Rattle.rz_machine.specs.Laws.Ways.{kind_in, target_in, kind_by_way, target_by_way}
use Rattle.rz_exec.specs.Form.{Exception, Memory, Own, Divide, Popped, Completion}
use Rattle.rz_sys.specs.Answer.{Called}
use Rattle.rz_machine.specs.State.{step, after, act, perform, perform_by, running, after_exception, after_exit, decoded_at}
use Rattle.rz_machine.specs.Begun.{begun_by, begun_at, begun, neighbours}
use Rattle.rz_isa.specs.Nodes.{Code, IsNode, spelled_at, is_site_at, direct_at}
use Rattle.rz_machine.specs.Nodes.{code_in}
use Rattle.rz_machine.specs.Kept.{has_edge, has_node}
use Rattle.rz_machine.specs.LeftCode.{left_at}
use Rattle.rz_sys.specs.Heap.{HasHeap}
use Rattle.rz_machine.specs.Laws.Steps.{step_heap}
use Rattle.rz_machine.specs.Simulates.{HasCode}
use Rattle.rz_machine.specs.Laws.Code.{fetch_same, step_code}

-- an instruction never ends a run with Fetch or Unknown
pub perform_stays : (x : Insn) (next : ℕ) (s : Machine) → s.end ≡ None → left_at (perform x next s).end ≡ None
perform_stays x next s h = go (way_of x)
  where
    effect : (o : Option Exception) (c : Completion) (to : ℕ) → left_at (after_exception o c to s).end ≡ None
    effect None c to = ap left_at h
    effect (Some (Memory bad)) c to = refl
    effect (Some (Own Divide)) c to = refl
    effect (Some (Own Popped)) c to = refl

    call : (o : Option ℕ) (c : Called) → left_at (after_exit o c next s).end ≡ None
    call (Some status) c = refl
    call None c = ap left_at h

    go : (w : Way) → left_at (perform_by w x next s).end ≡ None
    go Onward = effect _ _ _
    go (Jumps target) = effect _ _ _
    go (Branches cond target) = effect _ _ _
    go (BranchesOnRcx target) = effect _ _ _
    go (Transfers t) = effect _ _ _
    go Calls = call _ _
    go (Halts halt.Ud2) = refl
    go (Halts halt.Hlt) = refl
    go (Halts halt.Int3) = refl

-- a state that has ended stays, and begins nothing

pub step_ended : (dec : Decoder) (s : Machine) (why : End) → s.end ≡ Some why → step dec s ≡ s
unfolding step
step_ended dec s why e = ap (λ o. running o dec s) e

pub after_ended : (dec : Decoder) (n : ℕ) (s : Machine) (why : End) → s.end ≡ Some why → after dec n s ≡ s
unfolding after
after_ended dec zero s why e = refl
after_ended dec (suc n) s why e = ap (after dec n) (step_ended dec s why e) ∙ after_ended dec n s why e

pub begun_ended : (dec : Decoder) (n : ℕ) (s : Machine) (why : End) → s.end ≡ Some why → begun dec n s ≡ []
unfolding begun
begun_ended dec zero s why e = refl
begun_ended dec (suc n) s why e =
    ap (λ o. begun_by o (decoded_at dec s) s.cpu.rip ++ begun dec n (step dec s)) e ∙ ap (begun dec n) (step_ended dec s why e) ∙ begun_ended dec n s why e

-- the step of a running state, by what the bytes there spell
step_running : (dec : Decoder) (s : Machine) → s.end ≡ None → step dec s ≡ act (decoded_at dec s) s
unfolding step
step_running dec s e = ap (λ o. running o dec s) e

begun_running : (dec : Decoder) (s : Machine) → s.end ≡ None → begun_at dec s ≡ begun_by None (decoded_at dec s) s.cpu.rip
begun_running dec s e = ap (λ o. begun_by o (decoded_at dec s) s.cpu.rip) e

-- a step of a running state begins an instruction exactly where it doesn't end with Fetch or Unknown
pub begins : (dec : Decoder) (s : Machine) → s.end ≡ None → left_at (step dec s).end ≡ None → begun_at dec s ≡ s.cpu.rip ∷ []
begins dec s e h = begun_running dec s e ∙ go (decoded_at dec s) (ap (λ t. left_at t.end) (sym (step_running dec s e)) ∙ h)
  where
    go : (d : Decoded) → left_at (act d s).end ≡ None → begun_by None d s.cpu.rip ≡ s.cpu.rip ∷ []
    go (decoded.Insn x len) k = refl
    go decoded.Short k = cc
    go decoded.Unknown k = cc

pub begins_nothing : (dec : Decoder) (s : Machine) (a : ℕ) → s.end ≡ None → left_at (step dec s).end ≡ Some a → begun_at dec s ≡ []
begins_nothing dec s a e h = begun_running dec s e ∙ go (decoded_at dec s) (ap (λ t. left_at t.end) (sym (step_running dec s e)) ∙ h)
  where
    go : (d : Decoded) → left_at (act d s).end ≡ Some a → begun_by None d s.cpu.rip ≡ []
    go (decoded.Insn x len) k = let p = perform_stays x (wrap (s.cpu.rip + len)) s e in cc
    go decoded.Short k = refl
    go decoded.Unknown k = refl

-- what a step begins is at RIP, of a running state, and stands there
pub record Begins (dec : Decoder) (s : Machine) : Type 0 where
  pub running : s.end ≡ None
  pub insn : Insn
  pub len : ℕ
  pub spelled : decoded_at dec s ≡ decoded.Insn insn len
  pub at : begun_at dec s ≡ s.cpu.rip ∷ []

pub begins_or : (dec : Decoder) (s : Machine) → (begun_at dec s ≡ []) ⊎ Begins dec s
begins_or dec s = go s.end (decoded_at dec s) refl refl
  where
    go : (o : Option End) (d : Decoded) → s.end ≡ o → decoded_at dec s ≡ d → (begun_at dec s ≡ []) ⊎ Begins dec s
    go (Some why) d e f = inl (ap (λ o. begun_by o (decoded_at dec s) s.cpu.rip) e)
    go None decoded.Short e f = inl (begun_running dec s e ∙ ap (λ d. begun_by None d s.cpu.rip) f)
    go None decoded.Unknown e f = inl (begun_running dec s e ∙ ap (λ d. begun_by None d s.cpu.rip) f)
    go None (decoded.Insn x len) e f =
        inr (record { running = e; insn = x; len = len; spelled = f; at = begun_running dec s e ∙ ap (λ d. begun_by None d s.cpu.rip) f })

-- a state that begins nothing has ended after its step, so nothing is begun later
begins_nothing_ends : (dec : Decoder) (s : Machine) → begun_at dec s ≡ [] → (why : End) × ((step dec s).end ≡ Some why)
begins_nothing_ends dec s h = go s.end (decoded_at dec s) refl refl
  where
    P : Machine → Type 0
    P t = (why : End) × (t.end ≡ Some why)

    go : (o : Option End) (d : Decoded) → s.end ≡ o → decoded_at dec s ≡ d → P (step dec s)
    go (Some why) d e f = (why, ap (λ t. t.end) (step_ended dec s why e) ∙ e)
    go None (decoded.Insn x len) e f =
        let k : s.cpu.rip ∷ [] ≡ [] = ap (λ d. begun_by None d s.cpu.rip) (sym f) ∙ sym (begun_running dec s e) ∙ h in
        cc
    go None decoded.Short e f = let k = ap (λ d. act d s) f in (end.Fetch s.cpu.rip, ap (λ t. t.end) (step_running dec s e ∙ k))
    go None decoded.Unknown e f = let k = ap (λ d. act d s) f in (end.Unknown s.cpu.rip, ap (λ t. t.end) (step_running dec s e ∙ k))

pub begun_none : (dec : Decoder) (n : ℕ) (s : Machine) → begun_at dec s ≡ [] → begun dec n s ≡ []
unfolding begun
begun_none dec zero s h = refl
begun_none dec (suc n) s h =
    let later = begins_nothing_ends dec s h in
    ap (λ l. l ++ begun dec n (step dec s)) h ∙ begun_ended dec n (step dec s) later.0 later.1

-- the first instruction that a run begins is at RIP
pub begun_head : (dec : Decoder) (n : ℕ) (s : Machine) → (begun dec n s ≡ []) ⊎ (Begins dec s × ((rest : List ℕ) × (begun dec n s ≡ s.cpu.rip ∷ rest)))
unfolding begun
begun_head dec zero s = inl refl
begun_head dec (suc n) s =
    ⊎_elim (λ e. inl (begun_now e)) (λ b. inr (b, (begun dec n (step dec s), ap (λ l. l ++ begun dec n (step dec s)) b.at))) (begins_or dec s)
  where
    begun_now : begun_at dec s ≡ [] → begun_at dec s ++ begun dec n (step dec s) ≡ []
    begun_now e =
        let later = begins_nothing_ends dec s e in
        ap (λ l. l ++ begun dec n (step dec s)) e ∙ begun_ended dec n (step dec s) later.0 later.1

or_true : (x y : Bool) → (x || y) ≡ true → (x ≡ true) ⊎ (y ≡ true)
or_true true y e = inl refl
or_true false y e = inr e

-- what begins at a state stands in the code that the state has
begins_spelled : (dec : Decoder) (m : Regions) (s : Machine) → HasCode m s.mem → (b : Begins dec s) → spelled_at dec (code_in m) s.cpu.rip ≡ decoded.Insn b.insn b.len
begins_spelled dec m s code b = ap (λ bs. dec bs s.cpu.rip) (fetch_same m s.mem s.cpu.rip 15 code.same) ∙ b.spelled

begins_node : (dec : Decoder) (m : Regions) (s : Machine) → HasCode m s.mem → Begins dec s → IsNode dec (code_in m) s.cpu.rip
begins_node dec m s code b = record { insn = b.insn; len = b.len; spelled = begins_spelled dec m s code b }

-- each instruction that is begun stands in the file
pub begun_nodes : (dec : Decoder) (m : Regions) (n : ℕ) (s : Machine) (a : ℕ) → HasHeap s.mem s.world → HasCode m s.mem → has_node (begun dec n s) a ≡ true → IsNode dec (code_in m) a
unfolding begun
begun_nodes dec m zero s a heap code h = cc
begun_nodes dec m (suc n) s a heap code h = go (begins_or dec s) (begun_nodes dec m n (step dec s) a (step_heap dec s heap) (step_code m dec s heap code))
  where
    rest : List ℕ
    rest = begun dec n (step dec s)

    at : (l : List ℕ) → begun_at dec s ≡ l → has_node (l ++ rest) a ≡ true
    at l e = subst (λ k. has_node (k ++ rest) a ≡ true) e h

    go : (begun_at dec s ≡ []) ⊎ Begins dec s → (has_node rest a ≡ true → IsNode dec (code_in m) a) → IsNode dec (code_in m) a
    go (inl e) ih = ih (at [] e)
    go (inr b) ih =
        ⊎_elim (λ k. subst (IsNode dec (code_in m)) (eqb-true s.cpu.rip a k) (begins_node dec m s code b)) ih (or_true (s.cpu.rip == a) (has_node rest a) (at (s.cpu.rip ∷ []) b.at))

-- both ends of a pair of neighbours are in the list
pub neighbours_in : (l : List ℕ) (a b : ℕ) → has_edge (neighbours l) a b ≡ true → (has_node l a ≡ true) × (has_node l b ≡ true)
neighbours_in [] a b h = cc
neighbours_in (x ∷ []) a b h = cc
neighbours_in (x ∷ y ∷ rest) a b h =
    ⊎_elim
    (λ e. let p = and_parts (x == a) (y == b) e in (or_left (x == a) _ p.0, or_right (x == b) _ (or_left (y == b) _ p.1)))
    (λ e. let p = neighbours_in (y ∷ rest) a b e in (or_right (x == a) _ p.0, or_right (x == b) _ p.1))
    (or_true (x == a && y == b) (has_edge (neighbours (y ∷ rest)) a b) h)

-- an instruction that is no site and goes on leads to one of its static successors
leads_direct : (x : Insn) (next : ℕ) (s : Machine) → is_site (kind_of x) ≡ false → (perform x next s).end ≡ None → has_node (direct x next) (perform x next s).cpu.rip ≡ true
leads_direct x next s site e =
    let same : direct x next ≡ direct_by (kind_in (way_of x)) (target_in (way_of x)) next = ap₂ (λ k t. direct_by k t next) (kind_by_way x) (target_by_way x) in
    ap (λ l. has_node l (perform x next s).cpu.rip) same ∙ go (way_of x) (ap is_site (sym (kind_by_way x)) ∙ site) e
  where
    itself : (a : ℕ) (rest : List ℕ) → has_node (a ∷ rest) a ≡ true
    itself a rest = or_left (a == a) (has_node rest a) (eq-eqb a a refl)

    effect : (o : Option Exception) (c : Completion) (to : ℕ) (l : List ℕ) → has_node l to ≡ true → (after_exception o c to s).end ≡ None → has_node l (after_exception o c to s).cpu.rip ≡ true
    effect None c to l h k = h
    effect (Some x) c to l h k = cc

    chosen : (b : Bool) (target : ℕ) → has_node (next ∷ target ∷ []) (if b then target else next) ≡ true
    chosen true target = or_right (next == target) _ (itself target [])
    chosen false target = itself next (target ∷ [])

    call : (o : Option ℕ) (c : Called) → (after_exit o c next s).end ≡ None → has_node (next ∷ []) (after_exit o c next s).cpu.rip ≡ true
    call (Some status) c k = cc
    call None c k = itself next []

    go : (w : Way) → is_site (kind_in w) ≡ false → (perform_by w x next s).end ≡ None → has_node (direct_by (kind_in w) (target_in w) next) (perform_by w x next s).cpu.rip ≡ true
    go Onward i k = effect _ _ next (next ∷ []) (itself next []) k
    go (Jumps target) i k = effect _ _ target (target ∷ []) (itself target []) k
    go (Branches cond target) i k = effect _ _ _ (next ∷ target ∷ []) (chosen (holds cond s.cpu.flags) target) k
    go (BranchesOnRcx target) i k = effect _ _ _ (next ∷ target ∷ []) (chosen (get_or s.cpu.regs 1 0 == 0) target) k
    go (Transfers (transfer.Call target)) i k = effect _ _ target (target ∷ []) (itself target []) k
    go (Transfers (transfer.CallInd src)) i k = cc
    go (Transfers (transfer.JmpInd src)) i k = cc
    go (Transfers (transfer.Ret pop)) i k = cc
    go Calls i k = call _ _ k
    go (Halts how) i k = cc

-- where a node isn't a return or an indirect transfer, an edge that leaves it is to a static successor
unfoldable pub IsDirect : Decoder → Code → ℕ → ℕ → Type 0
IsDirect dec code a b = is_site_at dec code a ≡ false → has_node (direct_at dec code a) b ≡ true

-- a running step leads from its node by such an edge
step_direct : (dec : Decoder) (m : Regions) (s : Machine) → HasCode m s.mem → Begins dec s → (step dec s).end ≡ None → IsDirect dec (code_in m) s.cpu.rip (step dec s).cpu.rip
unfolding IsDirect
step_direct dec m s code b e =
    let same : spelled_at dec (code_in m) s.cpu.rip ≡ decoded.Insn b.insn b.len = begins_spelled dec m s code b in
    let stepped : step dec s ≡ perform b.insn (wrap (s.cpu.rip + b.len)) s = step_running dec s b.running ∙ ap (λ d. act d s) b.spelled in
    let P : Decoded → ℕ → Type 0 = λ d to. is_site_at (λ bs at. d) (code_in m) s.cpu.rip ≡ false → has_node (direct_at (λ bs at. d) (code_in m) s.cpu.rip) to ≡ true in
    let there : P (decoded.Insn b.insn b.len) (perform b.insn (wrap (s.cpu.rip + b.len)) s).cpu.rip =
    λ site. leads_direct b.insn (wrap (s.cpu.rip + b.len)) s site (ap (λ t. t.end) (sym stepped) ∙ e) in
    subst (λ d. P d (step dec s).cpu.rip) (sym same) (subst (λ t. P (decoded.Insn b.insn b.len) t.cpu.rip) (sym stepped) there)

-- each edge of a run that leaves no site is to a static successor
pub begun_direct : (dec : Decoder) (m : Regions) (n : ℕ) (s : Machine) (a b : ℕ) → HasHeap s.mem s.world → HasCode m s.mem → has_edge (neighbours (begun dec n s)) a b ≡ true → IsDirect dec (code_in m) a b
unfolding begun
begun_direct dec m zero s a b heap code h = cc
begun_direct dec m (suc n) s a b heap code h =
    go (begins_or dec s) (begun_head dec n (step dec s)) (begun_direct dec m n (step dec s) a b (step_heap dec s heap) (step_code m dec s heap code))
  where
    rest : List ℕ
    rest = begun dec n (step dec s)

    edge : (l k : List ℕ) → begun_at dec s ≡ l → rest ≡ k → has_edge (neighbours (l ++ k)) a b ≡ true
    edge l k e f = subst (λ k. has_edge (neighbours (l ++ k)) a b ≡ true) f (subst (λ l. has_edge (neighbours (l ++ rest)) a b ≡ true) e h)

    go : (begun_at dec s ≡ []) ⊎ Begins dec s → (rest ≡ []) ⊎ (Begins dec (step dec s) × ((more : List ℕ) × (rest ≡ (step dec s).cpu.rip ∷ more))) → (has_edge (neighbours rest) a b ≡ true → IsDirect dec (code_in m) a b) → IsDirect dec (code_in m) a b
    go (inl e) head ih = ih (edge [] rest e refl)
    go (inr at) (inl none) ih = let f = edge (s.cpu.rip ∷ []) [] at.at none in cc
    go (inr at) (inr (next, (more, is))) ih =
        let here = s.cpu.rip in
        let there = (step dec s).cpu.rip in
        let found = edge (here ∷ []) (there ∷ more) at.at is in
        ⊎_elim
        (λ e. let p = and_parts (here == a) (there == b) e in
        subst (λ c. IsDirect dec (code_in m) c b) (eqb-true here a p.0) (subst (λ c. IsDirect dec (code_in m) here c) (eqb-true there b p.1) (step_direct dec m s code at next.running)))
        (λ e. ih (subst (λ k. has_edge (neighbours k) a b ≡ true) (sym is) e))
        (or_true (here == a && there == b) (has_edge (neighbours (there ∷ more)) a b) found)
