use Rattle.std.proofs.Common.{ℕ, ◌≡◌, ◌≤◌, ◌+◌, ◌/◌, ap, sym, ◌∙◌, refl, subst, List, [], ◌∷◌, ◌++◌, map, length, Bool, true, false, Option, Some, None}
use Rattle.std.specs.Prelude.{if◌then◌else◌, IsTrue, IsSomeAnd}
use Rattle.rz_num.specs.declared.width.Width.TheVariants.{W32, W64}
use Rattle.rz_flags.specs.declared.ShiftOp.TheVariants as shifts
use Rattle.rz_isa.specs.declared.rows.Row.{Row}
use Rattle.rz_isa.specs.declared.rows.Form.{Form}
use Rattle.rz_isa.specs.declared.rows.Form.TheVariants as forms
use Rattle.rz_isa.specs.declared.instruction.Insn.{Insn}
use Rattle.rz_isa.specs.declared.instruction.Insn.TheVariants as insns
use Rattle.rz_isa.specs.declared.instruction.Place.TheVariants as places
use Rattle.rz_isa.specs.declared.instruction.Operand.TheVariants as operands
use Rattle.rz_isa.specs.declared.instruction.Count.TheVariants as counts
use Rattle.rz_isa.specs.declared.spelled.Fields.{Fields}
use Rattle.rz_isa.specs.Finding.{found}
use Rattle.rz_isa.specs.Canonical.{Chosen, same_form, or_chosen, chosen, spelled_at, canonical}
use Rattle.rz_isa.specs.Emitted.{HasSpelling, HasShortSpelling, Emits, EmitsLookup, has_lookup, place_len, register}
use Rattle.rz_isa.specs.Laws.Tests.{some_same}
use Rattle.rz_table.specs.declared.profile_rows.TheConstants.{PROFILE}
use Rattle.rz_table.specs.declared.further_rows.TheConstants.{FURTHER}
use Rattle.rz_table.specs.Listing.{with_lock}
use Rattle.rz_table.specs.Profile2.{PROFILE2}
use Rattle.rz_table.specs.Laws.ProfileEmits.{emits as emits1, emits_lookup as emits_lookup1}

-- Further rows behind, and F0 where it was not taken, leave every canonical spelling as it is.

abbrev extended : List Row → List Row → List Row
extended rows more = map with_lock (rows ++ more)

abbrev locked : Chosen → Chosen
locked c = record { row = with_lock c.row; fields = c.fields }

chosen_step : (b : Bool) (r : Row) (o : Option Fields) (rest more : Option Chosen) (c : Chosen) → (rest ≡ Some c → more ≡ Some (locked c)) → (if b then or_chosen r o rest else rest) ≡ Some c
    → (if b then or_chosen (with_lock r) o more else more) ≡ Some (locked c)
chosen_step true r None rest more c i e = i e
chosen_step true r (Some f) rest more c i e = ap (λ (k : Chosen). Some (locked k)) (some_same _ c e)
chosen_step false r o rest more c i e = i e

chosen_kept : (rows more : List Row) (form : Form) (x : Insn) (c : Chosen) → chosen rows form x ≡ Some c → chosen (extended rows more) form x ≡ Some (locked c)
chosen_kept [] more form x c e = absurd (cc)
chosen_kept (r ∷ rows) more form x c e = chosen_step (same_form r.form form) r (found r x) (chosen rows form x) (chosen (extended rows more) form x) c (chosen_kept rows more form x c) e

pub canonical_kept : (rows more : List Row) (x : Insn) (at : ℕ) (form : Form) (s : List ℕ) → canonical rows x at form ≡ Some s → canonical (extended rows more) x at form ≡ Some s
canonical_kept rows more x at form s h = by_choice (chosen rows form x) refl h
  where
    by_choice : (o : Option Chosen) → chosen rows form x ≡ o → spelled_at at o ≡ Some s → canonical (extended rows more) x at form ≡ Some s
    by_choice None e h = absurd (cc)
    by_choice (Some c) e h = ap (spelled_at at) (chosen_kept rows more form x c e) ∙ h

some_kept : (P : List ℕ → Type 0) (o p : Option (List ℕ)) → ((s : List ℕ) → o ≡ Some s → p ≡ Some s) → IsSomeAnd o P → IsSomeAnd p P
some_kept P None p kept h = absurd h
some_kept P (Some s) p kept h = subst (λ q. IsSomeAnd q P) (sym (kept s refl)) h

has_kept : (rows more : List Row) (x : Insn) (at : ℕ) (form : Form) (n : ℕ) → HasSpelling rows x at form n → HasSpelling (extended rows more) x at form n
has_kept rows more x at form n h = some_kept (λ s. length s ≡ n) (canonical rows x at form) (canonical (extended rows more) x at form) (canonical_kept rows more x at form) h

short_kept : (rows more : List Row) (x : Insn) (at : ℕ) (form : Form) (n : ℕ) → HasShortSpelling rows x at form n → HasShortSpelling (extended rows more) x at form n
short_kept rows more x at form n h = some_kept (λ s. length s ≤ n) (canonical rows x at form) (canonical (extended rows more) x at form) (canonical_kept rows more x at form) h

pub emits_kept : (rows more : List Row) → Emits rows → Emits (extended rows more)
emits_kept rows more e = record {
  load = λ r at p h k l. has_kept rows more (insns.Mov W64 (register r) (operands.Place p)) at forms.Near (2 + place_len p) (e.load r at p h k l);
  store = λ r at m h k. has_kept rows more (insns.Mov W64 (places.Mem m) (operands.Place (register r))) at forms.Near (2 + place_len (places.Mem m)) (e.store r at m h k);
  store_imm = λ n at m h k. has_kept rows more (insns.Mov W64 (places.Mem m) (operands.Imm n)) at forms.Near (6 + place_len (places.Mem m)) (e.store_imm n at m h k);
  load_32 = λ r at m h k. short_kept rows more (insns.Mov W32 (register r) (operands.Place (places.Mem m))) at forms.Near (2 + place_len (places.Mem m)) (e.load_32 r at m h k);
  mov = λ r n at h k. has_kept rows more (insns.Mov W32 (register r) (operands.Imm n)) at forms.Near (5 + r / 8) (e.mov r n at h k);
  lea = λ r at m h k. has_kept rows more (insns.Lea W64 r (places.Mem m)) at forms.Near (2 + place_len (places.Mem m)) (e.lea r at m h k);
  push = λ r at h. has_kept rows more (insns.Push (operands.Place (register r))) at forms.Near (1 + r / 8) (e.push r at h);
  push_byte = λ n at h. has_kept rows more (insns.Push (operands.Imm n)) at forms.Near 2 (e.push_byte n at h);
  push_imm = λ n at h k. has_kept rows more (insns.Push (operands.Imm n)) at forms.Near 5 (e.push_imm n at h k);
  pop = λ r at h. has_kept rows more (insns.Pop (register r)) at forms.Near (1 + r / 8) (e.pop r at h);
  jcc = λ c t at h k. has_kept rows more (insns.Jcc c t) at forms.Near 6 (e.jcc c t at h k);
  jcc_short = λ c t at h k. has_kept rows more (insns.Jcc c t) at forms.Short 2 (e.jcc_short c t at h k);
  jrcxz = λ t at h k. has_kept rows more (insns.Jrcxz t) at forms.Near 2 (e.jrcxz t at h k);
  jmp = λ t at h k. has_kept rows more (insns.Jmp t) at forms.Near 5 (e.jmp t at h k);
  jmp_short = λ t at h k. has_kept rows more (insns.Jmp t) at forms.Short 2 (e.jmp_short t at h k);
  syscall = λ at. has_kept rows more insns.Syscall at forms.Near 2 (e.syscall at);
  ud2 = λ at. canonical_kept rows more insns.Ud2 at forms.Near (0x0f ∷ 0x0b ∷ []) (e.ud2 at);
  hlt = λ at. has_kept rows more insns.Hlt at forms.Near 1 (e.hlt at);
  int3 = λ at. has_kept rows more insns.Int3 at forms.Near 1 (e.int3 at);
}

pub emits_lookup_kept : (rows more : List Row) → EmitsLookup rows → EmitsLookup (extended rows more)
emits_lookup_kept rows more e = record {
  arith = λ o w r q at h k l m. short_kept rows more (insns.Arith o w (register r) (operands.Place (register q))) at forms.Near 3 (e.arith o w r q at h k l m);
  arith_load = λ o w r at m h k l n. short_kept rows more (insns.Arith o w (register r) (operands.Place (places.Mem m))) at forms.Near (2 + place_len (places.Mem m)) (e.arith_load o w r at m h k l n);
  arith_store = λ o w r at m h k l n. short_kept rows more (insns.Arith o w (places.Mem m) (operands.Place (register r))) at forms.Near (2 + place_len (places.Mem m)) (e.arith_store o w r at m h k l n);
  arith_byte = λ o w r n at h k l m. short_kept rows more (insns.Arith o w (register r) (operands.Imm n)) at forms.Near 4 (e.arith_byte o w r n at h k l m);
  arith_imm = λ o w r n at h k l m i. short_kept rows more (insns.Arith o w (register r) (operands.Imm n)) at forms.Near 7 (e.arith_imm o w r n at h k l m i);
  shr_once = λ w r at h k. short_kept rows more (insns.Shift shifts.Shr w (register r) (counts.Imm 1)) at forms.Near 3 (e.shr_once w r at h k);
  shr = λ w r n at h k l m. short_kept rows more (insns.Shift shifts.Shr w (register r) (counts.Imm n)) at forms.Near 4 (e.shr w r n at h k l m);
  push_flags = λ at. has_kept rows more insns.PushFlags at forms.Near 1 (e.push_flags at);
  pop_flags = λ at. has_kept rows more insns.PopFlags at forms.Near 1 (e.pop_flags at);
  jmp_ind = λ at m h. short_kept rows more (insns.JmpInd (places.Mem m)) at forms.Near (2 + place_len (places.Mem m)) (e.jmp_ind at m h);
}

-- ---- profile 2 emits what profile 1 does

pub emits : Emits PROFILE2
emits = emits_kept PROFILE FURTHER emits1

pub emits_lookup : IsTrue (has_lookup PROFILE2) → EmitsLookup PROFILE2
emits_lookup h = emits_lookup_kept PROFILE FURTHER (emits_lookup1 refl)
