-- What the headers of an accepted file are, one by one.
use Rattle.std.proofs.Common.{◌≡◌, ℕ, ◌+◌, ◌-◌, ◌/◌, ◌<◌, ◌≤◌, Bool, true, false, not, ◌&&◌, if◌then◌else◌, nat_lt, nat_le, ◌==◌, List, [], ◌∷◌, filter, None, refl, sym, ap, ◌∙◌, arith}
use Rattle.std.specs.List.{AllByRecursion}
use Rattle.std.proofs.lemmas.Bool.Decides.{nat_tests}
use Rattle.rz_elf.specs.declared.fault.ElfFault.{ElfFault}
use Rattle.rz_elf.specs.declared.fault.ElfFault.TheVariants as fault
use Rattle.rz_elf.specs.Elf.{Segment, Placed, is_load, against, each, of_segment, is_dynamic, is_stack_code, has_other_flags, is_writable_code, is_larger_in_file, leaves_file, is_misaligned, is_far, isnt_above, shares_page, header_conditions, first_of}
use Rattle.rz_elf.specs.Loaded.{is_load_header, IsLow}
use Rattle.rz_elf.specs.Laws.Conditions.{NoneHolds, NoneHolds-append, NoneHolds-each, none_holds, first_none, second_none, each_none}

-- no condition on program headers holds of one in a file of so many bytes
pub record IsSound (len : ℕ) (p : Placed) : Type 0 where
  pub fixed_place : is_dynamic p.segment ≡ false
  pub plain_stack : is_stack_code p.segment ≡ false
  pub flags : has_other_flags p.segment ≡ false
  pub fixed : is_writable_code p.segment ≡ false
  pub small : is_larger_in_file p.segment ≡ false
  pub stored : leaves_file len p.segment ≡ false
  pub aligned : is_misaligned p.segment ≡ false
  pub near : is_far p.segment ≡ false
  pub above : against isnt_above p ≡ false
  pub apart : against shares_page p ≡ false

-- a test of headers that none passes
abbrev NonePasses : (Placed → Bool) → List Placed → Type 0
NonePasses test ps = AllByRecursion (λ p. test p ≡ false) ps

-- the conditions together
together : (len : ℕ) (ps : List Placed) → NonePasses (of_segment is_dynamic) ps → NonePasses (of_segment is_stack_code) ps → NonePasses (of_segment has_other_flags) ps → NonePasses (of_segment is_writable_code) ps → NonePasses (of_segment is_larger_in_file) ps → NonePasses (of_segment (leaves_file len)) ps → NonePasses (of_segment is_misaligned) ps → NonePasses (of_segment is_far) ps → NonePasses (against isnt_above) ps → NonePasses (against shares_page) ps → AllByRecursion (IsSound len) ps
together len [] a b c d e f g h i j = tt
together len (p ∷ ps) a b c d e f g h i j =
    (record { fixed_place = a.0; plain_stack = b.0; flags = c.0; fixed = d.0; small = e.0; stored = f.0; aligned = g.0; near = h.0; above = i.0; apart = j.0 }, together len ps a.1 b.1 c.1 d.1 e.1 f.1 g.1 h.1 i.1 j.1)

-- headers without a fault
pub sound : (len : ℕ) (ps : List Placed) → first_of (header_conditions len ps) ≡ None → AllByRecursion (IsSound len) ps
sound len ps none =
    let c1 = each (of_segment is_dynamic) fault.Dynamic ps in
    let c2 = each (of_segment is_stack_code) fault.StackCode ps in
    let c3 = each (of_segment has_other_flags) fault.Flags ps in
    let c4 = each (of_segment is_writable_code) fault.WritableCode ps in
    let c5 = each (of_segment is_larger_in_file) fault.SizeOrder ps in
    let c6 = each (of_segment (leaves_file len)) fault.FileRange ps in
    let c7 = each (of_segment is_misaligned) fault.Align ps in
    let c8 = each (of_segment is_far) fault.Address ps in
    let c9 = each (against isnt_above) fault.Order ps in
    let h1 = none_holds (header_conditions len ps) none in
    let h2 = second_none c1 _ h1 in
    let h3 = second_none c2 _ h2 in
    let h4 = second_none c3 _ h3 in
    let h5 = second_none c4 _ h4 in
    let h6 = second_none c5 _ h5 in
    let h7 = second_none c6 _ h6 in
    let h8 = second_none c7 _ h7 in
    let h9 = second_none c8 _ h8 in
    together len ps (each_none (of_segment is_dynamic) fault.Dynamic ps (first_none c1 _ h1)) (each_none (of_segment is_stack_code) fault.StackCode ps (first_none c2 _ h2))
    (each_none (of_segment has_other_flags) fault.Flags ps (first_none c3 _ h3)) (each_none (of_segment is_writable_code) fault.WritableCode ps (first_none c4 _ h4))
    (each_none (of_segment is_larger_in_file) fault.SizeOrder ps (first_none c5 _ h5)) (each_none (of_segment (leaves_file len)) fault.FileRange ps (first_none c6 _ h6))
    (each_none (of_segment is_misaligned) fault.Align ps (first_none c7 _ h7)) (each_none (of_segment is_far) fault.Address ps (first_none c8 _ h8))
    (each_none (against isnt_above) fault.Order ps (first_none c9 _ h9)) (each_none (against shares_page) fault.SharedPage ps (second_none c9 _ h9))

-- and headers that are sound have no fault
pub faultless_where_sound : (len : ℕ) (ps : List Placed) → AllByRecursion (IsSound len) ps → NoneHolds (header_conditions len ps)
faultless_where_sound len ps h =
    let by : (test : Placed → Bool) (name : ℕ → ElfFault) → ((p : Placed) → IsSound len p → test p ≡ false) → NoneHolds (each test name ps) =
    λ test name t. NoneHolds-each (IsSound len) test name t ps h in
    NoneHolds-append _ _ (by (of_segment is_dynamic) fault.Dynamic (λ p s. s.fixed_place))
    (NoneHolds-append _ _ (by (of_segment is_stack_code) fault.StackCode (λ p s. s.plain_stack))
    (NoneHolds-append _ _ (by (of_segment has_other_flags) fault.Flags (λ p s. s.flags))
    (NoneHolds-append _ _ (by (of_segment is_writable_code) fault.WritableCode (λ p s. s.fixed))
    (NoneHolds-append _ _ (by (of_segment is_larger_in_file) fault.SizeOrder (λ p s. s.small))
    (NoneHolds-append _ _ (by (of_segment (leaves_file len)) fault.FileRange (λ p s. s.stored))
    (NoneHolds-append _ _ (by (of_segment is_misaligned) fault.Align (λ p s. s.aligned))
    (NoneHolds-append _ _ (by (of_segment is_far) fault.Address (λ p s. s.near))
    (NoneHolds-append _ _ (by (against isnt_above) fault.Order (λ p s. s.above))
    (by (against shares_page) fault.SharedPage (λ p s. s.apart))))))))))

-- a load among sound headers, in numbers
pub record IsSoundLoad (len : ℕ) (p : Placed) : Type 0 where
  pub sized : 0 < p.segment.memsz
  pub readable : 4 ≤ p.segment.flags
  pub harmless : p.segment.flags ≤ 6
  pub small : p.segment.filesz ≤ p.segment.memsz
  pub stored : p.segment.offset + p.segment.filesz ≤ len
  pub low : 0x10000 ≤ p.segment.vaddr
  pub high : p.segment.vaddr + p.segment.memsz ≤ 0x70000000

-- a condition on loads, on this one
here : (load b : Bool) → load ≡ true → (load && b) ≡ false → b ≡ false
here load b is e = ap (λ v. v && b) (sym is) ∙ e

pub sound_load : (len : ℕ) (p : Placed) → is_load_header p ≡ true → IsSound len p → IsSoundLoad len p
sound_load len p load h =
    let s = p.segment in
    let flags = here (is_load s) (not (nat_le 4 s.flags && nat_le s.flags 7)) load h.flags in
    let fixed = here (is_load s) (s.flags == 7) load h.fixed in
    let small = here (is_load s) (nat_lt s.memsz s.filesz) load h.small in
    let stored = here (is_load s) (nat_lt len (s.offset + s.filesz)) load h.stored in
    let near = here (is_load s) (not (nat_le 0x10000 s.vaddr && nat_le (s.vaddr + s.memsz) 0x70000000)) load h.near in
    record {
      sized = grind (arith, nat_tests, load);
      readable = grind (arith, nat_tests, flags);
      harmless = grind (arith, nat_tests, flags, fixed);
      small = grind (arith, nat_tests, small);
      stored = grind (arith, nat_tests, stored);
      low = grind (arith, nat_tests, near);
      high = grind (arith, nat_tests, near);
    }

-- the loads among sound headers
pub sound_loads : (len : ℕ) (ps : List Placed) → AllByRecursion (IsSound len) ps → AllByRecursion (IsSoundLoad len) (filter is_load_header ps)
sound_loads len [] h = tt
sound_loads len (p ∷ ps) h = go (is_load_header p) refl (sound_loads len ps h.1)
  where
    go : (b : Bool) → is_load_header p ≡ b → AllByRecursion (IsSoundLoad len) (filter is_load_header ps) → AllByRecursion (IsSoundLoad len) (if b then p ∷ filter is_load_header ps else filter is_load_header ps)
    go true e ih = (sound_load len p e h.0, ih)
    go false e ih = ih

pub low_loads : (len : ℕ) (ps : List Placed) → AllByRecursion (IsSoundLoad len) ps → AllByRecursion IsLow ps
low_loads len [] h = tt
low_loads len (p ∷ ps) h = (h.0.high, low_loads len ps h.1)

-- a load that is above another and shares no page with it begins at its end or later
pub begins_past : (b s : Segment) → 0 < b.memsz → 0 < s.memsz → isnt_above b s ≡ false → shares_page b s ≡ false → b.vaddr + b.memsz ≤ s.vaddr
begins_past b s some more above apart =
    let up : b.vaddr < s.vaddr = grind (arith, nat_tests, above) in
    let page : (b.vaddr + b.memsz - 1) / 4096 < s.vaddr / 4096 = later_page b s some more up apart in
    omega arith
  where
    later_page : (b s : Segment) → 0 < b.memsz → 0 < s.memsz → b.vaddr < s.vaddr → shares_page b s ≡ false → (b.vaddr + b.memsz - 1) / 4096 < s.vaddr / 4096
    later_page b s some more up apart =
        let low : b.vaddr / 4096 ≤ (s.vaddr + s.memsz - 1) / 4096 = omega arith in
        grind (arith, nat_tests, apart, low)
