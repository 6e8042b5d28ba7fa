use Rattle.std.proofs.Common.{ℕ, ◌≡◌, ◌+◌, ◌≤◌, ◌==◌, List, [], ◌∷◌, ◌++◌, Option, Some, None, refl, ap, sym, ◌∙◌, subst, arith, length, Bool, true, false, not, ◌&&◌, length-append, inl, inr}
use Rattle.std.specs.Prelude.{nat_le, is_some, if◌then◌else◌}
use Rattle.std.specs.List.{list_all}
use Rattle.std.proofs.lemmas.Bool.{cases_Bool}
use Rattle.std.proofs.lemmas.Bool.Decides.{nat_tests}
use Rattle.std.proofs.lemmas.Grind.{common_steps}
use Rattle.rz_num.specs.declared.width.Width.{Width}
use Rattle.rz_num.specs.declared.width.Width.TheVariants.{W8, W16, W32, W64}
use Rattle.rz_isa.specs.declared.rows.OpMap.{OpMap}
use Rattle.rz_isa.specs.declared.rows.OpMap.TheVariants as maps
use Rattle.rz_isa.specs.declared.rows.Row.{Row}
use Rattle.rz_isa.specs.declared.rows.F3Rule.{F3Rule}
use Rattle.rz_isa.specs.declared.rows.F3Rule.TheVariants as f3s
use Rattle.rz_isa.specs.declared.rows.RmRule.{RmRule}
use Rattle.rz_isa.specs.declared.rows.ImmKind.{ImmKind}
use Rattle.rz_isa.specs.declared.rows.ImmKind.TheVariants as imms
use Rattle.rz_isa.specs.declared.rows.Size.{Size}
use Rattle.rz_isa.specs.declared.rows.Size.TheVariants as sizes
use Rattle.rz_isa.specs.Spelling.{is_prefix, rex_bytes, escape, is_one, is_met, times, most, most_67, most_f0, most_f2, may_name_memory, one_repeat, is_allowed, prefixes_fit, f3_demand, w_demand, bit_w, bit_b, imm_len, width_of}
use Rattle.rz_isa.specs.Laws.Front.{prefixes_are}
use Rattle.rz_isa.specs.Regular.{stands_alone}
use Rattle.rz_isa.specs.Laws.Whole.{imm_beside}
use Rattle.rz_isa.specs.Laws.Tests.{and_parts, and_both, within_test}
use Rattle.rz_isa.specs.Decoded.{missing_f3, least_rex, rm_part}

-- ---- counts of prefixes

pub times-append : (b : ℕ) (xs ys : List ℕ) → times b (xs ++ ys) ≡ times b xs + times b ys
times-append b [] ys = omega arith
times-append b (x ∷ xs) ys = grind (arith, common_steps, times-append b xs ys)

pub all_within : (test : ℕ → Bool) (ps : List ℕ) → ((b : ℕ) → 1 ≤ times b ps → test b ≡ true) → list_all test ps ≡ true
all_within test [] each = refl
all_within test (b ∷ ps) each = and_both _ _ (each b (here b ps)) (all_within test ps (λ c le. each c (later c b ps le)))
  where
    here : (b : ℕ) (ps : List ℕ) → 1 ≤ times b (b ∷ ps)
    here b ps = grind (arith, nat_tests, common_steps)

    later : (c b : ℕ) (ps : List ℕ) → 1 ≤ times c ps → 1 ≤ times c (b ∷ ps)
    later c b ps le = grind (arith, nat_tests, common_steps)

pub within_all : (test : ℕ → Bool) (ps : List ℕ) (b : ℕ) → list_all test ps ≡ true → 1 ≤ times b ps → test b ≡ true
within_all test [] b all le = absurd (omega arith)
within_all test (c ∷ ps) b all le = (let t = and_parts (test c) (list_all test ps) all in elim (cases_Bool (c == b)) [
  | inl y ↦ (let e : c ≡ b = grind (arith, nat_tests) in subst (λ k. test k ≡ true) e t.0)
  | inr n ↦ within_all test ps b t.1 (rest c b ps n le)
])
  where
    rest : (c b : ℕ) (ps : List ℕ) → (c == b) ≡ false → 1 ≤ times b (c ∷ ps) → 1 ≤ times b ps
    rest c b ps n le = grind (arith, nat_tests, common_steps)

-- a prefix that is allowed stands no more often than the row says
pub allowed_most : (row : Row) (ps : List ℕ) (b : ℕ) → is_allowed row ps ≡ true → times b ps ≤ most row b
allowed_most row ps b all = elim (cases_Bool (nat_le 1 (times b ps))) [
  | inl y ↦ le _ _ (within_all (λ c. nat_le (times c ps) (most row c)) ps b all (le _ _ y))
  | inr n ↦ (let z : times b ps ≡ 0 = grind (arith, nat_tests) in omega arith)
]
  where
    le : (n k : ℕ) → nat_le n k ≡ true → n ≤ k
    le n k h = grind (arith, nat_tests)

pub most_allowed : (row : Row) (ps : List ℕ) → ((b : ℕ) → 1 ≤ times b ps → times b ps ≤ most row b) → is_allowed row ps ≡ true
most_allowed row ps each = all_within (λ c. nat_le (times c ps) (most row c)) ps (λ b le. within_test _ _ (each b le))

-- ---- F3 where it is missing

missing_only : (rule : F3Rule) (ps : List ℕ) (b : ℕ) → 1 ≤ times b (missing_f3 rule ps) → (b ≡ 0xf3) × (times 0xf3 ps ≡ 0) × (times b (missing_f3 rule ps) ≡ 1)
missing_only f3s.Required ps b le = elim (cases_Bool (times 0xf3 ps == 0)) [
  | inl y ↦ (grind (arith, nat_tests, common_steps), grind (arith, nat_tests), grind (arith, nat_tests, common_steps))
  | inr n ↦ absurd (grind (arith, nat_tests, common_steps))
]
missing_only f3s.No ps b le = absurd (omega arith)
missing_only f3s.Allowed ps b le = absurd (omega arith)
missing_only f3s.Repeats ps b le = absurd (omega arith)
missing_only f3s.RepeatsBoth ps b le = absurd (omega arith)

pub missing_66 : (rule : F3Rule) (ps : List ℕ) → times 0x66 (missing_f3 rule ps) ≡ 0
missing_66 f3s.Required ps = elim (cases_Bool (times 0xf3 ps == 0)) [ inl y ↦ grind (arith, nat_tests, common_steps) | inr n ↦ grind (arith, nat_tests, common_steps) ]
missing_66 f3s.No ps = refl
missing_66 f3s.Allowed ps = refl
missing_66 f3s.Repeats ps = refl
missing_66 f3s.RepeatsBoth ps = refl

missing_f2 : (ps : List ℕ) → times 0xf2 (missing_f3 f3s.Required ps) ≡ 0
missing_f2 ps = elim (cases_Bool (times 0xf3 ps == 0)) [ inl y ↦ grind (arith, nat_tests, common_steps) | inr n ↦ grind (arith, nat_tests, common_steps) ]

pub missing_few : (rule : F3Rule) (ps zs : List ℕ) → is_met (f3_demand rule) (times 0xf3 (ps ++ zs)) ≡ true → length (missing_f3 rule ps) ≤ length zs
missing_few f3s.Required ps zs met = (let a = times-append 0xf3 ps zs in let l = times_length 0xf3 zs in elim (cases_Bool (times 0xf3 ps == 0)) [
  | inl y ↦ (let z : times 0xf3 ps ≡ 0 = grind (arith, nat_tests) in let o : times 0xf3 (ps ++ zs) ≡ 1 = grind (arith, nat_tests) in let m : length (missing_f3 f3s.Required ps) ≡ 1 = grind (arith, common_steps) in omega arith)
  | inr n ↦ (let m : length (missing_f3 f3s.Required ps) ≡ 0 = grind (arith, common_steps) in omega arith)
])
  where
    times_length : (b : ℕ) (xs : List ℕ) → times b xs ≤ length xs
    times_length b [] = omega arith
    times_length b (x ∷ xs) = grind (arith, common_steps, times_length b xs)
missing_few f3s.No ps zs met = omega arith
missing_few f3s.Allowed ps zs met = omega arith
missing_few f3s.Repeats ps zs met = omega arith
missing_few f3s.RepeatsBoth ps zs met = omega arith

-- the demand is met with it
met_missing : (rule : F3Rule) (ps zs : List ℕ) → is_met (f3_demand rule) (times 0xf3 (ps ++ zs)) ≡ true → is_met (f3_demand rule) (times 0xf3 (ps ++ missing_f3 rule ps)) ≡ true
met_missing f3s.No ps zs met = (let a = times-append 0xf3 ps zs in let b = times-append 0xf3 ps [] in grind (arith, nat_tests))
met_missing f3s.Required ps zs met = (let a = times-append 0xf3 ps zs in let b = times-append 0xf3 ps (missing_f3 f3s.Required ps) in elim (cases_Bool (times 0xf3 ps == 0)) [
  | inl y ↦ (let m : times 0xf3 (missing_f3 f3s.Required ps) ≡ 1 = grind (arith, nat_tests, common_steps) in grind (arith, nat_tests))
  | inr n ↦ (let m : times 0xf3 (missing_f3 f3s.Required ps) ≡ 0 = grind (arith, nat_tests, common_steps) in grind (arith, nat_tests))
])
met_missing f3s.Allowed ps zs met = refl
met_missing f3s.Repeats ps zs met = refl
met_missing f3s.RepeatsBoth ps zs met = refl

-- F2 and F3 don't stand together with it
less_repeat : (a b c d : ℕ) → nat_le (a + b) 1 ≡ true → c ≤ a → d ≤ b → nat_le (c + d) 1 ≡ true
less_repeat a b c d h hc hd = grind (arith, nat_tests)

still_one : (ps zs : List ℕ) → one_repeat (ps ++ zs) ≡ true → one_repeat (ps ++ []) ≡ true
still_one ps zs one =
    let a = times-append 0xf2 ps zs in
    let b = times-append 0xf3 ps zs in
    let c = times-append 0xf2 ps [] in
    let d = times-append 0xf3 ps [] in
    less_repeat (times 0xf2 (ps ++ zs)) (times 0xf3 (ps ++ zs)) (times 0xf2 (ps ++ [])) (times 0xf3 (ps ++ [])) one (omega arith) (omega arith)

one_missing : (rule : F3Rule) (ps zs : List ℕ) → times 0xf2 (ps ++ zs) ≤ most_f2 rule → is_met (f3_demand rule) (times 0xf3 (ps ++ zs)) ≡ true → one_repeat (ps ++ zs) ≡ true → one_repeat (ps ++ missing_f3 rule ps) ≡ true
one_missing f3s.Required ps zs few met one =
    let a = times-append 0xf2 ps zs in
    let b = times-append 0xf2 ps (missing_f3 f3s.Required ps) in
    let c = missing_f2 ps in
    let d : times 0xf3 (ps ++ missing_f3 f3s.Required ps) ≡ 1 = (let m = met_missing f3s.Required ps zs met in grind (arith, nat_tests)) in
    less_repeat 0 1 (times 0xf2 (ps ++ missing_f3 f3s.Required ps)) (times 0xf3 (ps ++ missing_f3 f3s.Required ps)) refl (omega arith) (omega arith)
one_missing f3s.No ps zs few met one = still_one ps zs one
one_missing f3s.Allowed ps zs few met one = still_one ps zs one
one_missing f3s.Repeats ps zs few met one = still_one ps zs one
one_missing f3s.RepeatsBoth ps zs few met one = still_one ps zs one

-- the three tests of the prefixes
pub record PrefixesFit (row : Row) (ps : List ℕ) : Type 0 where
  pub allowed : is_allowed row ps ≡ true
  pub f3 : is_met (f3_demand row.f3) (times 0xf3 ps) ≡ true
  pub one : one_repeat ps ≡ true

pub prefix_tests : (row : Row) (ps : List ℕ) → prefixes_fit row ps ≡ true → PrefixesFit row ps
prefix_tests row ps fit = (let t = parts (is_allowed row ps) (is_met (f3_demand row.f3) (times 0xf3 ps)) (one_repeat ps) fit in record { allowed = t.0; f3 = t.1; one = t.2 })
  where
    parts : (a b c : Bool) → (a && b && c) ≡ true → (a ≡ true) × (b ≡ true) × (c ≡ true)
    parts a b c h = (grind arith, grind arith, grind arith)

all_three : (a b c : Bool) → a ≡ true → b ≡ true → c ≡ true → (a && b && c) ≡ true
all_three a b c ha hb hc = grind arith

-- where the row takes the prefixes with some behind them, it takes them with F3 where it is missing
pub missing_fit : (row : Row) (ps zs : List ℕ) → prefixes_fit row (ps ++ zs) ≡ true → prefixes_fit row (ps ++ missing_f3 row.f3 ps) ≡ true
missing_fit row ps zs fit =
    let t = prefix_tests row (ps ++ zs) fit in
    all_three _ _ _ (most_allowed row (ps ++ missing_f3 row.f3 ps) (each t.allowed)) (met_missing row.f3 ps zs t.f3)
    (one_missing row.f3 ps zs (allowed_most row (ps ++ zs) 0xf2 t.allowed) t.f3 t.one)
  where
    each : is_allowed row (ps ++ zs) ≡ true → (b : ℕ) → 1 ≤ times b (ps ++ missing_f3 row.f3 ps) → times b (ps ++ missing_f3 row.f3 ps) ≤ most row b
    each all b le =
        let a = times-append b ps zs in
        let c = times-append b ps (missing_f3 row.f3 ps) in
        let m = allowed_most row (ps ++ zs) b all in
        elim (cases_Bool (nat_le 1 (times b (missing_f3 row.f3 ps)))) [
          | inl y ↦
              (let o = missing_only row.f3 ps b (grind (arith, nat_tests)) in
              let z : times b ps ≡ 0 = ap (λ k. times k ps) o.0 ∙ o.1 in
              let one : most row b ≡ 1 = ap (most row) o.0 in
              let two = o.2 in
              omega arith)
          | inr n ↦ (let z : times b (missing_f3 row.f3 ps) ≡ 0 = grind (arith, nat_tests) in omega arith)
        ]

-- ---- where F0 stands the row has a ModRM byte that may name memory

pub locked_names : (row : Row) (ps : List ℕ) → prefixes_fit row ps ≡ true → (times 0xf0 ps == 0) ≡ false → may_name_memory row.rm ≡ true
locked_names row ps fit some =
    let few : times 0xf0 ps ≤ most_f0 row = allowed_most row ps 0xf0 (prefix_tests row ps fit).allowed in
    by row.lock (may_name_memory row.rm) (times 0xf0 ps) few some
  where
    by : (l m : Bool) (n : ℕ) → n ≤ (if l && m then 1 else 0) → (n == 0) ≡ false → m ≡ true
    by l m n few some = grind (arith, nat_tests)

-- ---- how many prefixes there can be without 66

counted : (ps : List ℕ) → list_all is_prefix ps ≡ true → length ps ≡ times 0x2e ps + (times 0x3e ps + (times 0x66 ps + (times 0x67 ps + (times 0xf0 ps + (times 0xf2 ps + times 0xf3 ps)))))
counted [] all = refl
counted (b ∷ ps) all = (let t = and_parts (is_prefix b) (list_all is_prefix ps) all in let i = counted ps t.1 in one b ps t.0 i)
  where
    one : (b : ℕ) (ps : List ℕ) → is_prefix b ≡ true → length ps ≡ times 0x2e ps + (times 0x3e ps + (times 0x66 ps + (times 0x67 ps + (times 0xf0 ps + (times 0xf2 ps + times 0xf3 ps))))) →
        length (b ∷ ps) ≡ times 0x2e (b ∷ ps) + (times 0x3e (b ∷ ps) + (times 0x66 (b ∷ ps) + (times 0x67 (b ∷ ps) + (times 0xf0 (b ∷ ps) + (times 0xf2 (b ∷ ps) + times 0xf3 (b ∷ ps))))))
    one b ps p i = grind (arith, nat_tests, common_steps)

escape_67 : (m : OpMap) (o : ℕ) → (if is_one m && o == 0xe8 then 1 else 0) + length (escape m) ≤ 1
escape_67 maps.One o = grind (arith, nat_tests)
escape_67 maps.Two o = omega arith

pub few_prefixes : (row : Row) (ps : List ℕ) → prefixes_fit row ps ≡ true → times 0x66 ps ≡ 0 → length ps + length (escape row.map) ≤ 4 + most_f0 row
few_prefixes row ps fit none =
    let t = prefix_tests row ps fit in
    let n = counted ps (prefixes_are row ps fit) in
    let a = allowed_most row ps 0x2e t.allowed in
    let b = allowed_most row ps 0x3e t.allowed in
    let c : times 0x67 ps ≤ most_67 row = allowed_most row ps 0x67 t.allowed in
    let d : times 0xf0 ps ≤ most_f0 row = allowed_most row ps 0xf0 t.allowed in
    let f : times 0xf2 ps + times 0xf3 ps ≤ 1 = within _ _ t.one in
    let e = escape_67 row.map row.opcode in
    omega arith
  where
    within : (n k : ℕ) → nat_le n k ≡ true → n ≤ k
    within n k h = grind (arith, nat_tests)

-- ---- lengths of immediates

pub imm_eight : (k : Option ImmKind) (w : Width) → imm_len k w ≤ 8
imm_eight None w = omega arith
imm_eight (Some imms.Ib) w = omega arith
imm_eight (Some imms.Ibs) w = omega arith
imm_eight (Some imms.Iw) w = omega arith
imm_eight (Some imms.Iz) W8 = omega arith
imm_eight (Some imms.Iz) W16 = omega arith
imm_eight (Some imms.Iz) W32 = omega arith
imm_eight (Some imms.Iz) W64 = omega arith
imm_eight (Some imms.Iv) W8 = omega arith
imm_eight (Some imms.Iv) W16 = omega arith
imm_eight (Some imms.Iv) W32 = omega arith
imm_eight (Some imms.Iv) W64 = omega arith
imm_eight (Some imms.J8) w = omega arith
imm_eight (Some imms.J32) w = omega arith

-- where F0 may stand the immediate has at most four bytes
pub lock_room : (row : Row) (w : Width) → not (stands_alone row.imm && is_some row.rm) ≡ true → most_f0 row + imm_len row.imm w ≤ 8
lock_room row w alone = by row.rm (row.lock) alone
  where
    beside : (a : Bool) → not (a && true) ≡ true → a ≡ false
    beside a h = grind arith

    one : (b : Bool) → (if b then 1 else 0) ≤ 1
    one true = omega arith
    one false = omega arith

    never : (b : Bool) → (if b && false then 1 else 0) ≤ 0
    never true = omega arith
    never false = omega arith

    by : (rm : Option RmRule) (l : Bool) → not (stands_alone row.imm && is_some rm) ≡ true → (if l && may_name_memory rm then 1 else 0) + imm_len row.imm w ≤ 8
    by None l h = (let n = never l in let i = imm_eight row.imm w in omega arith)
    by (Some rule) l h = (let o = one (l && may_name_memory (Some rule)) in let i = imm_beside row.imm w (beside _ h) in omega arith)

grows : (k : Option ImmKind) → (imm_len k W16 ≤ imm_len k W32) × (imm_len k W32 ≤ imm_len k W64)
grows None = (omega arith, omega arith)
grows (Some imms.Ib) = (omega arith, omega arith)
grows (Some imms.Ibs) = (omega arith, omega arith)
grows (Some imms.Iw) = (omega arith, omega arith)
grows (Some imms.Iz) = (omega arith, omega arith)
grows (Some imms.Iv) = (omega arith, omega arith)
grows (Some imms.J8) = (omega arith, omega arith)
grows (Some imms.J32) = (omega arith, omega arith)

by_v : (k : Option ImmKind) (a b : Bool) → imm_len k (if b then W32 else W16) ≤ imm_len k (if a then W64 else if b then W32 else W16)
by_v k true true = (grows k).1
by_v k true false = (let g = grows k in let x = g.0 in let y = g.1 in omega arith)
by_v k false true = omega arith
by_v k false false = omega arith

by_y : (k : Option ImmKind) (a : Bool) → imm_len k W32 ≤ imm_len k (if a then W64 else W32)
by_y k true = (grows k).1
by_y k false = omega arith

-- without a REX that isn't required the immediate is no longer
pub imm_least : (k : Option ImmKind) (c : Size) (w n m : ℕ) → (n == 0) ≡ (m == 0) → imm_len k (width_of c (bit_w (least_rex c)) n) ≤ imm_len k (width_of c w m)
imm_least k sizes.B w n m e = omega arith
imm_least k sizes.V w n m e = subst (λ z. imm_len k (if z then W32 else W16) ≤ imm_len k (if w == 1 then W64 else if m == 0 then W32 else W16)) (sym e) (by_v k (w == 1) (m == 0))
imm_least k sizes.D w n m e = subst (λ z. imm_len k (if z then W32 else W16) ≤ imm_len k (if m == 0 then W32 else W16)) (sym e) (omega arith)
imm_least k sizes.Y w n m e = by_y k (w == 1)
imm_least k sizes.Q w n m e = omega arith
imm_least k sizes.WQ w n m e = omega arith
imm_least k sizes.N w n m e = omega arith

pub least_met : (c : Size) → is_met (w_demand c) (bit_w (least_rex c)) ≡ true
least_met sizes.B = refl
least_met sizes.V = refl
least_met sizes.D = refl
least_met sizes.Y = refl
least_met sizes.Q = refl
least_met sizes.WQ = refl
least_met sizes.N = refl

pub least_b : (c : Size) → bit_b (least_rex c) ≡ 0
least_b sizes.B = refl
least_b sizes.V = refl
least_b sizes.D = refl
least_b sizes.Y = refl
least_b sizes.Q = refl
least_b sizes.WQ = refl
least_b sizes.N = refl

pub least_one : (c : Size) → length (rex_bytes (least_rex c)) ≤ 1
least_one sizes.B = omega arith
least_one sizes.V = omega arith
least_one sizes.D = omega arith
least_one sizes.Y = omega arith
least_one sizes.Q = omega arith
least_one sizes.WQ = omega arith
least_one sizes.N = omega arith

pub least_few : (c : Size) (rex : Option ℕ) → is_met (w_demand c) (bit_w rex) ≡ true → length (rex_bytes (least_rex c)) ≤ length (rex_bytes rex)
least_few sizes.WQ None met = absurd (cc)
least_few sizes.WQ (Some b) met = omega arith
least_few sizes.B rex met = omega arith
least_few sizes.V rex met = omega arith
least_few sizes.D rex met = omega arith
least_few sizes.Y rex met = omega arith
least_few sizes.Q rex met = omega arith
least_few sizes.N rex met = omega arith

-- ---- room where nothing stands behind the prefixes

pub rm_one : (rule : Option RmRule) → rm_part rule [] ≤ 1
rm_one None = omega arith
rm_one (Some rule) = omega arith

sum_short : (a r e m i l : ℕ) → a + e ≤ 4 + l → r ≤ 1 → m ≤ 1 → l + i ≤ 8 → a + (r + (e + (1 + (m + i)))) ≤ 15
sum_short a r e m i l ha hr hm hi = omega arith

sum_less : (a z f r q e m n i j : ℕ) → f ≤ z → r ≤ q → m ≤ n → i ≤ j → a + z + (q + (e + (1 + (n + j)))) ≤ 15 → a + f + (r + (e + (1 + (m + i)))) ≤ 15
sum_less a z f r q e m n i j hf hr hm hi h = omega arith

pub open_room : (row : Row) (ps zs : List ℕ) (rex : Option ℕ) (n j : ℕ) → not (stands_alone row.imm && is_some row.rm) ≡ true → prefixes_fit row (ps ++ zs) ≡ true → is_met (w_demand row.size) (bit_w rex) ≡ true → rm_part row.rm [] ≤ n
    → imm_len row.imm (width_of row.size (bit_w rex) (times 0x66 (ps ++ zs))) ≡ j → length (ps ++ zs) + (length (rex_bytes rex) + (length (escape row.map) + (1 + (n + j)))) ≤ 15
    → length (ps ++ missing_f3 row.f3 ps) + (length (rex_bytes (least_rex row.size)) + (length (escape row.map) + (1 + (rm_part row.rm [] + imm_len row.imm (width_of row.size (bit_w (least_rex row.size)) (times 0x66 (ps ++ missing_f3 row.f3 ps))))))) ≤ 15
open_room row ps zs rex n j alone fit met le ej room =
    let a = times-append 0x66 ps zs in
    let b = times-append 0x66 ps (missing_f3 row.f3 ps) in
    let z = missing_66 row.f3 ps in
    elim (cases_Bool (times 0x66 ps == 0)) [
      | inl y ↦
          (let none : times 0x66 ps ≡ 0 = grind (arith, nat_tests) in
          sum_short _ _ _ _ _ _ (few_prefixes row (ps ++ missing_f3 row.f3 ps) (missing_fit row ps zs fit) (omega arith)) (least_one row.size) (rm_one row.rm) (lock_room row _ alone))
      | inr k ↦
          (let same : (times 0x66 (ps ++ missing_f3 row.f3 ps) == 0) ≡ (times 0x66 (ps ++ zs) == 0) = both (times 0x66 ps) _ _ _ _ k b a in
          let t = prefix_tests row (ps ++ zs) fit in
          let i = imm_least row.imm row.size (bit_w rex) (times 0x66 (ps ++ missing_f3 row.f3 ps)) (times 0x66 (ps ++ zs)) same in
          let l = length-append ps zs in
          let m = length-append ps (missing_f3 row.f3 ps) in
          let s = sum_less (length ps) (length zs) (length (missing_f3 row.f3 ps)) (length (rex_bytes (least_rex row.size))) (length (rex_bytes rex)) (length (escape row.map)) (rm_part row.rm []) n
          (imm_len row.imm (width_of row.size (bit_w (least_rex row.size)) (times 0x66 (ps ++ missing_f3 row.f3 ps)))) j
          (missing_few row.f3 ps zs t.f3) (least_few row.size rex met) le (omega arith) (omega arith) in
          omega arith)
    ]
  where
    both : (p x y u v : ℕ) → (p == 0) ≡ false → x ≡ p + u → y ≡ p + v → (x == 0) ≡ (y == 0)
    both p x y u v k ex ey = grind (arith, nat_tests)
