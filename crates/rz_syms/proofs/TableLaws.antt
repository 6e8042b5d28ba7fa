-- Section headers one by one, and the first symbol table among them.
use Rattle.std.proofs.Common.{◌≡◌, ℕ, suc, ◌+◌, ◌-◌, ◌*◌, ◌<◌, ◌≤◌, true, false, cond, List, ◌∷◌, drop, Option, Some, None, sym, ap, ap₂, ◌∙◌, arith, drop-drop}
use Rattle.std.specs.Prelude.{find}
use Rattle.rz_syms.specs.declared.section.Section.{Section}
use Rattle.rz_syms.specs.declared.section.SectionTable.{SectionTable}
use Rattle.rz_syms.specs.Sections.{section_of, sections_of, section_at, section_table_of, is_symbol_table, symbol_table}

-- one section header more is read
sections_turn : (x : List ℕ) (table count i : ℕ) → i < count
    → sections_of (count - i) (drop (table + 64 * i) x) ≡ section_of (drop (table + 64 * i) x) ∷ sections_of (count - (i + 1)) (drop (table + 64 * (i + 1)) x)
sections_turn x table count i lt =
    let left : count - i ≡ suc (count - (i + 1)) = omega arith in
    let on : table + 64 * (i + 1) ≡ table + 64 * i + 64 = omega arith in
    let rest : drop (table + 64 * (i + 1)) x ≡ drop 64 (drop (table + 64 * i) x) = ap (λ k. drop k x) on ∙ sym (drop-drop 64 (table + 64 * i) x) in
    ap (λ k. sections_of k (drop (table + 64 * i) x)) left ∙ ap (λ t. section_of (drop (table + 64 * i) x) ∷ sections_of (count - (i + 1)) t) (sym rest)

-- the section headers from one on, by what the file header says of them
abbrev pub sections_from : SectionTable → List ℕ → ℕ → List Section
sections_from h x i = sections_of (h.count - i) (drop (h.at + 64 * i) x)

pub from_first : (x : List ℕ) (h : SectionTable) → h ≡ section_table_of x → find is_symbol_table (sections_from h x 0) ≡ symbol_table x
from_first x h e =
    let count : h.count - 0 ≡ h.count = omega arith in
    let at : h.at + 64 * 0 ≡ h.at = omega arith in
    ap₂ (λ n k. find is_symbol_table (sections_of n (drop k x))) count at
    ∙ ap (λ (g : SectionTable). find is_symbol_table (sections_of g.count (drop g.at x))) e

found : (o : Option Section) (s : Section) (rest : List Section) → is_symbol_table s ≡ true → find is_symbol_table (s ∷ rest) ≡ o → Some s ≡ o
found o s rest is_it held = sym (ap (λ b. cond b (Some s) (find is_symbol_table rest)) is_it) ∙ held

passed : (o : Option Section) (s : Section) (rest : List Section) → is_symbol_table s ≡ false → find is_symbol_table (s ∷ rest) ≡ o → find is_symbol_table rest ≡ o
passed o s rest misses held = sym (ap (λ b. cond b (Some s) (find is_symbol_table rest)) misses) ∙ held

-- the section that is read
read_at : (x : List ℕ) (h : SectionTable) (i : ℕ) → h ≡ section_table_of x → section_at x i ≡ section_of (drop (h.at + 64 * i) x)
read_at x h i e = ap (λ (g : SectionTable). section_of (drop (g.at + 64 * i) x)) (sym e)

pub table_here : (x : List ℕ) (h : SectionTable) (i : ℕ) (s : Section) → h ≡ section_table_of x → i < h.count → s ≡ section_at x i → is_symbol_table s ≡ true
    → find is_symbol_table (sections_from h x i) ≡ symbol_table x → Some s ≡ symbol_table x
table_here x h i s e lt is is_it held =
    let turn = ap (find is_symbol_table) (sections_turn x h.at h.count i lt) in
    let same : s ≡ section_of (drop (h.at + 64 * i) x) = is ∙ read_at x h i e in
    let rest = sections_of (h.count - (i + 1)) (drop (h.at + 64 * (i + 1)) x) in
    found (symbol_table x) s rest is_it (ap (λ (t : Section). find is_symbol_table (t ∷ rest)) same ∙ (sym turn ∙ held))

pub table_later : (x : List ℕ) (h : SectionTable) (i : ℕ) (s : Section) → h ≡ section_table_of x → i < h.count → s ≡ section_at x i → is_symbol_table s ≡ false
    → find is_symbol_table (sections_from h x i) ≡ symbol_table x → find is_symbol_table (sections_from h x (i + 1)) ≡ symbol_table x
table_later x h i s e lt is misses held =
    let turn = ap (find is_symbol_table) (sections_turn x h.at h.count i lt) in
    let same : s ≡ section_of (drop (h.at + 64 * i) x) = is ∙ read_at x h i e in
    let rest = sections_of (h.count - (i + 1)) (drop (h.at + 64 * (i + 1)) x) in
    passed (symbol_table x) s rest misses (ap (λ (t : Section). find is_symbol_table (t ∷ rest)) same ∙ (sym turn ∙ held))

pub no_table : (x : List ℕ) (h : SectionTable) (i : ℕ) → h.count ≤ i → find is_symbol_table (sections_from h x i) ≡ symbol_table x → None ≡ symbol_table x
no_table x h i le held =
    let none : h.count - i ≡ 0 = omega arith in
    ap (λ k. find is_symbol_table (sections_of k (drop (h.at + 64 * i) x))) (sym none) ∙ held
