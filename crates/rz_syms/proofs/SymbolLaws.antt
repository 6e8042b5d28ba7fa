-- Symbols one by one.
use Rattle.std.proofs.Common.{◌≡◌, ℕ, suc, ◌+◌, ◌-◌, ◌*◌, ◌/◌, ◌<◌, ◌≤◌, List, [], ◌∷◌, length, drop, sym, ap, ap₂, ◌∙◌, arith, drop-drop}
use Rattle.rz_syms.specs.declared.entry.Symbol.{Symbol}
use Rattle.rz_syms.specs.Symbols.{symbol_of, symbols_of, symbols_in}

-- the symbols of bytes from one on
abbrev pub symbols_from : List ℕ → ℕ → List Symbol
symbols_from bytes i = symbols_of (length bytes / 24 - i) (drop (24 * i) bytes)

pub symbols_turn : (bytes : List ℕ) (i : ℕ) → i < length bytes / 24 → symbols_from bytes i ≡ symbol_of (drop (24 * i) bytes) ∷ symbols_from bytes (i + 1)
symbols_turn bytes i lt =
    let count : ℕ = length bytes / 24 in
    let left : count - i ≡ suc (count - (i + 1)) = omega arith in
    let on : 24 * (i + 1) ≡ 24 * i + 24 = omega arith in
    let rest : drop (24 * (i + 1)) bytes ≡ drop 24 (drop (24 * i) bytes) = ap (λ k. drop k bytes) on ∙ sym (drop-drop 24 (24 * i) bytes) in
    ap (λ k. symbols_of k (drop (24 * i) bytes)) left ∙ ap (λ t. symbol_of (drop (24 * i) bytes) ∷ symbols_of (count - (i + 1)) t) (sym rest)

pub symbols_first : (bytes : List ℕ) → symbols_from bytes 0 ≡ symbols_in bytes
symbols_first bytes =
    let count : length bytes / 24 - 0 ≡ length bytes / 24 = omega arith in
    let at : 24 * 0 ≡ 0 = omega arith in
    ap₂ (λ n k. symbols_of n (drop k bytes)) count at

pub symbols_end : (bytes : List ℕ) (i : ℕ) → length bytes / 24 ≤ i → symbols_from bytes i ≡ []
symbols_end bytes i le =
    let none : length bytes / 24 - i ≡ 0 = omega arith in
    ap (λ k. symbols_of k (drop (24 * i) bytes)) none
