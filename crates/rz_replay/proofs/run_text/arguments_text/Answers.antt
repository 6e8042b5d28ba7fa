use Rattle.std.proofs.Common.{◌≡◌, ℕ, List, [], ◌∷◌, ◌++◌, length, get_or, append-nil, rules, arith, refl, sym, ap, ◌∙◌, subst}
use Rattle.std.specs.Prelude.{string_bytes, IfOk, flat_map}
use Rattle.rz_num.specs.Texts.{hex_text}
use Rattle.rz_replay.proofs.run_text.arguments_text.Goals as goal

three : (xs : List ℕ) → length xs ≡ 3 → xs ≡ get_or xs 0 0 ∷ get_or xs 1 0 ∷ get_or xs 2 0 ∷ []
three [] e = absurd (omega arith)
three (x ∷ []) e = absurd (omega arith)
three (x ∷ y ∷ []) e = absurd (omega arith)
three (x ∷ y ∷ z ∷ []) e = refl
three (x ∷ y ∷ z ∷ w ∷ r) e = absurd (omega arith)

-- three arguments, one after the other
all_three : (xs : List ℕ) → length xs ≡ 3
    → 32 ∷ (hex_text (get_or xs 0 0) ++ 32 ∷ (hex_text (get_or xs 1 0) ++ 32 ∷ hex_text (get_or xs 2 0))) ≡ flat_map (λ a. 32 ∷ hex_text a) xs
all_three xs e =
    let text = flat_map (λ (a : ℕ). 32 ∷ hex_text a) in
    ap (λ (l : List ℕ). 32 ∷ (hex_text (get_or xs 0 0) ++ 32 ∷ (hex_text (get_or xs 1 0) ++ 32 ∷ l))) (sym (append-nil (hex_text (get_or xs 2 0)))) ∙ sym (ap text (three xs e))

pub returns : goal.returns
returns c =
    let args = c.args.args.now in
    let parts : IfOk c.format.result (λ s. string_bytes s ≡ 32 ∷ (hex_text (get_or args 0 0) ++ 32 ∷ (hex_text (get_or args 1 0) ++ 32 ∷ hex_text (get_or args 2 0)))) = search rules in
    subst (λ (l : List ℕ). IfOk c.format.result (λ s. string_bytes s ≡ l)) (all_three args c.told-args) parts
