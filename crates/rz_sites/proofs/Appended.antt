-- The items of a piece of a check, appended one by one.
use Rattle.std.proofs.Common.{◌≡◌, ℕ, ◌+◌, List, [], ◌∷◌, ◌++◌, length, append_assoc, refl}
use Rattle.std.specs.Prelude.{ℤ, pos, ◌-ℤ◌}
use Rattle.rz_isa.specs.declared.item_list.Label.TheVariants as label
use Rattle.rz_isa.specs.declared.item_list.Item.{Item}
use Rattle.rz_isa.specs.declared.item_list.Item.TheVariants as item
use Rattle.rz_machine.specs.Sequence.{add_to, load_at, jump, piece}

five_appended : (xs x1 x2 x3 x4 x5 : List Item) (a b c d e : Item) → x1 ≡ xs ++ a ∷ [] → x2 ≡ x1 ++ b ∷ [] → x3 ≡ x2 ++ c ∷ [] → x4 ≡ x3 ++ d ∷ [] → x5 ≡ x4 ++ e ∷ []
    → x5 ≡ xs ++ a ∷ b ∷ c ∷ d ∷ e ∷ []
five_appended xs x1 x2 x3 x4 x5 a b c d e p1 p2 p3 p4 p5 = rw (p5, p4, p3, p2, p1) (simp append_assoc)

pub piece_appended : (scratch previous target : ℕ) (xs ys x1 x2 x3 x4 x5 : List Item) (a c d e : Item) (z : ℤ)
    → ys ≡ xs → z ≡ pos previous -ℤ pos target → a ≡ add_to 1 z → c ≡ jump (label.Item (length ys + 5)) → d ≡ load_at scratch → e ≡ jump (label.Place target)
    → x1 ≡ xs ++ a ∷ [] → x2 ≡ x1 ++ item.Jrcxz (label.Item (length ys + 3)) ∷ [] → x3 ≡ x2 ++ c ∷ [] → x4 ≡ x3 ++ d ∷ [] → x5 ≡ x4 ++ e ∷ []
    → x5 ≡ xs ++ piece scratch (length xs) previous target
piece_appended scratch previous target xs ys x1 x2 x3 x4 x5 a c d e z same diff ea ec ed ee p1 p2 p3 p4 p5 =
    rw (five_appended xs x1 x2 x3 x4 x5 a _ c d e p1 p2 p3 p4 p5, ea, ec, ed, ee, diff, same) refl
