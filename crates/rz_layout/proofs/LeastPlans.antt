-- Least plans are one, and no plan is shorter.
use Rattle.std.proofs.Common.{◌≡◌, ◌≤◌, List, refl, sym, ◌∙◌, arith, None}
use Rattle.std.proofs.lemmas.List.{ext_get_or}
use Rattle.rz_isa.specs.declared.rows.Row.{Row}
use Rattle.rz_isa.specs.declared.rows.Form.{Form}
use Rattle.rz_isa.specs.declared.rows.Form.TheVariants.{Near, Short}
use Rattle.rz_isa.specs.declared.item_list.Item.{Item}
use Rattle.rz_isa.specs.Plan.{form_at, item_len}
use Rattle.rz_layout.specs.Laws.{LeastPlansAreOne, LeastIsShortest}
use Rattle.rz_layout.specs.Calls.Ordered.{item_piece, pieces_of}
use Rattle.rz_layout.proofs.Offsets.{len_up, offset_down}
use Rattle.rz_layout.proofs.Flat.{item_len_same, offset_same}

same_form : (a b : Form) → (a ≡ Near → b ≡ Near) → (b ≡ Near → a ≡ Near) → a ≡ b
same_form Near b down up = let e = down refl in cc
same_form Short Near down up = let e = up refl in cc
same_form Short Short down up = refl

pub least_plans_are_one : LeastPlansAreOne
least_plans_are_one rows frags base a b plan least plan' least' =
    ext_get_or Near a b (plan.each ∙ sym plan'.each) (λ k _. same_form (form_at a k) (form_at b k) (least b plan' k) (least' a plan k))

item_len_up : (rows : List Row) (i : Item) (a b : Form) → (a ≡ Near → b ≡ Near) → item_len rows i a ≤ item_len rows i b
item_len_up rows i a b h =
    let up = len_up (item_piece rows (λ _. None) i) a b h in
    omega (arith, up, item_len_same rows (λ _. None) i a, item_len_same rows (λ _. None) i b)

pub least_is_shortest : LeastIsShortest
least_is_shortest rows frags base forms other least plan =
    let less = least other plan in
    record {
      places = λ k. omega (arith, offset_down (pieces_of rows frags) forms other less k, offset_same rows frags forms k, offset_same rows frags other k);
      items = λ k i. item_len_up rows i (form_at forms k) (form_at other k) (less k);
    }
