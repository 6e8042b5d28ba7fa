-- Steps one after the other, up to an end.
use Rattle.std.proofs.Common.{◌≡◌, ℕ, zero, suc, ◌+◌, ◌-◌, ◌≤◌, true, is_some, Option, Some, None, refl, sym, ap, ◌∙◌, arith, add-one}
use Rattle.rz_machine.specs.declared.machine.End.{End}
use Rattle.rz_machine.specs.declared.machine.Machine.{Machine}
use Rattle.rz_isa.specs.Nodes.{Decoder}
use Rattle.rz_machine.specs.State.{step, after}
use Rattle.rz_machine.specs.Laws.Runs.{stays, after-+, after-suc}

-- one step more, as a loop counts
pub after-next : (dec : Decoder) (n : ℕ) (s : Machine) → after dec (n + 1) s ≡ step dec (after dec n s)
after-next dec n s = ap (λ k. after dec k s) (add-one n) ∙ after-suc dec n s

pub after-ended : (dec : Decoder) (n : ℕ) (s : Machine) (why : End) → s.end ≡ Some why → after dec n s ≡ s
unfolding after
after-ended dec zero s why e = refl
after-ended dec (suc n) s why e = ap (after dec n) (stays dec s why e) ∙ after-ended dec n s why e

-- a state that has ended within n steps is the state after n steps
pub after-long : (dec : Decoder) (k n : ℕ) (s t : Machine) → t ≡ after dec k s → k ≤ n → is_some t.end ≡ true → t ≡ after dec n s
after-long dec k n s t e le ended = go t.end refl ended
  where
    go : (o : Option End) → t.end ≡ o → is_some o ≡ true → t ≡ after dec n s
    go (Some why) at some =
        let rest : k + (n - k) ≡ n = omega arith in
        sym (ap (λ j. after dec j s) (sym rest) ∙ after-+ dec k (n - k) s ∙ ap (after dec (n - k)) (sym e) ∙ after-ended dec (n - k) t why at)
    go None at some = cc
