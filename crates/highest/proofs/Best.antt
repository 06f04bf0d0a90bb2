-- What an answer of `cmp` tells, under a total order.
-- Assumes nothing.
use Rattle.std.proofs.Common.{◌≡◌, Ordering, Less, Equal, Greater, sym, refl, ap, ◌∙◌}
use Rattle.std.specs.Cmp.{IsTotalOrder}
use Rattle.std.specs.Ordering.{is_lt, is_gt, ordering_reverse}
use Rattle.highest.specs.Row.{above}

module _ {X : Type 0} {R : X → X → Ordering} (order : IsTotalOrder R) where
  turned : (o : Ordering) → is_lt (ordering_reverse o) ≡ is_gt o
  turned Less = refl
  turned Equal = refl
  turned Greater = refl

  -- x ranks above y where the answer is Greater
  pub answered : (x y : X) (o : Ordering) → o ≡ R x y → above R x y ≡ is_gt o
  answered x y o h =
      ap is_lt (order.antisymm y x) ∙ ap (λ p. is_lt (ordering_reverse p)) (sym h) ∙ turned o
