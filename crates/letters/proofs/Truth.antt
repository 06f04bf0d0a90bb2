-- A test that passes, as a fact and as an equation.
-- Assumes nothing.
use Rattle.std.proofs.Common.{◌≡◌, Bool, true, false, T, sym, refl, subst}

pub true_from : (b : Bool) → T b → b ≡ true
true_from true t = refl
true_from false t = absurd t

pub from_true : (b : Bool) → b ≡ true → T b
from_true b e = subst T (sym e) tt
