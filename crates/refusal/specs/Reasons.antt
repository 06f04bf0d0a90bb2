-- Which of several reasons is given.
-- Assumes nothing.
use Rattle.std.specs.Prelude.{◌≡◌, ◌≤◌, Bool, true, false, cond, ◌⊎◌, List, [], ◌∷◌, Ok, Err, Result}
use Rattle.refusal.specs.Numbers.{number_of}
use Rattle.refusal.specs.declared.Refusal.{Refusal}

-- a reason, and whether it applies
abbrev pub Reason : Type 0
Reason = Bool × Refusal

-- The first reason that applies, or what is given where none does. Lists of reasons go by their numbers, smallest first.
abbrev pub replied : {X : Type 0} → List Reason → X → Result X Refusal
replied [] x = Ok x
replied (r ∷ rs) x = cond r.0 (Err r.1) (replied rs x)

-- no reason of a list applies
abbrev pub NoneApplies : List Reason → Type 0
NoneApplies [] = Unit {0}
NoneApplies (r ∷ rs) = (r.0 ≡ false) × NoneApplies rs

-- a refusal is the reason of an entry that applies
abbrev pub Applies : List Reason → Refusal → Type 0
Applies [] e = ⊥
Applies (r ∷ rs) e = ((r.0 ≡ true) × (r.1 ≡ e)) ⊎ Applies rs e

-- The reply gives the reason with the smallest number of those that apply; it lets through where none does.
abbrev pub Least : {X : Type 0} → List Reason → Result X Refusal → Type 0
Least rs (Ok x) = (e : Refusal) → Applies rs e → ⊥
Least rs (Err e) = Applies rs e × ((f : Refusal) → Applies rs f → number_of e ≤ number_of f)
