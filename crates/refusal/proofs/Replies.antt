-- What a reply tells of the reason behind it.
-- Assumes nothing.
use Rattle.std.proofs.Common.{◌≡◌, ℕ, ◌<◌, ◌≤◌, Bool, true, false, cond, ◌&&◌, T, ltb, List, [], ◌∷◌, ◌++◌, Ok, Err, Result, sym, refl, ap, ◌∙◌, subst, inl, inr, ⊎_elim, arith}
use Rattle.std.proofs.lemmas.Bool.{and_parts, both_ways, ltb-true}
use Rattle.refusal.specs.Numbers.{number_of}
use Rattle.refusal.specs.Reasons.{Reason, NoneApplies, Applies, Least, replied}
use Rattle.refusal.specs.declared.Refusal.{Refusal}

module _ {X : Type 0} where
  pub ok_not_err : (r : Result X Refusal) (x : X) (e : Refusal) → r ≡ Ok x → r ≡ Err e → ⊥
  ok_not_err r x e p q = let z : ◌≡◌ {A = ℕ} 0 1 = cc in omega arith

  -- one reason, and what is given where it does not apply
  pub told_err : (b : Bool) (e f : Refusal) (x : X) → Err f ≡ cond b (Err e) (Ok x) → (b ≡ true) × (f ≡ e)
  told_err true e f x p = (refl, cc)
  told_err false e f x p = absurd (ok_not_err (Ok x) x f refl (sym p))

  pub told_ok : (b : Bool) (e : Refusal) (y x : X) → Ok y ≡ cond b (Err e) (Ok x) → (b ≡ false) × (y ≡ x)
  told_ok true e y x p = absurd (ok_not_err (Err e) y e (sym p) refl)
  told_ok false e y x p = (refl, cc)

-- A reply to a list of reasons.

module _ {X : Type 0} where
  -- the first reason of a list does not apply where the list lets something through
  pub first_passed : (r : Reason) (rs : List Reason) (z x : X) → Ok z ≡ replied (r ∷ rs) x → (r.0 ≡ false) × (Ok z ≡ replied rs x)
  first_passed r rs z x p = split r.0 p
    where
      split : (b : Bool) → Ok z ≡ cond b (Err r.1) (replied rs x) → (b ≡ false) × (Ok z ≡ replied rs x)
      split true q = absurd (ok_not_err (Err r.1) z r.1 (sym q) refl)
      split false q = (refl, q)

  -- then no reason applies
  pub none_applies : (rs : List Reason) (z x : X) → Ok z ≡ replied rs x → NoneApplies rs
  none_applies [] z x p = tt
  none_applies (r ∷ rs) z x p = let f = first_passed r rs z x p in (f.0, none_applies rs z x f.1)

  -- and where none does, it lets through
  pub none_refused : (rs : List Reason) (x : X) → NoneApplies rs → replied rs x ≡ Ok x
  none_refused [] x n = refl
  none_refused (r ∷ rs) x n = ap (λ b. cond b (Err r.1) (replied rs x)) n.0 ∙ none_refused rs x n.1

  -- what is let through is what was offered
  pub passed_value : (rs : List Reason) (z x : X) → Ok z ≡ replied rs x → z ≡ x
  passed_value [] z x p = cc
  passed_value (r ∷ rs) z x p = passed_value rs z x (first_passed r rs z x p).1

module _ {X Y : Type 0} where
  -- the same reasons let through, or refuse, whatever is offered
  pub passed_as : (rs : List Reason) (z x : X) (y : Y) → Ok z ≡ replied rs x → replied rs y ≡ Ok y
  passed_as rs z x y p = none_refused rs y (none_applies rs z x p)

  pub refused_as : (rs : List Reason) (e : Refusal) (x : X) (y : Y) → Err e ≡ replied rs x → replied rs y ≡ Err e
  refused_as [] e x y p = absurd (ok_not_err (Ok x) x e refl (sym p))
  refused_as (r ∷ rs) e x y p = split r.0 p (refused_as rs e x y)
    where
      split : (b : Bool) → Err e ≡ cond b (Err r.1) (replied rs x) → (Err e ≡ replied rs x → replied rs y ≡ Err e) → cond b (Err r.1) (replied rs y) ≡ Err e
      split true q rest = let same : e ≡ r.1 = cc in ap Err (sym same)
      split false q rest = rest q

  -- more reasons behind a list that lets something through, or that refuses
  pub replied_past : (rs qs : List Reason) (z x : X) (y : Y) → Ok z ≡ replied rs x → replied (rs ++ qs) y ≡ replied qs y
  replied_past [] qs z x y p = refl
  replied_past (r ∷ rs) qs z x y p =
      let f = first_passed r rs z x p in
      ap (λ b. cond b (Err r.1) (replied (rs ++ qs) y)) f.0 ∙ replied_past rs qs z x y f.1

  pub replied_stop : (rs qs : List Reason) (e : Refusal) (x : X) (y : Y) → Err e ≡ replied rs x → replied (rs ++ qs) y ≡ Err e
  replied_stop [] qs e x y p = absurd (ok_not_err (Ok x) x e refl (sym p))
  replied_stop (r ∷ rs) qs e x y p = split r.0 p (replied_stop rs qs e x y)
    where
      split :
          (b : Bool) → Err e ≡ cond b (Err r.1) (replied rs x) → (Err e ≡ replied rs x → replied (rs ++ qs) y ≡ Err e) →
          cond b (Err r.1) (replied (rs ++ qs) y) ≡ Err e
      split true q rest = let same : e ≡ r.1 = cc in ap Err (sym same)
      split false q rest = rest q

both_second : (a b : Bool) → T (a && b) → T b
both_second true b t = t
both_second false b t = absurd t

-- A list of reasons that goes by their numbers gives the least that applies.

abbrev pub ascending : ℕ → List Reason → Bool
ascending n [] = true
ascending n (r ∷ rs) = ltb n (number_of r.1) && ascending (number_of r.1) rs

above_all : (n : ℕ) (rs : List Reason) → T (ascending n rs) → (e : Refusal) → Applies rs e → n < number_of e
above_all n [] t e a = absurd a
above_all n (r ∷ rs) t e a =
    let parts = and_parts (ltb n (number_of r.1)) (ascending (number_of r.1) rs) (true_from _ t) in
    let first = ltb-true n (number_of r.1) parts.0 in
    ⊎_elim (λ here. omega (arith, first, ap number_of here.1))
    (λ later. omega (arith, first, above_all (number_of r.1) rs (subst T (sym parts.1) tt) e later)) a
  where
    true_from : (b : Bool) → T b → b ≡ true
    true_from true t = refl
    true_from false t = absurd t

pub replied_least : {X : Type 0} (n : ℕ) (rs : List Reason) (x : X) → T (ascending n rs) → Least rs (replied rs x)
replied_least {X} n [] x t = λ e a. a
replied_least {X} n (r ∷ rs) x t = split r.0 refl (replied_least (number_of r.1) rs x rest)
  where
    rest : T (ascending (number_of r.1) rs)
    rest = both_second (ltb n (number_of r.1)) (ascending (number_of r.1) rs) t

    above : (e : Refusal) → Applies rs e → number_of r.1 ≤ number_of e
    above e a = omega (arith, above_all (number_of r.1) rs rest e a)

    split : (b : Bool) → r.0 ≡ b → Least rs (replied rs x) → Least (r ∷ rs) (cond b (Err r.1) (replied rs x))
    split true is below = (inl (is, refl), λ f a. ⊎_elim (λ here. omega (arith, ap number_of here.1)) (above f) a)
    split false is below = widen (replied rs x) below
      where
        off : (e : Refusal) → Applies (r ∷ rs) e → Applies rs e
        off e a = ⊎_elim (λ here. absurd (both_ways r.0 is here.0)) (λ later. later) a

        widen : (q : Result X Refusal) → Least rs q → Least (r ∷ rs) q
        widen (Ok y) l = λ e a. l e (off e a)
        widen (Err y) l = (inr l.0, λ f a. l.1 f (off f a))
