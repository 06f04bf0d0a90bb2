-- Going round a cycle of n places.
-- Assumes nothing.
use Rattle.std.proofs.Common.{◌≡◌, ℕ, ◌+◌, ◌-◌, ◌%◌, ◌<◌, ◌≤◌, ◌⊎◌, sym, ap, ◌∙◌, inl, inr, mod-lt, mod-eq_of_lt, arith}
use native.Mathlib.Nat.{mod-add-mod, mod-eq-sub-mod}
use Rattle.std.proofs.lemmas.Bool.{cases_lt}
use Rattle.rotation.specs.Robin.{robin_leads}

-- a number below twice n, around n once or not at all
pub wrapped : (n x : ℕ) → x < n + n → ((x < n) × (x % n ≡ x)) ⊎ ((n ≤ x) × (x % n + n ≡ x))
wrapped n x h =
    elim (cases_lt x n) [
      | inl l ↦ inl (l, mod-eq_of_lt l)
      | inr g ↦
          let rest : x - n < n = omega arith in
          let once = mod-eq-sub-mod g ∙ mod-eq_of_lt rest in
          inr (g, omega arith)
    ]

-- Round robin: the wait from the seat that leads now to the one that is asked for.
module _ (n first seat from : ℕ) (seated : seat < n) (viewed : 1 ≤ from) where
  -- who leads d views on, within one round
  later :
      (d : ℕ) → d < n →
      (robin_leads n first (from + d) ≡ robin_leads n first from + d)
      ⊎ (robin_leads n first (from + d) + n ≡ robin_leads n first from + d)
  later d h =
      let x = first + from - 1 in
      let below = mod-lt x {m = n} (omega arith) in
      let moved : first + (from + d) - 1 ≡ x + d = omega arith in
      let turned : robin_leads n first (from + d) ≡ (x % n + d) % n = ap (λ y. y % n) moved ∙ sym (mod-add-mod x n d) in
      elim (wrapped n (x % n + d) (omega arith)) [
        | inl w ↦ inl (turned ∙ w.1)
        | inr w ↦ inr (omega (arith, turned, w.1))
      ]

  -- how far on the seat leads, and it is less than a round
  reach :
      (w : ℕ) → w ≡ (seat + n - robin_leads n first from) % n →
      (w < n) × (((seat < robin_leads n first from) × (robin_leads n first from + w ≡ seat + n))
      ⊎ ((robin_leads n first from ≤ seat) × (robin_leads n first from + w ≡ seat)))
  reach w is =
      let below = mod-lt (first + from - 1) {m = n} (omega arith) in
      let short = mod-lt (seat + n - robin_leads n first from) {m = n} (omega arith) in (
        omega arith,
        elim (wrapped n (seat + n - robin_leads n first from) (omega arith)) [
          | inl x ↦ inl (omega (arith, x.0), omega (arith, x.0, x.1))
          | inr x ↦ inr (omega (arith, x.0), omega (arith, x.0, x.1))
        ],
      )

  pub robin_turn :
      (w : ℕ) → w ≡ (seat + n - robin_leads n first from) % n →
      (robin_leads n first (from + w) ≡ seat) × ((u : ℕ) → from ≤ u → u < from + w → robin_leads n first u ≡ seat → ⊥)
  robin_turn w is =
      let r = reach w is in
      let there = later w r.0 in
      let below = mod-lt (first + (from + w) - 1) {m = n} (omega arith) in (
        omega arith,
        λ u h l e.
            let d = u - from in
            let on : from + d ≡ u = omega arith in
            let same = ap (robin_leads n first) on in
            let here = later d (omega arith) in
            omega arith,
      )
