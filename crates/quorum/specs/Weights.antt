-- Weights of sets of seats: the facts behind the laws of every rule that weighs or counts.
-- Assumes nothing.
use Rattle.std.specs.Prelude.{sum, ◌≡◌, ℕ, zero, suc, ◌+◌, ◌/◌, ◌%◌, ◌^◌, ◌<◌, ◌≤◌, Bool, true, false, cond, T, ◌⊎◌, List, [], ◌∷◌, length, take, replicate, ◌==◌, slice_index, refl}
use Rattle.std.proofs.Common.{sym, ap, ap₂, subst, ◌∙◌, inl, inr, arith, add-zero, zero-add, add-suc, suc-add, add-one}
use Rattle.std.specs.Int.Count.{ones, ones_step}
use Rattle.std.proofs.lemmas.List.Sums.{sum_by_from}
use Rattle.std.proofs.lemmas.Nat.{shr_below}
use Rattle.quorum.specs.Seats.{held, Holds, total_weight, weight_from, weight_of, how_many}
use Rattle.quorum.specs.Sets.{held_none, held_zero, held_suc, digit}

-- one seat of weight w: it is shared and not in the third set, or it does not tip the scales
share_step :
    (w W P Q X : ℕ) (a b c : Bool) → (w + W) + (cond c w 0 + X) < (cond a w 0 + P) + (cond b w 0 + Q) →
    (T a × T b × (T c → ⊥)) ⊎ (W + X < P + Q)
share_step w W P Q X true true true h = inr (omega arith)
share_step w W P Q X true true false h = inl (tt, tt, λ x. x)
share_step w W P Q X true false true h = inr (omega arith)
share_step w W P Q X true false false h = inr (omega arith)
share_step w W P Q X false true true h = inr (omega arith)
share_step w W P Q X false true false h = inr (omega arith)
share_step w W P Q X false false true h = inr (omega arith)
share_step w W P Q X false false false h = inr (omega arith)

share_from :
    (s : ℕ) (ws : List ℕ) (p q t : ℕ) → total_weight ws + weight_from s ws t < weight_from s ws p + weight_from s ws q →
    (k : ℕ) × Holds k p × Holds k q × (Holds k t → ⊥)
share_from s [] p q t h = absurd (omega arith)
share_from s (w ∷ ws) p q t h =
    elim (share_step w (total_weight ws) (weight_from (suc s) ws p) (weight_from (suc s) ws q) (weight_from (suc s) ws t) (held s p) (held s q) (held s t) h) [
      | inl x ↦ (s, x.0, x.1, x.2)
      | inr rest ↦ share_from (suc s) ws p q t rest
    ]

-- Two sets that together outweigh all seats and a third set share a seat outside the third.
pub heavy_share :
    (ws : List ℕ) (p q t : ℕ) → total_weight ws + weight_of ws t < weight_of ws p + weight_of ws q →
    (k : ℕ) × Holds k p × Holds k q × (Holds k t → ⊥)
heavy_share ws p q t h = share_from 0 ws p q t h

grow_step : (w : ℕ) (a b : Bool) → (T a → T b) → cond a w 0 ≤ cond b w 0
grow_step w true true f = omega arith
grow_step w true false f = absurd (f tt)
grow_step w false true f = omega arith
grow_step w false false f = omega arith

grow_from :
    (s : ℕ) (ws : List ℕ) (p q : ℕ) → ((k : ℕ) → Holds k p → Holds k q) → weight_from s ws p ≤ weight_from s ws q
grow_from s [] p q f = omega arith
grow_from s (w ∷ ws) p q f = omega (arith, grow_step w (held s p) (held s q) (f s), grow_from (suc s) ws p q f)

-- more seats weigh no less
pub weight_grow : (ws : List ℕ) (p q : ℕ) → ((k : ℕ) → Holds k p → Holds k q) → weight_of ws p ≤ weight_of ws q
weight_grow ws p q f = grow_from 0 ws p q f

rest_step : (w : ℕ) (a b : Bool) → ((T a → ⊥) → T b) → w ≤ cond a w 0 + cond b w 0
rest_step w true b f = omega arith
rest_step w false true f = omega arith
rest_step w false false f = absurd (f (λ x. x))

rest_from :
    (s : ℕ) (ws : List ℕ) (t q : ℕ) → ((k : ℕ) → k < s + length ws → (Holds k t → ⊥) → Holds k q) →
    total_weight ws ≤ weight_from s ws t + weight_from s ws q
rest_from s [] t q f = omega arith
rest_from s (w ∷ ws) t q f =
    omega (
      arith,
      rest_step w (held s t) (held s q) (f s (omega arith)),
      rest_from (suc s) ws t q (λ k h. f k (omega arith)),
    )

-- a set and the rest of the seats weigh as much as all
pub weight_rest :
    (ws : List ℕ) (t q : ℕ) → ((k : ℕ) → k < length ws → (Holds k t → ⊥) → Holds k q) → total_weight ws ≤ weight_of ws t + weight_of ws q
weight_rest ws t q f = rest_from 0 ws t q (λ k h. f k (omega arith))

none_from : (s : ℕ) (ws : List ℕ) → weight_from s ws 0 ≡ 0
none_from s [] = refl
none_from s (w ∷ ws) = ap₂ ◌+◌ (ap (λ b. cond b w 0) (held_none s)) (none_from (suc s) ws)

pub weight_none : (ws : List ℕ) → weight_of ws 0 ≡ 0
weight_none ws = none_from 0 ws

-- How many seats a set holds is its weight where each of the n seats weighs 1.

upper : (s : ℕ) (ws : List ℕ) (q : ℕ) → weight_from (suc s) ws q ≡ weight_from s ws (q / 2)
upper s [] q = refl
upper s (w ∷ ws) q = ap₂ (λ b x. cond b w 0 + x) (held_suc s q) (upper (suc s) ws q)

lowest : (b : ℕ) → (b ≡ 0) ⊎ (b ≡ 1) → cond (b == 1) 1 0 ≡ b
lowest b (inl e) = rw e
lowest b (inr e) = rw e

pub count_weight : (n q : ℕ) → q < 2 ^ n → how_many q ≡ weight_of (replicate n 1) q
unfolding ones
count_weight zero q h = let empty : q ≡ 0 = omega arith in ap ones empty
count_weight (suc n) q h =
    ones_step q
    ∙ ap₂ ◌+◌ (sym (ap (λ b. cond b 1 0) (held_zero q) ∙ lowest (q % 2) (digit q)))
    (count_weight n (q / 2) (shr_below q n 1 (subst (λ x. q < 2 ^ x) (sym (add-one n)) h)) ∙ sym (upper 0 (replicate n 1) q))

pub total_ones : (n : ℕ) → total_weight (replicate n 1) ≡ n
total_ones zero = refl
total_ones (suc n) = omega (arith, total_ones n)

-- one seat more, as a loop over the seats goes

pub total_more : (ws : List ℕ) (i : ℕ) → i < length ws → total_weight (take (i + 1) ws) ≡ total_weight (take i ws) + slice_index ws i
total_more [] i h = absurd (omega arith)
total_more (w ∷ ws) zero h = omega arith
total_more (w ∷ ws) (suc i) h = rw (suc-add i 1) (omega (arith, total_more ws i (omega arith)))

-- the total is the library's sum
pub total_is_sum : (ws : List ℕ) → sum ws ≡ total_weight ws
total_is_sum [] = refl
total_is_sum (w ∷ ws) = sum_by_from (λ x. x) (0 + w) ws ∙ ap₂ ◌+◌ (zero-add w) (total_is_sum ws)

more_from :
    (s : ℕ) (ws : List ℕ) (q i : ℕ) → i < length ws →
    weight_from s (take (i + 1) ws) q ≡ weight_from s (take i ws) q + cond (held (s + i) q) (slice_index ws i) 0
more_from s [] q i h = absurd (omega arith)
more_from s (w ∷ ws) q zero h = rw (add-zero s) (omega arith)
more_from s (w ∷ ws) q (suc i) h =
    rw (suc-add i 1, add-suc s i, ← suc-add s i) (omega (arith, more_from (suc s) ws q i (omega arith)))

pub weight_more :
    (ws : List ℕ) (q i : ℕ) → i < length ws →
    weight_of (take (i + 1) ws) q ≡ weight_of (take i ws) q + cond (held i q) (slice_index ws i) 0
weight_more ws q i h = rw zero-add at (more_from 0 ws q i h)
