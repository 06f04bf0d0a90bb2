-- The laws of every rule that goes by the weight of a set: enough weight makes a quorum, and little is tolerated.
-- Assumes nothing.
use Rattle.std.specs.Prelude.{◌≡◌, ℕ, ◌+◌, ◌^◌, ◌<◌, ◌≤◌, Bool, true, false, ◌&&◌, T, List, length}
use Rattle.std.proofs.Common.{sym, subst, arith, pow_pos}
use Rattle.quorum.specs.Laws.{QuorumLaws}
use Rattle.quorum.specs.Seats.{total_weight, weight_of}
use Rattle.quorum.specs.Weights.{heavy_share, weight_grow, weight_rest, weight_none}

-- both tests of two passed, and back
pub both_passed : (a b : Bool) → T (a && b) → T a × T b
both_passed true true t = (tt, tt)
both_passed true false t = absurd t
both_passed false b t = absurd t

pub both_pass : (a b : Bool) → T a → T b → T (a && b)
both_pass true true s t = tt
both_pass true false s t = t
both_pass false b s t = s

-- What such a rule is: the weights ws of its n seats, and what weight is enough and what is little.
pub record Thresholds (most n : ℕ) (ws : List ℕ) (quorum tolerated : ℕ → Bool) (Enough Little : ℕ → Type 0) : Type 0 where
  pub most_fits : most ≤ 64
  pub seats_some : 1 ≤ n
  pub seats_fit : n ≤ most
  pub all_weighed : length ws ≡ n
  pub quorum_means : (q : ℕ) → T (quorum q) → (q < 2 ^ n) × Enough (weight_of ws q)
  pub quorum_made : (q : ℕ) → q < 2 ^ n → Enough (weight_of ws q) → T (quorum q)
  pub tolerated_means : (q : ℕ) → T (tolerated q) → (q < 2 ^ n) × Little (weight_of ws q)
  pub tolerated_made : (q : ℕ) → q < 2 ^ n → Little (weight_of ws q) → T (tolerated q)
  -- two enoughs exceed all the weight and any little
  pub exceed : (x y z : ℕ) → Enough x → Enough y → Little z → total_weight ws + z < x + y
  pub enough_grow : (x y : ℕ) → x ≤ y → Enough x → Enough y
  pub enough_rest : (x z : ℕ) → Little z → total_weight ws ≤ z + x → Enough x
  pub none_little : Little 0

pub threshold_laws :
    {most n : ℕ} {ws : List ℕ} {quorum tolerated : ℕ → Bool} {Enough Little : ℕ → Type 0} →
    Thresholds most n ws quorum tolerated Enough Little → QuorumLaws most n quorum tolerated
threshold_laws {ws = ws} {Little = Little} r =
    record {
      most_fits = r.most_fits;
      seats_some = r.seats_some;
      seats_fit = r.seats_fit;
      quorum_within = λ q d. (r.quorum_means q d).0;
      tolerated_within = λ t d. (r.tolerated_means t d).0;
      share = λ p q t dp dq dt.
          heavy_share ws p q t
          (r.exceed _ _ _ (r.quorum_means p dp).1 (r.quorum_means q dq).1 (r.tolerated_means t dt).1);
      grow = λ p q d h more.
          r.quorum_made q h (r.enough_grow _ _ (weight_grow ws p q more) (r.quorum_means p d).1);
      remain = λ t q d h rest.
          r.quorum_made q h
          (r.enough_rest _ _ (r.tolerated_means t d).1 (weight_rest ws t q (λ k below. rest k (omega (arith, r.all_weighed)))));
      none = r.tolerated_made 0 (pow_pos _) (subst Little (sym (weight_none ws)) r.none_little);
    }
