-- The laws of the weight rule.
-- Assumes nothing.
use Rattle.std.specs.Prelude.{ℕ, ◌*◌, ◌<◌, ◌≤◌, List, [], ◌∷◌, length, refl}
use Rattle.std.proofs.Common.{arith, leb→le, le→leb}
use Rattle.quorum.specs.Laws.{QuorumLaws}
use Rattle.quorum.specs.Seats.{total_weight}
use Rattle.quorum.specs.Weighing.{weight_quorum, weight_tolerated}
use Rattle.quorum.specs.Thresholds.{Thresholds, threshold_laws, both_passed, both_pass}

-- weights that are not all 0 are some
some_weights : (ws : List ℕ) → 0 < total_weight ws → 1 ≤ length ws
some_weights [] h = absurd (omega arith)
some_weights (w ∷ ws) h = omega arith

module _ (ws : List ℕ) (few : length ws ≤ 32) (heavy : 0 < total_weight ws) where
  weight_thresholds :
      Thresholds 32 (length ws) ws (weight_quorum ws) (weight_tolerated ws) (λ x. 2 * total_weight ws < 3 * x)
      (λ x. 3 * x < total_weight ws)
  weight_thresholds =
      record {
        most_fits = omega arith;
        seats_some = some_weights ws heavy;
        seats_fit = few;
        all_weighed = refl;
        quorum_means = λ q d. let t = both_passed _ _ d in (leb→le _ _ t.0, leb→le _ _ t.1);
        quorum_made = λ q h e. both_pass _ _ (le→leb _ _ h) (le→leb _ _ e);
        tolerated_means = λ q d. let t = both_passed _ _ d in (leb→le _ _ t.0, leb→le _ _ t.1);
        tolerated_made = λ q h e. both_pass _ _ (le→leb _ _ h) (le→leb _ _ e);
        exceed = λ x y z a b c. omega arith;
        enough_grow = λ x y a b. omega arith;
        enough_rest = λ x z a b. omega arith;
        none_little = omega arith;
      }

  pub weight_laws : QuorumLaws 32 (length ws) (weight_quorum ws) (weight_tolerated ws)
  weight_laws = threshold_laws weight_thresholds
