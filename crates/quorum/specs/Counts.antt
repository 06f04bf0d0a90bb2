-- The laws of the count rule.
-- Assumes nothing.
use Rattle.std.specs.Prelude.{ℕ, ◌+◌, ◌*◌, ◌≤◌, replicate}
use Rattle.std.proofs.Common.{sym, subst, arith, leb→le, le→leb}
use Rattle.std.proofs.lemmas.List.{length-replicate}
use Rattle.quorum.specs.Counting.{seats_for, count_quorum, count_tolerated}
use Rattle.quorum.specs.Laws.{QuorumLaws}
use Rattle.quorum.specs.Thresholds.{Thresholds, threshold_laws, both_passed, both_pass}
use Rattle.quorum.specs.Weights.{count_weight, total_ones}

-- the number of seats in q is the weight of q where every seat weighs 1
module _ (f : ℕ) (few : f ≤ 21) where
  count_thresholds : Thresholds 64 (seats_for f) (replicate (seats_for f) 1) (count_quorum f) (count_tolerated f) (λ x. 2 * f + 1 ≤ x) (λ x. x ≤ f)
  count_thresholds =
      record {
        most_fits = omega arith;
        seats_some = omega arith;
        seats_fit = omega arith;
        all_weighed = length-replicate (seats_for f) 1;
        quorum_means = λ q d.
            let t = both_passed _ _ d in
            let h = leb→le _ _ t.0 in
            (h, subst (λ x. 2 * f + 1 ≤ x) (count_weight (seats_for f) q h) (leb→le _ _ t.1));
        quorum_made = λ q h e.
            both_pass _ _ (le→leb _ _ h) (le→leb _ _ (subst (λ x. 2 * f + 1 ≤ x) (sym (count_weight (seats_for f) q h)) e));
        tolerated_means = λ q d.
            let t = both_passed _ _ d in
            let h = leb→le _ _ t.0 in
            (h, subst (λ x. x ≤ f) (count_weight (seats_for f) q h) (leb→le _ _ t.1));
        tolerated_made = λ q h e.
            both_pass _ _ (le→leb _ _ h) (le→leb _ _ (subst (λ x. x ≤ f) (sym (count_weight (seats_for f) q h)) e));
        exceed = λ x y z a b c. omega (arith, total_ones (seats_for f));
        enough_grow = λ x y a b. omega arith;
        enough_rest = λ x z a b. omega (arith, total_ones (seats_for f));
        none_little = omega arith;
      }

  pub count_laws : QuorumLaws 64 (seats_for f) (count_quorum f) (count_tolerated f)
  count_laws = threshold_laws count_thresholds
