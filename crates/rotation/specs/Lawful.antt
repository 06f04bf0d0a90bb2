-- The laws of the rotations: proofs, which each rotation cites.
-- Assumes nothing.
use Rattle.std.specs.Prelude.{◌≡◌, ℕ, zero, suc, ◌+◌, ◌-◌, ◌%◌, ◌<◌, ◌≤◌, true, List, [], ◌∷◌, length, nat_lt, slice_index}
use Rattle.std.proofs.Common.{mod-lt, arith}
use Rattle.std.proofs.lemmas.Bool.{and_parts, ltb-true}
use Rattle.rotation.specs.Laws.{RotationLaws}
use Rattle.rotation.specs.Listing.{all_below, list_leads}
use Rattle.rotation.specs.Robin.{robin_leads}

pub robin_laws : (n first : ℕ) → n ≤ 64 → first < n → RotationLaws n (robin_leads n first)
robin_laws n first fit seated =
    record {
      seats_some = omega arith;
      seats_fit = fit;
      leader_seated = λ v viewed. mod-lt (first + v - 1) (omega arith);
    }

pub all_below_at : (n : ℕ) (ss : List ℕ) → all_below n ss ≡ true → (k : ℕ) → k < length ss → slice_index ss k < n
all_below_at n [] e k h = absurd (omega arith)
all_below_at n (s ∷ ss) e zero h = ltb-true s n (and_parts (nat_lt s n) (all_below n ss) e).0
all_below_at n (s ∷ ss) e (suc k) h = all_below_at n ss (and_parts (nat_lt s n) (all_below n ss) e).1 k (omega arith)

pub list_laws : (n : ℕ) (order : List ℕ) → n ≤ 64 → 1 ≤ length order → all_below n order ≡ true → RotationLaws n (list_leads order)
list_laws n order fit some seated =
    let below = all_below_at n order seated in
    record {
      seats_some = omega (arith, below 0 some);
      seats_fit = fit;
      leader_seated = λ v viewed. below ((v - 1) % length order) (mod-lt (v - 1) some);
    }
