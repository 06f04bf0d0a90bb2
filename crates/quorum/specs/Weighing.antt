-- The weight rule: each seat has a weight, and the heavy sets decide.
-- Assumes nothing.
use Rattle.std.specs.Prelude.{ℕ, ◌*◌, ◌<◌, ◌≤◌, Bool, cond, ◌&&◌, List, length, Ok, Err, Result, nat_le, nat_lt}
use Rattle.refusal.specs.declared.Refusal.{Refusal}
use Rattle.refusal.specs.declared.Refusal.TheVariants.{WeightsOutOfRange}
use Rattle.quorum.specs.Seats.{within, total_weight, weight_of}

-- the weights of the rule that ws make: at most 32, and not all 0 (so there is one)
abbrev pub weight_rule : List ℕ → Result (List ℕ) Refusal
weight_rule ws = cond (nat_le (length ws) 32 && nat_lt 0 (total_weight ws)) (Ok ws) (Err WeightsOutOfRange)

-- more than two thirds of the total
abbrev pub weight_quorum : List ℕ → ℕ → Bool
weight_quorum ws q = within (length ws) q && nat_lt (2 * total_weight ws) (3 * weight_of ws q)

-- less than a third of the total
abbrev pub weight_tolerated : List ℕ → ℕ → Bool
weight_tolerated ws q = within (length ws) q && nat_lt (3 * weight_of ws q) (total_weight ws)

-- r is the least weight that makes a quorum, of a total of W
abbrev pub LeastQuorum : ℕ → ℕ → Type 0
LeastQuorum W r = (w : ℕ) → (r ≤ w → 2 * W < 3 * w) × (2 * W < 3 * w → r ≤ w)

-- r is the most weight that is tolerated, of a total of W
abbrev pub MostTolerated : ℕ → ℕ → Type 0
MostTolerated W r = (w : ℕ) → (w ≤ r → 3 * w < W) × (3 * w < W → w ≤ r)
