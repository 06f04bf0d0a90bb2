-- What a rotation must show of its leaders.
-- Assumes nothing.
use Rattle.std.specs.Prelude.{ℕ, ◌<◌, ◌≤◌}
use Rattle.rotation.specs.Turns.{IsView}

-- A rotation of n seats: each view is led by one of them (the literature: leader election, proposer schedule).
pub record RotationLaws (n : ℕ) (leads : ℕ → ℕ) : Type 0 where
  pub seats_some : 1 ≤ n
  pub seats_fit : n ≤ 64
  pub leader_seated : (v : ℕ) → IsView v → leads v < n
