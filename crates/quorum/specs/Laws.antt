-- What a quorum rule must show of its sets, in terms of the seats that they hold.
-- Assumes nothing.
use Rattle.std.specs.Prelude.{ℕ, ◌^◌, ◌<◌, ◌≤◌, Bool, T}
use Rattle.quorum.specs.Seats.{Holds}

-- A rule for n seats, of a kind made for at most `most` seats. A quorum is a set of seats whose word decides (the
-- literature: quorum); a tolerated set is one whose seats may all be faulty at once (Byzantine).
pub record QuorumLaws (most n : ℕ) (quorum tolerated : ℕ → Bool) : Type 0 where
  pub most_fits : most ≤ 64
  pub seats_some : 1 ≤ n
  pub seats_fit : n ≤ most
  -- a set with a seat not below n is neither
  pub quorum_within : (q : ℕ) → T (quorum q) → q < 2 ^ n
  pub tolerated_within : (t : ℕ) → T (tolerated t) → t < 2 ^ n
  -- two quorums share a seat that lies outside any given tolerated set
  pub share :
      (p q t : ℕ) → T (quorum p) → T (quorum q) → T (tolerated t) →
      (s : ℕ) × Holds s p × Holds s q × (Holds s t → ⊥)
  -- a quorum with more of the n seats added is a quorum
  pub grow : (p q : ℕ) → T (quorum p) → q < 2 ^ n → ((s : ℕ) → Holds s p → Holds s q) → T (quorum q)
  -- the n seats without a tolerated set are a quorum
  pub remain :
      (t q : ℕ) → T (tolerated t) → q < 2 ^ n → ((s : ℕ) → s < n → (Holds s t → ⊥) → Holds s q) → T (quorum q)
  -- the empty set is tolerated
  pub none : T (tolerated 0)
