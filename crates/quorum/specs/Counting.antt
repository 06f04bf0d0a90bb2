-- The count rule: f seats may be faulty, of 3 × f + 1.
-- Assumes nothing.
use Rattle.std.specs.Prelude.{ℕ, ◌+◌, ◌*◌, Bool, cond, ◌&&◌, Ok, Err, Result, nat_le}
use Rattle.refusal.specs.declared.Refusal.{Refusal}
use Rattle.refusal.specs.declared.Refusal.TheVariants.{FaultsOutOfRange}
use Rattle.quorum.specs.Seats.{within, how_many}

-- the faults that a rule asked for f is made for: 0 to 21
abbrev pub count_rule : ℕ → Result ℕ Refusal
count_rule f = cond (nat_le f 21) (Ok f) (Err FaultsOutOfRange)

abbrev pub seats_for : ℕ → ℕ
seats_for f = 3 * f + 1

-- at least 2 × f + 1 of the seats
abbrev pub count_quorum : ℕ → ℕ → Bool
count_quorum f q = within (seats_for f) q && nat_le (2 * f + 1) (how_many q)

-- at most f of the seats
abbrev pub count_tolerated : ℕ → ℕ → Bool
count_tolerated f q = within (seats_for f) q && nat_le (how_many q) f
