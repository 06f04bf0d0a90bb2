-- Round robin: the seats lead one after another, in the order of their numbers.
-- Assumes nothing.
use Rattle.std.specs.Prelude.{ℕ, ◌+◌, ◌-◌, ◌%◌, Bool, cond, ◌&&◌, Ok, Err, Result, nat_le, nat_lt}
use Rattle.refusal.specs.declared.Refusal.{Refusal}
use Rattle.refusal.specs.declared.Refusal.TheVariants.{RotationOutOfRange}

-- a number of seats that a rotation may have
abbrev pub is_seat_count : ℕ → Bool
is_seat_count n = nat_le 1 n && nat_le n 64

-- the number of seats and the first seat of the round robin that n and a named first seat make
abbrev pub robin_from : ℕ → ℕ → Result (ℕ × ℕ) Refusal
robin_from n first = cond (is_seat_count n && nat_lt first n) (Ok (n, first)) (Err RotationOutOfRange)

-- where no first seat is named it is 1 mod n
abbrev pub robin : ℕ → Result (ℕ × ℕ) Refusal
robin n = cond (is_seat_count n) (Ok (n, 1 % n)) (Err RotationOutOfRange)

-- who leads view v
abbrev pub robin_leads : ℕ → ℕ → ℕ → ℕ
robin_leads n first v = (first + v - 1) % n
