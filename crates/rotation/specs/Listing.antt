-- The listed rotation: a list of seats, repeated.
-- Assumes nothing.
use Rattle.std.specs.Prelude.{ℕ, ◌-◌, ◌%◌, Bool, cond, ◌&&◌, List, length, Ok, Err, Result, nat_le, nat_lt, slice_index}
use Rattle.std.specs.List.{list_all}
use Rattle.refusal.specs.declared.Refusal.{Refusal}
use Rattle.refusal.specs.declared.Refusal.TheVariants.{RotationOutOfRange}
use Rattle.rotation.specs.Robin.{is_seat_count}

-- whether each seat of a list is below n
abbrev pub all_below : ℕ → List ℕ → Bool
all_below n ss = list_all (λ s. nat_lt s n) ss

-- the number of seats and the list of the rotation that they make: 1 to 256 entries, each a seat below n
abbrev pub listed : ℕ → List ℕ → Result (ℕ × List ℕ) Refusal
listed n order =
    cond (is_seat_count n && (nat_le 1 (length order) && (nat_le (length order) 256 && all_below n order))) (Ok (n, order))
    (Err RotationOutOfRange)

-- who leads view v: view 1 is led by the first entry
abbrev pub list_leads : List ℕ → ℕ → ℕ
list_leads order v = slice_index order ((v - 1) % length order)
