-- What a cluster tells, where there is something to tell.
-- Assumes nothing.
use Rattle.std.specs.Prelude.{ℕ, Bool, cond, not, Some, None, Option, nat_lt}
use Rattle.quorum.specs.Seats.{held}
use Rattle.book.specs.Questions.{nth}
use Rattle.protocol.specs.State.{State, seat_at, is_kept, commits}
use Rattle.protocol.specs.declared.seat.Seat.{Seat}

-- the number of seats
abbrev pub seats : State → ℕ
seats st = st.design.seats

-- whether a seat keeps the rules, where there is such a seat
abbrev pub kept : State → ℕ → Option Bool
kept st s = cond (nat_lt s st.design.seats) (Some (not (held s st.design.open_seats))) None

-- what a kept seat remembers
abbrev pub seat : State → ℕ → Option Seat
seat st s = cond (is_kept st s) (Some (seat_at st s)) None

-- the k-th of its commits, from 0
abbrev pub commit : State → ℕ → ℕ → Option ℕ
commit st s k = cond (is_kept st s) (nth (commits st s) k) None
