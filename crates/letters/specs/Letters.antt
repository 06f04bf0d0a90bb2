-- Letters, and what the seats that a leader heard report by them.
-- Assumes nothing.
use Rattle.std.specs.Prelude.{ℕ, Bool, cond, not, ◌&&◌, List, map, length, is_some, Option, ◌==◌, slice_index_or}
use Rattle.std.specs.List.{range_with_len}
use Rattle.std.specs.Option.{unwrap_or}
use Rattle.quorum.specs.Seats.{held}
use Rattle.letters.specs.Searches.{any_below, last_below}
use Rattle.letters.specs.declared.letter.Letter.{Letter}
use Rattle.letters.specs.declared.reports.Reports.{Reports}
use Rattle.quorum.specs.declared.seats.SeatSet.{SeatSet}

-- the letter with number i, in order of arrival
abbrev pub letter_at : List Letter → ℕ → Letter
letter_at ls i = slice_index_or ls i (record { seat = 0; view = 0; block = 0 })

-- whether a letter is from a seat and for a view
abbrev pub written : Letter → ℕ → ℕ → Bool
written l s v = l.seat == s && l.view == v

-- the block that the latest letter from a seat for a view names
abbrev pub latest : List Letter → ℕ → ℕ → Option ℕ
latest ls s v = last_below (λ i. written (letter_at ls i) s v) (λ i. (letter_at ls i).block) (length ls)

-- a seat is heard and has no letter for the view
abbrev pub no_letter : List Letter → ℕ → ℕ → ℕ → Bool
no_letter ls heard v s = held s heard && not (is_some (latest ls s v))

-- what a heard seat reports to a block of view v; nothing is asked of the others
abbrev pub report_of : List Letter → ℕ → ℕ → ℕ → ℕ
report_of ls heard v s = cond (held s heard) (unwrap_or (latest ls s v) 0) 0

unfoldable pub reports_of : List Letter → ℕ → ℕ → List ℕ
reports_of ls heard v = map (report_of ls heard v) (range_with_len 0 64)

-- the heard seats with their reports
abbrev pub gathered : List Letter → SeatSet → ℕ → Reports
gathered ls heard v = record { heard = heard; blocks = reports_of ls heard.bits v }

-- a heard seat has no letter for the view
abbrev pub silent : List Letter → ℕ → ℕ → Bool
silent ls heard v = any_below (no_letter ls heard v) 64
