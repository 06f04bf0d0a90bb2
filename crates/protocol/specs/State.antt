-- A cluster as a value: its design, its book and its seats.
-- Assumes nothing.
use Rattle.std.specs.Prelude.{ℕ, Bool, not, ◌&&◌, List, [], ◌∷◌, reverse, replicate, nat_lt, slice_index_or}
use Rattle.quorum.specs.Seats.{held}
use Rattle.book.specs.Admission.{Design}
use Rattle.book.specs.Pages.{genesis, chain}
use Rattle.book.specs.declared.block.Block.{Block}
use Rattle.letters.specs.declared.letter.Letter.{Letter}
use Rattle.protocol.specs.declared.seat.Seat.{Seat}

pub record State : Type 0 where
  pub design : Design
  pub blocks : List Block
  pub letters : List Letter
  -- a record for each of 64 seats; those of open seats, and of seats not below n, are never used
  pub seats : List Seat

-- a seat that has done nothing
abbrev pub idle : Seat
idle = record { view = 0; vote = 0; tip = 0 }

abbrev pub seat_at : State → ℕ → Seat
seat_at st s = slice_index_or st.seats s idle

-- whether there is such a seat, and it keeps the rules
abbrev pub is_kept : State → ℕ → Bool
is_kept st s = nat_lt s st.design.seats && not (held s st.design.open_seats)

-- a cluster as it is opened
unfoldable pub fresh : Design → State
fresh d = record { design = d; blocks = genesis d.seats ∷ []; letters = []; seats = replicate 64 idle }

-- what a kept seat has committed: the chain of its tip, from the first block up
abbrev pub commits : State → ℕ → List ℕ
commits st s = reverse (chain st.blocks (seat_at st s).tip)
