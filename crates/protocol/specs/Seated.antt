-- What holds of the seats of every cluster, whatever the rule: their votes and tips are there.
-- Assumes nothing.
use Rattle.std.specs.Prelude.{ℕ, ◌<◌, ◌≤◌, List, length, slice_index_or}
use Rattle.book.specs.Pages.{at}
use Rattle.book.specs.declared.block.Block.{Block}
use Rattle.protocol.specs.State.{idle}
use Rattle.protocol.specs.declared.seat.Seat.{Seat}

abbrev pub VotesKnown : List Block → List Seat → Type 0
VotesKnown bs seats = (s : ℕ) → (slice_index_or seats s idle).vote < length bs

abbrev pub TipsKnown : List Block → List Seat → Type 0
TipsKnown bs seats = (s : ℕ) → (slice_index_or seats s idle).tip < length bs

-- a seat is not in a view before that of its last vote
abbrev pub ViewsReached : List Block → List Seat → Type 0
ViewsReached bs seats = (s : ℕ) → (at bs (slice_index_or seats s idle).vote).view ≤ (slice_index_or seats s idle).view

-- all of these
pub record Seated (bs : List Block) (seats : List Seat) : Type 0 where
  pub votes : VotesKnown bs seats
  pub tips : TipsKnown bs seats
  pub views : ViewsReached bs seats
