-- What is told of a block, where there is one.
-- Assumes nothing.
use Rattle.std.specs.Prelude.{ℕ, max, Bool, cond, ◌&&◌, List, [], ◌∷◌, reverse, length, Some, None, Option, nat_lt, slice_index}
use Rattle.quorum.specs.Seats.{held}
use Rattle.book.specs.Kinds.{is_first, is_slow}
use Rattle.book.specs.Pages.{chain, stands}
use Rattle.book.specs.declared.block.Block.{Block}
use Rattle.book.specs.declared.block.Origin.{Origin}

-- where a block comes from; the first block comes from nowhere
abbrev pub origin_told : Block → Option Origin
origin_told b = cond (is_first b.kind) None (Some (record { parent = b.parent; maker = b.maker; heard = b.heard }))

-- what a seat reported to a slow block that heard it
abbrev pub report_told : Block → ℕ → Option ℕ
report_told b s = cond (is_slow b.kind && held s b.heard.bits) (Some (slice_index b.reports s)) None

-- whether one block stands on another, where both are there
abbrev pub stands_told : List Block → ℕ → ℕ → Option Bool
stands_told bs b c = cond (nat_lt b (length bs) && nat_lt c (length bs)) (Some (stands bs b c)) None

-- the k-th of a list, from 0
abbrev pub nth : List ℕ → ℕ → Option ℕ
nth xs k = cond (nat_lt k (length xs)) (Some (slice_index xs k)) None

-- the k-th block, from the first block up, of the chain of b
abbrev pub on_chain : List Block → ℕ → ℕ → Option ℕ
on_chain bs b k = cond (nat_lt b (length bs)) (nth (reverse (chain bs b)) k) None

-- the greatest view of a list of blocks
abbrev pub highest_view : List Block → ℕ
highest_view [] = 0
highest_view (b ∷ bs) = max b.view (highest_view bs)
