-- The highest of a row, by the answers of an order: R y x is Less where x ranks above y. Each `Ord` type's order is total.
-- Assumes nothing.
use Rattle.std.specs.Prelude.{◌≡◌, ℕ, ◌<◌, Bool, true, false, List, length, Some, None, Option, slice_index_or}
use Rattle.std.specs.declared.cmp.Ordering.{Ordering}
use Rattle.std.specs.Ordering.{is_lt}

module _ {X : Type 0} (R : X → X → Ordering) where
  -- whether x ranks above y
  abbrev pub above : X → X → Bool
  above x y = is_lt (R y x)

  -- Place i of a row holds its highest thing, and no earlier place does: nothing ranks above it, and it ranks above all
  -- that stands before it. An empty row has no such place.
  abbrev pub FirstHighest : List X → Option ℕ → Type 0
  FirstHighest xs (Some i) =
      (i < length xs)
      × ((k : ℕ) (d : X) → k < length xs → above (slice_index_or xs k d) (slice_index_or xs i d) ≡ false)
      × ((k : ℕ) (d : X) → k < i → above (slice_index_or xs i d) (slice_index_or xs k d) ≡ true)
  FirstHighest xs None = length xs ≡ 0
