-- The kinds of block.
-- Assumes nothing.
use Rattle.std.specs.Prelude.{Bool, true, false}
use Rattle.book.specs.declared.block.Kind.{Kind}
use Rattle.book.specs.declared.block.Kind.TheVariants.{First, Fast, Slow}

abbrev pub is_first : Kind → Bool
is_first First = true
is_first Fast = false
is_first Slow = false

abbrev pub is_slow : Kind → Bool
is_slow First = false
is_slow Fast = false
is_slow Slow = true
