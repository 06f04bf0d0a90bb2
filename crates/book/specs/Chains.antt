-- What is left of a chain that is gone down.
-- Assumes nothing.
use Rattle.std.specs.Prelude.{ℕ, List, []}
use Rattle.std.specs.Option.{option_map_or}
use Rattle.book.specs.Pages.{chain}
use Rattle.book.specs.declared.chain.Chain.{Chain}

abbrev pub left_of : Chain → List ℕ
left_of c = option_map_or (chain c.blocks.now) c.next []
