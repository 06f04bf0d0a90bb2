-- The book as lists of blocks and letters, and the chains in it.
-- Assumes nothing.
use Rattle.std.specs.Prelude.{ℕ, zero, suc, Bool, false, cond, ◌||◌, List, [], ◌∷◌, replicate, ◌==◌, slice_index_or}
use Rattle.quorum.specs.Seats.{everyone}
use Rattle.book.specs.declared.block.Block.{Block}
use Rattle.book.specs.declared.block.Kind.TheVariants.{First}
pub use Rattle.letters.specs.Letters.{letter_at}

-- a place for the report of each seat, and nothing there
unfoldable pub no_reports : List ℕ
no_reports = replicate 64 0

-- The first block (the literature: genesis), of a cluster of n seats: it counts every seat as having voted for it.
abbrev pub genesis : ℕ → Block
genesis n =
    record {
      view = 0;
      parent = 0;
      payload = 0;
      maker = 0;
      height = 0;
      kind = First;
      heard = record { bits = 0 };
      reports = no_reports;
      certificate = 0;
      commit = 0;
      voters = record { bits = everyone n };
    }

-- the block with number b
abbrev pub at : List Block → ℕ → Block
at bs b = slice_index_or bs b (genesis 0)

-- the chain of b, b first, as far as k steps go
abbrev pub chain_in : List Block → ℕ → ℕ → List ℕ
chain_in bs zero b = b ∷ []
chain_in bs (suc k) b = b ∷ cond (b == 0) [] (chain_in bs k (at bs b).parent)

-- The chain of b: b, its parent, and so on down to the first block. Parents have smaller numbers, so b steps are enough.
abbrev pub chain : List Block → ℕ → List ℕ
chain bs b = chain_in bs b b

-- whether a number is in a list
abbrev pub among : ℕ → List ℕ → Bool
among x [] = false
among x (y ∷ ys) = x == y || among x ys

-- whether block b stands on block c (the literature: extends)
abbrev pub stands : List Block → ℕ → ℕ → Bool
stands bs b c = among c (chain bs b)
