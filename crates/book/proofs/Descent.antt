-- The length of a chain, and what is read of it from its end.
-- Assumes nothing.
use Rattle.std.proofs.Common.{◌≡◌, ℕ, zero, suc, ◌+◌, ◌-◌, ◌<◌, ◌≤◌, ◌==◌, Bool, true, false, cond, List, [], ◌∷◌, reverse, length, get_or, Some, None, ap, ◌∙◌, arith}
use Rattle.std.proofs.lemmas.List.{length-reverse, get_or-reverse}
use Rattle.std.proofs.lemmas.Bool.{lt-ltb, le-ltb}
use Rattle.book.specs.declared.block.Block.{Block}
use Rattle.book.specs.Pages.{at, chain_in, chain}
use Rattle.book.specs.Questions.{nth, on_chain}

-- a chain has no more blocks than there are numbers down to the first
short_in : (bs : List Block) (k b : ℕ) → length (chain_in bs k b) ≤ k + 1
short_in bs zero b = omega arith
short_in bs (suc k) b = tail (b == 0) _ (short_in bs k (at bs b).parent)
  where
    tail : (t : Bool) (xs : List ℕ) → length xs ≤ k + 1 → length (b ∷ cond t [] xs) ≤ suc k + 1
    tail true xs h = omega arith
    tail false xs h = omega arith

pub chain_short : (bs : List Block) (b : ℕ) → length (chain bs b) ≤ b + 1
chain_short bs b = short_in bs b b

-- what is read of a chain from its end
pub told_none : (bs : List Block) (b k : ℕ) → b < length bs → length (chain bs b) ≤ k → on_chain bs b k ≡ None
told_none bs b k h l =
    let count = length-reverse (chain bs b) in
    ap (λ t. cond t (nth (reverse (chain bs b)) k) None) (lt-ltb b (length bs) h)
    ∙ ap (λ t. cond t (Some (get_or (reverse (chain bs b)) k 0)) None) (le-ltb k (length (reverse (chain bs b))) (omega (arith, count, l)))

pub told_some : (bs : List Block) (b k : ℕ) → b < length bs → k < length (chain bs b) → on_chain bs b k ≡ Some (get_or (chain bs b) (length (chain bs b) - 1 - k) 0)
told_some bs b k h l =
    let count = length-reverse (chain bs b) in
    ap (λ t. cond t (nth (reverse (chain bs b)) k) None) (lt-ltb b (length bs) h)
    ∙ ap (λ t. cond t (Some (get_or (reverse (chain bs b)) k 0)) None) (lt-ltb k (length (reverse (chain bs b))) (omega (arith, count, l)))
    ∙ ap Some (get_or-reverse (chain bs b) k 0 l)
