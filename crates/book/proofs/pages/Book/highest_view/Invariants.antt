use Rattle.std.proofs.Common.{◌≡◌, ℕ, ◌<◌, ◌≤◌, length, get_or, vec_items}
use Rattle.book.specs.Pages.{at}
use Rattle.book.proofs.pages.Book.highest_view.Given as goal

-- the views so far, and 0 from there on
abbrev pub invariant-loop-b : goal.invariant-loop-b
invariant-loop-b l =
    (length l.views ≡ 256)
    × ((k : ℕ) → k < l.b → get_or l.views k 0 ≡ (at (vec_items l.self.blocks) k).view)
    × ((k : ℕ) → l.b ≤ k → get_or l.views k 0 ≡ 0)
