use Rattle.std.proofs.Common.{ℕ, ◌<◌, ◌≤◌, length, get_or, Some, vec_items, sym, refl, ap, inl, inr, arith}
use Rattle.std.proofs.lemmas.Bool.{cases_lt}
use Rattle.book.specs.Pages.{at}
use Rattle.book.proofs.Views.{highest_is, not_above, zeros}
use Rattle.book.proofs.pages.Book.highest_view.Goals as goal

pub loop-b-init : goal.loop-b-init
loop-b-init c = (refl, λ k h. absurd (omega arith), λ k h. zeros 256 k)

pub returns : goal.returns
returns c =
    let book = c.args.self.now in
    let bs = vec_items book.blocks in
    let place = c.in_ok-place.place in
    let top = c.in_ok-place.ensures in
    let all : length bs ≤ c.loop-b.b = omega (arith, book.blocks.ok.0, c.loop-b-test.false) in
    let none : (k : ℕ) → k < length bs → (at bs k).view ≤ get_or c.loop-b.views place 0 =
    λ k h. let read = c.loop-b.invariant.1 k (omega arith) in omega (arith, read, not_above (get_or c.loop-b.views k 0) (get_or c.loop-b.views place 0) (top.1 k 0 (omega (arith, book.blocks.ok.0, book.blocks_fit, c.loop-b.invariant.0)))) in
    ap Some
    (elim (cases_lt place c.loop-b.b) [
      | inl h ↦ highest_is bs (get_or c.loop-b.views place 0) none (inr (place, omega (arith, h, c.loop-b.auto.b-end, book.blocks.ok.0), sym (c.loop-b.invariant.1 place h)))
      | inr g ↦ highest_is bs (get_or c.loop-b.views place 0) none (inl (c.loop-b.invariant.2 place g))
    ])
