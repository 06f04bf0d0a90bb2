use Rattle.std.proofs.Common.{◌≡◌, ℕ, min, List, [], ◌∷◌, ◌++◌, vec_items, sym, ap, ◌∙◌, subst, arith}
use Rattle.quorum.specs.Seats.{everyone}
use Rattle.book.specs.Known.{Known}
use Rattle.book.specs.Rules.{WellMade}
use Rattle.book.specs.Pages.{no_reports, genesis}
use Rattle.book.specs.declared.block.Block.{Block}
use Rattle.book.proofs.Growth.{known_first}
use Rattle.book.proofs.Keeps.{well_first}
use Rattle.book.proofs.pages.Book.new.Goals as goal

-- the first block, by the set of its voters
first : ℕ → Block
first voters = record (genesis 0) { voters = record { bits = voters } }

one_block : (n v : ℕ) (xs ys : List Block) → ys ≡ xs ++ first v ∷ [] → xs ≡ [] → v ≡ everyone (min n 64) → ys ≡ genesis (min n 64) ∷ []
unfolding first
one_block n v xs ys e f g = e ∙ ap (λ zs. zs ++ first v ∷ []) f ∙ ap (λ w. first w ∷ []) g

pub invariant_of-result : goal.invariant_of-result
unfolding first no_reports
invariant_of-result c =
    let none = c.in_ok-letters.ensures in
    let blocks = c.in_ok-blocks.ensures in
    let known = subst (λ ls. Known (vec_items c.push_reserved.new.self) ls) (sym none.items) (subst (λ bs. Known bs []) (sym (one_block c.args.n c.everyone.result.bits _ _ c.push_reserved.ensures.items blocks.items c.everyone.ensures)) (known_first (min c.args.n 64))) in
    record {
      blocks_room = omega (arith, c.push_reserved.ensures.capacity, blocks.capacity);
      letters_room = omega (arith, none.capacity);
      blocks_fit = omega (arith, c.push_reserved.ensures.len, blocks.len);
      letters_fit = omega (arith, none.len);
      known = known;
    }

pub returns : goal.returns
unfolding first no_reports
returns c =
    let n = c.args.n in
    let pages = one_block n c.everyone.result.bits _ _ c.push_reserved.ensures.items c.in_ok-blocks.ensures.items c.everyone.ensures in
    record {
      pages = (pages, c.in_ok-letters.ensures.items);
      lawful = λ d. subst (WellMade d) (sym pages) (well_first d (min n 64));
    }
