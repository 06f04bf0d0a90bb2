use Rattle.std.proofs.Common.{◌≡◌, ℕ, ◌<◌, List, length, set, vec_items, sym, ap, ◌∙◌, subst, arith}
use Rattle.std.proofs.lemmas.List.{get_or_read}
use Rattle.quorum.specs.Seats.{with_seat}
use Rattle.book.specs.Changes.{vote_after}
use Rattle.book.specs.Pages.{genesis, at}
use Rattle.book.specs.Rules.{WellMade}
use Rattle.book.specs.declared.block.Block.{Block}
use Rattle.book.proofs.Keeps.{well_vote}
use Rattle.book.proofs.pages.Book.add_vote.Goals as goal

-- a block with another set of voters
with_voters : Block → ℕ → Block
with_voters b q = record b { voters = record { bits = q } }

written_back : (bs : List Block) (k seat q : ℕ) (x : Block) → x ≡ at bs k → q ≡ with_seat seat (at bs k).voters.bits → set bs k (with_voters x q) ≡ vote_after bs seat k
unfolding with_voters
written_back bs k seat q x e f = ap (λ b. set bs k (with_voters b q)) e ∙ ap (λ v. set bs k (with_voters (at bs k) v)) f

pub returns-clause-lawful : goal.returns-clause-lawful
unfolding with_voters
returns-clause-lawful c =
    let book = c.args.self.now in
    let bs = vec_items book.blocks in
    let seat = c.args.seat in
    let k = c.args.block in
    let held : k < length bs = omega (arith, book.blocks.ok.0) in
    let read = get_or_read bs k c.index_mut.result.now held c.index_mut.ensures.value (genesis 0) in
    let added = c.with-voters.ensures ∙ ap (λ b. with_seat seat b.voters.bits) c.block.ensures in
    let back = written_back bs k seat c.with-voters.result.bits c.index_mut.result.now read added in
    λ d well. subst (WellMade d) (sym back) (well_vote d bs (vec_items book.letters) book.known seat k well)
