use Rattle.std.proofs.Common.{vec_items, sym, subst, arith}
use Rattle.book.specs.Known.{Known}
use Rattle.book.proofs.Growth.{known_push}
use Rattle.book.proofs.pages.Book.enter.Goals as goal

pub invariant_of-self : goal.invariant_of-self
invariant_of-self c =
    let book = c.args.self.now in
    let bs = vec_items book.blocks in
    let ls = vec_items book.letters in
    let known = subst (λ xs. Known xs ls) (sym c.push_reserved.ensures.items) (known_push bs ls book.known c.args.block c.requires.enters) in
    record {
      blocks_room = omega (arith, c.push_reserved.ensures.capacity, book.blocks_room);
      letters_room = book.letters_room;
      blocks_fit = omega (arith, c.push_reserved.ensures.len, c.requires.room);
      letters_fit = book.letters_fit;
      known = known;
    }
