use Rattle.std.proofs.Common.{◌<◌, length, vec_items, sym, ◌∙◌, arith}
use Rattle.book.proofs.Chains.{stands_within}
use Rattle.book.proofs.pages.Book.slow_certificate.Goals as goal

pub block-requires-then-stands-2 : goal.block-requires-then-stands-2
block-requires-then-stands-2 g c =
    let book = c.args.self.now in
    let bs = vec_items book.blocks in
    let held : c.args.parent < length bs = omega (arith, c.requires, book.blocks.ok.0) in
    let below = stands_within bs book.known.parents_before c.args.parent c.in-Some.block held (sym c.stands.ensures ∙ c.if-stands.true) in
    omega (arith, below, c.requires)
