use Rattle.std.proofs.Common.{◌<◌, ◌∙◌, ap, sym, eqb, nat_le, Some, length, vec_items, arith, rules, tests}
use Rattle.std.specs.Option.{option_eq}
use Rattle.std.proofs.lemmas.Iterator.Adapters.{option_map_id}
use Rattle.std.proofs.lemmas.Iterator.Consumers.{YieldsList-from_first}
use Rattle.std.proofs.lemmas.Iterator.Search.{find_from_yields_List}
use Rattle.book.specs.Chains.{left_of}
use Rattle.book.specs.Pages.{chain}
use Rattle.book.proofs.Chains.{stands_found}
use Rattle.book.proofs.pages.Book.stands.Goals as goal

pub returns : goal.returns
returns c =
    let book = c.args.self.now in
    let bs = vec_items book.blocks in
    let held : c.args.b < length bs = omega (arith, c.requires, book.blocks.ok.0) in
    let found = find_from_yields_List (λ x. nat_le x c.args.c) c.find.new.self _ c.find.result c.find.ensures.ran (YieldsList-from_first (λ x. x) left_of (chain bs c.args.b) c.chain.ensures) (λ x b q k. search (rules, tests)) in
    c.eq.ensures ∙ ap (λ o. option_eq eqb o (Some c.args.c)) (sym (option_map_id c.find.result) ∙ found) ∙ stands_found bs book.known.parents_before c.args.c c.args.b held
