use Rattle.std.proofs.Common.{◌≡◌, ◌∙◌, ap, sym, option_map, rules, tests}
use Rattle.std.proofs.lemmas.Iterator.Adapters.{YieldsList-from_rev_slice}
use Rattle.std.proofs.lemmas.Iterator.Search.{find_from_yields_List}
use Rattle.letters.specs.Letters.{written}
use Rattle.letters.specs.declared.letter.Letter.{Letter}
use Rattle.letters.proofs.Searches.{last_is_find}
use Rattle.letters.proofs.letter.latest.Goals as goal

pub returns : goal.returns
returns c =
    let ls = c.args.letters.now in
    let block : Letter → _ = λ l. l.block in
    let told : c.map.result ≡ option_map block (option_map (λ l. l.now) c.find.result) = search rules in
    let found = find_from_yields_List (λ l. written l c.args.seat c.args.view) _ _ c.find.result c.find.ensures.ran (YieldsList-from_rev_slice ls cc) (λ x b q k. search (rules, tests)) in
    told ∙ ap (option_map block) found ∙ sym (last_is_find (λ l. written l c.args.seat c.args.view) block ls _)
