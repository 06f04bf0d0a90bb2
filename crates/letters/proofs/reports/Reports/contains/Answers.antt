use Rattle.std.proofs.Common.{◌∙◌, refl, rules, tests}
use Rattle.std.proofs.lemmas.Iterator.{YieldsList-from_range}
use Rattle.std.proofs.lemmas.Iterator.Search.{any_from_yields_List}
use Rattle.letters.specs.Named.{reports_it}
use Rattle.letters.proofs.Searches.{any_in_range}
use Rattle.letters.proofs.reports.Reports.contains.Goals as goal

pub returns : goal.returns
returns c =
    let test = reports_it c.args.self.now.blocks c.args.self.now.heard.bits c.args.block in
    any_from_yields_List test _ _ _ c.any.ensures.ran (YieldsList-from_range 0 64 64 refl refl) (λ x b q k. search (rules, tests)) ∙ any_in_range test 64
