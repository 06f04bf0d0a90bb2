use Rattle.std.proofs.Common.{◌≡◌, ℕ, ◌∙◌, ap, sym, option_map, slice_index, rules, tests}
use Rattle.std.proofs.lemmas.Iterator.Adapters.{option_map_id}
use Rattle.std.proofs.lemmas.Iterator.Search.{find_from_yields_List}
use Rattle.letters.specs.Named.{decides_with}
use Rattle.letters.proofs.Searches.{YieldsList-from_rev_range, last_is_find_down}
use Rattle.letters.proofs.reports.Reports.named.Goals as goal

pub returns : goal.returns
returns g c =
    let r = c.args.self.now in
    let test = decides_with (g.R.QuorumRule.quorum c.args.rule.now) r.blocks r.heard.bits in
    let block : ℕ → ℕ = λ s. slice_index r.blocks s in
    let told : c.map.result ≡ option_map block c.find.result = search rules in
    let found = find_from_yields_List test _ _ c.find.result c.find.ensures.ran (YieldsList-from_rev_range 64 (cc)) (λ x b q k. search (rules, tests)) in
    told ∙ ap (option_map block) (sym (option_map_id c.find.result) ∙ found) ∙ sym (last_is_find_down test block 64)
