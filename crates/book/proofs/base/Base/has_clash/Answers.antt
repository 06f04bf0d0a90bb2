use Rattle.std.proofs.Common.{◌<◌, ◌∙◌, ℕ, Bool, length, ap, nat_lt, vec_items, vec_len, arith, rules, tests}
use Rattle.std.specs.List.{prefix_len}
use Rattle.std.proofs.lemmas.Iterator.Adapters.{serves_from_places}
use Rattle.std.proofs.lemmas.Iterator.Consumers.{YieldsList-from_first}
use Rattle.std.proofs.lemmas.Iterator.Search.{YieldsList-from_take_while, any_from_yields_List}
use Rattle.book.specs.Admission.{clashes}
use Rattle.book.specs.Chains.{left_of}
use Rattle.book.specs.Pages.{at, chain}
use Rattle.book.proofs.Chains.{chain_within, taken_within}
use Rattle.book.proofs.Tests.{cut_clash}
use Rattle.book.proofs.base.Base.has_clash.Goals as goal

pub any-requires-clause-can : goal.any-requires-clause-can
any-requires-clause-can c =
    let book = c.args.self.now.book.now in
    let bs = vec_items book.blocks in
    let held : c.args.top < length bs = omega (arith, c.requires, book.blocks.ok.0) in
    let road = YieldsList-from_first (λ x. x) left_of {s = c.take_while.result.iter} (chain bs c.args.top) (ap left_of c.take_while.ensures.source ∙ c.chain.ensures) in
    (tt, serves_from_places road (λ x q r. search (rules, tests)) (λ x k l e. let low : x < vec_len book.blocks = omega (arith, chain_within bs book.known.parents_before c.args.top held k x l, e, held, book.blocks.ok.0) in search rules))

pub any-requires-clause-callable : goal.any-requires-clause-callable
any-requires-clause-callable c =
    let book = c.args.self.now.book.now in
    let bs = vec_items book.blocks in
    let held : c.args.top < length bs = omega (arith, c.requires, book.blocks.ok.0) in
    let later : ℕ → Bool = λ a. nat_lt (at bs c.args.self.now.number).view (at bs a).view in
    let road = YieldsList-from_first (λ x. x) left_of {s = c.take_while.result.iter} (chain bs c.args.top) (ap left_of c.take_while.ensures.source ∙ c.chain.ensures) in
    serves_from_places (YieldsList-from_take_while _ later road c.take_while.ensures.closure c.take_while.ensures.done (λ x b q k. search (rules, tests)))
    (λ x q r. search (rules, tests))
    (λ x k l e. let low : x < vec_len book.blocks = omega (arith, taken_within bs book.known.parents_before c.args.top held (prefix_len later (chain bs c.args.top)) k x l, e, held, book.blocks.ok.0) in search rules)

pub returns : goal.returns
returns c =
    let book = c.args.self.now.book.now in
    let bs = vec_items book.blocks in
    let base = c.args.self.now.number in
    let held : c.args.top < length bs = omega (arith, c.requires, book.blocks.ok.0) in
    let later : ℕ → Bool = λ a. nat_lt (at bs base).view (at bs a).view in
    let road = YieldsList-from_first (λ x. x) left_of {s = c.take_while.result.iter} (chain bs c.args.top) (ap left_of c.take_while.ensures.source ∙ c.chain.ensures) in
    any_from_yields_List (clashes bs base) c.any.new.self _ _ c.any.ensures.ran
    (YieldsList-from_take_while _ later road c.take_while.ensures.closure c.take_while.ensures.done (λ x b q k. search (rules, tests))) (λ x b q k. search (rules, tests)) ∙ cut_clash bs book.known.parents_before book.known.parents_earlier base c.args.top held
