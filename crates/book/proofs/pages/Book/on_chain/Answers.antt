use Rattle.std.proofs.Common.{◌≡◌, ◌-◌, ◌<◌, ◌≤◌, length, vec_items, sym, ap, ◌∙◌, inl, arith}
use Rattle.std.specs.List.{slice_get}
use Rattle.std.proofs.lemmas.Option.{slice_get-get_or}
use Rattle.std.proofs.lemmas.Iterator.Adapters.{option_map_id}
use Rattle.std.proofs.lemmas.Iterator.Consumers.{YieldsList-from_first, count_from_yields_List, nth_from_yields_List}
use Rattle.book.specs.Chains.{left_of}
use Rattle.book.specs.Pages.{chain}
use Rattle.book.proofs.Descent.{chain_short, told_none, told_some}
use Rattle.book.proofs.pages.Book.on_chain.Goals as goal

pub count-requires-clause-fits : goal.count-requires-clause-fits
count-requires-clause-fits c =
    let short = chain_short (vec_items c.args.self.now.blocks) c.args.b in
    inl (omega (arith, short, ap length c.chain.ensures, c.ranges.b))

pub returns-in_err-above : goal.returns-in_err-above
returns-in_err-above c =
    let bs = vec_items c.args.self.now.blocks in
    let held : c.args.b < length bs = omega (arith, c.if-b-blocks.false, c.blocks-2.ensures) in
    let count = count_from_yields_List c.chain.result c.count.result c.count.ensures.ran (YieldsList-from_first (λ x. x) left_of (chain bs c.args.b) c.chain.ensures) in
    let few : length (chain bs c.args.b) ≤ c.args.k = omega (arith, c.in_err-above.ensures, count) in
    c.from_residual.ensures ∙ sym (told_none bs c.args.b c.args.k held few)

pub returns : goal.returns
returns c =
    let bs = vec_items c.args.self.now.blocks in
    let held : c.args.b < length bs = omega (arith, c.if-b-blocks.false, c.blocks-2.ensures) in
    let count = count_from_yields_List c.chain.result c.count.result c.count.ensures.ran (YieldsList-from_first (λ x. x) left_of (chain bs c.args.b) c.chain.ensures) in
    let item = nth_from_yields_List c.nth.result c.nth.new.self c.in_ok-above.above c.nth.ensures.ran (YieldsList-from_first (λ x. x) left_of (chain bs c.args.b) c.chain-2.ensures) in
    let above : c.in_ok-above.above ≡ length (chain bs c.args.b) - 1 - c.args.k = omega (arith, c.in_ok-above.ensures, count) in
    let more : c.args.k < length (chain bs c.args.b) = omega (arith, c.in_ok-above.ensures, count) in
    sym (option_map_id c.nth.result) ∙ item ∙ ap (slice_get (chain bs c.args.b)) above
    ∙ slice_get-get_or (chain bs c.args.b) (length (chain bs c.args.b) - 1 - c.args.k) 0 (omega arith) ∙ sym (told_some bs c.args.b c.args.k held more)
