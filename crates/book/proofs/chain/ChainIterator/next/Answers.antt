use Rattle.std.proofs.Common.{◌<◌, [], length, Some, sym, ap, ◌∙◌, arith, rules}
use Rattle.std.proofs.lemmas.List.{get_or_default}
use Rattle.std.specs.Option.{option_map_or}
use Rattle.book.specs.Pages.{genesis, chain}
use Rattle.book.proofs.Chains.{left_last, left_below}
use Rattle.book.proofs.chain.ChainIterator.next.Goals as goal
use Rattle.book.proofs.chain.ChainIterator.next.Goals.{then-b-eq0, else-b-eq0}

-- the block, and then what is left below it
pub returns-clause-steps : goal.returns-clause-steps
returns-clause-steps c =
    let bs = c.args.self.now.blocks.now in
    let held : c.in_ok-b.b < length bs = search rules in
    ap (λ o. option_map_or (chain bs) o []) c.in_ok-b.was
    ∙ elim c.if-b-eq0.branch [
      | then-b-eq0 w ↦ left_last bs c.in_ok-b.b c.if-b-eq0.self w.if-b-eq0.true w.self-is
      | else-b-eq0 w ↦
          left_below bs c.args.self.now.parents_before c.in_ok-b.b c.if-b-eq0.self (omega arith) held
          (w.self-is ∙ ap (λ b. Some b.parent) (sym (get_or_default bs c.in_ok-b.b (genesis 0) _ held)))
    ]

pub returns-clause-goes : goal.returns-clause-goes
returns-clause-goes c =
    let steps = returns-clause-steps c in
    record { on = λ h. (tt, tt, omega (arith, ap length steps)); keeps = tt; rests = λ _. tt }
