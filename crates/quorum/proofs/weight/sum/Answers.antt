use Rattle.std.proofs.Common.{◌≡◌, ◌≤◌, ◌∙◌, sum, arith, rules}
use Rattle.std.proofs.iter.runs.Sources.{sums}
use Rattle.std.proofs.lemmas.List.Elements.{All-from_get_or}
use Rattle.std.proofs.lemmas.List.Sums.{sum_by-le}
use Rattle.quorum.specs.Weights.{total_is_sum}
use Rattle.quorum.proofs.weight.sum.Goals as goal

pub returns-clause-value : goal.returns-clause-value
returns-clause-value c =
    let told : c.sum.result ≡ sum c.args.weights.now = search (rules, sums) in
    told ∙ total_is_sum c.args.weights.now

pub returns-clause-bound : goal.returns-clause-bound
returns-clause-bound c =
    let told : c.sum.result ≡ sum c.args.weights.now = search (rules, sums) in
    let each = All-from_get_or (λ w. w ≤ 65535) c.args.weights.now 0 (λ i h. omega (arith, c.type_inv.weights i)) in
    omega (arith, told, sum_by-le (λ w. w) 65535 c.args.weights.now each, c.requires)
