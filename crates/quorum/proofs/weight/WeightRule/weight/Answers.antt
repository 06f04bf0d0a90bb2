use Rattle.std.proofs.Common.{◌<◌, cond, length, get_or, vec_items, sym, ap, ◌∙◌, arith, rules}
use Rattle.quorum.specs.Weights.{weight_more}
use Rattle.quorum.proofs.weight.WeightRule.weight.Goals as goal
use Rattle.quorum.proofs.weight.WeightRule.weight.Goals.{then-holds, else-holds}

pub loop-seat-preserved : goal.loop-seat-preserved
loop-seat-preserved c =
    let ws = vec_items c.args.self.now.weights in
    let seat = c.loop-seat.seat in
    let below : seat < length ws = search rules in
    let more = weight_more ws c.args.set.bits seat below in
    let read = ap (λ xs. get_or xs seat 0) c.deref-weight-items.ensures.value in
    elim c.if-holds.branch [
      | then-holds w ↦
          let is = sym c.holds.ensures.told ∙ w.if-holds.true in
          let added = ap (λ b. cond b (get_or ws seat 0) 0) is in
          (omega (arith, w.sum-is, more, added, read, w.from-sum.ensures), omega (arith, w.sum-is))
      | else-holds w ↦
          let is = sym c.holds.ensures.told ∙ w.if-holds.false in
          let added = ap (λ b. cond b (get_or ws seat 0) 0) is in
          (omega (arith, w.sum-is, more, added), omega (arith, w.sum-is))
    ]
