use Rattle.std.proofs.Common.{◌≡◌, ◌*◌, ◌≤◌, take, vec_items}
use Rattle.quorum.specs.Seats.{weight_of}
use Rattle.quorum.proofs.weight.WeightRule.weight.Given as goal

abbrev pub invariant-loop-seat : goal.invariant-loop-seat
invariant-loop-seat l =
    (l.sum ≡ weight_of (take l.seat (vec_items l.self.weights)) l.set.bits) × (l.sum ≤ 65535 * l.seat)
