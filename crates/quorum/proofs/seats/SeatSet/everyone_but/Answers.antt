-- The seats of the set that are below n are its lowest n digits.
use Rattle.std.proofs.Common.{◌-◌, ◌^◌, min, ap, ◌∙◌}
use lib.Bits.{bit_and, and_comm, and_mask}
use Rattle.quorum.proofs.seats.SeatSet.everyone_but.Goals as goal

pub returns : goal.returns
returns c =
    let m = min c.args.n 64 in
    let q = c.args.self.bits in
    ap (λ e. e - bit_and e q) c.everyone-everyone.ensures
    ∙ ap (λ x. (2 ^ m - 1) - x) (and_comm (2 ^ m - 1) q ∙ and_mask q m)
