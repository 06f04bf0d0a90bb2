-- The bit that is tested is the digit worth 2 ^ seat; no set of 64 digits has one past the last.
use Rattle.std.proofs.Common.{◌^◌, ◌<◌, sym, ◌∙◌, lt_of_lt_of_le, pow_mono, rules}
use Rattle.std.proofs.lemmas.Bool.{le-ltb}
use Rattle.quorum.specs.Sets.{held_beyond}
use Rattle.quorum.proofs.seats.SeatSet.holds.Goals as goal

pub returns-else-seat-lt64-clause-told : goal.returns-else-seat-lt64-clause-told
returns-else-seat-lt64-clause-told c =
    let fits : c.args.self.bits < 2 ^ 64 = search rules in
    le-ltb _ _ c.if-seat-lt64.false
    ∙ sym (held_beyond c.args.seat c.args.self.bits (lt_of_lt_of_le fits (pow_mono c.if-seat-lt64.false)))
