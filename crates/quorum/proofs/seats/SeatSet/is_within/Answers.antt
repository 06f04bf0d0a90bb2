-- A set is below 2 ^ n exactly where its digits from n on are none.
use Rattle.std.proofs.Common.{◌^◌, ◌<◌, sym, ◌∙◌, lt_of_lt_of_le, pow_mono, rules}
use Rattle.std.proofs.lemmas.Bool.{le-leb, lt-ltb}
use Rattle.quorum.specs.Sets.{no_upper_digits}
use Rattle.quorum.proofs.seats.SeatSet.is_within.Goals as goal

pub returns-then-n-ge64 : goal.returns-then-n-ge64
returns-then-n-ge64 c =
    let fits : c.args.self.bits < 2 ^ 64 = search rules in
    le-leb _ _ c.if-n-ge64.true
    ∙ sym (lt-ltb c.args.self.bits (2 ^ c.args.n) (lt_of_lt_of_le fits (pow_mono c.if-n-ge64.true)))

pub returns-else-n-ge64 : goal.returns-else-n-ge64
returns-else-n-ge64 c = no_upper_digits c.args.n c.args.self.bits
