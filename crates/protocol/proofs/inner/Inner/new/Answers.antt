use Rattle.protocol.proofs.Seating.{seated_idle}
use Rattle.protocol.proofs.inner.Inner.new.Goals as goal

pub invariant_of-result : goal.invariant_of-result
invariant_of-result c =
    record { seated = seated_idle c.args.book }
