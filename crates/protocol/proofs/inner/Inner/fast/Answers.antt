use Rattle.protocol.proofs.Seating.{seated_grown}
use Rattle.protocol.proofs.inner.Inner.fast.Goals as goal

pub invariant_of-self : goal.invariant_of-self
invariant_of-self g c =
    record { seated = seated_grown c.args.self.now _ _ _ c.fast.ensures.blocks }
