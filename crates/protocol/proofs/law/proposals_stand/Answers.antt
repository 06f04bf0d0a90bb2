use Rattle.protocol.proofs.Theorem.{proposals_law}
use Rattle.protocol.proofs.law.proposals_stand.Goals as goal

pub returns : goal.returns
returns c = proposals_law
