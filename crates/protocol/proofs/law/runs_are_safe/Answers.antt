use Rattle.protocol.proofs.Theorem.{safety_law}
use Rattle.protocol.proofs.law.runs_are_safe.Goals as goal

pub returns : goal.returns
returns c = safety_law
