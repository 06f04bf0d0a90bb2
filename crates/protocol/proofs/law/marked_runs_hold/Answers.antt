use Rattle.protocol.proofs.Examples.{marked_runs}
use Rattle.protocol.proofs.law.marked_runs_hold.Goals as goal

pub returns : goal.returns
returns c = marked_runs
