use Rattle.letters.proofs.Named.{one_named}
use Rattle.letters.proofs.laws.one_block_is_named.Goals as goal

pub returns : goal.returns
returns c = one_named
