-- What a lent design is to the definitions.
-- Assumes nothing.
use Rattle.quorum.specs.declared.rule.QuorumRule as QuorumRule
use Rattle.rotation.specs.declared.turns.Rotation as Rotation
use Rattle.book.specs.Admission.{Design, design}
use Rattle.book.specs.declared.design.Design.{Design as Lent}

abbrev pub design_of : {R T : Type 0} → QuorumRule.Ghosts R → Rotation.Ghosts T → Lent R T → Design
design_of q t d = design (q.seats d.rule.now) (q.quorum d.rule.now) (t.leads d.rotation.now) d.open_set.bits
