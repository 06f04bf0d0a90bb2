-- The cluster that a value holds.
-- Assumes nothing.
use Rattle.std.specs.Prelude.{ℕ}
use Rattle.quorum.specs.declared.rule.QuorumRule as QuorumRule
use Rattle.rotation.specs.declared.turns.Rotation as Rotation
use Rattle.book.specs.Admission.{Design, design}
use Rattle.protocol.specs.Held.{held_by}
use Rattle.protocol.specs.State.{State}
use Rattle.cluster.specs.declared.cluster.Cluster.{Cluster}

-- what a rule, a rotation and an open set are to the definitions
abbrev pub design_of : {R T : Type 0} → QuorumRule.Ghosts R → Rotation.Ghosts T → R → T → ℕ → Design
design_of q t rule rotation open_set = design (q.seats rule) (q.quorum rule) (t.leads rotation) open_set

abbrev pub state_of : {R T : Type 0} → QuorumRule.Ghosts R → Rotation.Ghosts T → Cluster R T → State
state_of q t c = held_by (q.seats c.rule) (q.quorum c.rule) (t.leads c.rotation) c.inner
