-- What the acts of a cluster have before them.
-- Assumes nothing.
use Rattle.std.specs.Prelude.{ℕ, Bool, vec_items}
use Rattle.quorum.specs.declared.rule.QuorumRule as QuorumRule
use Rattle.book.specs.Admission.{design}
use Rattle.protocol.specs.State.{State}
use Rattle.protocol.specs.declared.inner.Inner.{Inner}

-- by the rule's number of seats and quorums, the rotation's leaders, and the rest
abbrev pub held_by : ℕ → (ℕ → Bool) → (ℕ → ℕ) → Inner → State
held_by n quorum leads inner =
    record {
      design = design n quorum leads inner.open_set.bits;
      blocks = vec_items inner.book.blocks;
      letters = vec_items inner.book.letters;
      seats = inner.seats;
    }

-- the same under a rule
abbrev pub under : {R : Type 0} → QuorumRule.Ghosts R → R → (ℕ → ℕ) → Inner → State
under q rule leads inner = held_by (q.seats rule) (q.quorum rule) leads inner
