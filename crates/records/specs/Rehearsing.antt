-- A rehearsal: the first record opens a cluster, and each other is a call of it.
-- Assumes nothing.
use Rattle.std.specs.Prelude.{◌≡◌, ℕ, ◌%◌, Bool, true, false, not, ◌⊎◌, List, [], ◌∷◌, Some, None, Ok, Err, Option, Result, nat_lt}
use Rattle.quorum.specs.Counting.{seats_for, count_quorum}
use Rattle.quorum.specs.Seats.{within}
use Rattle.quorum.specs.declared.count.CountRule.{CountRule}
use Rattle.refusal.specs.Reasons.{Reason, NoneApplies, replied}
use Rattle.refusal.specs.declared.Refusal.{Refusal}
use Rattle.refusal.specs.declared.Refusal.TheVariants.{UnknownSeatInSet, FaultsOutOfRange, RecordOutOfPlace, NoMemory}
use Rattle.rotation.specs.Robin.{robin_leads}
use Rattle.rotation.specs.declared.robin.RoundRobin.{RoundRobin}
use Rattle.book.specs.Admission.{Design, design}
use Rattle.protocol.specs.Calls.{reply, after}
use Rattle.protocol.specs.Held.{held_by}
use Rattle.protocol.specs.State.{State, fresh}
use Rattle.cluster.specs.declared.cluster.Cluster.{Cluster}
use Rattle.records.specs.declared.record.Record.{Record}
use Rattle.records.specs.declared.record.Record.TheVariants.{Open as OpenRecord, Call as CallRecord}
use Rattle.records.specs.declared.rehearsal.Stage.{Stage}
use Rattle.records.specs.declared.rehearsal.Stage.TheVariants.{New, Unopened, Open}

-- the count rule for f faulty seats, and the round robin with no first seat named
abbrev pub rehearsed : ℕ → ℕ → Design
rehearsed f open_set = design (seats_for f) (count_quorum f) (robin_leads (seats_for f) (1 % seats_for f)) open_set

-- the rule is made first, so that its refusal goes before that of the open set
abbrev pub rehearse_reasons : ℕ → ℕ → List Reason
rehearse_reasons f open_set = (nat_lt 21 f, FaultsOutOfRange) ∷ (not (within (seats_for f) open_set), UnknownSeatInSet) ∷ []

abbrev pub state_in : Cluster CountRule RoundRobin → State
state_in c = held_by (seats_for c.rule.faults) (count_quorum c.rule.faults) (robin_leads c.rotation.seats c.rotation.first) c.inner

-- whether a record was read, and the cluster, once it is open
abbrev pub started_in : Stage → Bool
started_in New = false
started_in Unopened = true
started_in (Open c) = true

abbrev pub cluster_in : Stage → Option (Cluster CountRule RoundRobin)
cluster_in New = None
cluster_in Unopened = None
cluster_in (Open c) = Some c

-- a cluster is there, in this state
abbrev pub Holding : Option (Cluster CountRule RoundRobin) → State → Type 0
Holding (Some c) st = state_in c ≡ st
Holding None st = ⊥

-- an opening by the first record gives the number of seats
abbrev pub Opens : ℕ → ℕ → Option (Cluster CountRule RoundRobin) → Result ℕ Refusal → Option (Cluster CountRule RoundRobin) → Type 0
Opens f set c (Ok n) c' = NoneApplies (rehearse_reasons f set) × (n ≡ seats_for f) × Holding c' (fresh (rehearsed f set))
Opens f set c (Err e) c' =
    ((replied {X = ℕ} (rehearse_reasons f set) 0 ≡ Err e) ⊎ (NoneApplies (rehearse_reasons f set) × (e ≡ NoMemory))) × (c' ≡ c)

-- What a record does to a rehearsal that has read records before or not, and holds a cluster or not. A record that could
-- not be read is refused as the reader says; a record out of place is refused.
abbrev pub Plays : Result Record Refusal → Bool → Option (Cluster CountRule RoundRobin) → Result ℕ Refusal → Option (Cluster CountRule RoundRobin) → Type 0
Plays (Err e) started c r c' = (r ≡ Err e) × (c' ≡ c)
Plays (Ok (OpenRecord f set)) true c r c' = (r ≡ Err RecordOutOfPlace) × (c' ≡ c)
Plays (Ok (OpenRecord f set)) false c r c' = Opens f set.bits c r c'
Plays (Ok (CallRecord x)) started None r c' = (r ≡ Err RecordOutOfPlace) × (c' ≡ None)
Plays (Ok (CallRecord x)) started (Some c) r c' = (r ≡ reply (state_in c) x) × Holding c' (after (state_in c) x)
