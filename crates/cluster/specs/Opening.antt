-- Opening a cluster.
-- Assumes nothing.
use Rattle.std.specs.Prelude.{◌≡◌, ℕ, Bool, not, T, ◌⊎◌, List, [], ◌∷◌, Ok, Err, Result, ◌==◌}
use Rattle.quorum.specs.Seats.{within}
use Rattle.refusal.specs.Reasons.{Reason, NoneApplies, replied}
use Rattle.refusal.specs.declared.Refusal.{Refusal}
use Rattle.refusal.specs.declared.Refusal.TheVariants.{SeatCountsDiffer, UnknownSeatInSet, NoMemory}
use Rattle.protocol.specs.Safety.{Safe, ProposalsStand}
use Rattle.protocol.specs.State.{State}

-- rule and rotation tell n and m seats; the open set has a seat that there is not
abbrev pub open_reasons : ℕ → ℕ → ℕ → List Reason
open_reasons n m open_set = (not (n == m), SeatCountsDiffer) ∷ (not (within n open_set), UnknownSeatInSet) ∷ []

-- What opening gives: the cluster, where no reason applies; the first reason that does; or, where none does, that there
-- was no memory.
abbrev pub Opening : {X : Type 0} → List Reason → (X → Type 0) → Result X Refusal → Type 0
Opening reasons Made (Ok c) = NoneApplies reasons × Made c
Opening reasons Made (Err e) = (replied {X = ℕ} reasons 0 ≡ Err e) ⊎ (NoneApplies reasons × (e ≡ NoMemory))

-- what holds of the cluster that was opened, if one was
abbrev pub Opened : {X : Type 0} → (X → Type 0) → Result X Refusal → Type 0
Opened P (Ok c) = P c
Opened P (Err e) = Prim.Unit {0}

-- the law for a cluster whose open seats are tolerated
abbrev pub SafeIf : Bool → State → Type 0
SafeIf tolerable st = T tolerable → Safe st × ProposalsStand st
