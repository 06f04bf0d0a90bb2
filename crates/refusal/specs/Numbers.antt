-- The number of each reason to say no.
-- Assumes nothing.
use Rattle.std.specs.Prelude.{ℕ}
use Rattle.refusal.specs.declared.Refusal.{Refusal}
use Rattle.refusal.specs.declared.Refusal.TheVariants.{SeatCountsDiffer, UnknownSeatInSet, NoSuchSeat, NoSuchBlock, ViewOutOfRange, SeatIsKept, SeatIsOpen, ViewNotAboveSeat, BlockNotBelowLetter, LettersFull, BlocksFull, LeaderHasProposed, HeardNoQuorum, HeardSeatSilent, ParentUnfit, CommitConflict, FaultsOutOfRange, WeightsOutOfRange, RotationOutOfRange, RecordCutShort, RecordKindUnknown, SpareByteNotZero, RecordOutOfPlace, NoMemory}

abbrev pub number_of : Refusal → ℕ
number_of SeatCountsDiffer = 1
number_of UnknownSeatInSet = 2
number_of NoSuchSeat = 3
number_of NoSuchBlock = 4
number_of ViewOutOfRange = 5
number_of SeatIsKept = 6
number_of SeatIsOpen = 7
number_of ViewNotAboveSeat = 8
number_of BlockNotBelowLetter = 9
number_of LettersFull = 10
number_of BlocksFull = 11
number_of LeaderHasProposed = 12
number_of HeardNoQuorum = 13
number_of HeardSeatSilent = 14
number_of ParentUnfit = 15
number_of CommitConflict = 16
number_of FaultsOutOfRange = 17
number_of WeightsOutOfRange = 18
number_of RotationOutOfRange = 19
number_of RecordCutShort = 20
number_of RecordKindUnknown = 21
number_of SpareByteNotZero = 22
number_of RecordOutOfPlace = 23
number_of NoMemory = 255
