-- The sentence of each reason to say no, as bytes of ASCII text.
-- Assumes nothing.
use Rattle.std.specs.Prelude.{ℕ, List, codes}
use Rattle.refusal.specs.declared.Refusal.{Refusal}
use Rattle.refusal.specs.declared.Refusal.TheVariants.{SeatCountsDiffer, UnknownSeatInSet, NoSuchSeat, NoSuchBlock, ViewOutOfRange, SeatIsKept, SeatIsOpen, ViewNotAboveSeat, BlockNotBelowLetter, LettersFull, BlocksFull, LeaderHasProposed, HeardNoQuorum, HeardSeatSilent, ParentUnfit, CommitConflict, FaultsOutOfRange, WeightsOutOfRange, RotationOutOfRange, RecordCutShort, RecordKindUnknown, SpareByteNotZero, RecordOutOfPlace, NoMemory}

abbrev pub sentence_of : Refusal → List ℕ
sentence_of SeatCountsDiffer = codes "the rule and the rotation have different numbers of seats"
sentence_of UnknownSeatInSet = codes "the set has a seat that the cluster lacks"
sentence_of NoSuchSeat = codes "there is no such seat"
sentence_of NoSuchBlock = codes "there is no such block"
sentence_of ViewOutOfRange = codes "the view is not from 1 to 1000000"
sentence_of SeatIsKept = codes "the seat is kept: it votes and writes letters only by the rules"
sentence_of SeatIsOpen = codes "the seat is open: it is neither shown blocks nor expired"
sentence_of ViewNotAboveSeat = codes "the view is not above the seat's own"
sentence_of BlockNotBelowLetter = codes "the block that the letter names is not of an earlier view"
sentence_of LettersFull = codes "the book already holds 512 letters"
sentence_of BlocksFull = codes "the book already holds 256 blocks"
sentence_of LeaderHasProposed = codes "the view's leader is kept and has a block of that view"
sentence_of HeardNoQuorum = codes "the heard seats are no quorum"
sentence_of HeardSeatSilent = codes "a heard seat has no vote for the parent, or no letter for the view"
sentence_of ParentUnfit = codes "the parent is not the one that the heard seats allow"
sentence_of CommitConflict = codes "the block's commit point and the seat's tip conflict"
sentence_of FaultsOutOfRange = codes "the count rule tolerates at most 21 faults"
sentence_of WeightsOutOfRange = codes "the weight rule takes 1 to 32 weights of at most 65535 with a total above 0"
sentence_of RotationOutOfRange = codes "a rotation takes 1 to 64 seats, lists of 1 to 256 entries, and only its own seats"
sentence_of RecordCutShort = codes "the record has fewer than 32 bytes"
sentence_of RecordKindUnknown = codes "the record's letter is unknown"
sentence_of SpareByteNotZero = codes "a spare byte of the record is not 0"
sentence_of RecordOutOfPlace = codes "the record is out of place: one opening, first, and nothing before it"
sentence_of NoMemory = codes "there is not enough memory"
