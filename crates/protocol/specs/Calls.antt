-- What each call replies, and the cluster that follows it.
-- Assumes nothing.
use Rattle.std.specs.Prelude.{ℕ, ◌+◌, Bool, cond, not, ◌&&◌, List, [], ◌∷◌, ◌++◌, length, Ok, Err, Result, nat_le, nat_lt, slice_set}
use Rattle.quorum.specs.Seats.{held, with_seat, how_many}
use Rattle.refusal.specs.Reasons.{Reason, replied}
use Rattle.refusal.specs.declared.Refusal.{Refusal}
use Rattle.refusal.specs.declared.Refusal.TheVariants.{NoSuchSeat, NoSuchBlock, ViewOutOfRange, SeatIsKept, SeatIsOpen, ViewNotAboveSeat, BlockNotBelowLetter, LettersFull, CommitConflict}
use Rattle.rotation.specs.Turns.{is_view}
use Rattle.book.specs.Admission.{fast_reply, slow_reply, fast_blocks, slow_blocks, conflict}
use Rattle.book.specs.Changes.{vote_after}
use Rattle.book.specs.Pages.{at, stands}
use Rattle.book.specs.declared.block.Block.{Block}
use Rattle.letters.specs.declared.letter.Letter.{Letter}
use Rattle.protocol.specs.State.{State, seat_at}
use Rattle.protocol.specs.declared.call.Call.{Call}
use Rattle.protocol.specs.declared.call.Call.TheVariants.{Fast, Slow, Show, Expire, Vote, Letter as Write}
use Rattle.protocol.specs.declared.seat.Seat.{Seat}

-- the reasons that speak of seats, blocks and views
abbrev pub no_seat : State → ℕ → Reason
no_seat st s = (nat_le st.design.seats s, NoSuchSeat)

abbrev pub no_block : State → ℕ → Reason
no_block st b = (nat_le (length st.blocks) b, NoSuchBlock)

abbrev pub no_view : ℕ → Reason
no_view v = (not (is_view v), ViewOutOfRange)

abbrev pub kept_seat : State → ℕ → Reason
kept_seat st s = (not (held s st.design.open_seats), SeatIsKept)

abbrev pub open_seat : State → ℕ → Reason
open_seat st s = (held s st.design.open_seats, SeatIsOpen)

abbrev pub letters_full : State → Reason
letters_full st = (nat_le 512 (length st.letters), LettersFull)

-- Show: a seat votes for a block that is not of an earlier view than its own, and later than its last vote.

abbrev pub votes : State → ℕ → ℕ → Bool
votes st s b = nat_le (seat_at st s).view (at st.blocks b).view && nat_lt (at st.blocks (seat_at st s).vote).view (at st.blocks b).view

abbrev pub show_reasons : State → ℕ → ℕ → List Reason
show_reasons st s b =
    no_seat st s ∷ no_block st b ∷ open_seat st s
    ∷ (conflict st.blocks (at st.blocks b).commit (seat_at st s).tip, CommitConflict)
    ∷ []

-- the seat after it was shown a block: its vote, and its tip where the block's commit point stands on it
abbrev pub shown : State → ℕ → ℕ → Seat
shown st s b =
    let seat = seat_at st s in
    let commit = (at st.blocks b).commit in
    record {
      view = cond (votes st s b) (at st.blocks b).view seat.view;
      vote = cond (votes st s b) b seat.vote;
      tip = cond (stands st.blocks commit seat.tip) commit seat.tip;
    }

abbrev pub show_after : State → ℕ → ℕ → State
show_after st s b =
    record {
      design = st.design;
      blocks = cond (votes st s b) (vote_after st.blocks s b) st.blocks;
      letters = st.letters;
      seats = slice_set st.seats s (shown st s b);
    }

-- Expire: the seat enters the view, and a letter names its last vote.

abbrev pub leave_reasons : State → ℕ → ℕ → List Reason
leave_reasons st s v = no_seat st s ∷ no_view v ∷ open_seat st s ∷ (nat_le v (seat_at st s).view, ViewNotAboveSeat) ∷ []

abbrev pub expire_reasons : State → ℕ → ℕ → List Reason
expire_reasons st s v = leave_reasons st s v ++ letters_full st ∷ []

abbrev pub expire_after : State → ℕ → ℕ → State
expire_after st s v =
    record {
      design = st.design;
      blocks = st.blocks;
      letters = st.letters ++ record { seat = s; view = v; block = (seat_at st s).vote } ∷ [];
      seats = slice_set st.seats s (record { view = v; vote = (seat_at st s).vote; tip = (seat_at st s).tip });
    }

-- Vote and letter: an open seat's words.

abbrev pub vote_reasons : State → ℕ → ℕ → List Reason
vote_reasons st s b = no_seat st s ∷ no_block st b ∷ kept_seat st s ∷ []

abbrev pub letter_reasons : State → Letter → List Reason
letter_reasons st l =
    no_seat st l.seat ∷ no_block st l.block ∷ no_view l.view ∷ kept_seat st l.seat
    ∷ (nat_le l.view (at st.blocks l.block).view, BlockNotBelowLetter)
    ∷ letters_full st
    ∷ []

-- the cluster with other blocks, or with other letters
abbrev pub with_blocks : State → List Block → State
with_blocks st bs = record { design = st.design; blocks = bs; letters = st.letters; seats = st.seats }

abbrev pub with_letters : State → List Letter → State
with_letters st ls = record { design = st.design; blocks = st.blocks; letters = ls; seats = st.seats }

-- The reply to a call: a number, or the first reason to refuse it.
abbrev pub reply : State → Call → Result ℕ Refusal
reply st (Fast p) = fast_reply st.design st.blocks p
reply st (Slow p) = slow_reply st.design st.blocks st.letters p
reply st (Show s b) = replied (show_reasons st s b) (cond (votes st s b) 1 0)
reply st (Expire s v) = replied (expire_reasons st s v) (seat_at st s).vote
reply st (Vote s b) = replied (vote_reasons st s b) (how_many (with_seat s (at st.blocks b).voters.bits))
reply st (Write l) = replied (letter_reasons st l) (length st.letters + 1)

-- where a reply lets through, one state, and else the other
abbrev pub changed : Result ℕ Refusal → State → State → State
changed (Ok x) next st = next
changed (Err e) next st = st

-- The cluster after a call. A refused call leaves it exactly as it was.
abbrev pub after : State → Call → State
after st (Fast p) = with_blocks st (fast_blocks st.design st.blocks p)
after st (Slow p) = with_blocks st (slow_blocks st.design st.blocks st.letters p)
after st (Show s b) = changed (reply st (Show s b)) (show_after st s b) st
after st (Expire s v) = changed (reply st (Expire s v)) (expire_after st s v) st
after st (Vote s b) = changed (reply st (Vote s b)) (with_blocks st (vote_after st.blocks s b)) st
after st (Write l) = changed (reply st (Write l)) (with_letters st (st.letters ++ l ∷ [])) st

-- A run: any list of calls, with any arguments.
abbrev pub run : State → List Call → State
run st [] = st
run st (c ∷ cs) = run (after st c) cs
