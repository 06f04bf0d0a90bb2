-- What 32 bytes say.
-- Assumes nothing.
use Rattle.std.specs.Prelude.{ℕ, ◌+◌, ◌*◌, Bool, cond, not, ◌&&◌, List, [], ◌∷◌, length, is_some, Some, None, Option, Result, ◌==◌, nat_le, nat_lt, slice_index}
use Rattle.std.specs.Option.{unwrap_or}
use Rattle.quorum.specs.declared.seats.SeatSet.{SeatSet}
use Rattle.refusal.specs.Reasons.{Reason, replied}
use Rattle.refusal.specs.declared.Refusal.{Refusal}
use Rattle.refusal.specs.declared.Refusal.TheVariants.{RecordCutShort, RecordKindUnknown, SpareByteNotZero}
use Rattle.book.specs.declared.block.Proposal.{Proposal}
use Rattle.protocol.specs.declared.call.Call.TheVariants.{Fast as FastCall, Slow as SlowCall, Show as ShowCall, Expire as ExpireCall, Vote as VoteCall, Letter as LetterCall}
use Rattle.records.specs.declared.record.Kind.{Kind}
use Rattle.records.specs.declared.record.Kind.TheVariants.{Open, Fast, Slow, Show, Expire, Vote, Letter}
use Rattle.records.specs.declared.record.Record.{Record}
use Rattle.records.specs.declared.record.Record.TheVariants.{Open as Opening, Call as Calling}

-- Byte k of the record that begins at place p; and numbers of 4 and of 8 bytes, the lowest byte first.

abbrev pub byte : List ℕ → ℕ → ℕ
byte bs k = slice_index bs k

abbrev pub number_4 : List ℕ → ℕ → ℕ
number_4 bs k = byte bs k + byte bs (k + 1) * 256 + byte bs (k + 2) * 65536 + byte bs (k + 3) * 16777216

abbrev pub number_8 : List ℕ → ℕ → ℕ
number_8 bs k =
    byte bs k + byte bs (k + 1) * 256 + byte bs (k + 2) * 65536 + byte bs (k + 3) * 16777216
    + byte bs (k + 4) * 4294967296
    + byte bs (k + 5) * 1099511627776
    + byte bs (k + 6) * 281474976710656
    + byte bs (k + 7) * 72057594037927936

-- The fields of the record at place p.

abbrev pub seat_field : List ℕ → ℕ → ℕ
seat_field bs p = byte bs (p + 1)

abbrev pub view_field : List ℕ → ℕ → ℕ
view_field bs p = number_4 bs (p + 4)

abbrev pub block_field : List ℕ → ℕ → ℕ
block_field bs p = number_4 bs (p + 8)

abbrev pub payload_field : List ℕ → ℕ → ℕ
payload_field bs p = number_8 bs (p + 16)

abbrev pub set_field : List ℕ → ℕ → SeatSet
set_field bs p = record { bits = number_8 bs (p + 24) }

-- bytes 2, 3 and 12 to 15 are 0
abbrev pub spare_clear : List ℕ → ℕ → Bool
spare_clear bs p =
    (byte bs (p + 2) == 0)
    && (byte bs (p + 3) == 0 && (byte bs (p + 12) == 0 && (byte bs (p + 13) == 0 && (byte bs (p + 14) == 0 && byte bs (p + 15) == 0))))

-- the letters O, F, S, H, E, V and L
abbrev pub kind_of : ℕ → Option Kind
kind_of c =
    cond (c == 79) (Some Open)
    (cond (c == 70) (Some Fast)
    (cond (c == 83) (Some Slow)
    (cond (c == 72) (Some Show)
    (cond (c == 69) (Some Expire)
    (cond (c == 86) (Some Vote)
    (cond (c == 76) (Some Letter) None))))))

abbrev pub proposal_of : List ℕ → ℕ → Proposal
proposal_of bs p = record { view = view_field bs p; parent = block_field bs p; payload = payload_field bs p; heard = set_field bs p }

-- what a record of each kind says; no other field of it is read
abbrev pub record_of : Kind → List ℕ → ℕ → Record
record_of Open bs p = Opening (seat_field bs p) (set_field bs p)
record_of Fast bs p = Calling (FastCall (proposal_of bs p))
record_of Slow bs p = Calling (SlowCall (proposal_of bs p))
record_of Show bs p = Calling (ShowCall (seat_field bs p) (block_field bs p))
record_of Expire bs p = Calling (ExpireCall (seat_field bs p) (view_field bs p))
record_of Vote bs p = Calling (VoteCall (seat_field bs p) (block_field bs p))
record_of Letter bs p = Calling (LetterCall (record { seat = seat_field bs p; view = view_field bs p; block = block_field bs p }))

-- The record at place p, or why there is none.
abbrev pub decode_reasons : List ℕ → ℕ → List Reason
decode_reasons bs p =
    (nat_lt (length bs) (p + 32), RecordCutShort)
    ∷ (not (is_some (kind_of (byte bs p))), RecordKindUnknown)
    ∷ (not (spare_clear bs p), SpareByteNotZero)
    ∷ []

abbrev pub decoded : List ℕ → ℕ → Result Record Refusal
decoded bs p = replied (decode_reasons bs p) (record_of (unwrap_or (kind_of (byte bs p)) Open) bs p)

-- What a reader at place p yields; and where it goes on: 32 bytes further, or at the end.

abbrev pub yielded : List ℕ → ℕ → Option (Result Record Refusal)
yielded bs p = cond (nat_le (length bs) p) None (Some (decoded bs p))

abbrev pub beyond : List ℕ → ℕ → ℕ
beyond bs p = cond (nat_le (length bs) p) p (cond (nat_lt (length bs) (p + 32)) (length bs) (p + 32))
