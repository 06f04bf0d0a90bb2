-- The book's other changes: a vote, and a letter.
-- Assumes nothing.
use Rattle.std.specs.Prelude.{ℕ, ◌+◌, not, List, [], ◌∷◌, length, Result, nat_le, slice_set}
use Rattle.quorum.specs.Seats.{with_seat, how_many}
use Rattle.refusal.specs.Reasons.{replied}
use Rattle.refusal.specs.declared.Refusal.{Refusal}
use Rattle.refusal.specs.declared.Refusal.TheVariants.{NoSuchBlock, ViewOutOfRange, BlockNotBelowLetter, LettersFull}
use Rattle.rotation.specs.Turns.{is_view}
use Rattle.book.specs.Admission.{grown}
use Rattle.book.specs.Pages.{at}
use Rattle.book.specs.declared.block.Block.{Block}
use Rattle.letters.specs.declared.letter.Letter.{Letter}

-- a block with one more voter; nothing else of it ever changes
abbrev pub voted : ℕ → Block → Block
voted seat b = record b { voters = record { bits = with_seat seat b.voters.bits } }

-- how many seats have voted for the block then
abbrev pub vote_reply : List Block → ℕ → ℕ → Result ℕ Refusal
vote_reply bs seat b =
    replied ((nat_le (length bs) b, NoSuchBlock) ∷ []) (how_many (with_seat seat (at bs b).voters.bits))

abbrev pub vote_after : List Block → ℕ → ℕ → List Block
vote_after bs seat b = slice_set bs b (voted seat (at bs b))

-- how many letters there are then
abbrev pub letter_reply : List Block → List Letter → Letter → Result ℕ Refusal
letter_reply bs ls l =
    replied
    ((nat_le (length bs) l.block, NoSuchBlock)
    ∷ (not (is_view l.view), ViewOutOfRange)
    ∷ (nat_le l.view (at bs l.block).view, BlockNotBelowLetter)
    ∷ (nat_le 512 (length ls), LettersFull)
    ∷ [])
    (length ls + 1)

abbrev pub letter_after : List Block → List Letter → Letter → List Letter
letter_after bs ls l = grown (letter_reply bs ls l) ls l
