-- What the book's changes promise.
-- Assumes nothing.
use Rattle.std.specs.Prelude.{◌≡◌, ℕ, List, is_ok, Decides, Result}
use Rattle.refusal.specs.Reasons.{Least}
use Rattle.refusal.specs.declared.Refusal.{Refusal}
use Rattle.book.specs.Admission.{Design, fast_reasons, slow_reasons, fast_reply, slow_reply, fast_blocks, slow_blocks}
use Rattle.book.specs.Rules.{JustifiedFast, JustifiedSlow, Unbarred, WellMade}
use Rattle.book.specs.declared.block.Block.{Block}
use Rattle.letters.specs.declared.letter.Letter.{Letter}
use Rattle.book.specs.declared.block.Proposal.{Proposal}

-- The reply to a fast proposal, and the book after it.
pub record FastAdmission
    (d : Design) (bs : List Block) (ls : List Letter) (p : Proposal) (r : Result ℕ Refusal) (bs' : List Block) (ls' : List Letter) : Type 0
  where
    -- the one defined reply and the whole book that follows, refusals included
    pub reply : r ≡ fast_reply d bs p
    pub blocks : bs' ≡ fast_blocks d bs p
    pub letters : ls' ≡ ls
    -- accepted exactly when it is justified and nothing else bars it; refused with the least number that applies
    pub exact : Decides (is_ok r) (JustifiedFast d bs p × Unbarred d bs p)
    pub least : Least (fast_reasons d bs p) r
    -- certificate, rank and commit point of every block stay those of the rules
    pub lawful : WellMade d bs → WellMade d bs'

-- The same for a slow proposal.
pub record SlowAdmission
    (d : Design) (bs : List Block) (ls : List Letter) (p : Proposal) (r : Result ℕ Refusal) (bs' : List Block) (ls' : List Letter) : Type 0
  where
    pub reply : r ≡ slow_reply d bs ls p
    pub blocks : bs' ≡ slow_blocks d bs ls p
    pub letters : ls' ≡ ls
    pub exact : Decides (is_ok r) (JustifiedSlow d bs ls p × Unbarred d bs p)
    pub least : Least (slow_reasons d bs ls p) r
    pub lawful : WellMade d bs → WellMade d bs'
