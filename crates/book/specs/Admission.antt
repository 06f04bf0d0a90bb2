-- What enters a book: the reply to a proposal, and the block that a justified proposal becomes.
-- Assumes nothing.
use Rattle.std.specs.Prelude.{ℕ, ◌+◌, Bool, cond, not, ◌&&◌, ◌||◌, List, [], ◌∷◌, ◌++◌, length, Some, None, Ok, Err, Option, Result, ◌==◌, nat_le, nat_lt, slice_index}
use Rattle.std.specs.List.{list_any}
use Rattle.quorum.specs.Seats.{held, within, subset}
use Rattle.refusal.specs.Reasons.{Reason, replied}
use Rattle.refusal.specs.declared.Refusal.{Refusal}
use Rattle.refusal.specs.declared.Refusal.TheVariants.{UnknownSeatInSet, NoSuchBlock, ViewOutOfRange, BlocksFull, LeaderHasProposed, HeardNoQuorum, HeardSeatSilent, ParentUnfit}
use Rattle.rotation.specs.Turns.{is_view}
use Rattle.book.specs.declared.block.Block.{Block}
use Rattle.book.specs.declared.block.Kind.{Kind}
use Rattle.book.specs.declared.block.Kind.TheVariants.{Fast, Slow}
use Rattle.letters.specs.declared.letter.Letter.{Letter}
use Rattle.book.specs.declared.block.Proposal.{Proposal}
use Rattle.book.specs.Kinds.{is_slow}
use Rattle.book.specs.Pages.{no_reports, at, chain, stands}
unfoldable pub use Rattle.letters.specs.Searches.{any_below, last_below, set_where}
unfoldable pub use Rattle.letters.specs.Letters.{reports_of}
pub use Rattle.letters.specs.Letters.{written, latest, no_letter, report_of, silent}
pub use Rattle.letters.specs.Named.{reports_it, namers, decides_with, named}

-- What a cluster is made from: its number of seats, its quorums, who leads each view, and the open seats.
pub record Design : Type 0 where
  pub seats : ℕ
  pub quorum : ℕ → Bool
  pub leads : ℕ → ℕ
  pub open_seats : ℕ

abbrev pub design : ℕ → (ℕ → Bool) → (ℕ → ℕ) → ℕ → Design
design n quorum leads open_set = record { seats = n; quorum = quorum; leads = leads; open_seats = open_set }

-- Rank: by view, then by the certificate's view.

abbrev pub certificate_view : List Block → ℕ → ℕ
certificate_view bs b = (at bs (at bs b).certificate).view

-- the pair of a block's view and its certificate's view
abbrev pub rank_of : List Block → ℕ → ℕ × ℕ
rank_of bs b = ((at bs b).view, certificate_view bs b)

abbrev pub outranks : List Block → ℕ → ℕ → Bool
outranks bs x y =
    nat_lt (at bs y).view (at bs x).view
    || ((at bs y).view == (at bs x).view && nat_lt (certificate_view bs y) (certificate_view bs x))

-- Refusals.

abbrev pub has_view : List Block → ℕ → Bool
has_view bs v = list_any (λ b. b.view == v) bs

-- the reasons that fast and slow proposals share
abbrev pub shared_reasons : Design → List Block → Proposal → List Reason
shared_reasons d bs p =
    (not (within d.seats p.heard.bits), UnknownSeatInSet)
    ∷ (nat_le (length bs) p.parent, NoSuchBlock)
    ∷ (not (is_view p.view), ViewOutOfRange)
    ∷ (nat_le 256 (length bs), BlocksFull)
    ∷ (not (held (d.leads p.view) d.open_seats) && has_view bs p.view, LeaderHasProposed)
    ∷ (not (d.quorum p.heard.bits), HeardNoQuorum)
    ∷ []

-- a heard seat has no vote for the parent; the parent's view is not the one before
abbrev pub fast_reasons : Design → List Block → Proposal → List Reason
fast_reasons d bs p =
    shared_reasons d bs p
    ++ (not (subset p.heard.bits (at bs p.parent).voters.bits), HeardSeatSilent)
    ∷ (not ((at bs p.parent).view + 1 == p.view), ParentUnfit)
    ∷ []

-- seat s is heard and reports a block that outranks the parent
abbrev pub reports_higher : List Block → List ℕ → ℕ → ℕ → ℕ → Bool
reports_higher bs reports heard parent s = held s heard && outranks bs (slice_index reports s) parent

-- the parent is not reported, or outranked
abbrev pub unfit : List Block → List ℕ → ℕ → ℕ → Bool
unfit bs reports heard parent =
    not (any_below (reports_it reports heard parent) 64) || any_below (reports_higher bs reports heard parent) 64

abbrev pub slow_reasons : Design → List Block → List Letter → Proposal → List Reason
slow_reasons d bs ls p =
    shared_reasons d bs p
    ++ (silent ls p.heard.bits p.view, HeardSeatSilent)
    ∷ (unfit bs (reports_of ls p.heard.bits p.view) p.heard.bits p.parent, ParentUnfit)
    ∷ []

-- Certificate.

-- it is taken if the parent stands on it and its view is above that of the parent's certificate
abbrev pub taken : List Block → ℕ → Option ℕ → ℕ
taken bs parent None = (at bs parent).certificate
taken bs parent (Some c) =
    cond (stands bs parent c && nat_lt (certificate_view bs parent) (at bs c).view) c (at bs parent).certificate

abbrev pub slow_certificate : (ℕ → Bool) → List Block → ℕ → List ℕ → ℕ → ℕ
slow_certificate quorum bs parent reports heard = taken bs parent (named quorum reports heard)

-- Commit point. Below, S is a new block's certificate and B the certificate of S.

-- neither stands on the other
abbrev pub conflict : List Block → ℕ → ℕ → Bool
conflict bs x y = not (stands bs x y) && not (stands bs y x)

-- x, reported to a, is of the view of a's parent, is not that parent, and conflicts with B
abbrev pub rival : List Block → ℕ → ℕ → ℕ → Bool
rival bs B a x =
    ((at bs x).view == (at bs (at bs a).parent).view) && (not (x == (at bs a).parent) && conflict bs x B)

-- seat s was heard by a, and reported such a rival to it
abbrev pub told_rival : List Block → ℕ → ℕ → ℕ → Bool
told_rival bs B a s = held s (at bs a).heard.bits && rival bs B a (slice_index (at bs a).reports s)

abbrev pub heard_rival : List Block → ℕ → ℕ → Bool
heard_rival bs B a = any_below (told_rival bs B a) 64

-- a is a slow block, later than B, that heard of a rival (the literature: evidence of equivocation)
abbrev pub clashes : List Block → ℕ → ℕ → Bool
clashes bs B a = is_slow (at bs a).kind && (nat_lt (at bs B).view (at bs a).view && heard_rival bs B a)

abbrev pub any_of : (ℕ → Bool) → List ℕ → Bool
any_of p xs = list_any p xs

-- no block on the chain of S clashes, or S is of the view after B's
abbrev pub good : List Block → ℕ → ℕ → Bool
good bs S B = (at bs S).view == (at bs B).view + 1 || not (any_of (clashes bs B) (chain bs S))

-- the commit point of a block with this parent and certificate
abbrev pub commit_after : List Block → ℕ → ℕ → ℕ
commit_after bs parent S =
    let B = (at bs S).certificate in
    cond (nat_lt (at bs (at bs parent).commit).view (at bs B).view && good bs S B) B (at bs parent).commit

-- The block that a proposal becomes.

abbrev pub entered : List Block → ℕ → Proposal → Kind → List ℕ → ℕ → Block
entered bs maker p kind reports S =
    record {
      view = p.view;
      parent = p.parent;
      payload = p.payload;
      maker = maker;
      height = (at bs p.parent).height + 1;
      kind = kind;
      heard = p.heard;
      reports = reports;
      certificate = S;
      commit = commit_after bs p.parent S;
      voters = record { bits = 0 };
    }

abbrev pub fast_block : Design → List Block → Proposal → Block
fast_block d bs p = entered bs (d.leads p.view) p Fast no_reports p.parent

abbrev pub slow_block : Design → List Block → List Letter → Proposal → Block
slow_block d bs ls p =
    let reports = reports_of ls p.heard.bits p.view in
    entered bs (d.leads p.view) p Slow reports (slow_certificate d.quorum bs p.parent reports p.heard.bits)

-- Replies: the number of the block, or the first reason to refuse it; and the blocks that follow.

abbrev pub fast_reply : Design → List Block → Proposal → Result ℕ Refusal
fast_reply d bs p = replied (fast_reasons d bs p) (length bs)

abbrev pub slow_reply : Design → List Block → List Letter → Proposal → Result ℕ Refusal
slow_reply d bs ls p = replied (slow_reasons d bs ls p) (length bs)

-- one block more where it was accepted
abbrev pub grown : {X : Type 0} → Result ℕ Refusal → List X → X → List X
grown (Ok x) bs b = bs ++ b ∷ []
grown (Err e) bs b = bs

abbrev pub fast_blocks : Design → List Block → Proposal → List Block
fast_blocks d bs p = grown (fast_reply d bs p) bs (fast_block d bs p)

abbrev pub slow_blocks : Design → List Block → List Letter → Proposal → List Block
slow_blocks d bs ls p = grown (slow_reply d bs ls p) bs (slow_block d bs ls p)
