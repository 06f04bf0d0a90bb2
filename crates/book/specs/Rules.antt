-- The rules of the book, as relations between blocks, letters and proposals.
-- Assumes nothing.
use Rattle.std.specs.Prelude.{◌≡◌, ℕ, suc, ◌<◌, T, ◌⊎◌, List, length, ◌≢◌, slice_index}
use Rattle.quorum.specs.Seats.{held, Holds}
use Rattle.rotation.specs.Turns.{IsView}
use Rattle.safety.specs.Book.{Book, Made, StandsOn, Slow, Fast, RanksWithin}
use Rattle.safety.specs.Sound.{FastRule, ReportRule, Advances, Stays}
use Rattle.book.specs.Admission.{Design}
use Rattle.book.specs.Kinds.{is_slow}
use Rattle.book.specs.Pages.{at, letter_at}
use Rattle.book.specs.declared.block.Block.{Block}
use Rattle.letters.specs.declared.letter.Letter.{Letter}
use Rattle.book.specs.declared.block.Proposal.{Proposal}

-- A list of blocks under a design, as the words of the protocol read it: chains, votes, reports, certificates.
abbrev pub model : Design → List Block → Book
model d bs =
    record {
      size = length bs;
      view = λ b. (at bs b).view;
      maker = λ b. (at bs b).maker;
      parent = λ b. (at bs b).parent;
      cert = λ b. (at bs b).certificate;
      commit = λ b. (at bs b).commit;
      slow = λ b. is_slow (at bs b).kind;
      heard = λ b. (at bs b).heard.bits;
      report = λ b s. slice_index (at bs b).reports s;
      voters = λ b. (at bs b).voters.bits;
      holds = held;
      decides = d.quorum;
      open_seats = d.open_seats;
    }

-- a seat that keeps the rules (the literature: honest, correct)
abbrev pub KeptSeat : Design → ℕ → Type 0
KeptSeat d s = Holds s d.open_seats → ⊥

-- Justified.

-- A fast block stands on the votes that its maker heard: its parent is of the view before, and each heard seat, of a
-- quorum, voted for it.
pub record JustifiedFast (d : Design) (bs : List Block) (p : Proposal) : Type 0 where
  pub parent_held : p.parent < length bs
  pub next_view : p.view ≡ suc (at bs p.parent).view
  pub enough : T (d.quorum p.heard.bits)
  pub voted : (s : ℕ) → Holds s p.heard.bits → Holds s (at bs p.parent).voters.bits

-- The latest letter of seat s for view v names block b (the literature: new-view message, with the highest vote).
pub record LatestLetter (ls : List Letter) (s v b : ℕ) : Type 0 where
  pub number : ℕ
  pub held : number < length ls
  pub from : (letter_at ls number).seat ≡ s
  pub for_view : (letter_at ls number).view ≡ v
  pub names : (letter_at ls number).block ≡ b
  pub none_later :
      (i : ℕ) → number < i → i < length ls → (letter_at ls i).seat ≡ s → (letter_at ls i).view ≢ v

-- A slow block stands on reports: each heard seat, of a quorum, has a letter for its view; the parent is reported, and
-- no reported block has a higher rank.
pub record JustifiedSlow (d : Design) (bs : List Block) (ls : List Letter) (p : Proposal) : Type 0 where
  pub parent_held : p.parent < length bs
  pub enough : T (d.quorum p.heard.bits)
  pub letters : (s : ℕ) → Holds s p.heard.bits → (b : ℕ) × LatestLetter ls s p.view b
  pub parent_reported : (s : ℕ) × Holds s p.heard.bits × LatestLetter ls s p.view p.parent
  pub unbeaten :
      (s b : ℕ) → Holds s p.heard.bits → LatestLetter ls s p.view b → RanksWithin (model d bs) b p.parent

-- What else a proposal needs: a view in range, room for a block, and no block of the view where its leader is kept.
pub record Unbarred (d : Design) (bs : List Block) (p : Proposal) : Type 0 where
  pub viewed : IsView p.view
  pub room : length bs < 256
  pub first_of_view : KeptSeat d (d.leads p.view) → (b : ℕ) → b < length bs → (at bs b).view ≢ p.view

-- Certificate, rank and commit point of the blocks of a book.

-- a quorum of the heard seats reported exactly c to b, b's parent stands on c, and c is later than the parent's certificate
pub record Certified (k : Book) (b c : ℕ) : Type 0 where
  pub on_chain : StandsOn k (k.parent b) c
  pub later : k.view (k.cert (k.parent b)) < k.view c
  pub quorum : ℕ
  pub enough : T (k.decides quorum)
  pub reported : (s : ℕ) → T (k.holds s quorum) → T (k.holds s (k.heard b)) × (k.report b s ≡ c)

-- a slow block has the certificate that its reports make, or else its parent's
pub record SlowMade (k : Book) (b : ℕ) : Type 0 where
  pub reports : (s : ℕ) → T (k.holds s (k.heard b)) → ReportRule k b (k.report b s)
  pub certificate : Certified k b (k.cert b) ⊎ ((k.cert b ≡ k.cert (k.parent b)) × ((c : ℕ) → Certified k b c → ⊥))

-- Every block of the book is as the rules say: its place on its chain, its maker, its certificate and its commit point.
-- The commit point moves up to the certificate of the certificate where that is good and later (Advances), and else
-- stays the parent's (Stays).
pub record WellMade (d : Design) (bs : List Block) : Type 0 where
  pub genesis_view : (at bs 0).view ≡ 0
  pub genesis_certificate : (at bs 0).certificate ≡ 0
  pub genesis_commit : (at bs 0).commit ≡ 0
  pub parent_before : (b : ℕ) → Made (model d bs) b → (at bs b).parent < b
  pub parent_view : (b : ℕ) → Made (model d bs) b → (at bs (at bs b).parent).view < (at bs b).view
  pub led : (b : ℕ) → Made (model d bs) b → (at bs b).maker ≡ d.leads (at bs b).view
  pub heard_enough : (b : ℕ) → Made (model d bs) b → T (d.quorum (at bs b).heard.bits)
  pub fast_made : (b : ℕ) → Made (model d bs) b → Fast (model d bs) b → FastRule (model d bs) b
  pub slow_made : (b : ℕ) → Made (model d bs) b → Slow (model d bs) b → SlowMade (model d bs) b
  pub commit_made : (b : ℕ) → Made (model d bs) b → Advances (model d bs) b ⊎ Stays (model d bs) b
