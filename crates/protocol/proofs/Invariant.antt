-- The invariant of a run: what holds after opening, and is kept by every call.
-- Assumes nothing.
use Rattle.std.proofs.Common.{◌≡◌, ℕ, ◌<◌, ◌≤◌, Bool, ◌⊎◌, List, length, get_or, subst, inl, inr, ⊎_elim, arith}
use Rattle.quorum.specs.Sets.{held_within}
use Rattle.quorum.specs.Seats.{Holds}
use Rattle.safety.specs.Book.{Made, Slow}
use Rattle.safety.specs.Sound.{Sound, SlowRule, OwnCert}
use Rattle.book.specs.Admission.{Design}
use Rattle.book.specs.Known.{Known}
use Rattle.book.specs.Pages.{at, letter_at}
use Rattle.book.specs.Rules.{model, WellMade, SlowMade, Certified}
use Rattle.book.specs.declared.block.Block.{Block}
use Rattle.letters.specs.declared.letter.Letter.{Letter}
use Rattle.protocol.specs.Safety.{Fit}
use Rattle.protocol.specs.State.{idle}
use Rattle.protocol.specs.declared.seat.Seat.{Seat}

-- a kept seat of a design: one of the n seats, and not open
pub record KeptIn (d : Design) (s : ℕ) : Type 0 where
  pub seated : s < d.seats
  pub honest : Holds s d.open_seats → ⊥

-- What a kept seat s has done: its votes rise, and its last vote is the highest.
pub record SeatRule (bs : List Block) (s : ℕ) (seat : Seat) : Type 0 where
  pub vote_held : seat.vote < length bs
  pub voted_last : Holds s (at bs seat.vote).voters.bits
  pub last_highest :
      (x : ℕ) → x < length bs → Holds s (at bs x).voters.bits → ((at bs x).view < (at bs seat.vote).view) ⊎ (x ≡ seat.vote)
  pub votes_once :
      (x y : ℕ) → x < length bs → y < length bs → Holds s (at bs x).voters.bits → Holds s (at bs y).voters.bits →
      (at bs x).view ≡ (at bs y).view → x ≡ y
  pub view_reached : (at bs seat.vote).view ≤ seat.view
  -- its tip is a commit point
  pub tip_commit : (b : ℕ) × (b < length bs) × (seat.tip ≡ (at bs b).commit)

-- What a letter of a kept seat s says: the last vote before its view.
pub record LetterRule (bs : List Block) (s : ℕ) (seat : Seat) (l : Letter) : Type 0 where
  pub past : l.view ≤ seat.view
  pub voted : Holds s (at bs l.block).voters.bits
  pub last :
      (x : ℕ) → x < length bs → Holds s (at bs x).voters.bits → (at bs x).view < l.view →
      ((at bs x).view < (at bs l.block).view) ⊎ (x ≡ l.block)

-- what a slow block has of a heard seat: the block that a letter of that seat for that view names
pub record Told (bs : List Block) (ls : List Letter) (b s : ℕ) : Type 0 where
  pub number : ℕ
  pub held : number < length ls
  pub from : (letter_at ls number).seat ≡ s
  pub for_view : (letter_at ls number).view ≡ (at bs b).view
  pub names : (letter_at ls number).block ≡ get_or (at bs b).reports s 0

-- The invariant of a state st of a cluster of design d.
pub record Inv (d : Design) (bs : List Block) (ls : List Letter) (seats : List Seat) : Type 0 where
  pub known : Known bs ls
  pub well : WellMade d bs
  pub table : length seats ≡ 64
  -- only the n seats vote
  pub voters_seated : (b s : ℕ) → b < length bs → Holds s (at bs b).voters.bits → s < d.seats
  -- a kept leader has one block of a view
  pub makes_once :
      (x y : ℕ) → (Holds (at bs x).maker d.open_seats → ⊥) → Made (model d bs) x → y < length bs →
      (at bs x).view ≡ (at bs y).view → x ≡ y
  pub seat_rule : (s : ℕ) → KeptIn d s → SeatRule bs s (get_or seats s idle)
  pub letter_rule :
      (s i : ℕ) → KeptIn d s → i < length ls → (letter_at ls i).seat ≡ s → LetterRule bs s (get_or seats s idle) (letter_at ls i)
  pub told : (b s : ℕ) → Made (model d bs) b → Slow (model d bs) b → Holds s (at bs b).heard.bits → Told bs ls b s

-- The book of such a state is sound, in the words of the safety argument.
module _ {d : Design} {most : ℕ} {tolerated : ℕ → Bool} (fit : Fit d most tolerated) {bs : List Block} {ls : List Letter} {seats : List Seat} (inv : Inv d bs ls seats) where
  own : {b : ℕ} → Certified (model d bs) b (at bs b).certificate → OwnCert (model d bs) b
  own r = record { on_chain = r.on_chain; later = r.later; quorum = r.quorum; enough = r.enough; reported = r.reported }

  slow_of : (b : ℕ) → SlowMade (model d bs) b → SlowRule (model d bs) b
  slow_of b r = record { reports = r.reports; certificate = ⊎_elim (λ c. inr (own c)) (λ x. inl x.0) r.certificate }

  -- a heard seat that is not open is a kept seat
  kept_heard : (s b : ℕ) → (Holds s d.open_seats → ⊥) → Made (model d bs) b → Holds s (at bs b).heard.bits → KeptIn d s
  kept_heard s b kept m h =
      record { seated = held_within d.seats s (at bs b).heard.bits (fit.rule.quorum_within (at bs b).heard.bits (inv.well.heard_enough b m)) h; honest = kept }

  pub sound : Sound (model d bs)
  sound =
      record {
        meet = λ p q dp dq. fit.rule.share p q d.open_seats dp dq fit.tolerable;
        genesis_view = inv.well.genesis_view;
        genesis_cert = inv.well.genesis_certificate;
        genesis_commit = inv.well.genesis_commit;
        parent_before = inv.well.parent_before;
        parent_view = inv.well.parent_view;
        heard_enough = inv.well.heard_enough;
        fast_rule = inv.well.fast_made;
        slow_rule = λ b m slow. slow_of b (inv.well.slow_made b m slow);
        commit_rule = inv.well.commit_made;
        reports_vote = λ s b kept m slow h.
            let t = inv.told b s m slow h in
            let k = kept_heard s b kept m h in
            subst (λ x. Holds s (at bs x).voters.bits) t.names (inv.letter_rule s t.number k t.held t.from).voted;
        reports_last = λ s b x kept m slow h i voted earlier.
            let t = inv.told b s m slow h in
            let k = kept_heard s b kept m h in
            let r = inv.letter_rule s t.number k t.held t.from in
            subst (λ y. ((at bs x).view < (at bs y).view) ⊎ (x ≡ y)) t.names (r.last x i voted (omega (arith, earlier, t.for_view)));
        votes_once = λ s x y kept i j vx vy e.
            (inv.seat_rule s (record { seated = inv.voters_seated x s i vx; honest = kept })).votes_once x y i j vx vy e;
        makes_once = inv.makes_once;
      }
