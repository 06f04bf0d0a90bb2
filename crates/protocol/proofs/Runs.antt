-- Every call keeps the invariant, and lets the cluster only grow; so does every run.
-- Assumes nothing.
use Rattle.std.proofs.Common.{◌≡◌, ℕ, ◌<◌, ◌≤◌, Bool, true, false, cond, ltb, leb, List, [], ◌∷◌, ◌++◌, length, get_or, set, Ok, Err, Result, sym, refl, ap, ◌∙◌, subst, inl, inr, arith, get_or-set_other, get_or-set_same}
use Rattle.std.proofs.lemmas.Bool.{cases_eq, leb-true, leb-false, ltb-true, and_parts, not-false}
use Rattle.quorum.specs.Seats.{Holds}
use Rattle.refusal.proofs.Replies.{none_applies}
use Rattle.refusal.specs.declared.Refusal.{Refusal}
use Rattle.safety.specs.Book.{StandsOn, self}
use Rattle.safety.proofs.Chains.{stands_trans}
use Rattle.book.specs.Admission.{conflict, fast_reply, slow_reply, fast_block, slow_block, grown}
use Rattle.book.specs.Changes.{vote_after}
use Rattle.book.specs.Known.{Known}
use Rattle.book.specs.Pages.{at, stands}
use Rattle.book.specs.Rules.{model, WellMade, JustifiedSlow}
use Rattle.book.specs.declared.block.Block.{Block}
use Rattle.letters.specs.declared.letter.Letter.{Letter}
use Rattle.book.specs.declared.block.Proposal.{Proposal}
use Rattle.book.proofs.Admitted.{fast_known, slow_known, fast_lawful, slow_lawful}
use Rattle.book.proofs.Extends.{Extends, extends_refl, extends_trans, extends_push, extends_vote, stands_up}
use Rattle.book.proofs.Growth.{at_new}
use Rattle.book.proofs.Justify.{fast_justified, slow_justified}
use Rattle.letters.proofs.Truth.{true_from, from_true}
use Rattle.book.proofs.Reflect.{not_from, stands_relates}
use Rattle.book.proofs.Reports.{heard_report, letter_latest}
use Rattle.quorum.specs.Sets.{held_within}
use Rattle.protocol.specs.Calls.{reply, after, changed, run, votes, show_after, expire_after, show_reasons, expire_reasons, vote_reasons, letter_reasons, with_blocks, with_letters}
use Rattle.protocol.specs.Safety.{Fit}
use Rattle.protocol.specs.State.{State, seat_at, idle}
use Rattle.protocol.specs.declared.call.Call.{Call}
use Rattle.protocol.specs.declared.call.Call.TheVariants.{Fast, Slow as SlowCall, Show, Expire, Vote, Letter as Write}
use Rattle.protocol.specs.declared.seat.Seat.{Seat}
use Rattle.protocol.proofs.Invariant.{KeptIn, Told, Inv}
use Rattle.protocol.proofs.Keeping.{inv_push, inv_vote, inv_letter, inv_expire, inv_shown_only, inv_shown_voted}

abbrev pub InvAt : State → Type 0
InvAt st = Inv st.design st.blocks st.letters st.seats

-- One moment and a later one: the design stays, the book is extended, and tips only move up.
pub record Grows (st st' : State) : Type 0 where
  pub design_is : st'.design ≡ st.design
  pub blocks : Extends st.blocks st'.blocks
  pub tips : (s : ℕ) → KeptIn st.design s → StandsOn (model st.design st'.blocks) (seat_at st' s).tip (seat_at st s).tip

pub grows_refl : (st : State) → Grows st st
grows_refl st = record { design_is = refl; blocks = extends_refl st.blocks; tips = λ s k. self }

-- what a call must show, for each reply
abbrev pub KeptBy : State → State → Type 0
KeptBy st st' = InvAt st' × Grows st st'

module _ (st : State) {most : ℕ} {tolerated : ℕ → Bool} (fit : Fit st.design most tolerated) (inv : InvAt st) where
  small : st.design.seats ≤ 64
  small = omega (arith, fit.rule.seats_fit, fit.rule.most_fits)

  unchanged : KeptBy st st
  unchanged = (inv, grows_refl st)

  -- more blocks alone
  more_blocks : (bs : List Block) → Inv st.design bs st.letters st.seats → Extends st.blocks bs → KeptBy st (with_blocks st bs)
  more_blocks bs i e = (i, record { design_is = refl; blocks = e; tips = λ s k. self })

  fast_keeps : (p : Proposal) → KeptBy st (after st (Fast p))
  fast_keeps p = by (fast_reply st.design st.blocks p) refl
    where
      by : (q : Result ℕ Refusal) → fast_reply st.design st.blocks p ≡ q → KeptBy st (with_blocks st (grown (fast_reply st.design st.blocks p) st.blocks (fast_block st.design st.blocks p)))
      by (Err x) e = subst (λ r. KeptBy st (with_blocks st (grown r st.blocks (fast_block st.design st.blocks p)))) (sym e) unchanged
      by (Ok z) e =
          let j = fast_justified st.design st.blocks p fit.rule z e in
          let b = fast_block st.design st.blocks p in
          let is = ap (λ r. grown r st.blocks b) e in
          let known = subst (λ cs. Known cs st.letters) is (fast_known st.design st.blocks st.letters inv.known fit.rule p) in
          let well = subst (WellMade st.design) is (fast_lawful st.design st.blocks st.letters inv.known fit.rule p inv.well) in
          subst (λ r. KeptBy st (with_blocks st (grown r st.blocks b))) (sym e)
          (more_blocks (st.blocks ++ b ∷ []) (inv_push inv b known well refl j.1.first_of_view (λ s slow h. absurd slow)) (extends_push st.blocks b))

  slow_keeps : (p : Proposal) → KeptBy st (after st (SlowCall p))
  slow_keeps p = by (slow_reply st.design st.blocks st.letters p) refl
    where
      tells : JustifiedSlow st.design st.blocks st.letters p → (s : ℕ) → Holds s p.heard.bits → Told (st.blocks ++ slow_block st.design st.blocks st.letters p ∷ []) st.letters (length st.blocks) s
      tells j s h =
          let l = j.letters s h in
          let here = at_new st.blocks (slow_block st.design st.blocks st.letters p) in
          let seated = held_within st.design.seats s p.heard.bits (fit.rule.quorum_within p.heard.bits j.enough) h in
          let read = heard_report st.blocks st.letters inv.known p.heard.bits p.view s l.0 (true_from _ h) (omega (arith, seated, small)) (letter_latest st.letters s p.view l.0 l.1) in
          record {
            number = l.1.number;
            held = l.1.held;
            from = l.1.from;
            for_view = l.1.for_view ∙ ap (λ x. x.view) (sym here);
            names = l.1.names ∙ sym read ∙ ap (λ x. get_or x.reports s 0) (sym here);
          }

      by : (q : Result ℕ Refusal) → slow_reply st.design st.blocks st.letters p ≡ q → KeptBy st (with_blocks st (grown (slow_reply st.design st.blocks st.letters p) st.blocks (slow_block st.design st.blocks st.letters p)))
      by (Err x) e = subst (λ r. KeptBy st (with_blocks st (grown r st.blocks (slow_block st.design st.blocks st.letters p)))) (sym e) unchanged
      by (Ok z) e =
          let j = slow_justified st.design st.blocks p fit.rule st.letters inv.known z e in
          let b = slow_block st.design st.blocks st.letters p in
          let is = ap (λ r. grown r st.blocks b) e in
          let known = subst (λ cs. Known cs st.letters) is (slow_known st.design st.blocks st.letters inv.known fit.rule p) in
          let well = subst (WellMade st.design) is (slow_lawful st.design st.blocks st.letters inv.known fit.rule p inv.well) in
          subst (λ r. KeptBy st (with_blocks st (grown r st.blocks b))) (sym e)
          (more_blocks (st.blocks ++ b ∷ []) (inv_push inv b known well refl j.1.first_of_view (λ s slow h. tells j.0 s h)) (extends_push st.blocks b))

  -- the tips after one seat's record is replaced
  tips_moved :
      (s : ℕ) (me : Seat) (bs : List Block) → s < 64 → StandsOn (model st.design bs) me.tip (seat_at st s).tip →
      (t : ℕ) → KeptIn st.design t → StandsOn (model st.design bs) (get_or (set st.seats s me) t idle).tip (seat_at st t).tip
  tips_moved s me bs l moved t k =
      elim (cases_eq t s) [
        | inl e ↦
            subst (λ u. StandsOn (model st.design bs) (get_or (set st.seats s me) u idle).tip (seat_at st u).tip) (sym e)
            (subst (λ x. StandsOn (model st.design bs) x.tip (seat_at st s).tip) (sym (get_or-set_same st.seats s me idle (omega (arith, l, inv.table)))) moved)
        | inr n ↦ subst (λ x. StandsOn (model st.design bs) x.tip (seat_at st t).tip) (sym (get_or-set_other st.seats s t me idle n)) self
      ]

  -- what an accepted showing has passed
  pub record Showing (s b : ℕ) : Type 0 where
    pub kept : KeptIn st.design s
    pub held_block : b < length st.blocks
    pub no_conflict : conflict st.blocks (at st.blocks b).commit (seat_at st s).tip ≡ false

  pub showing : (s b z : ℕ) → reply st (Show s b) ≡ Ok z → Showing s b
  showing s b z e =
      let (a, (c, (f, (g, end)))) = none_applies (show_reasons st s b) z (cond (votes st s b) 1 0) (sym e) in
      record {
        kept = record { seated = leb-false _ _ a; honest = not_from _ f };
        held_block = leb-false _ _ c;
        no_conflict = g;
      }

  show_keeps : (s b : ℕ) → KeptBy st (after st (Show s b))
  show_keeps s b = by (reply st (Show s b)) refl
    where
      moves : (h : b < length st.blocks) (t : Bool) → stands st.blocks (at st.blocks b).commit (seat_at st s).tip ≡ t →
          StandsOn (model st.design st.blocks) (cond t (at st.blocks b).commit (seat_at st s).tip) (seat_at st s).tip
      moves h true e = stands_relates st.design st.blocks inv.known.parents_before (at st.blocks b).commit (seat_at st s).tip (omega (arith, inv.known.commits_known b h)) e
      moves h false e = self

      pick :
          Showing s b → (v : Bool) → votes st s b ≡ v →
          KeptBy st
          (record {
            design = st.design;
            blocks = cond v (vote_after st.blocks s b) st.blocks;
            letters = st.letters;
            seats = set st.seats s (record {
              view = cond v (at st.blocks b).view (seat_at st s).view;
              vote = cond v b (seat_at st s).vote;
              tip = cond (stands st.blocks (at st.blocks b).commit (seat_at st s).tip) (at st.blocks b).commit (seat_at st s).tip;
            });
          })
      pick w true e =
          let t = stands st.blocks (at st.blocks b).commit (seat_at st s).tip in
          let parts = and_parts (leb (seat_at st s).view (at st.blocks b).view) (ltb (at st.blocks (seat_at st s).vote).view (at st.blocks b).view) e in
          let ext = extends_vote st.blocks s b in (
            inv_shown_voted inv small s b w.kept w.held_block t (leb-true _ _ parts.0) (ltb-true _ _ parts.1),
            record {
              design_is = refl;
              blocks = ext;
              tips = tips_moved s _ (vote_after st.blocks s b) (omega (arith, w.kept.seated, small)) (stands_up st.design ext inv.known.parents_before (moves w.held_block t refl));
            },
          )
      pick w false e =
          let t = stands st.blocks (at st.blocks b).commit (seat_at st s).tip in (
            inv_shown_only inv small s b w.kept w.held_block t,
            record {
              design_is = refl;
              blocks = extends_refl st.blocks;
              tips = tips_moved s _ st.blocks (omega (arith, w.kept.seated, small)) (moves w.held_block t refl);
            },
          )

      by : (q : Result ℕ Refusal) → reply st (Show s b) ≡ q → KeptBy st (changed (reply st (Show s b)) (show_after st s b) st)
      by (Err x) e = subst (λ r. KeptBy st (changed r (show_after st s b) st)) (sym e) unchanged
      by (Ok z) e = subst (λ r. KeptBy st (changed r (show_after st s b) st)) (sym e) (pick (showing s b z e) (votes st s b) refl)

  expire_keeps : (s v : ℕ) → KeptBy st (after st (Expire s v))
  expire_keeps s v = by (reply st (Expire s v)) refl
    where
      by : (q : Result ℕ Refusal) → reply st (Expire s v) ≡ q → KeptBy st (changed (reply st (Expire s v)) (expire_after st s v) st)
      by (Err x) e = subst (λ r. KeptBy st (changed r (expire_after st s v) st)) (sym e) unchanged
      by (Ok z) e =
          let (a, (c, (f, (g, end)))) = none_applies (expire_reasons st s v) z (seat_at st s).vote (sym e) in
          let kept : KeptIn st.design s = record { seated = leb-false _ _ a; honest = not_from _ f } in
          let below : s < 64 = omega (arith, kept.seated, small) in
          subst (λ r. KeptBy st (changed r (expire_after st s v) st)) (sym e) (
            inv_expire inv s kept below _ v (leb-false _ _ g) refl,
            record { design_is = refl; blocks = extends_refl st.blocks; tips = tips_moved s _ st.blocks below self },
          )

  vote_keeps : (s b : ℕ) → KeptBy st (after st (Vote s b))
  vote_keeps s b = by (reply st (Vote s b)) refl
    where
      by : (q : Result ℕ Refusal) → reply st (Vote s b) ≡ q → KeptBy st (changed (reply st (Vote s b)) (with_blocks st (vote_after st.blocks s b)) st)
      by (Err x) e = subst (λ r. KeptBy st (changed r (with_blocks st (vote_after st.blocks s b)) st)) (sym e) unchanged
      by (Ok z) e =
          let (a, (c, (f, end))) = none_applies (vote_reasons st s b) z _ (sym e) in
          subst (λ r. KeptBy st (changed r (with_blocks st (vote_after st.blocks s b)) st)) (sym e)
          (more_blocks (vote_after st.blocks s b) (inv_vote inv s b (leb-false _ _ c) (leb-false _ _ a) (from_true _ (not-false _ f))) (extends_vote st.blocks s b))

  letter_keeps : (l : Letter) → KeptBy st (after st (Write l))
  letter_keeps l = by (reply st (Write l)) refl
    where
      by : (q : Result ℕ Refusal) → reply st (Write l) ≡ q → KeptBy st (changed (reply st (Write l)) (with_letters st (st.letters ++ l ∷ [])) st)
      by (Err x) e = subst (λ r. KeptBy st (changed r (with_letters st (st.letters ++ l ∷ [])) st)) (sym e) unchanged
      by (Ok z) e =
          let (a, (c, (f, (g, (h, end))))) = none_applies (letter_reasons st l) z _ (sym e) in
          subst (λ r. KeptBy st (changed r (with_letters st (st.letters ++ l ∷ [])) st)) (sym e) (
            inv_letter inv l (leb-false _ _ c) (leb-false _ _ h) (from_true _ (not-false _ g)),
            record { design_is = refl; blocks = extends_refl st.blocks; tips = λ s k. self },
          )

  pub call_keeps : (c : Call) → KeptBy st (after st c)
  call_keeps (Fast p) = fast_keeps p
  call_keeps (SlowCall p) = slow_keeps p
  call_keeps (Show s b) = show_keeps s b
  call_keeps (Expire s v) = expire_keeps s v
  call_keeps (Vote s b) = vote_keeps s b
  call_keeps (Write l) = letter_keeps l

-- growth follows growth
pub grows_trans : {st su sv : State} → InvAt su → Grows st su → Grows su sv → Grows st sv
grows_trans {st} {su} {sv} inv p q =
    record {
      design_is = q.design_is ∙ p.design_is;
      blocks = extends_trans p.blocks q.blocks;
      tips = λ s k.
          let up = subst (λ d. StandsOn (model d sv.blocks) (seat_at sv s).tip (seat_at su s).tip) p.design_is (q.tips s (subst (λ d. KeptIn d s) (sym p.design_is) k)) in
          stands_trans up (stands_up st.design q.blocks inv.known.parents_before (p.tips s k));
    }

pub run_keeps : (cs : List Call) (st : State) {most : ℕ} {tolerated : ℕ → Bool} → Fit st.design most tolerated → InvAt st → KeptBy st (run st cs)
run_keeps [] st fit inv = (inv, grows_refl st)
run_keeps (c ∷ cs) st {most} {tolerated} fit inv =
    let (now, grew) = call_keeps st fit inv c in
    let (end, more) = run_keeps cs (after st c) (subst (λ d. Fit d most tolerated) (sym grew.design_is) fit) now in
    (end, grows_trans now grew more)
