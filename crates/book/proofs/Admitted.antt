-- The promises of admission, from its two equations.
-- Assumes nothing.
use Rattle.std.proofs.Common.{◌≡◌, ℕ, Bool, true, false, List, length, is_ok, Ok, Err, Decides, Result, sym, refl, ap, ◌∙◌, subst, arith}
use Rattle.std.proofs.lemmas.Bool.{both_ways}
use Rattle.quorum.specs.Laws.{QuorumLaws}
use Rattle.refusal.proofs.Replies.{replied_least}
use Rattle.refusal.specs.Reasons.{Least}
use Rattle.refusal.specs.declared.Refusal.{Refusal}
use Rattle.book.specs.Admission.{Design, fast_reasons, slow_reasons, fast_reply, slow_reply, fast_block, slow_block, fast_blocks, slow_blocks, grown, reports_of, slow_certificate}
use Rattle.book.specs.Known.{Known}
use Rattle.book.specs.Pages.{no_reports}
use Rattle.book.specs.Promises.{FastAdmission, SlowAdmission}
use Rattle.book.specs.Rules.{JustifiedFast, JustifiedSlow, Unbarred, WellMade}
use Rattle.book.specs.declared.block.Block.{Block}
use Rattle.book.specs.declared.block.Kind.TheVariants.{Fast as FastKind, Slow as SlowKind}
use Rattle.letters.specs.declared.letter.Letter.{Letter}
use Rattle.book.specs.declared.block.Proposal.{Proposal}
use Rattle.book.proofs.Entries.{can_enter, fast_kept, slow_kept, slow_certificate_held}
use Rattle.book.proofs.Growth.{known_push, no_report}
use Rattle.book.proofs.Reports.{latest_held, letter_latest, reports_held}
use Rattle.book.proofs.Justify.{fast_justified, justified_fast, slow_justified, justified_slow}
use Rattle.book.proofs.Keeps.{well_fast, well_slow}

module _
    (d : Design) (bs : List Block) (ls : List Letter) (known : Known bs ls) {most : ℕ} {tolerated : ℕ → Bool}
    (laws : QuorumLaws most d.seats d.quorum tolerated) (p : Proposal)
  where
    fast_exact : Decides (is_ok (fast_reply d bs p)) (JustifiedFast d bs p × Unbarred d bs p)
    fast_exact = (tells (fast_reply d bs p) refl, λ j. ap is_ok (justified_fast d bs p laws j.0 j.1))
      where
        tells : (q : Result ℕ Refusal) → fast_reply d bs p ≡ q → is_ok q ≡ true → JustifiedFast d bs p × Unbarred d bs p
        tells (Ok z) e t = fast_justified d bs p laws z e
        tells (Err z) e t = absurd (both_ways false refl t)

    pub fast_lawful : WellMade d bs → WellMade d (fast_blocks d bs p)
    fast_lawful well = keeps (fast_reply d bs p) refl
      where
        keeps : (q : Result ℕ Refusal) → fast_reply d bs p ≡ q → WellMade d (grown q bs (fast_block d bs p))
        keeps (Ok z) e = well_fast d bs ls known laws well p (fast_justified d bs p laws z e).0
        keeps (Err z) e = well

    pub fast_admission :
        (r : Result ℕ Refusal) (bs' : List Block) (ls' : List Letter) → r ≡ fast_reply d bs p → bs' ≡ fast_blocks d bs p → ls' ≡ ls →
        FastAdmission d bs ls p r bs' ls'
    fast_admission r bs' ls' e f g =
        record {
          reply = e;
          blocks = f;
          letters = g;
          exact = subst (λ q. Decides (is_ok q) (JustifiedFast d bs p × Unbarred d bs p)) (sym e) fast_exact;
          least = subst (Least (fast_reasons d bs p)) (sym e) (replied_least 0 (fast_reasons d bs p) (length bs) tt);
          lawful = λ well. subst (WellMade d) (sym f) (fast_lawful well);
        }

    slow_exact : Decides (is_ok (slow_reply d bs ls p)) (JustifiedSlow d bs ls p × Unbarred d bs p)
    slow_exact = (tells (slow_reply d bs ls p) refl, λ j. ap is_ok (justified_slow d bs p laws ls known j.0 j.1))
      where
        tells : (q : Result ℕ Refusal) → slow_reply d bs ls p ≡ q → is_ok q ≡ true → JustifiedSlow d bs ls p × Unbarred d bs p
        tells (Ok z) e t = slow_justified d bs p laws ls known z e
        tells (Err z) e t = absurd (both_ways false refl t)

    pub slow_lawful : WellMade d bs → WellMade d (slow_blocks d bs ls p)
    slow_lawful well = keeps (slow_reply d bs ls p) refl
      where
        keeps : (q : Result ℕ Refusal) → slow_reply d bs ls p ≡ q → WellMade d (grown q bs (slow_block d bs ls p))
        keeps (Ok z) e = well_slow d bs ls known laws well p (slow_justified d bs p laws ls known z e).0
        keeps (Err z) e = well

    pub slow_admission :
        (r : Result ℕ Refusal) (bs' : List Block) (ls' : List Letter) → r ≡ slow_reply d bs ls p → bs' ≡ slow_blocks d bs ls p → ls' ≡ ls →
        SlowAdmission d bs ls p r bs' ls'
    slow_admission r bs' ls' e f g =
        record {
          reply = e;
          blocks = f;
          letters = g;
          exact = subst (λ q. Decides (is_ok q) (JustifiedSlow d bs ls p × Unbarred d bs p)) (sym e) slow_exact;
          least = subst (Least (slow_reasons d bs ls p)) (sym e) (replied_least 0 (slow_reasons d bs ls p) (length bs) tt);
          lawful = λ well. subst (WellMade d) (sym f) (slow_lawful well);
        }

    -- a refusal leaves all as it was
    pub fast_refused : (r : Result ℕ Refusal) (e : Refusal) → r ≡ Err e → fast_reply d bs p ≡ Err e → FastAdmission d bs ls p r bs ls
    fast_refused r e is out = fast_admission r bs ls (is ∙ sym out) (sym (fast_kept d bs p e out)) refl

    pub slow_refused : (r : Result ℕ Refusal) (e : Refusal) → r ≡ Err e → slow_reply d bs ls p ≡ Err e → SlowAdmission d bs ls p r bs ls
    slow_refused r e is out = slow_admission r bs ls (is ∙ sym out) (sym (slow_kept d bs ls p e out)) refl

    -- and the book stays known
    pub fast_known : Known (fast_blocks d bs p) ls
    fast_known = keeps (fast_reply d bs p) refl
      where
        keeps : (q : Result ℕ Refusal) → fast_reply d bs p ≡ q → Known (grown q bs (fast_block d bs p)) ls
        keeps (Ok z) e =
            let j = fast_justified d bs p laws z e in
            let hp = j.0.parent_held in
            known_push bs ls known (fast_block d bs p)
            (can_enter bs ls known p (d.leads p.view) FastKind no_reports p.parent j.1.viewed.1 hp (omega (arith, j.0.next_view)) hp (λ s. omega (arith, no_report s, hp)))
        keeps (Err z) e = known

    pub slow_known : Known (slow_blocks d bs ls p) ls
    slow_known = keeps (slow_reply d bs ls p) refl
      where
        keeps : (q : Result ℕ Refusal) → slow_reply d bs ls p ≡ q → Known (grown q bs (slow_block d bs ls p)) ls
        keeps (Ok z) e =
            let j = slow_justified d bs p laws ls known z e in
            let hp = j.0.parent_held in
            let told = j.0.parent_reported in
            let reports = reports_of ls p.heard.bits p.view in
            known_push bs ls known (slow_block d bs ls p)
            (can_enter bs ls known p (d.leads p.view) SlowKind reports (slow_certificate d.quorum bs p.parent reports p.heard.bits) j.1.viewed.1 hp
            (latest_held bs ls known p.heard.bits p.view told.0 p.parent (letter_latest ls told.0 p.view p.parent told.2)).1
            (slow_certificate_held d.quorum bs ls known p.parent reports p.heard.bits hp)
            (reports_held bs ls known p.heard.bits p.view))
        keeps (Err z) e = known
