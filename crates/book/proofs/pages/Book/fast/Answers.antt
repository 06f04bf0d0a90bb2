use Rattle.std.proofs.Common.{◌≡◌, ◌+◌, [], ◌∷◌, ◌++◌, Ok, Err, vec_items, sym, refl, ap, ◌∙◌, subst, arith}
use Rattle.std.proofs.lemmas.Result.{err_from_is_err_and}
use Rattle.quorum.specs.Seats.{subset}
use Rattle.refusal.proofs.Replies.{passed_value}
use Rattle.refusal.specs.declared.Refusal.TheVariants.{HeardSeatSilent, ParentUnfit}
use Rattle.book.specs.Admission.{shared_reasons, entered}
use Rattle.book.specs.Designs.{design_of}
use Rattle.book.specs.Known.{Enters}
use Rattle.book.specs.Pages.{no_reports, at}
use Rattle.book.specs.declared.block.Kind.TheVariants.{Fast}
use Rattle.book.proofs.Admitted.{fast_admission, fast_refused}
use Rattle.book.proofs.Entries.{screened, can_enter, fast_accepted, fast_unvoted, fast_misplaced, fast_screened_out, fast_grown}
use Rattle.book.proofs.Growth.{no_report}
use Rattle.book.proofs.pages.Book.fast.Goals as goal

pub returns-in_err-maker : goal.returns-in_err-maker
returns-in_err-maker g c =
    let book = c.args.self.now in
    let bs = vec_items book.blocks in
    let ls = vec_items book.letters in
    let p = c.args.proposal.now in
    let d = design_of g.R.QuorumRule g.T.Rotation c.args.design.now in
    let given = err_from_is_err_and c.from_residual.result c.from_residual.ensures.1 in
    let e = c.in_err-maker.field-0.0 in
    let out = fast_screened_out d bs p e c.in_err-maker.ensures in
    fast_refused d bs ls book.known (g.met.R.QuorumRule.lawful c.args.design.now.rule.now) p _ e (given.1 ∙ ap Err given.2) out

pub returns-then-not-is_subset : goal.returns-then-not-is_subset
returns-then-not-is_subset g c =
    let book = c.args.self.now in
    let bs = vec_items book.blocks in
    let ls = vec_items book.letters in
    let p = c.args.proposal.now in
    let d = design_of g.R.QuorumRule g.T.Rotation c.args.design.now in
    let maker = c.in_ok-maker.maker in
    let passed = c.in_ok-maker.ensures in
    let test = sym (ap (λ b. subset p.heard.bits b.voters.bits) c.block-parent.ensures) ∙ sym c.is_subset.ensures in
    let out = fast_unvoted d bs p maker passed (test ∙ c.if-not-is_subset.true) in
    fast_refused d bs ls book.known (g.met.R.QuorumRule.lawful c.args.design.now.rule.now) p _ HeardSeatSilent refl out

pub returns-then-parent-proposal : goal.returns-then-parent-proposal
returns-then-parent-proposal g c =
    let book = c.args.self.now in
    let bs = vec_items book.blocks in
    let ls = vec_items book.letters in
    let p = c.args.proposal.now in
    let d = design_of g.R.QuorumRule g.T.Rotation c.args.design.now in
    let maker = c.in_ok-maker.maker in
    let passed = c.in_ok-maker.ensures in
    let test = sym (ap (λ b. subset p.heard.bits b.voters.bits) c.block-parent.ensures) ∙ sym c.is_subset.ensures in
    let out =
    fast_misplaced d bs p maker passed (test ∙ c.if-not-is_subset.false)
    (λ e. c.if-parent-proposal.true (ap (λ b. b.view + 1) c.block-parent.ensures ∙ e)) in
    fast_refused d bs ls book.known (g.met.R.QuorumRule.lawful c.args.design.now.rule.now) p _ ParentUnfit refl out

pub enter-requires-clause-enters : goal.enter-requires-clause-enters
unfolding no_reports
enter-requires-clause-enters g c =
    let book = c.args.self.now in
    let bs = vec_items book.blocks in
    let ls = vec_items book.letters in
    let p = c.args.proposal.now in
    let d = design_of g.R.QuorumRule g.T.Rotation c.args.design.now in
    let s = screened d bs p c.in_ok-maker.maker (d.leads p.view) c.in_ok-maker.ensures in
    let next : (at bs p.parent).view + 1 ≡ p.view = omega (arith, ap (λ b. b.view) c.block-parent.ensures, c.if-parent-proposal.false) in
    subst (Enters bs) (sym c.proposed-block.ensures)
    (can_enter bs (vec_items book.letters) book.known p c.in_ok-maker.maker Fast no_reports p.parent s.viewed.1 s.parent_held (omega (arith, next)) s.parent_held (λ k. omega (arith, no_report k, s.parent_held)))

pub returns : goal.returns
unfolding no_reports
returns g c =
    let book = c.args.self.now in
    let bs = vec_items book.blocks in
    let ls = vec_items book.letters in
    let p = c.args.proposal.now in
    let d = design_of g.R.QuorumRule g.T.Rotation c.args.design.now in
    let next : (at bs p.parent).view + 1 ≡ p.view = omega (arith, ap (λ b. b.view) c.block-parent.ensures, c.if-parent-proposal.false) in
    let voted = sym (ap (λ b. subset p.heard.bits b.voters.bits) c.block-parent.ensures) ∙ sym c.is_subset.ensures ∙ c.if-not-is_subset.false in
    let in_book = fast_accepted d bs p c.in_ok-maker.maker c.in_ok-maker.ensures voted next in
    let leader = passed_value (shared_reasons d bs p) c.in_ok-maker.maker (d.leads p.view) c.in_ok-maker.ensures in
    fast_admission d bs ls book.known (g.met.R.QuorumRule.lawful c.args.design.now.rule.now) p _ _ _
    (ap Ok c.enter.ensures.number ∙ sym in_book)
    (c.enter.ensures.blocks
    ∙ ap (λ b. bs ++ b ∷ []) (c.proposed-block.ensures ∙ ap (λ m. entered bs m p Fast no_reports p.parent) leader)
    ∙ sym (fast_grown d bs p in_book))
    c.enter.ensures.letters
