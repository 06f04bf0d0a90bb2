use Rattle.std.proofs.Common.{not, [], ◌∷◌, ◌++◌, Ok, Err, vec_items, sym, refl, ap, ◌∙◌, subst, ap₂, arith}
use Rattle.std.proofs.lemmas.Result.{err_from_is_err_and}
use Rattle.std.proofs.lemmas.Bool.{or_parts, not-false}
use Rattle.refusal.proofs.Replies.{passed_value, told_err, told_ok}
use Rattle.refusal.specs.declared.Refusal.TheVariants.{HeardSeatSilent, ParentUnfit}
use Rattle.book.specs.Admission.{shared_reasons, entered, any_below, silent, reports_it, reports_higher, reports_of, slow_certificate}
use Rattle.book.specs.Designs.{design_of}
use Rattle.book.specs.Known.{Enters}
use Rattle.book.specs.declared.block.Kind.TheVariants.{Slow}
use Rattle.book.proofs.Admitted.{slow_admission, slow_refused}
use Rattle.book.proofs.Entries.{screened, can_enter, slow_accepted, slow_screened_out, slow_silent, slow_unfit, slow_grown, slow_certificate_held}
use Rattle.book.proofs.Reports.{reported_earlier, gathered_held, gathered_unfit}
use Rattle.letters.specs.Letters.{gathered}
use Rattle.letters.specs.declared.reports.Reports.{Reports}
use Rattle.book.proofs.pages.Book.slow.Goals as goal

pub returns-in_err-maker : goal.returns-in_err-maker
returns-in_err-maker g c =
    let book = c.args.self.now in
    let bs = vec_items book.blocks in
    let ls = vec_items book.letters in
    let p = c.args.proposal.now in
    let d = design_of g.R.QuorumRule g.T.Rotation c.args.design.now in
    let given = err_from_is_err_and c.from_residual.result c.from_residual.ensures.1 in
    let e = c.in_err-maker.field-0.0 in
    let out = slow_screened_out d bs ls p e c.in_err-maker.ensures in
    slow_refused d bs ls book.known (g.met.R.QuorumRule.lawful c.args.design.now.rule.now) p _ e (given.1 ∙ ap Err given.2) out

pub returns-in_err-reports : goal.returns-in_err-reports
returns-in_err-reports g c =
    let book = c.args.self.now in
    let bs = vec_items book.blocks in
    let ls = vec_items book.letters in
    let p = c.args.proposal.now in
    let d = design_of g.R.QuorumRule g.T.Rotation c.args.design.now in
    let maker = c.in_ok-maker.maker in
    let passed = c.in_ok-maker.ensures in
    let given = err_from_is_err_and c.from_residual-in_err-reports.result c.from_residual-in_err-reports.ensures.1 in
    let told = told_err (silent ls p.heard.bits p.view) HeardSeatSilent c.in_err-reports.field-0.0 (gathered ls p.heard p.view) c.in_err-reports.ensures in
    let out = slow_silent d bs ls p maker passed told.0 in
    slow_refused d bs ls book.known (g.met.R.QuorumRule.lawful c.args.design.now.rule.now) p _ HeardSeatSilent (given.1 ∙ ap Err (given.2 ∙ told.1)) out

pub returns-then-is_unfit : goal.returns-then-is_unfit
returns-then-is_unfit g c =
    let book = c.args.self.now in
    let bs = vec_items book.blocks in
    let ls = vec_items book.letters in
    let p = c.args.proposal.now in
    let d = design_of g.R.QuorumRule g.T.Rotation c.args.design.now in
    let maker = c.in_ok-maker.maker in
    let passed = c.in_ok-maker.ensures in
    let reports = reports_of ls p.heard.bits p.view in
    let told = told_ok (silent ls p.heard.bits p.view) HeardSeatSilent c.in_ok-reports.reports (gathered ls p.heard p.view) c.in_ok-reports.ensures in
    let out = slow_unfit d bs ls p maker passed told.0 (gathered_unfit bs ls book.known p.heard p.view _ told.1 p.parent ∙ sym c.is_unfit.ensures ∙ c.if-is_unfit.true) in
    slow_refused d bs ls book.known (g.met.R.QuorumRule.lawful c.args.design.now.rule.now) p _ ParentUnfit refl out

pub proposed-block-requires-clause-certificate_held : goal.proposed-block-requires-clause-certificate_held
proposed-block-requires-clause-certificate_held g c =
    let book = c.args.self.now in
    let bs = vec_items book.blocks in
    let ls = vec_items book.letters in
    let p = c.args.proposal.now in
    let d = design_of g.R.QuorumRule g.T.Rotation c.args.design.now in
    let maker = c.in_ok-maker.maker in
    let passed = c.in_ok-maker.ensures in
    let s = screened d bs p maker (d.leads p.view) passed in
    let held = slow_certificate_held d.quorum bs ls book.known p.parent c.in_ok-reports.reports.blocks c.in_ok-reports.reports.heard.bits s.parent_held in
    omega (arith, held, c.slow_certificate-certificate.ensures, book.blocks.ok.0)

pub enter-requires-clause-enters : goal.enter-requires-clause-enters
enter-requires-clause-enters g c =
    let book = c.args.self.now in
    let bs = vec_items book.blocks in
    let ls = vec_items book.letters in
    let p = c.args.proposal.now in
    let d = design_of g.R.QuorumRule g.T.Rotation c.args.design.now in
    let maker = c.in_ok-maker.maker in
    let passed = c.in_ok-maker.ensures in
    let reports = reports_of ls p.heard.bits p.view in
    let told = told_ok (silent ls p.heard.bits p.view) HeardSeatSilent c.in_ok-reports.reports (gathered ls p.heard p.view) c.in_ok-reports.ensures in
    let s = screened d bs p maker (d.leads p.view) passed in
    let fit = gathered_unfit bs ls book.known p.heard p.view _ told.1 p.parent ∙ sym c.is_unfit.ensures ∙ c.if-is_unfit.false in
    let parts = or_parts (not (any_below (reports_it reports p.heard.bits p.parent) 64)) (any_below (reports_higher bs reports p.heard.bits p.parent) 64) fit in
    let earlier = reported_earlier bs ls book.known p.heard.bits p.view p.parent told.0 (not-false (any_below (reports_it reports p.heard.bits p.parent) 64) parts.0) in
    let held = slow_certificate_held d.quorum bs ls book.known p.parent c.in_ok-reports.reports.blocks c.in_ok-reports.reports.heard.bits s.parent_held in
    subst (Enters bs) (sym c.proposed-block.ensures)
    (can_enter bs ls book.known p maker Slow c.in_ok-reports.reports.blocks c.slow_certificate-certificate.result s.viewed.1 s.parent_held earlier (omega (arith, held, c.slow_certificate-certificate.ensures)) (gathered_held bs ls book.known p.heard p.view _ told.1))

pub returns : goal.returns
returns g c =
    let book = c.args.self.now in
    let bs = vec_items book.blocks in
    let ls = vec_items book.letters in
    let p = c.args.proposal.now in
    let d = design_of g.R.QuorumRule g.T.Rotation c.args.design.now in
    let maker = c.in_ok-maker.maker in
    let passed = c.in_ok-maker.ensures in
    let reports = reports_of ls p.heard.bits p.view in
    let told = told_ok (silent ls p.heard.bits p.view) HeardSeatSilent c.in_ok-reports.reports (gathered ls p.heard p.view) c.in_ok-reports.ensures in
    let fit = gathered_unfit bs ls book.known p.heard p.view _ told.1 p.parent ∙ sym c.is_unfit.ensures ∙ c.if-is_unfit.false in
    let in_book = slow_accepted d bs ls p maker passed told.0 fit in
    let leader = passed_value (shared_reasons d bs p) maker (d.leads p.view) passed in
    let certificate = c.slow_certificate-certificate.ensures ∙ ap (λ (r : Reports). slow_certificate d.quorum bs p.parent r.blocks r.heard.bits) told.1 in
    slow_admission d bs ls book.known (g.met.R.QuorumRule.lawful c.args.design.now.rule.now) p _ _ _
    (ap Ok c.enter.ensures.number ∙ sym in_book)
    (c.enter.ensures.blocks
    ∙ ap (λ b. bs ++ b ∷ []) (c.proposed-block.ensures ∙ ap (λ m. entered bs m p Slow c.in_ok-reports.reports.blocks c.slow_certificate-certificate.result) leader ∙ ap₂ (λ (r : Reports) t. entered bs (d.leads p.view) p Slow r.blocks t) told.1 certificate)
    ∙ sym (slow_grown d bs ls p in_book))
    c.enter.ensures.letters
