use Rattle.std.proofs.Common.{not, ◌||◌, vec_items, sym, ap, ◌∙◌, arith}
use Rattle.book.specs.Admission.{any_below, reports_higher}
use Rattle.book.proofs.Reports.{gathered_held, gathered_outrank}
use Rattle.book.proofs.pages.Book.is_unfit.Goals as goal

pub is_outranked-requires-clause-reports_held : goal.is_outranked-requires-clause-reports_held
is_outranked-requires-clause-reports_held c =
    let book = c.args.self.now in
    let p = c.args.proposal.now in
    λ s. let held = gathered_held _ _ book.known p.heard p.view _ c.requires.told s in omega (arith, held, book.blocks.ok.0)

pub returns-else-not-contains : goal.returns-else-not-contains
returns-else-not-contains c =
    let book = c.args.self.now in
    let bs = vec_items book.blocks in
    let p = c.args.proposal.now in
    let r = c.args.reports.now in
    c.is_outranked.ensures ∙ gathered_outrank _ _ book.known p.heard p.view _ c.requires.told p.parent
    ∙ sym (ap (λ b. not b || any_below (reports_higher bs r.blocks r.heard.bits p.parent) 64) (sym c.contains.ensures ∙ c.if-not-contains.false))
