use Rattle.std.proofs.Common.{true, false, get_or, set, Err, vec_items, sym, ap, ◌∙◌, subst, arith}
use Rattle.std.proofs.lemmas.Result.{err_from_is_err_and}
use Rattle.book.specs.Changes.{vote_after}
use Rattle.book.proofs.Extends.{extends_vote}
use Rattle.protocol.specs.Seated.{Seated}
use Rattle.protocol.specs.State.{idle}
use Rattle.protocol.specs.declared.seat.Seat.{Seat}
use Rattle.protocol.proofs.Outcomes.{due_is, same_state, show_refused, show_passed}
use Rattle.protocol.proofs.Seating.{seated_extends, seated_set, tip_held}
use Rattle.protocol.proofs.inner.Inner.show.Goals as goal

pub returns-in_err-tip : goal.returns-in_err-tip
returns-in_err-tip g c =
    let e = c.in_err-tip.field-0.0 in
    let given = err_from_is_err_and c.from_residual.result c.from_residual.ensures.1 in
    let refused = show_refused g.R.QuorumRule c.args.rule.now c.args.self.now c.args.seat c.args.block e c.in_err-tip.ensures.reply in
    record { reply = λ leads. given.1 ∙ ap Err given.2 ∙ (refused leads).0; after = λ leads. (refused leads).1 }

pub invariant_of-self : goal.invariant_of-self
invariant_of-self g c =
    let inner = c.args.self.now in
    let bs = vec_items inner.book.blocks in
    let seated = inner.seated in
    let before = get_or inner.seats c.args.seat idle in
    let tip = tip_held g.R.QuorumRule c.args.rule.now inner c.args.seat c.args.block c.in_ok-tip.tip c.in_ok-tip.ensures.reply c.in_ok-tip.ensures.held.1 in
    record { seated = seated_set bs inner.seats c.args.seat (record { view = before.view; vote = before.vote; tip = c.in_ok-tip.tip }) seated (seated.votes c.args.seat) tip (seated.views c.args.seat) }

pub returns-then-not-votes : goal.returns-then-not-votes
returns-then-not-votes g c =
    let due = due_is c.args.self.now c.args.seat c.args.block _ _ c.view_of-view.ensures c.votes.ensures in
    let passed = show_passed g.R.QuorumRule c.args.rule.now c.args.self.now c.args.seat c.args.block false c.in_ok-tip.tip (due ∙ c.if-not-votes.true) c.in_ok-tip.ensures.reply in
    record { reply = λ leads. (passed leads).0; after = λ leads. (passed leads).1 }

pub invariant_of-self-2 : goal.invariant_of-self-2
invariant_of-self-2 g c =
    let inner = c.args.self.now in
    let bs = vec_items inner.book.blocks in
    let held = c.in_ok-tip.ensures.held.1 in
    let extended = extends_vote bs c.args.seat c.args.block in
    let tip = tip_held g.R.QuorumRule c.args.rule.now inner c.args.seat c.args.block c.in_ok-tip.tip c.in_ok-tip.ensures.reply held in
    let me : Seat = record { view = c.view_of-view.result; vote = c.args.block; tip = c.in_ok-tip.tip } in
    let cs = vote_after bs c.args.seat c.args.block in
    let then =
    seated_set cs inner.seats c.args.seat me (seated_extends inner.seats extended inner.seated)
    (omega (arith, held, extended.longer))
    (omega (arith, tip, extended.longer))
    (omega (arith, c.view_of-view.ensures, (extended.each c.args.block held).view)) in
    record { seated = subst (λ xs. Seated xs (set inner.seats c.args.seat me)) (sym c.add_vote.ensures.blocks) then }

pub returns : goal.returns
returns g c =
    let due = due_is c.args.self.now c.args.seat c.args.block _ _ c.view_of-view.ensures c.votes.ensures in
    let passed = show_passed g.R.QuorumRule c.args.rule.now c.args.self.now c.args.seat c.args.block true c.in_ok-tip.tip (due ∙ c.if-not-votes.false) c.in_ok-tip.ensures.reply in
    let seats = ap (λ v. set c.args.self.now.seats c.args.seat (record { view = v; vote = c.args.block; tip = c.in_ok-tip.tip })) c.view_of-view.ensures in
    record { reply = λ leads. (passed leads).0; after = λ leads. same_state c.add_vote.ensures.blocks c.add_vote.ensures.letters seats ∙ (passed leads).1 }
