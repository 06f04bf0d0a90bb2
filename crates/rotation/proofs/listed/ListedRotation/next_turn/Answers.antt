-- What was looked at up to the answer, or in one whole pass, is not led by the seat.
use Rattle.std.proofs.Common.{◌≡◌, ◌≢◌, ◌≤◌, length, vec_items, sym, ◌∙◌, arith, rules, tests}
use Rattle.std.proofs.lemmas.Iterator.{first_from_Range}
use Rattle.rotation.specs.Listing.{list_leads}
use Rattle.rotation.proofs.Entries.{turn_found}
use Rattle.rotation.proofs.Leaders.{view_passed}
use Rattle.rotation.proofs.listed.ListedRotation.next_turn.Goals as goal

pub returns : goal.returns
returns c =
    let order = vec_items c.args.self.now.order in
    let some : 1 ≤ length order = omega (arith, c.args.self.now.some, c.args.self.now.order.ok.0) in
    turn_found _ order c.args.seat c.args.from _ (view_passed c.args.from (sym c.is_view.ensures ∙ c.if-not-is_view.false))
    c.if-seat-self.false some (omega (arith, c.min-end.ensures, c.len.ensures, c.args.self.now.order.ok.0)) c.find.result
    (first_from_Range _ _ _ c.find.result (λ v. list_leads order v ≡ c.args.seat) (λ v. list_leads order v ≢ c.args.seat) c.find.ensures.ran (λ x q k. search (rules, tests)) (λ x q k. search (rules, tests)))
