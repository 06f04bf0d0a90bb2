-- The wait is computed from the seat that leads now, and the seat leads at its end and not before.
use Rattle.std.proofs.Common.{◌+◌, ◌-◌, ◌%◌, ap, ◌∙◌, arith}
use Rattle.rotation.specs.Robin.{robin_leads}
use Rattle.rotation.proofs.Cycles.{robin_turn}
use Rattle.rotation.proofs.Leaders.{leader_told}
use Rattle.rotation.proofs.robin.RoundRobinRotation.next_turn.Goals as goal

pub returns-then-turn-gt-LAST_VIEW : goal.returns-then-turn-gt-LAST_VIEW
returns-then-turn-gt-LAST_VIEW c =
    let n = c.args.self.now.seats in
    let first = c.args.self.now.first in
    let t = leader_told (robin_leads n first) c.args.from _ c.in_ok-current.ensures in
    let w = c.from.ensures ∙ ap (λ x. (c.args.seat + n - x) % n) t.1 in
    let turn = robin_turn n first c.args.seat c.args.from c.if-seat-self.false t.0.0 c.from.result w in
    λ v viewed seated f. turn.1 v f.not_before (omega (arith, f.not_beyond)) f.led

pub returns-else-turn-gt-LAST_VIEW : goal.returns-else-turn-gt-LAST_VIEW
returns-else-turn-gt-LAST_VIEW c =
    let n = c.args.self.now.seats in
    let first = c.args.self.now.first in
    let t = leader_told (robin_leads n first) c.args.from _ c.in_ok-current.ensures in
    let w = c.from.ensures ∙ ap (λ x. (c.args.seat + n - x) % n) t.1 in
    let turn = robin_turn n first c.args.seat c.args.from c.if-seat-self.false t.0.0 c.from.result w in (
      t.0,
      c.if-seat-self.false,
      record { not_before = omega arith; not_beyond = c.if-turn-gt-LAST_VIEW.false; led = turn.0; none_earlier = turn.1 },
    )
