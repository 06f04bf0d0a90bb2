use Rattle.std.proofs.Common.{sym, ap, ◌∙◌}
use Rattle.quorum.specs.Seats.{with_seat}
use Rattle.letters.proofs.Searches.{set_none, set_takes, set_skips}
use Rattle.letters.specs.Named.{reports_it}
use Rattle.letters.proofs.reports.Reports.namers.Goals as goal
use Rattle.letters.proofs.reports.Reports.namers.Goals.{then-tells, else-tells}

pub loop-seat-init : goal.loop-seat-init
loop-seat-init c = set_none _

pub loop-seat-preserved : goal.loop-seat-preserved
loop-seat-preserved c =
    let p = reports_it c.args.self.now.blocks c.args.self.now.heard.bits c.args.block in
    elim c.if-tells.branch [
      | then-tells w ↦
          ap (λ q. q.bits) w.set-is ∙ w.with-set.ensures ∙ ap (with_seat c.loop-seat.seat) c.loop-seat.invariant
          ∙ set_takes p c.loop-seat.seat c.loop-seat-test.true (sym c.tells.ensures ∙ w.if-tells.true)
      | else-tells w ↦
          ap (λ q. q.bits) w.set-is ∙ c.loop-seat.invariant
          ∙ set_skips p c.loop-seat.seat (sym c.tells.ensures ∙ w.if-tells.false)
    ]
