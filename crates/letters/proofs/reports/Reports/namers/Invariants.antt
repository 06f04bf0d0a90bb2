use Rattle.std.proofs.Common.{◌≡◌}
use Rattle.letters.specs.Named.{reports_it}
use Rattle.letters.specs.Searches.{set_where}
use Rattle.letters.proofs.reports.Reports.namers.Given as goal

abbrev pub invariant-loop-seat : goal.invariant-loop-seat
invariant-loop-seat l = l.set.bits ≡ set_where (reports_it l.self.blocks l.self.heard.bits l.block) l.seat
