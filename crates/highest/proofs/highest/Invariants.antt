use Rattle.std.proofs.Common.{◌≡◌, ◌<◌, ◌⊎◌, length}
use Rattle.std.specs.List.{IsFirstBest}
use Rattle.highest.specs.Row.{above}
use Rattle.highest.proofs.highest.Given as goal

-- nothing is looked at yet, or the best so far is the first of the highest of what was
abbrev pub invariant-loop-place : goal.invariant-loop-place
invariant-loop-place g l =
    (l.best < length l.row)
    × (((l.place ≡ 0) × (l.best ≡ 0)) ⊎ IsFirstBest (above g.T.Ord.cmp) l.row l.place l.best)
