-- What a constructor made, by the part that matters.
-- Assumes nothing.
use Rattle.std.specs.Prelude.{Ok, Err, Result}

-- the same result, with what was made read by f
abbrev pub by : {X Y E : Type 0} → (X → Y) → Result X E → Result Y E
by f (Ok x) = Ok (f x)
by f (Err e) = Err e
