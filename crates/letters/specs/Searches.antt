-- Searches over places, from 0 up or from the last down.
-- Assumes nothing.
use Rattle.std.specs.Prelude.{ℕ, zero, suc, ◌^◌, Bool, false, cond, ◌||◌, Some, None, Option}
use Rattle.quorum.specs.Seats.{union}

-- whether a test passes for some seat below n
unfoldable pub any_below : (ℕ → Bool) → ℕ → Bool
any_below p zero = false
any_below p (suc n) = p n || any_below p n

-- the value at the last place below n that passes a test
unfoldable pub last_below : (ℕ → Bool) → (ℕ → ℕ) → ℕ → Option ℕ
last_below p f zero = None
last_below p f (suc n) = cond (p n) (Some (f n)) (last_below p f n)

-- the seats below n for which a test passes
unfoldable pub set_where : (ℕ → Bool) → ℕ → ℕ
set_where p zero = 0
set_where p (suc n) = union (set_where p n) (cond (p n) (2 ^ n) 0)
