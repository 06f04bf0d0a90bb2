-- Views, who leads them, and when a seat leads next.
-- Assumes nothing.
use Rattle.std.specs.Prelude.{◌≡◌, ℕ, ◌<◌, ◌≤◌, Bool, cond, ◌&&◌, Some, None, Option, ◌≢◌, nat_le}

-- A view is a numbered try at one proposal (the literature: view, round); there are this many, counted from 1.
abbrev pub last_view : ℕ
last_view = 1000000

abbrev pub is_view : ℕ → Bool
is_view v = nat_le 1 v && nat_le v last_view

abbrev pub IsView : ℕ → Type 0
IsView v = (1 ≤ v) × (v ≤ last_view)

-- the seat that leads v, where v is a view; `leads` says who leads each view
abbrev pub leader_of : (ℕ → ℕ) → ℕ → Option ℕ
leader_of leads v = cond (is_view v) (Some (leads v)) None

-- View v is the first at or after `from` that the seat leads.
pub record FirstTurn (leads : ℕ → ℕ) (seat from v : ℕ) : Type 0 where
  pub not_before : from ≤ v
  pub not_beyond : v ≤ last_view
  pub led : leads v ≡ seat
  pub none_earlier : (u : ℕ) → from ≤ u → u < v → leads u ≢ seat

-- What is told of the next turn of a seat, of n, from a view on: the first that it leads, or that there is none. A view
-- out of range or a seat not below n has none.
abbrev pub NextTurn : ℕ → (ℕ → ℕ) → ℕ → ℕ → Option ℕ → Type 0
NextTurn n leads seat from (Some v) = IsView from × (seat < n) × FirstTurn leads seat from v
NextTurn n leads seat from None = (v : ℕ) → IsView from → seat < n → FirstTurn leads seat from v → ⊥

-- No two answers are both the next turn.
abbrev pub OneNextTurn : Type 0
OneNextTurn =
    (n : ℕ) (leads : ℕ → ℕ) (seat from : ℕ) (x y : Option ℕ) →
    NextTurn n leads seat from x → NextTurn n leads seat from y → x ≡ y
