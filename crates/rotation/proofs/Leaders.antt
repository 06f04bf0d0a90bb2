-- What an answer about a view's leader says.
-- Assumes nothing.
use Rattle.std.proofs.Common.{◌≡◌, ℕ, Bool, true, false, cond, leb, Some, None, refl, arith}
use Rattle.std.proofs.lemmas.Bool.{and_parts, leb-true}
use Rattle.rotation.specs.Turns.{is_view, IsView, last_view, leader_of}

given : (b : Bool) (s x : ℕ) → Some s ≡ cond b (Some x) None → (b ≡ true) × (s ≡ x)
given true s x e = (refl, cc)
given false s x e = let z : ◌≡◌ {A = ℕ} 0 1 = cc in absurd (omega arith)

pub view_passed : (v : ℕ) → is_view v ≡ true → IsView v
view_passed v e = let p = and_parts (leb 1 v) (leb v last_view) e in (leb-true 1 v p.0, leb-true v last_view p.1)

-- an answer names a view in range and its leader
pub leader_told : (leads : ℕ → ℕ) (v s : ℕ) → Some s ≡ leader_of leads v → IsView v × (s ≡ leads v)
leader_told leads v s e = let g = given (is_view v) s (leads v) e in (view_passed v g.0, g.1)
