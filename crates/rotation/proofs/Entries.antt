-- The entries of a list of seats, and the list repeated.
-- Assumes nothing.
use Rattle.std.proofs.Common.{◌≡◌, ◌≢◌, ℕ, zero, suc, ◌+◌, ◌-◌, ◌%◌, ◌<◌, ◌≤◌, true, false, ◌&&◌, List, [], ◌∷◌, length, nat_lt, Some, None, Option, MatchOption, min, slice_index, refl, sym, ap, ap₂, ◌∙◌, mod-lt, arith}
use Rattle.std.proofs.Math.Nat.{add-mod-mod, mod-le}
use Rattle.std.proofs.lemmas.Bool.{and_left, and_right, lt-ltb, le-ltb}
use Rattle.rotation.specs.Listing.{all_below, list_leads}
use Rattle.rotation.specs.Turns.{IsView, NextTurn, last_view}

-- what the test of a list tells of its entries
pub all_below_from : (n : ℕ) (ss : List ℕ) → ((k : ℕ) → k < length ss → slice_index ss k < n) → all_below n ss ≡ true
all_below_from n [] f = refl
all_below_from n (s ∷ ss) f =
    ap₂ ◌&&◌ (lt-ltb s n (f 0 (omega arith))) (all_below_from n ss (λ k h. f (suc k) (omega arith)))

pub not_all_below : (n : ℕ) (ss : List ℕ) (k : ℕ) → k < length ss → n ≤ slice_index ss k → all_below n ss ≡ false
not_all_below n [] k h g = absurd (omega arith)
not_all_below n (s ∷ ss) zero h g = and_left (nat_lt s n) (all_below n ss) (le-ltb s n g)
not_all_below n (s ∷ ss) (suc k) h g = and_right (nat_lt s n) (all_below n ss) (not_all_below n ss k (omega arith) g)

-- d views on, only what d leaves over whole passes counts
pub repeats : (order : List ℕ) (v d : ℕ) → 1 ≤ v → list_leads order (v + d % length order) ≡ list_leads order (v + d)
repeats order v d h =
    let m = length order in
    let near : v + d % m - 1 ≡ (v - 1) + d % m = omega arith in
    let far : v + d - 1 ≡ (v - 1) + d = omega arith in
    ap (λ x. slice_index order (x % m)) near ∙ ap (λ x. slice_index order x) (add-mod-mod (v - 1) d m)
    ∙ ap (λ x. slice_index order (x % m)) (sym far)

-- a search of one pass of the list, from a view on, tells the next turn
pub turn_found :
    (n : ℕ) (order : List ℕ) (seat from end : ℕ) → IsView from → seat < n → 1 ≤ length order →
    end ≡ min (from + length order) (last_view + 1) → (r : Option ℕ) →
    MatchOption r ((k : ℕ) → from ≤ k → k < end → list_leads order k ≢ seat)
    (λ v. (from ≤ v) × (v < end) × (list_leads order v ≡ seat) × ((k : ℕ) → from ≤ k → k < v → list_leads order k ≢ seat)) →
    NextTurn n (list_leads order) seat from r
turn_found n order seat from end viewed seated some is (Some v) found =
    (viewed, seated, record { not_before = found.0; not_beyond = omega (arith, found.1); led = found.2; none_earlier = found.3 })
turn_found n order seat from end viewed seated some is None none = λ v _ _ turn.
    let d = v - from in
    let place = mod-lt d some in
    let back : from + d ≡ v = omega (arith, turn.not_before) in
    none (from + d % length order) (omega arith) (omega (arith, turn.not_beyond, turn.not_before, mod-le d (length order)))
    (repeats order from d viewed.0 ∙ ap (list_leads order) back ∙ turn.led)
