-- Whether a book has a block of a view, and the highest view of its blocks.
-- Assumes nothing.
use Rattle.std.proofs.Common.{◌≡◌, ℕ, zero, suc, ◌<◌, ◌≤◌, true, false, cond, eqb, ◌⊎◌, List, [], ◌∷◌, length, get_or, replicate, Less, Equal, Greater, refl, ap, inl, inr, arith}
use Rattle.std.proofs.lemmas.Bool.{or_left, or_right, or_from, both_ways, cases_lt, lt-ltb, eq-eqb, ne_eqb}
use Rattle.std.specs.Ordering.{is_lt, nat_cmp}
use Rattle.highest.specs.Row.{above}
use Rattle.book.specs.Admission.{has_view}
use Rattle.book.specs.Pages.{at}
use Rattle.book.specs.Questions.{highest_view}
use Rattle.book.specs.declared.block.Block.{Block}

pub has_view_found : (bs : List Block) (v k : ℕ) → k < length bs → (at bs k).view ≡ v → has_view bs v ≡ true
has_view_found [] v k h e = absurd (omega arith)
has_view_found (b ∷ bs) v zero h e = or_left (eqb b.view v) (has_view bs v) (eq-eqb b.view v e)
has_view_found (b ∷ bs) v (suc k) h e = or_right (eqb b.view v) (has_view bs v) (has_view_found bs v k (omega arith) e)

pub has_view_none : (bs : List Block) (v : ℕ) → ((k : ℕ) → k < length bs → (at bs k).view ≡ v → ⊥) → has_view bs v ≡ false
has_view_none [] v f = refl
has_view_none (b ∷ bs) v f =
    or_from (eqb b.view v) (has_view bs v) (ne_eqb b.view v (f 0 (omega arith)))
    (has_view_none bs v (λ k h. f (suc k) (omega arith)))

-- The highest view.

view_within : (bs : List Block) (k : ℕ) → k < length bs → (at bs k).view ≤ highest_view bs
view_within [] k h = absurd (omega arith)
view_within (b ∷ bs) zero h = omega arith
view_within (b ∷ bs) (suc k) h = omega (arith, view_within bs k (omega arith))

none_higher : (bs : List Block) (m : ℕ) → ((k : ℕ) → k < length bs → (at bs k).view ≤ m) → highest_view bs ≤ m
none_higher [] m f = omega arith
none_higher (b ∷ bs) m f = omega (arith, f 0 (omega arith), none_higher bs m (λ k h. f (suc k) (omega arith)))

pub highest_is :
    (bs : List Block) (m : ℕ) → ((k : ℕ) → k < length bs → (at bs k).view ≤ m) →
    (m ≡ 0) ⊎ ((k : ℕ) × (k < length bs) × ((at bs k).view ≡ m)) → m ≡ highest_view bs
highest_is bs m f (inl e) = omega (arith, none_higher bs m f)
highest_is bs m f (inr x) = omega (arith, none_higher bs m f, view_within bs x.0 x.1, x.2)

-- what is not above is no greater
pub not_above : (x y : ℕ) → above nat_cmp x y ≡ false → x ≤ y
not_above x y e =
    elim (cases_lt y x) [
      | inl h ↦ absurd (both_ways (above nat_cmp x y) e (ap (λ b. is_lt (cond b Less (cond (eqb y x) Equal Greater))) (lt-ltb y x h)))
      | inr h ↦ h
    ]

pub zeros : (n k : ℕ) → get_or {A = ℕ} (replicate n 0) k 0 ≡ 0
zeros zero k = refl
zeros (suc n) zero = refl
zeros (suc n) (suc k) = zeros n k
