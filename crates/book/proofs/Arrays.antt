-- Arrays that a closure makes, where no call changes it: what is at each place.
-- Assumes nothing.
use denote.Param.Members.{Mut}
use Rattle.std.proofs.Common.{◌≡◌, ℕ, zero, suc, ◌+◌, ◌<◌, ◌≤◌, List, slice_index_or, sym, ap, ◌∙◌, subst, inl, inr, arith}
use Rattle.std.proofs.lemmas.Bool.{cases_eq}
use Rattle.std.specs.Array.{IsFromFnResultFrom, MapsFrom}
use Rattle.std.specs.Fn.{Called}

module _ {F B : Type 0} (g : Mut F (ℕ × Unit {0}) B) (h : ℕ → B) (f : F) (stays : (i : ℕ) (y : B) (q : F) → Called g f (i, tt) y q → (q ≡ f) × (y ≡ h i)) where
  pub made_at : (p : F) → p ≡ f → (ys : List B) (i n : ℕ) → IsFromFnResultFrom g p ys i n → (k : ℕ) (d : B) → i ≤ k → k < i + n → slice_index_or ys k d ≡ h k
  made_at p same ys i zero made k d low high = absurd (omega arith)
  made_at p same ys i (suc n) (q, y, here, call, rest) k d low high =
      let told = stays i y q (subst (λ r. Called g r (i, tt) y q) same call) in
      elim (cases_eq k i) [
        | inl e ↦ ap (λ j. slice_index_or ys j d) e ∙ here.1 d ∙ told.1 ∙ ap h (sym e)
        | inr n' ↦ made_at q told.0 ys (i + 1) n rest k d (omega arith) (omega arith)
      ]

module _ {F A B : Type 0} (g : Mut F (A × Unit {0}) B) (h : A → B) (f : F) (stays : (x : A) (y : B) (q : F) → Called g f (x, tt) y q → (q ≡ f) × (y ≡ h x)) where
  pub mapped_at : (p : F) → p ≡ f → (xs : List A) (ys : List B) (i n : ℕ) → MapsFrom g p xs ys i n → (k : ℕ) (c : A) (d : B) → i ≤ k → k < i + n → slice_index_or ys k d ≡ h (slice_index_or xs k c)
  mapped_at p same xs ys i zero made k c d low high = absurd (omega arith)
  mapped_at p same xs ys i (suc n) (q, x, y, from, here, call, rest) k c d low high =
      let told = stays x y q (subst (λ r. Called g r (x, tt) y q) same call) in
      elim (cases_eq k i) [
        | inl e ↦ ap (λ j. slice_index_or ys j d) e ∙ here.1 d ∙ told.1 ∙ ap h (sym (from.1 c)) ∙ ap (λ j. h (slice_index_or xs j c)) (sym e)
        | inr n' ↦ mapped_at q told.0 xs ys (i + 1) n rest k c d (omega arith) (omega arith)
      ]
