-- Searches over places, one place on and read back.
-- Assumes nothing.
use Rattle.std.proofs.Common.{◌≡◌, ℕ, zero, suc, ◌+◌, ◌-◌, ◌^◌, ◌<◌, ◌≤◌, Bool, true, false, cond, ◌||◌, List, [], ◌∷◌, length, take, reverse, find, option_map, slice_index_or, Some, None, Option, sym, refl, ap, ◌∙◌, ap₂, inl, inr, add-one, zero-add, subst, arith, below_more, take_all}
use Rattle.std.specs.List.{list_any, range_with_len}
use Rattle.std.specs.declared.iter.Rev.{Rev}
use Rattle.std.specs.declared.ops.Range.{Range}
use Rattle.std.specs.Iterator.Adapters.{rev_source, rev_steps}
use Rattle.std.proofs.iter.runs.Sources.{nat_range_steps_back}
use Rattle.std.proofs.lemmas.Iterator.{YieldsList}
use Rattle.std.proofs.lemmas.Iterator.Splits.{YieldsList-from_shown_while}
use Rattle.std.proofs.Math.Bool.{or_comm}
use Rattle.std.proofs.lemmas.List.{take_more, reverse-append}
use Rattle.std.proofs.lemmas.List.Folds.{list_any_more}
use Rattle.std.proofs.lemmas.List.FromFn.{length-range_with_len, get_or-range_with_len}
use lib.Bits.{or_zero_r}
use Rattle.std.proofs.lemmas.Bool.{or_left, or_right, or_from, or_cases, both_ways, cases_Bool, cases_eq, lt-ltb}
use Rattle.quorum.specs.Seats.{union, with_seat}
use Rattle.letters.specs.Searches.{any_below, last_below, set_where}

pub any_below_found : (p : ℕ → Bool) (n k : ℕ) → k < n → p k ≡ true → any_below p n ≡ true
unfolding any_below
any_below_found p zero k h e = absurd (omega arith)
any_below_found p (suc n) k h e =
    elim (cases_eq k n) [
      | inl same ↦ or_left (p n) (any_below p n) (sym (ap p same) ∙ e)
      | inr other ↦ or_right (p n) (any_below p n) (any_below_found p n k (omega arith) e)
    ]

pub any_below_none : (p : ℕ → Bool) (n : ℕ) → ((k : ℕ) → k < n → p k ≡ false) → any_below p n ≡ false
unfolding any_below
any_below_none p zero f = refl
any_below_none p (suc n) f = or_from (p n) (any_below p n) (f n (omega arith)) (any_below_none p n (λ k h. f k (omega arith)))

-- the two of them, as loops over seats go
pub any_below_more : (p : ℕ → Bool) (n : ℕ) → ((k : ℕ) → k < n → p k ≡ false) → p n ≡ false → (k : ℕ) → k < n + 1 → p k ≡ false
any_below_more p n f e = below_more _ _ f e

-- The search from the last place down.

module _ (p : ℕ → Bool) (f : ℕ → ℕ) where
  pub last_none : last_below p f 0 ≡ None
  unfolding last_below
  last_none = refl

  pub last_found : (i : ℕ) → 0 < i → p (i - 1) ≡ true → last_below p f i ≡ Some (f (i - 1))
  unfolding last_below
  last_found zero h e = absurd (omega arith)
  last_found (suc i) h e =
      let back : suc i - 1 ≡ i = omega arith in
      ap (λ t. cond t (Some (f i)) (last_below p f i)) (ap p (sym back) ∙ e) ∙ ap (λ j. Some (f j)) (sym back)

  pub last_passed : (i : ℕ) → 0 < i → p (i - 1) ≡ false → last_below p f i ≡ last_below p f (i - 1)
  unfolding last_below
  last_passed zero h e = absurd (omega arith)
  last_passed (suc i) h e =
      let back : suc i - 1 ≡ i = omega arith in
      ap (λ t. cond t (Some (f i)) (last_below p f i)) (ap p (sym back) ∙ e) ∙ ap (last_below p f) (sym back)

-- The set of the seats that pass a test, one seat on.

module _ (p : ℕ → Bool) where
  pub set_none : 0 ≡ set_where p 0
  unfolding set_where
  set_none = refl

  pub set_takes : (n : ℕ) → n < 64 → p n ≡ true → with_seat n (set_where p n) ≡ set_where p (n + 1)
  unfolding set_where
  set_takes n h e =
      ap (λ t. cond t (union (set_where p n) (2 ^ n)) (set_where p n)) (lt-ltb n 64 h)
      ∙ sym (ap (set_where p) (add-one n) ∙ ap (λ t. union (set_where p n) (cond t (2 ^ n) 0)) e)

  pub set_skips : (n : ℕ) → p n ≡ false → set_where p n ≡ set_where p (n + 1)
  unfolding set_where
  set_skips n e =
      sym (ap (set_where p) (add-one n) ∙ ap (λ t. union (set_where p n) (cond t (2 ^ n) 0)) e ∙ or_zero_r (set_where p n))

-- tests over seats, read back

pub any_below_some : (p : ℕ → Bool) (n : ℕ) → any_below p n ≡ true → (k : ℕ) × (k < n) × (p k ≡ true)
unfolding any_below
any_below_some p zero e = absurd (both_ways false refl e)
any_below_some p (suc n) e =
    elim (or_cases (p n) (any_below p n) e) [
      | inl here ↦ (n, omega arith, here)
      | inr below ↦ let (k, h, t) = any_below_some p n below in (k, omega arith, t)
    ]

pub any_below_not : (p : ℕ → Bool) (n : ℕ) → any_below p n ≡ false → (k : ℕ) → k < n → p k ≡ false
any_below_not p n e k h =
    elim (cases_Bool (p k)) [ inl t ↦ absurd (both_ways (any_below p n) e (any_below_found p n k h t)) | inr f ↦ f ]

pub any_below_same : (p q : ℕ → Bool) (n : ℕ) → ((k : ℕ) → k < n → p k ≡ q k) → any_below p n ≡ any_below q n
unfolding any_below
any_below_same p q zero f = refl
any_below_same p q (suc n) f = ap₂ ◌||◌ (f n (omega arith)) (any_below_same p q n (λ k h. f k (omega arith)))

-- what a search from the last place down has found: a place that passes, and none after it does
pub last_is :
    (p : ℕ → Bool) (f : ℕ → ℕ) (n x : ℕ) → last_below p f n ≡ Some x →
    (i : ℕ) × (i < n) × (p i ≡ true) × (f i ≡ x) × ((j : ℕ) → i < j → j < n → p j ≡ false)
unfolding last_below
last_is p f zero x e = let z : ◌≡◌ {A = ℕ} 0 1 = cc in absurd (omega arith)
last_is p f (suc n) x e =
    elim (cases_Bool (p n)) [
      | inl t ↦ (n, omega arith, t, found (ap (λ b. cond b (Some (f n)) (last_below p f n)) (sym t) ∙ e), λ j l h. absurd (omega arith))
      | inr t ↦
          let (i, h, pass, is, none) = last_is p f n x (ap (λ b. cond b (Some (f n)) (last_below p f n)) (sym t) ∙ e) in
          (i, omega arith, pass, is, λ j l k. elim (cases_eq j n) [ inl same ↦ ap p same ∙ t | inr other ↦ none j l (omega arith) ])
    ]
  where
    found : Some (f n) ≡ Some x → f n ≡ x
    found q = cc

-- and such a place is what it finds
pub last_at :
    (p : ℕ → Bool) (f : ℕ → ℕ) (n i : ℕ) → i < n → p i ≡ true → ((j : ℕ) → i < j → j < n → p j ≡ false) → last_below p f n ≡ Some (f i)
unfolding last_below
last_at p f zero i h t none = absurd (omega arith)
last_at p f (suc n) i h t none =
    elim (cases_eq i n) [
      | inl same ↦ ap (λ b. cond b (Some (f n)) (last_below p f n)) (ap p (sym same) ∙ t) ∙ ap (λ k. Some (f k)) (sym same)
      | inr other ↦
          ap (λ b. cond b (Some (f n)) (last_below p f n)) (none n (omega arith) (omega arith))
          ∙ last_at p f n i (omega arith) t (λ j l k. none j l (omega arith))
    ]

-- a search that finds nothing passes no place
pub last_nowhere : (p : ℕ → Bool) (f : ℕ → ℕ) (n : ℕ) → last_below p f n ≡ None → (k : ℕ) → k < n → p k ≡ true → ⊥
unfolding last_below
last_nowhere p f zero z k h t = omega arith
last_nowhere p f (suc n) z k h t =
    elim (cases_Bool (p n)) [
      | inl here ↦
          let found : Some (f n) ≡ None = ap (λ b. cond b (Some (f n)) (last_below p f n)) (sym here) ∙ z in
          let w : ◌≡◌ {A = ℕ} 0 1 = cc in
          omega arith
      | inr below ↦
          elim (cases_eq k n) [
            | inl same ↦ both_ways (p n) below (ap p (sym same) ∙ t)
            | inr other ↦ last_nowhere p f n (ap (λ b. cond b (Some (f n)) (last_below p f n)) (sym below) ∙ z) k (omega arith) t
          ]
    ]

option_map_cond : {X : Type 0} (f : X → ℕ) (b : Bool) (x : X) (o : Option X) → cond b (Some (f x)) (option_map f o) ≡ option_map f (cond b (Some x) o)
option_map_cond f true x o = refl
option_map_cond f false x o = refl

-- the search of a list from its last thing down
module _ {X : Type 0} (p : X → Bool) (f : X → ℕ) (xs : List X) (d : X) where
  last_in : (n : ℕ) → n ≤ length xs → last_below (λ i. p (slice_index_or xs i d)) (λ i. f (slice_index_or xs i d)) n ≡ option_map f (find p (reverse (take n xs)))
  unfolding last_below
  last_in zero h = refl
  last_in (suc n) h =
      let x = slice_index_or xs n d in
      let rest = ap (λ o. cond (p x) (Some (f x)) o) (last_in n (omega arith)) in
      let last = ap (λ ys. option_map f (find p (reverse ys))) (ap (λ k. take k xs) (sym (add-one n)) ∙ take_more xs n d (omega arith)) in
      let turned = ap (λ ys. option_map f (find p ys)) (reverse-append (take n xs) (x ∷ [])) in
      rest ∙ option_map_cond f (p x) x (find p (reverse (take n xs))) ∙ sym (last ∙ turned)

  pub last_is_find : last_below (λ i. p (slice_index_or xs i d)) (λ i. f (slice_index_or xs i d)) (length xs) ≡ option_map f (find p (reverse xs))
  last_is_find = last_in (length xs) (omega arith) ∙ ap (λ ys. option_map f (find p (reverse ys))) (take_all (length xs) xs (omega arith))

-- a chain over a range passes a test somewhere where the search of the places does
module _ (p : ℕ → Bool) (N : ℕ) where
  any_in : (n : ℕ) → n ≤ N → list_any p (take n (range_with_len 0 N)) ≡ any_below p n
  unfolding any_below
  any_in zero h = refl
  any_in (suc n) h =
      ap (λ k. list_any p (take k (range_with_len 0 N))) (sym (add-one n))
      ∙ list_any_more p (range_with_len 0 N) n 0 (omega (arith, length-range_with_len 0 N))
      ∙ ap₂ ◌||◌ (any_in n (omega arith)) (ap p (get_or-range_with_len 0 N n 0 h ∙ zero-add n)) ∙ or_comm (any_below p n) (p n)

  pub any_in_range : list_any p (range_with_len 0 N) ≡ any_below p N
  any_in_range =
      ap (list_any p) (sym (take_all N (range_with_len 0 N) (omega (arith, length-range_with_len 0 N)))) ∙ any_in N (omega arith)

-- a range gone through from its last number down
pub countdown : ℕ → List ℕ
countdown zero = []
countdown (suc n) = n ∷ countdown n

pub YieldsList-from_rev_range : (n : ℕ) {s : Rev (Range ℕ)} → rev_source s ≡ record { start = 0; end = n } → YieldsList (rev_steps nat_range_steps_back) (λ x. x) s (countdown n)
unfolding countdown
YieldsList-from_rev_range n {s} e =
    subst (λ (k : Range ℕ). YieldsList (rev_steps nat_range_steps_back) (λ x. x) s (countdown k.end)) e
    (YieldsList-from_shown_while (rev_steps nat_range_steps_back) (λ x. x) (λ t. countdown (rev_source t).end) (λ t. (rev_source t).start ≡ 0)
    (λ t u h k. let none : (rev_source t).end ≡ 0 = omega (arith, k.1.0, h) in ap (λ m. length (countdown m)) none)
    (λ t x u h k.
    let turn : (rev_source t).end ≡ suc (rev_source u).end = k.1.2 ∙ add-one (rev_source u).end in
    (k.0 ∙ h, ap countdown turn ∙ ap (λ y. y ∷ countdown (rev_source u).end) (sym k.1.1)))
    s (ap (λ (k : Range ℕ). k.start) e))

pub last_is_find_down : (p : ℕ → Bool) (f : ℕ → ℕ) (n : ℕ) → last_below p f n ≡ option_map f (find p (countdown n))
unfolding last_below countdown
last_is_find_down p f zero = refl
last_is_find_down p f (suc n) = ap (cond (p n) (Some (f n))) (last_is_find_down p f n) ∙ option_map_cond f (p n) n (find p (countdown n))
