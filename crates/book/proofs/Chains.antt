-- Chains as lists: one step down, and what lies off a chain.
-- Assumes nothing.
use Rattle.std.proofs.Common.{◌≡◌, ℕ, zero, suc, ◌<◌, ◌≤◌, Bool, true, false, cond, ◌||◌, eqb, leb, find, slice_index_or, List, [], ◌∷◌, length, take, Some, None, Option, sym, refl, ap, ◌∙◌, ap₂, inl, inr, arith}
use Rattle.std.proofs.lemmas.List.{length-take, get_or-take}
use Rattle.std.proofs.lemmas.Bool.{both_ways, eq-eqb, ne_eqb, cases_eq, cases_lt, le-leb, lt-leb}
use Rattle.std.specs.Option.{option_eq, option_map_or}
use Rattle.book.specs.declared.block.Block.{Block}
use Rattle.book.specs.Known.{FirstView, ParentsBefore}
use Rattle.book.specs.Pages.{at, chain_in, chain, among, stands}

module _ (bs : List Block) (before : ParentsBefore bs) where
  -- the chain does not depend on the steps, once they are enough
  enough_steps : (k j b : ℕ) → b ≤ k → b ≤ j → b < length bs → chain_in bs k b ≡ chain_in bs j b
  enough_steps zero zero b p q h = refl
  enough_steps zero (suc j) b p q h =
      let none = eq-eqb b 0 (omega arith) in sym (ap (λ t. b ∷ cond t [] (chain_in bs j (at bs b).parent)) none)
  enough_steps (suc k) zero b p q h =
      let none = eq-eqb b 0 (omega arith) in ap (λ t. b ∷ cond t [] (chain_in bs k (at bs b).parent)) none
  enough_steps (suc k) (suc j) b p q h =
      elim (cases_eq b 0) [
        | inl e ↦
            let none = eq-eqb b 0 e in
            ap (λ t. b ∷ cond t [] (chain_in bs k (at bs b).parent)) none
            ∙ sym (ap (λ t. b ∷ cond t [] (chain_in bs j (at bs b).parent)) none)
        | inr n ↦
            let down = before b (omega arith) h in
            ap (λ xs. b ∷ cond (eqb b 0) [] xs)
            (enough_steps k j (at bs b).parent (omega arith) (omega arith) (omega arith))
      ]

  -- a block, and then the chain of its parent
  pub chain_step : (b : ℕ) → 0 < b → b < length bs → chain bs b ≡ b ∷ chain bs (at bs b).parent
  chain_step zero p h = absurd (omega arith)
  chain_step (suc b) p h =
      let down = before (suc b) p h in
      let more = ne_eqb (suc b) 0 (λ e. omega arith) in
      ap (λ t. suc b ∷ cond t [] (chain_in bs b (at bs (suc b)).parent)) more
      ∙ ap (λ xs. suc b ∷ xs) (enough_steps b (at bs (suc b)).parent (at bs (suc b)).parent (omega arith) (omega arith) (omega arith))

  -- a block that is not the first, and what is left of its chain below it
  pub left_below : (b : ℕ) (n : Option ℕ) → 0 < b → b < length bs → n ≡ Some (at bs b).parent → chain bs b ≡ b ∷ option_map_or (chain bs) n []
  left_below b n p h e = chain_step b p h ∙ ap (λ o. b ∷ option_map_or (chain bs) o []) (sym e)

  pub stands_step : (b c : ℕ) → 0 < b → b < length bs → stands bs b c ≡ (eqb c b || stands bs (at bs b).parent c)
  stands_step b c p h = ap (among c) (chain_step b p h)

  -- no block stands on one with a greater number
  above_in : (k b c : ℕ) → b ≤ k → b < length bs → b < c → among c (chain_in bs k b) ≡ false
  above_in zero b c p h l = ap (λ t. t || false) (ne_eqb c b (λ e. omega arith))
  above_in (suc k) b c p h l =
      elim (cases_eq b 0) [
        | inl e ↦
            ap₂ ◌||◌ (ne_eqb c b (λ f. omega arith))
            (ap (λ t. among c (cond t [] (chain_in bs k (at bs b).parent))) (eq-eqb b 0 e))
        | inr n ↦
            let down = before b (omega arith) h in
            ap₂ ◌||◌ (ne_eqb c b (λ f. omega arith))
            (ap (λ t. among c (cond t [] (chain_in bs k (at bs b).parent))) (ne_eqb b 0 n)
            ∙ above_in k (at bs b).parent c (omega arith) (omega arith) (omega arith))
      ]

  pub stands_above : (b c : ℕ) → b < length bs → b < c → stands bs b c ≡ false
  stands_above b c h l = above_in b b c (omega arith) h l

  -- what a block stands on has no greater number
  pub stands_within : (b c : ℕ) → b < length bs → stands bs b c ≡ true → c ≤ b
  stands_within b c h e =
      elim (cases_lt b c) [ inl above ↦ absurd (both_ways (stands bs b c) (stands_above b c h above) e) | inr within ↦ within ]

-- below the first block nothing is left
pub left_last : (bs : List Block) (b : ℕ) (n : Option ℕ) → b ≡ 0 → n ≡ None → chain bs b ≡ b ∷ option_map_or (chain bs) n []
left_last bs zero n z e = ap (λ o. 0 ∷ option_map_or (chain bs) o []) (sym e)
left_last bs (suc b) n z e = absurd (omega arith)

pub stands_self : (bs : List Block) (b : ℕ) → stands bs b b ≡ true
stands_self bs zero = refl
stands_self bs (suc b) =
    ap (λ t. t || among (suc b) (cond (eqb (suc b) 0) [] (chain_in bs b (at bs (suc b)).parent))) (eq-eqb (suc b) (suc b) refl)

-- a block of a later view is not the first
pub later_positive : (bs : List Block) → FirstView bs → (v a : ℕ) → v < (at bs a).view → 0 < a
later_positive bs first v zero h = absurd (omega (arith, first))
later_positive bs first v (suc a) h = omega arith

-- a search down a chain that takes the block it begins with
find_top : (bs : List Block) (p : ℕ → Bool) (b : ℕ) → p b ≡ true → find p (chain bs b) ≡ Some b
find_top bs p zero e = ap (λ t. cond t (Some zero) (find p [])) e
find_top bs p (suc b) e = ap (λ t. cond t (Some (suc b)) (find p (cond (eqb (suc b) 0) [] (chain_in bs b (at bs (suc b)).parent)))) e

-- Down a chain the first block with a number of at most c is c exactly where the chain has c.
module _ (bs : List Block) (before : ParentsBefore bs) (c : ℕ) where
  abbrev pub finds : ℕ → Bool
  finds b = option_eq eqb (find (λ x. leb x c) (chain bs b)) (Some c)

  found_here : (b : ℕ) → b < length bs → b ≤ c → finds b ≡ stands bs b c
  found_here b h within =
      ap (λ o. option_eq eqb o (Some c)) (find_top bs (λ x. leb x c) b (le-leb b c within))
      ∙ elim (cases_eq b c) [
        | inl same ↦ eq-eqb b c same ∙ sym (stands_self bs b) ∙ ap (stands bs b) same
        | inr other ↦ ne_eqb b c other ∙ sym (stands_above bs before b c h (omega arith))
      ]

  found_below : (b : ℕ) → b < length bs → c < b → finds (at bs b).parent ≡ stands bs (at bs b).parent c → finds b ≡ stands bs b c
  found_below b h later below =
      ap (λ xs. option_eq eqb (find (λ x. leb x c) xs) (Some c)) (chain_step bs before b (omega arith) h)
      ∙ ap (λ t. option_eq eqb (cond t (Some b) (find (λ x. leb x c) (chain bs (at bs b).parent))) (Some c)) (lt-leb b c later) ∙ below
      ∙ sym (stands_step bs before b c (omega arith) h ∙ ap (λ t. t || stands bs (at bs b).parent c) (ne_eqb c b (λ e. omega arith)))

  found_in : (k b : ℕ) → b ≤ k → b < length bs → finds b ≡ stands bs b c
  found_in zero b l h = elim (cases_lt c b) [ inl later ↦ absurd (omega arith) | inr within ↦ found_here b h within ]
  found_in (suc k) b l h =
      elim (cases_lt c b) [
        | inl later ↦ let down = before b (omega arith) h in found_below b h later (found_in k (at bs b).parent (omega arith) (omega arith))
        | inr within ↦ found_here b h within
      ]

  pub stands_found : (b : ℕ) → b < length bs → finds b ≡ stands bs b c
  stands_found b h = found_in b b (omega arith) h

-- a chain has no number above that of its first block
module _ (bs : List Block) (before : ParentsBefore bs) where
  within_in : (k b : ℕ) → b ≤ k → b < length bs → (i d : ℕ) → i < length (chain bs b) → slice_index_or (chain bs b) i d ≤ b
  within_in k zero l h zero d m = omega arith
  within_in k zero l h (suc i) d m = absurd (omega arith)
  within_in zero (suc b) l h i d m = absurd (omega arith)
  within_in (suc k) (suc b) l h i d m =
      let step = chain_step bs before (suc b) (omega arith) h in
      let down = before (suc b) (omega arith) h in
      part i (omega (arith, m, ap length step)) step (within_in k (at bs (suc b)).parent (omega arith) (omega arith)) down
    where
      part : (i : ℕ) → i < suc (length (chain bs (at bs (suc b)).parent)) → chain bs (suc b) ≡ suc b ∷ chain bs (at bs (suc b)).parent → ((j e : ℕ) → j < length (chain bs (at bs (suc b)).parent) → slice_index_or (chain bs (at bs (suc b)).parent) j e ≤ (at bs (suc b)).parent) → (at bs (suc b)).parent < suc b → slice_index_or (chain bs (suc b)) i d ≤ suc b
      part zero m step rest down = omega (arith, ap (λ xs. slice_index_or xs 0 d) step)
      part (suc i) m step rest down = omega (arith, ap (λ xs. slice_index_or xs (suc i) d) step, rest i d (omega arith))

  pub chain_within : (b : ℕ) → b < length bs → (i d : ℕ) → i < length (chain bs b) → slice_index_or (chain bs b) i d ≤ b
  chain_within b h = within_in b b (omega arith) h

  -- nor has what a search takes of it
  pub taken_within : (b : ℕ) → b < length bs → (n i d : ℕ) → i < length (take n (chain bs b)) → slice_index_or (take n (chain bs b)) i d ≤ b
  taken_within b h n i d m =
      let short = length-take n (chain bs b) in
      omega (arith, get_or-take n (chain bs b) i d (omega (arith, m, short)), chain_within b h i d (omega (arith, m, short)))
