-- Tests over seats and over the blocks of a chain.
-- Assumes nothing.
use Rattle.std.proofs.Common.{◌≡◌, ℕ, zero, suc, ◌+◌, ◌<◌, ◌≤◌, Bool, true, false, cond, ◌||◌, ltb, List, [], ◌∷◌, length, take, sym, refl, ap, ◌∙◌, inl, inr, one-add, arith}
use Rattle.std.specs.List.{prefix_len}
use Rattle.std.proofs.lemmas.Bool.{or_from, and_left, and_right, cases_lt, le-ltb, lt-ltb}
use Rattle.book.specs.Admission.{any_of, clashes}
use Rattle.book.specs.Kinds.{is_slow}
use Rattle.book.specs.Known.{ParentsBefore, ParentsEarlier}
use Rattle.book.specs.Pages.{at, chain}
use Rattle.book.specs.declared.block.Block.{Block}
use Rattle.book.proofs.Chains.{chain_step}

module _ (bs : List Block) (before : ParentsBefore bs) where
  -- one block, and then those below it
  pub any_step : (p : ℕ → Bool) (b : ℕ) → 0 < b → b < length bs → any_of p (chain bs b) ≡ (p b || any_of p (chain bs (at bs b).parent))
  any_step p b pos h = ap (any_of p) (chain_step bs before b pos h)

  module _ (earlier : ParentsEarlier bs) (B : ℕ) where
    no_later : (a : ℕ) → (at bs a).view ≤ (at bs B).view → clashes bs B a ≡ false
    no_later a h = and_right (is_slow (at bs a).kind) _ (and_left (ltb (at bs B).view (at bs a).view) _ (le-ltb _ _ h))

    none_in : (k a : ℕ) → a ≤ k → a < length bs → (at bs a).view ≤ (at bs B).view → any_of (clashes bs B) (chain bs a) ≡ false
    none_in k zero l h v = or_from (clashes bs B 0) false (no_later 0 v) refl
    none_in zero (suc a) l h v = absurd (omega arith)
    none_in (suc k) (suc a) l h v =
        let down = before (suc a) (omega arith) h in
        let falls = earlier (suc a) (omega arith) h in
        any_step (clashes bs B) (suc a) (omega arith) h
        ∙ or_from (clashes bs B (suc a)) _ (no_later (suc a) v)
        (none_in k (at bs (suc a)).parent (omega arith) (omega arith) (omega arith))

    -- no block that is no later than B clashes, nor does one below it
    pub none_clash : (a : ℕ) → a < length bs → (at bs a).view ≤ (at bs B).view → any_of (clashes bs B) (chain bs a) ≡ false
    none_clash a h v = none_in a a (omega arith) h v

    -- so a search may stop at the first block that is no later than B
    abbrev pub later : ℕ → Bool
    later a = ltb (at bs B).view (at bs a).view

    abbrev pub cut : List ℕ → List ℕ
    cut xs = take (prefix_len later xs) xs

    cut_on : (a : ℕ) (xs : List ℕ) → later a ≡ true → cut (a ∷ xs) ≡ a ∷ cut xs
    cut_on a xs e = ap (λ t. take (cond t (1 + prefix_len later xs) 0) (a ∷ xs)) e ∙ ap (λ n. take n (a ∷ xs)) (one-add (prefix_len later xs))

    cut_off : (a : ℕ) (xs : List ℕ) → later a ≡ false → cut (a ∷ xs) ≡ []
    cut_off a xs e = ap (λ t. take (cond t (1 + prefix_len later xs) 0) (a ∷ xs)) e

    cut_in : (k a : ℕ) → a ≤ k → a < length bs → any_of (clashes bs B) (cut (chain bs a)) ≡ any_of (clashes bs B) (chain bs a)
    cut_in k zero l h =
        elim (cases_lt (at bs B).view (at bs 0).view) [
          | inl on ↦ ap (any_of (clashes bs B)) (cut_on 0 [] (lt-ltb _ _ on))
          | inr off ↦ ap (any_of (clashes bs B)) (cut_off 0 [] (le-ltb _ _ off)) ∙ sym (none_clash 0 h off)
        ]
    cut_in zero (suc a) l h = absurd (omega arith)
    cut_in (suc k) (suc a) l h =
        let down = before (suc a) (omega arith) h in
        let step = chain_step bs before (suc a) (omega arith) h in
        let below = chain bs (at bs (suc a)).parent in
        elim (cases_lt (at bs B).view (at bs (suc a)).view) [
          | inl on ↦
              ap (λ xs. any_of (clashes bs B) (cut xs)) step ∙ ap (any_of (clashes bs B)) (cut_on (suc a) below (lt-ltb _ _ on))
              ∙ ap (λ t. clashes bs B (suc a) || t) (cut_in k (at bs (suc a)).parent (omega arith) (omega arith)) ∙ sym (ap (any_of (clashes bs B)) step)
          | inr off ↦
              ap (λ xs. any_of (clashes bs B) (cut xs)) step ∙ ap (any_of (clashes bs B)) (cut_off (suc a) below (le-ltb _ _ off))
              ∙ sym (none_clash (suc a) h off)
        ]

    pub cut_clash : (a : ℕ) → a < length bs → any_of (clashes bs B) (cut (chain bs a)) ≡ any_of (clashes bs B) (chain bs a)
    cut_clash a h = cut_in a a (omega arith) h
