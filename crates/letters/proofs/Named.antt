-- The block that a quorum of the reports names.
-- Assumes nothing.
use Rattle.std.proofs.Common.{◌≡◌, ℕ, zero, suc, ◌^◌, ◌<◌, ◌≤◌, Bool, true, false, cond, ◌&&◌, ◌||◌, T, eqb, ltb, List, get_or, Some, None, Option, sym, refl, ap, ◌∙◌, subst, ap₂, inl, inr, lt_of_lt_of_le, lt_of_le_of_lt, arith, eqb→eq, pow_pos, pow_mono}
use lib.Bits.{bit_and, and_le_r, or_lt}
use lib.Pow.{pow-lt}
use Rattle.std.proofs.lemmas.Bool.{and_parts, and_from, and_left, and_right, both_ways, cases_Bool, cases_eq, cases_lt, eqb-true, eq-eqb, ne_eqb, lt-ltb, le-ltb}
use Rattle.quorum.specs.Sets.{held_none, held_one, held_union, held_within, subset_made}
use Rattle.quorum.specs.Laws.{QuorumLaws}
use Rattle.quorum.specs.Seats.{held, Holds}
use Rattle.letters.proofs.Searches.{last_is, last_nowhere}
use Rattle.letters.specs.Named.{reports_it, namers, decides_with, named, OneNamed}
use Rattle.letters.specs.Searches.{set_where}
use Rattle.letters.proofs.Truth.{true_from, from_true}

one_of : (s n : ℕ) (b : Bool) → held s (cond b (2 ^ n) 0) ≡ (b && eqb s n)
one_of s n true = held_one s n
one_of s n false = held_none s

-- the set of the seats below n that pass a test
pub held_where : (p : ℕ → Bool) (n s : ℕ) → held s (set_where p n) ≡ (ltb s n && p s)
unfolding set_where
held_where p zero s = held_none s ∙ sym (and_left (ltb s 0) (p s) (le-ltb s 0 (omega arith)))
held_where p (suc n) s =
    held_union s (set_where p n) (cond (p n) (2 ^ n) 0) ∙ ap₂ ◌||◌ (held_where p n s) (one_of s n (p n)) ∙ join
  where
    join : ((ltb s n && p s) || (p n && eqb s n)) ≡ (ltb s (suc n) && p s)
    join =
        elim (cases_lt s n) [
          | inl l ↦
              ap₂ (λ a b. (a && p s) || (p n && b)) (lt-ltb s n l) (ne_eqb s n (λ e. omega arith)) ∙ drop (p s) (p n)
              ∙ sym (ap (λ a. a && p s) (lt-ltb s (suc n) (omega arith)))
          | inr g ↦
              elim (cases_eq s n) [
                | inl e ↦
                    ap₂ (λ a b. (a && p s) || (p n && b)) (le-ltb s n g) (eq-eqb s n e) ∙ keep (p n) ∙ ap p (sym e)
                    ∙ sym (ap (λ a. a && p s) (lt-ltb s (suc n) (omega arith)))
                | inr d ↦
                    ap₂ (λ a b. (a && p s) || (p n && b)) (le-ltb s n g) (ne_eqb s n d) ∙ none (p n)
                    ∙ sym (ap (λ a. a && p s) (le-ltb s (suc n) (omega arith)))
              ]
        ]
      where
        drop : (a b : Bool) → ((true && a) || (b && false)) ≡ (true && a)
        drop true b = refl
        drop false true = refl
        drop false false = refl

        keep : (b : Bool) → ((false && p s) || (b && true)) ≡ b
        keep true = refl
        keep false = refl

        none : (b : Bool) → ((false && p s) || (b && false)) ≡ false
        none true = refl
        none false = refl

pub where_below : (p : ℕ → Bool) (n : ℕ) → set_where p n < 2 ^ n
unfolding set_where
where_below p zero = pow_pos 0
where_below p (suc n) = or_lt (suc n) (set_where p n) (cond (p n) (2 ^ n) 0) (lt_of_lt_of_le (where_below p n) (pow_mono (omega arith))) (one (p n))
  where
    one : (b : Bool) → cond b (2 ^ n) 0 < 2 ^ suc n
    one true = pow-lt (omega arith)
    one false = pow_pos (suc n)

-- a set whose seats another holds is no greater number
pub subset_below : (k n p q : ℕ) → p < 2 ^ k → q < 2 ^ n → ((s : ℕ) → Holds s p → Holds s q) → p < 2 ^ n
subset_below k n p q hp hq f =
    let same = eqb→eq (bit_and p q) p (subset_made k p q hp f) in
    lt_of_le_of_lt (subst (λ x. x ≤ q) same (and_le_r p q)) hq

-- who names a block: the heard seats that report it
pub names : (reports : List ℕ) (heard c s : ℕ) → Holds s (namers reports heard c) → (s < 64) × Holds s heard × (get_or reports s 0 ≡ c)
names reports heard c s h =
    let inside = sym (held_where (reports_it reports heard c) 64 s) ∙ true_from _ h in
    let parts = and_parts (ltb s 64) (reports_it reports heard c s) inside in
    let told = and_parts (held s heard) (eqb (get_or reports s 0) c) parts.1 in
    (Rattle.std.proofs.lemmas.Bool.ltb-true s 64 parts.0, from_true _ told.0, eqb-true _ _ told.1)

pub named_by : (reports : List ℕ) (heard c s : ℕ) → s < 64 → Holds s heard → get_or reports s 0 ≡ c → Holds s (namers reports heard c)
named_by reports heard c s l h e =
    from_true _ (held_where (reports_it reports heard c) 64 s ∙ and_from _ _ (lt-ltb s 64 l) (and_from _ _ (true_from _ h) (eq-eqb _ _ e)))

module _ {most n : ℕ} {quorum tolerated : ℕ → Bool} (laws : QuorumLaws most n quorum tolerated) (reports : List ℕ) (heard : ℕ) where
  -- two quorums of the heard seats, each with one report, have the same
  pub one_report :
      (P Q b c : ℕ) → T (quorum P) → T (quorum Q) → ((s : ℕ) → Holds s P → get_or reports s 0 ≡ b) →
      ((s : ℕ) → Holds s Q → get_or reports s 0 ≡ c) → b ≡ c
  one_report P Q b c p q f g = let (s, in_p, inQ, kept) = laws.share P Q 0 p q laws.none in sym (f s in_p) ∙ g s inQ

  -- what is found is named by a quorum
  pub named_is : (c : ℕ) → named quorum reports heard ≡ Some c → T (quorum (namers reports heard c))
  named_is c e =
      let (i, h, pass, is, none) = last_is (decides_with quorum reports heard) (λ s. get_or reports s 0) 64 c e in
      let parts = and_parts (held i heard) (quorum (namers reports heard (get_or reports i 0))) pass in
      subst (λ x. T (quorum (namers reports heard x))) is (from_true _ parts.1)

  -- and what a quorum names is found
  pub is_named :
      (Q c : ℕ) → T (quorum Q) → heard < 2 ^ n → ((s : ℕ) → Holds s Q → Holds s heard × (get_or reports s 0 ≡ c)) →
      named quorum reports heard ≡ Some c
  is_named Q c q within told = found (named quorum reports heard) refl
    where
      seat_of : (s : ℕ) → Holds s heard → s < 64
      seat_of s h = omega (arith, held_within n s heard within h, laws.seats_fit, laws.most_fits)

      small : namers reports heard c < 2 ^ n
      small = subset_below 64 n (namers reports heard c) heard (where_below _ 64) within (λ s h. (names reports heard c s h).1)

      all : T (quorum (namers reports heard c))
      all = laws.grow Q (namers reports heard c) q small (λ s h. let t = told s h in named_by reports heard c s (seat_of s t.0) t.0 t.1)

      found : (o : Option ℕ) → named quorum reports heard ≡ o → named quorum reports heard ≡ Some c
      found (Some x) e = e ∙ ap Some (one_report (namers reports heard x) Q x c (named_is x e) q (λ s h. (names reports heard x s h).2) (λ s h. (told s h).1))
      found None e =
          let (s, inQ, again, kept) = laws.share Q Q 0 q q laws.none in
          let t = told s inQ in
          let decides = and_from (held s heard) _ (true_from _ t.0) (ap (λ x. quorum (namers reports heard x)) t.1 ∙ true_from _ all) in
          absurd (last_nowhere (decides_with quorum reports heard) (λ k. get_or reports k 0) 64 e s (seat_of s t.0) decides)

pub one_named : OneNamed
one_named most n quorum tolerated laws reports heard b c p q =
    one_report laws reports heard (namers reports heard b) (namers reports heard c) b c p q
    (λ s h. (names reports heard b s h).2) (λ s h. (names reports heard c s h).2)
