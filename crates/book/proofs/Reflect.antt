-- The tests that admission computes decide the relations of the rules.
-- Assumes nothing.
use Rattle.std.proofs.Common.{◌≡◌, ℕ, zero, suc, ◌+◌, ◌<◌, ◌≤◌, Bool, true, false, not, T, eqb, ltb, ◌≢◌, ◌⊎◌, List, [], ◌∷◌, length, get_or, sym, refl, ap, ◌∙◌, subst, inl, inr, ⊎_elim, add-one, arith}
use Rattle.std.proofs.lemmas.Bool.{and_parts, and_from, and_cases, or_cases, or_left, or_right, or_from, or_parts, both_ways, not-true, not-false, not_from_false, cases_Bool, eqb-true, eqb-false, eq-eqb, ne_eqb, lt-ltb, ltb-true}
use Rattle.quorum.specs.Seats.{held, Holds}
use Rattle.safety.specs.Book.{StandsOn, self, up, NoClash}
use Rattle.letters.proofs.Searches.{any_below_some, any_below_found}
use Rattle.letters.proofs.Truth.{true_from, from_true}
use Rattle.book.specs.Admission.{Design, any_of, conflict, rival, told_rival, heard_rival, clashes, good}
use Rattle.book.specs.Kinds.{is_slow}
use Rattle.book.specs.Known.{Known, ParentsBefore}
use Rattle.book.specs.Pages.{at, chain, among, stands}
use Rattle.book.specs.Rules.{model}
use Rattle.book.specs.declared.block.Block.{Block}
use Rattle.letters.specs.declared.letter.Letter.{Letter}
use Rattle.book.proofs.Chains.{stands_step, stands_self, stands_within, later_positive}

pub not_from : (b : Bool) → b ≡ false → T b → ⊥
not_from b e t = subst T e t

-- tests over lists of blocks
any_of_at : (p : ℕ → Bool) (xs : List ℕ) (a : ℕ) → any_of p xs ≡ false → among a xs ≡ true → p a ≡ false
any_of_at p [] a e m = absurd (both_ways false refl m)
any_of_at p (x ∷ xs) a e m =
    let parts = or_parts (p x) (any_of p xs) e in
    ⊎_elim (λ here. ap p (eqb-true a x here) ∙ parts.0) (λ below. any_of_at p xs a parts.1 below) (or_cases (eqb a x) (among a xs) m)

any_of_none : (p : ℕ → Bool) (xs : List ℕ) → ((a : ℕ) → among a xs ≡ true → p a ≡ false) → any_of p xs ≡ false
any_of_none p [] f = refl
any_of_none p (x ∷ xs) f =
    or_from (p x) (any_of p xs) (f x (or_left (eqb x x) (among x xs) (eq-eqb x x refl)))
    (any_of_none p xs (λ a m. f a (or_right (eqb a x) (among a xs) m)))

module _ (d : Design) (bs : List Block) (before : ParentsBefore bs) where
  stands_in : (k b c : ℕ) → b ≤ k → b < length bs → stands bs b c ≡ true → StandsOn (model d bs) b c
  stands_in k zero c l h e =
      ⊎_elim (λ t. subst (StandsOn (model d bs) 0) (sym (eqb-true c 0 t)) self) (λ t. absurd (both_ways false refl t)) (or_cases (eqb c 0) false e)
  stands_in zero (suc b) c l h e = absurd (omega arith)
  stands_in (suc k) (suc b) c l h e =
      let down = before (suc b) (omega arith) h in
      ⊎_elim (λ t. subst (StandsOn (model d bs) (suc b)) (sym (eqb-true c (suc b) t)) self)
      (λ t. up (omega arith, h) (stands_in k (at bs (suc b)).parent c (omega arith) (omega arith) t))
      (or_cases (eqb c (suc b)) _ (sym (stands_step bs before (suc b) c (omega arith) h) ∙ e))

  -- b stands on c, by the test
  pub stands_relates : (b c : ℕ) → b < length bs → stands bs b c ≡ true → StandsOn (model d bs) b c
  stands_relates b c h e = stands_in b b c (omega arith) h e

  pub relates_stands : {b c : ℕ} → StandsOn (model d bs) b c → stands bs b c ≡ true
  relates_stands (self {b}) = stands_self bs b
  relates_stands (up {b} {c} m p) = stands_step bs before b c m.0 m.1 ∙ or_right (eqb c b) _ (relates_stands p)

  module _ {ls : List Letter} (known : Known bs ls) where
    -- conflict
    no_conflict : (x y : ℕ) → x < length bs → y < length bs → conflict bs x y ≡ false → StandsOn (model d bs) x y ⊎ StandsOn (model d bs) y x
    no_conflict x y hx hy e =
        ⊎_elim (λ t. inl (stands_relates x y hx (not-false (stands bs x y) t))) (λ t. inr (stands_relates y x hy (not-false (stands bs y x) t)))
        (and_cases (not (stands bs x y)) (not (stands bs y x)) e)

    conflict_not : (x y : ℕ) → conflict bs x y ≡ true → StandsOn (model d bs) x y ⊎ StandsOn (model d bs) y x → ⊥
    conflict_not x y e s =
        let parts = and_parts (not (stands bs x y)) (not (stands bs y x)) e in
        ⊎_elim (λ p. both_ways (stands bs x y) (not-true _ parts.0) (relates_stands p)) (λ p. both_ways (stands bs y x) (not-true _ parts.1) (relates_stands p)) s

    module _ (B : ℕ) (hB : B < length bs) where
      -- a block that clashes, or that does not
      clash_from :
          (a : ℕ) → a < length bs → clashes bs B a ≡ true →
          (s : ℕ) × (T (is_slow (at bs a).kind)) × ((at bs B).view < (at bs a).view) × Holds s (at bs a).heard.bits
          × ((at bs (get_or (at bs a).reports s 0)).view ≡ (at bs (at bs a).parent).view)
          × (get_or (at bs a).reports s 0 ≢ (at bs a).parent) × (conflict bs (get_or (at bs a).reports s 0) B ≡ true)
      clash_from a h e =
          let one = and_parts (is_slow (at bs a).kind) _ e in
          let two = and_parts (ltb (at bs B).view (at bs a).view) (heard_rival bs B a) one.1 in
          let (s, below, told) = any_below_some (told_rival bs B a) 64 two.1 in
          let three = and_parts (held s (at bs a).heard.bits) _ told in
          let four = and_parts (eqb (at bs (get_or (at bs a).reports s 0)).view (at bs (at bs a).parent).view) _ three.1 in
          let five = and_parts (not (eqb (get_or (at bs a).reports s 0) (at bs a).parent)) (conflict bs (get_or (at bs a).reports s 0) B) four.1 in (
            s,
            from_true _ one.0,
            ltb-true _ _ two.0,
            from_true _ three.0,
            eqb-true _ _ four.0,
            eqb-false _ _ (not-true _ five.0),
            five.1,
          )

      clash_at :
          (a s : ℕ) → clashes bs B a ≡ false → s < 64 → T (is_slow (at bs a).kind) → (at bs B).view < (at bs a).view → Holds s (at bs a).heard.bits →
          (at bs (get_or (at bs a).reports s 0)).view ≡ (at bs (at bs a).parent).view → get_or (at bs a).reports s 0 ≢ (at bs a).parent →
          conflict bs (get_or (at bs a).reports s 0) B ≡ false
      clash_at a s e below slow later heard level differs =
          let x = get_or (at bs a).reports s 0 in
          elim (cases_Bool (conflict bs x B)) [
            | inr f ↦ f
            | inl t ↦
                let told = and_from (held s (at bs a).heard.bits) (rival bs B a x) (true_from _ heard) (and_from _ _ (eq-eqb _ _ level) (and_from _ _ (not_from_false _ (ne_eqb _ _ differs)) t)) in
                let all = and_from (is_slow (at bs a).kind) _ (true_from _ slow) (and_from _ _ (lt-ltb _ _ later) (any_below_found (told_rival bs B a) 64 s below told)) in
                absurd (both_ways (clashes bs B a) e all)
          ]

      pub no_clash_told :
          (S : ℕ) → S < length bs → ((a s : ℕ) → 0 < a → a < length bs → Holds s (at bs a).heard.bits → s < 64) →
          any_of (clashes bs B) (chain bs S) ≡ false → NoClash (model d bs) S B
      no_clash_told S hS seated e a s on slow later heard level differs =
          let ha : a < length bs = omega (arith, stands_within bs before S a hS (relates_stands on)) in
          let none = any_of_at (clashes bs B) (chain bs S) a e (relates_stands on) in
          let x = get_or (at bs a).reports s 0 in
          no_conflict x B (omega (arith, known.reports_known a s ha)) hB (clash_at a s none (seated a s (later_positive bs known.first_view _ a later) ha heard) slow later heard level differs)

      pub no_clash_tested : (S : ℕ) → S < length bs → NoClash (model d bs) S B → any_of (clashes bs B) (chain bs S) ≡ false
      no_clash_tested S hS none = any_of_none (clashes bs B) (chain bs S) each
        where
          each : (a : ℕ) → among a (chain bs S) ≡ true → clashes bs B a ≡ false
          each a m =
              elim (cases_Bool (clashes bs B a)) [
                | inr f ↦ f
                | inl t ↦
                    let ha : a < length bs = omega (arith, stands_within bs before S a hS m) in
                    let (s, slow, later, heard, level, differs, clash) = clash_from a ha t in
                    absurd (conflict_not _ B clash (none a s (stands_relates S a hS m) slow later heard level differs))
              ]

      module _ (S : ℕ) (hS : S < length bs) (seated : (a s : ℕ) → 0 < a → a < length bs → Holds s (at bs a).heard.bits → s < 64) where
        -- good to commit, by the test
        pub good_told : good bs S B ≡ true → ((at bs S).view ≡ suc (at bs B).view) ⊎ NoClash (model d bs) S B
        good_told e =
            ⊎_elim (λ t. inl (eqb-true _ _ t ∙ add-one (at bs B).view)) (λ t. inr (no_clash_told S hS seated (not-true _ t)))
            (or_cases (eqb (at bs S).view ((at bs B).view + 1)) _ e)

        pub good_tested : ((at bs S).view ≡ suc (at bs B).view) ⊎ NoClash (model d bs) S B → good bs S B ≡ true
        good_tested (inl next) = or_left (eqb (at bs S).view ((at bs B).view + 1)) _ (eq-eqb _ _ (next ∙ sym (add-one (at bs B).view)))
        good_tested (inr none) = or_right (eqb (at bs S).view ((at bs B).view + 1)) _ (not_from_false _ (no_clash_tested S hS none))
