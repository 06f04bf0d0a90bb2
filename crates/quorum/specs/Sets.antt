-- The theory of sets of seats: which seats a set holds.
-- Assumes nothing.
use Rattle.std.specs.Prelude.{◌≡◌, ℕ, zero, suc, ◌+◌, ◌-◌, ◌*◌, ◌/◌, ◌%◌, ◌^◌, ◌<◌, ◌≤◌, Bool, true, false, cond, not, ◌&&◌, ◌||◌, T, ◌⊎◌, ◌==◌, bit_and, bit_or, nat_eq, nat_lt, refl}
use Rattle.std.proofs.Common.{sym, ap, ap₂, subst, ◌∙◌, inl, inr, pow-suc, div-one, lt_of_lt_of_le, lt_of_le_of_lt, one-add, add-one, arith, eqb→eq, pow_pos, pow_mono}
use Rattle.std.proofs.Math.Nat.{zero-div, zero-sub, zero-mod, div-eq_of_lt, mul-mod_left}
use Rattle.std.proofs.Math.Dec.{leb-zero, leb-suc-zero, leb-suc-suc, eqb-zero-suc, eqb-suc-zero, eqb-suc-suc}
use Rattle.std.proofs.lemmas.Nat.{shr-shr, shr_below, shl-shr, le-div, mod_below, mod-pow-add, div-mul-add, mod-mul-add, and_shr, and_mod, and_le_l, or_shr, or_mod}
use Rattle.std.proofs.lemmas.Bool.{cases_lt, or_left, or_right, or_cases, eqb-true, eq-eqb, lt-ltb, le-ltb, ne_eqb}
use Rattle.quorum.specs.Seats.{held, Holds, with_seat, subset, union, everyone, everyone_but}

-- seat s + 1 of a set is seat s of its upper digits
pub held_suc : (s q : ℕ) → held (suc s) q ≡ held s (q / 2)
held_suc s q = ap (λ x. nat_eq (x % 2) 1) (sym (shr-shr q 1 s ∙ ap (λ x. q / 2 ^ x) (one-add s)))

pub held_zero : (q : ℕ) → held 0 q ≡ (q % 2 == 1)
held_zero q = ap (λ x. nat_eq (x % 2) 1) (div-one q)

pub digit : (x : ℕ) → (x % 2 ≡ 0) ⊎ (x % 2 ≡ 1)
digit x = elim (cases_lt (x % 2) 1) [ inl h ↦ inl (omega arith) | inr h ↦ inr (omega arith) ]

-- the empty set holds no seat
pub held_none : (s : ℕ) → held s 0 ≡ false
held_none s = ap (λ x. nat_eq (x % 2) 1) (zero-div (2 ^ s))

or_digits : (a b : ℕ) → (a ≡ 0) ⊎ (a ≡ 1) → (b ≡ 0) ⊎ (b ≡ 1) → (bit_or a b == 1) ≡ (a == 1 || b == 1)
or_digits a b (inl e) (inl f) = rw (e, f)
or_digits a b (inl e) (inr f) = rw (e, f)
or_digits a b (inr e) (inl f) = rw (e, f)
or_digits a b (inr e) (inr f) = rw (e, f)

-- a union holds what either set holds
pub held_union : (s p q : ℕ) → held s (union p q) ≡ (held s p || held s q)
held_union s p q =
    ap (λ x. nat_eq (x % 2) 1) (or_shr p q s) ∙ ap (λ x. nat_eq x 1) (or_mod (p / 2 ^ s) (q / 2 ^ s) 1)
    ∙ or_digits (p / 2 ^ s % 2) (q / 2 ^ s % 2) (digit (p / 2 ^ s)) (digit (q / 2 ^ s))

and_digits : (a b : ℕ) → (a ≡ 0) ⊎ (a ≡ 1) → (b ≡ 0) ⊎ (b ≡ 1) → (bit_and a b == 1) ≡ (a == 1 && b == 1)
and_digits a b (inl e) (inl f) = rw e
and_digits a b (inl e) (inr f) = rw e
and_digits a b (inr e) (inl f) = rw (e, f)
and_digits a b (inr e) (inr f) = rw (e, f)

held_both : (s p q : ℕ) → held s (bit_and p q) ≡ (held s p && held s q)
held_both s p q =
    ap (λ x. nat_eq (x % 2) 1) (and_shr p q s) ∙ ap (λ x. nat_eq x 1) (and_mod (p / 2 ^ s) (q / 2 ^ s) 1)
    ∙ and_digits (p / 2 ^ s % 2) (q / 2 ^ s % 2) (digit (p / 2 ^ s)) (digit (q / 2 ^ s))

both_true : (a b : Bool) → T (a && b) → T b
both_true true b t = t
both_true false b t = absurd t

absorb : (a b : Bool) → (T a → T b) → (a && b) ≡ a
absorb true true f = refl
absorb true false f = absurd (f tt)
absorb false b f = refl

-- the set of one seat
pub held_one : (s t : ℕ) → held s (2 ^ t) ≡ (s == t)
held_one zero zero = refl
held_one zero (suc t) =
    held_zero (2 ^ suc t) ∙ ap (λ x. nat_eq (x % 2) 1) (pow-suc 2 t) ∙ ap (λ x. nat_eq x 1) (mul-mod_left (2 ^ t) 2)
    ∙ sym (eqb-zero-suc t)
held_one (suc s) zero = held_suc s 1 ∙ held_none s ∙ sym (eqb-suc-zero s)
held_one (suc s) (suc t) =
    held_suc s (2 ^ suc t) ∙ ap (λ x. held s (x / 2)) (pow-suc 2 t) ∙ ap (held s) (shl-shr (2 ^ t) 1) ∙ held_one s t
    ∙ sym (eqb-suc-suc s t)

lowest : (p : ℕ) → p % 2 ≡ cond (held 0 p) 1 0
lowest p =
    elim (digit p) [
      | inl e ↦ e ∙ sym (ap (λ b. cond b 1 0) (held_zero p ∙ ap (λ x. nat_eq x 1) e))
      | inr e ↦ e ∙ sym (ap (λ b. cond b 1 0) (held_zero p ∙ ap (λ x. nat_eq x 1) e))
    ]

half_below : (k p : ℕ) → p < 2 ^ suc k → p / 2 < 2 ^ k
half_below k p h = shr_below p k 1 (subst (λ x. p < 2 ^ x) (sym (add-one k)) h)

-- Sets that hold the same seats are the same.
pub same_seats : (k p q : ℕ) → p < 2 ^ k → q < 2 ^ k → ((s : ℕ) → held s p ≡ held s q) → p ≡ q
same_seats zero p q f g e = omega arith
same_seats (suc k) p q f g e =
    let upper = same_seats k (p / 2) (q / 2) (half_below k p f) (half_below k q g) (λ s. sym (held_suc s p) ∙ e (suc s) ∙ held_suc s q) in
    let low : p % 2 ≡ q % 2 = lowest p ∙ ap (λ b. cond b 1 0) (e 0) ∙ sym (lowest q) in
    omega (arith, upper, low)

-- whether one set holds every seat of another, told by seats
pub subset_means : (p q : ℕ) → T (subset p q) → (s : ℕ) → Holds s p → Holds s q
subset_means p q t s h =
    let same = eqb→eq (bit_and p q) p t in
    both_true (held s p) (held s q) (subst T (sym (ap (held s) same) ∙ held_both s p q) h)

pub subset_made : (k p q : ℕ) → p < 2 ^ k → ((s : ℕ) → Holds s p → Holds s q) → T (subset p q)
subset_made k p q f g =
    let same = same_seats k (bit_and p q) p (lt_of_le_of_lt (and_le_l p q) f) f (λ s. held_both s p q ∙ absorb (held s p) (held s q) (g s)) in
    subst T (sym (eq-eqb (bit_and p q) p same)) tt

-- a set with a seat added
pub held_with : (s t q : ℕ) → t < 64 → held s (with_seat t q) ≡ (held s q || s == t)
held_with s t q h =
    ap (λ b. held s (cond b (union q (2 ^ t)) q)) (lt-ltb t 64 h) ∙ held_union s q (2 ^ t) ∙ ap (λ b. held s q || b) (held_one s t)

true_from : (b : Bool) → T b → b ≡ true
true_from true t = refl
true_from false t = absurd t

-- what a set holds, it holds with a seat added
pub with_keeps : (s t q : ℕ) → Holds s q → Holds s (with_seat t q)
with_keeps s t q h =
    elim (cases_lt t 64) [
      | inl l ↦ subst T (sym (held_with s t q l ∙ or_left (held s q) (s == t) (true_from (held s q) h))) tt
      | inr g ↦ subst (Holds s) (sym (ap (λ b. cond b (union q (2 ^ t)) q) (le-ltb t 64 g))) h
    ]

-- and a seat that was not held before is the one that was added
pub with_adds : (s t q : ℕ) → Holds s (with_seat t q) → Holds s q ⊎ (s ≡ t)
with_adds s t q h =
    elim (cases_lt t 64) [
      | inl l ↦
          elim (or_cases (held s q) (s == t) (sym (held_with s t q l) ∙ true_from (held s (with_seat t q)) h)) [
            | inl old ↦ inl (subst T (sym old) tt)
            | inr new ↦ inr (eqb-true s t new)
          ]
      | inr g ↦ inl (subst (Holds s) (ap (λ b. cond b (union q (2 ^ t)) q) (le-ltb t 64 g)) h)
    ]

-- a seat that was added is held
pub with_holds : (t q : ℕ) → t < 64 → Holds t (with_seat t q)
with_holds t q l = subst T (sym (held_with t t q l ∙ or_right (held t q) (t == t) (eq-eqb t t refl))) tt

-- a set is below 2 ^ n exactly where it has no digits from n on
pub no_upper_digits : (n q : ℕ) → (q / 2 ^ n == 0) ≡ nat_lt q (2 ^ n)
no_upper_digits n q =
    elim (cases_lt q (2 ^ n)) [
      | inl h ↦ ap (λ x. nat_eq x 0) (div-eq_of_lt h) ∙ sym (lt-ltb q (2 ^ n) h)
      | inr h ↦
          let some : 1 ≤ q / 2 ^ n = le-div 1 q (2 ^ n) (pow_pos n) (omega arith) in
          ne_eqb (q / 2 ^ n) 0 (λ e. omega arith) ∙ sym (le-ltb q (2 ^ n) h)
    ]

-- a set below 2 ^ s lacks seat s
pub held_beyond : (s q : ℕ) → q < 2 ^ s → held s q ≡ false
held_beyond s q h = ap (λ x. nat_eq (x % 2) 1) (div-eq_of_lt h)

-- a set below 2 ^ n holds only seats below n
pub held_within : (n s q : ℕ) → q < 2 ^ n → Holds s q → s < n
held_within n s q h t =
    elim (cases_lt s n) [ inl lt ↦ lt | inr ge ↦ absurd (subst T (held_beyond s q (lt_of_lt_of_le h (pow_mono ge))) t) ]

-- the digits of everyone but q: the lowest is q's turned over, and the others are those of everyone but q's others
but_halves : (n q : ℕ) → (everyone_but (suc n) q % 2 ≡ 1 - q % 2) × (everyone_but (suc n) q / 2 ≡ everyone_but n (q / 2))
but_halves n q =
    let A = 2 ^ n in
    let r = q / 2 % 2 ^ n in
    let double : 2 ^ suc n ≡ A * 2 = pow-suc 2 n in
    let parts : q % 2 ^ suc n ≡ r * 2 + q % 2 = ap (λ x. q % 2 ^ x) (sym (add-one n)) ∙ mod-pow-add q n 1 in
    let below : r < A = mod_below (q / 2) (2 ^ n) (pow_pos n) in
    let small : q % 2 < 2 = mod_below q 2 (omega arith) in
    let whole : everyone_but (suc n) q ≡ (A - 1 - r) * 2 + (1 - q % 2) = omega (arith, double, parts, below, small) in
    let top : 1 - q % 2 < 2 = omega arith in
    (ap (λ x. x % 2) whole ∙ mod-mul-add (A - 1 - r) 2 (1 - q % 2) top, ap (λ x. x / 2) whole ∙ div-mul-add (A - 1 - r) 2 (1 - q % 2) top)

turned : (b : ℕ) → (b ≡ 0) ⊎ (b ≡ 1) → (1 - b == 1) ≡ not (b == 1)
turned b (inl e) = rw e
turned b (inr e) = rw e

and_true : (b : Bool) → (b && true) ≡ b
and_true true = refl
and_true false = refl

-- everyone but q holds the seats below n that q does not hold
pub held_but : (n s q : ℕ) → held s (everyone_but n q) ≡ (nat_lt s n && not (held s q))
held_but zero s q =
    ap (held s) (zero-sub (q % 1)) ∙ held_none s ∙ sym (ap (λ b. b && not (held s q)) (leb-suc-zero s))
held_but (suc n) zero q =
    held_zero (everyone_but (suc n) q) ∙ ap (λ x. nat_eq x 1) (but_halves n q).0 ∙ turned (q % 2) (digit q)
    ∙ ap not (sym (held_zero q)) ∙ sym (ap (λ b. b && not (held 0 q)) (leb-suc-suc 0 n ∙ leb-zero n))
held_but (suc n) (suc s) q =
    held_suc s (everyone_but (suc n) q) ∙ ap (held s) (but_halves n q).1 ∙ held_but n s (q / 2)
    ∙ ap₂ (λ a b. a && not b) (sym (leb-suc-suc (suc s) n)) (sym (held_suc s q))

-- all of the n seats: everyone but no one
pub held_everyone : (n s : ℕ) → held s (everyone n) ≡ nat_lt s n
held_everyone n s =
    let whole : everyone n ≡ everyone_but n 0 = omega (arith, zero-mod (2 ^ n)) in
    ap (held s) whole ∙ held_but n s 0 ∙ ap (λ b. nat_lt s n && not b) (held_none s) ∙ and_true (nat_lt s n)
