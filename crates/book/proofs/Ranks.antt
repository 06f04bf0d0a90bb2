-- Ranks: the order of pairs is the order of ranks, and what the highest of a row of ranks tells.
-- Assumes nothing.
use Rattle.std.proofs.Common.{◌≡◌, ℕ, ◌<◌, Bool, true, false, cond, ◌&&◌, ◌||◌, eqb, ltb, List, length, get_or, Some, None, Option, Ordering, Less, Equal, Greater, sym, refl, ap, ◌∙◌, inl, inr, arith}
use Rattle.std.proofs.lemmas.Bool.{cases_Bool}
use Rattle.std.proofs.lemmas.List.MinMax.{ranks_by, IsStrictWeakOrder-flip}
use Rattle.std.specs.Option.{option_map_or}
use Rattle.std.specs.Cmp.{IsTotalOrder, nat_cmp_total, then_total, on_total}
use Rattle.std.specs.Ordering.{is_lt, is_gt, nat_cmp, ordering_then}
use Rattle.highest.specs.Row.{above, FirstHighest}
use Rattle.highest.proofs.Best.{answered}
use Rattle.letters.proofs.Searches.{any_below_found, any_below_none}
use Rattle.book.specs.Admission.{any_below, certificate_view, outranks, rank_of}
use Rattle.book.specs.Pages.{at}
use Rattle.book.specs.declared.block.Block.{Block}

-- the first numbers decide, and the second where those are equal
decided : (a b c d : Bool) → is_lt (ordering_then (cond a Less (cond b Equal Greater)) (cond c Less (cond d Equal Greater))) ≡ (a || (b && c))
decided true b c d = refl
decided false true true d = refl
decided false true false true = refl
decided false true false false = refl
decided false false c d = refl

-- the order of pairs
abbrev pub rank_cmp : ℕ × ℕ → ℕ × ℕ → Ordering
rank_cmp x y = ordering_then (nat_cmp x.0 y.0) (nat_cmp x.1 y.1)

-- which is total, as that of each `Ord` type is
pub rank_total : IsTotalOrder rank_cmp
rank_total = then_total (on_total (λ p. p.0) nat_cmp_total) (on_total (λ p. p.1) nat_cmp_total)

pub above_is_outranks : (bs : List Block) (x y : ℕ) → above rank_cmp (rank_of bs x) (rank_of bs y) ≡ outranks bs x y
above_is_outranks bs x y =
    decided (ltb (at bs y).view (at bs x).view) (eqb (at bs y).view (at bs x).view)
    (ltb (certificate_view bs y) (certificate_view bs x)) (eqb (certificate_view bs y) (certificate_view bs x))

-- a row of ranks, those of the reports
module _
    (bs : List Block) (parent : ℕ) (reports : List ℕ) (ranks : List (ℕ × ℕ)) (long : length ranks ≡ 64)
    (read : (k : ℕ) → k < 64 → get_or ranks k (0, 0) ≡ rank_of bs (get_or reports k 0))
  where
    rises : (k : ℕ) → k < 64 → above rank_cmp (get_or ranks k (0, 0)) (rank_of bs parent) ≡ outranks bs (get_or reports k 0) parent
    rises k h = ap (λ r. above rank_cmp r (rank_of bs parent)) (read k h) ∙ above_is_outranks bs (get_or reports k 0) parent

    -- where the highest is not above the parent's rank, none is
    none_above : (i : ℕ) → FirstHighest rank_cmp ranks (Some i) → above rank_cmp (get_or ranks i (0, 0)) (rank_of bs parent) ≡ false → (k : ℕ) → k < 64 → outranks bs (get_or reports k 0) parent ≡ false
    none_above i f e k h =
        let order = IsStrictWeakOrder-flip (λ x y. is_lt (rank_cmp x y)) (ranks_by rank_total (λ x. x)) in
        sym (rises k h) ∙ order.chain (get_or ranks k (0, 0)) (get_or ranks i (0, 0)) (rank_of bs parent) (f.1 k (0, 0) (omega (arith, long))) e

    -- the highest is above the parent's rank exactly where a report outranks the parent
    pub picked_above :
        (o : Option ℕ) → FirstHighest rank_cmp ranks o →
        option_map_or (λ i. is_gt (rank_cmp (get_or ranks i (0, 0)) (rank_of bs parent))) o false ≡ any_below (λ s. outranks bs (get_or reports s 0) parent) 64
    picked_above None f = absurd (omega (arith, f, long))
    picked_above (Some i) f =
        sym (answered rank_total (get_or ranks i (0, 0)) (rank_of bs parent) _ refl)
        ∙ elim (cases_Bool (above rank_cmp (get_or ranks i (0, 0)) (rank_of bs parent))) [
          | inl t ↦ t ∙ sym (any_below_found _ 64 i (omega (arith, f.0, long)) (sym (rises i (omega (arith, f.0, long))) ∙ t))
          | inr n ↦ n ∙ sym (any_below_none _ 64 (none_above i f n))
        ]
