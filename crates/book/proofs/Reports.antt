-- Reports: each names a block of the book, of an earlier view, and an unheard seat's report ranks lowest.
-- Assumes nothing.
use Rattle.std.proofs.Common.{◌≡◌, ℕ, ◌<◌, Bool, true, false, cond, not, ◌&&◌, eqb, ltb, List, length, get_or, is_some, Some, None, Option, unwrap_or, sym, refl, ap, ◌∙◌, subst, inl, inr, arith}
use Rattle.std.proofs.lemmas.List.FromFn.{get_or-map-range_with_len, length-map-range_with_len}
use Rattle.std.proofs.lemmas.List.{get_or_past}
use Rattle.std.proofs.lemmas.Bool.{and_parts, and_from, and_right, both_ways, cases_Bool, cases_lt, eqb-true, eq-eqb, le-ltb, or_from}
use Rattle.quorum.specs.Seats.{held}
use Rattle.letters.proofs.Searches.{any_below_some, any_below_not, any_below_same, last_is, last_at}
use Rattle.letters.specs.Letters.{gathered}
use Rattle.letters.specs.declared.reports.Reports.{Reports}
use Rattle.quorum.specs.declared.seats.SeatSet.{SeatSet}
use Rattle.book.specs.Admission.{unfit, any_below, written, latest, no_letter, report_of, reports_of, silent, reports_it, reports_higher, outranks, certificate_view}
use Rattle.book.specs.Known.{Known}
use Rattle.book.specs.Pages.{at, letter_at}
use Rattle.book.specs.Rules.{LatestLetter}
use Rattle.book.specs.declared.block.Block.{Block}
use Rattle.letters.specs.declared.letter.Letter.{Letter}

-- the latest letter, by the search
pub latest_letter : (ls : List Letter) (s v b : ℕ) → latest ls s v ≡ Some b → LatestLetter ls s v b
latest_letter ls s v b e =
    let (i, h, wrote, names, none) = last_is _ _ (length ls) b e in
    let parts = and_parts (eqb (letter_at ls i).seat s) (eqb (letter_at ls i).view v) wrote in
    record {
      number = i;
      held = h;
      from = eqb-true _ _ parts.0;
      for_view = eqb-true _ _ parts.1;
      names = names;
      none_later = λ j l k f g. both_ways (written (letter_at ls j) s v) (none j l k) (and_from _ _ (eq-eqb _ _ f) (eq-eqb _ _ g));
    }

pub letter_latest : (ls : List Letter) (s v b : ℕ) → LatestLetter ls s v b → latest ls s v ≡ Some b
letter_latest ls s v b r =
    last_at _ _ (length ls) r.number r.held (and_from _ _ (eq-eqb _ _ r.from) (eq-eqb _ _ r.for_view))
    (λ j l k.
    elim (cases_Bool (written (letter_at ls j) s v)) [
      | inl t ↦
          let parts = and_parts (eqb (letter_at ls j).seat s) (eqb (letter_at ls j).view v) t in
          absurd (r.none_later j l k (eqb-true _ _ parts.0) (eqb-true _ _ parts.1))
      | inr f ↦ f
    ])
    ∙ ap Some r.names

module _ (bs : List Block) (ls : List Letter) (known : Known bs ls) (heard v : ℕ) where
  -- what a letter of the view names is in the book, and earlier
  pub latest_held : (s b : ℕ) → latest ls s v ≡ Some b → (b < length bs) × ((at bs b).view < v)
  latest_held s b e =
      let (i, h, wrote, names, none) = last_is _ _ (length ls) b e in
      let for_view = eqb-true _ _ (and_parts (eqb (letter_at ls i).seat s) (eqb (letter_at ls i).view v) wrote).1 in
      (omega (arith, known.letters_known i h, names), omega (arith, known.letters_later i h, ap (λ x. (at bs x).view) names, for_view))

  report_held : (s : ℕ) → report_of ls heard v s < length bs
  report_held s = pick (held s heard) (latest ls s v) (latest_held s)
    where
      pick : (h : Bool) (o : Option ℕ) → ((b : ℕ) → o ≡ Some b → (b < length bs) × ((at bs b).view < v)) → cond h (unwrap_or o 0) 0 < length bs
      pick true None f = known.some
      pick true (Some b) f = (f b refl).0
      pick false o f = known.some

  -- a report as it is read from the row
  pub report_at : (s : ℕ) → s < 64 → get_or (reports_of ls heard v) s 0 ≡ report_of ls heard v s
  unfolding reports_of
  report_at s h = get_or-map-range_with_len (report_of ls heard v) 0 64 s s 0 h (omega arith)

  pub reports_held : (s : ℕ) → get_or (reports_of ls heard v) s 0 < length bs
  unfolding reports_of
  reports_held s =
      elim (cases_lt s 64) [
        | inl h ↦ omega (arith, report_at s h, report_held s)
        | inr g ↦ omega (arith, get_or_past (reports_of ls heard v) s 0 (omega (arith, length-map-range_with_len (report_of ls heard v) 0 64)), known.some)
      ]

  -- a heard seat that is not silent has a letter, and reports what it names
  pub letter_of : (s : ℕ) → held s heard ≡ true → no_letter ls heard v s ≡ false → latest ls s v ≡ Some (report_of ls heard v s)
  letter_of s h n = pick (held s heard) (latest ls s v) h n
    where
      pick : (b : Bool) (o : Option ℕ) → b ≡ true → (b && not (is_some o)) ≡ false → o ≡ Some (cond b (unwrap_or o 0) 0)
      pick true None e f = absurd (both_ways true f refl)
      pick true (Some x) e f = refl
      pick false o e f = absurd (both_ways false refl e)

  -- what a heard seat's latest letter names is what it reports
  pub heard_report : (s b : ℕ) → held s heard ≡ true → s < 64 → latest ls s v ≡ Some b → get_or (reports_of ls heard v) s 0 ≡ b
  heard_report s b h l e =
      report_at s l ∙ ap (λ t. cond t (unwrap_or (latest ls s v) 0) 0) h ∙ ap (λ o. unwrap_or o 0) e

  -- the first block outranks nothing
  first_lowest : (y : ℕ) → outranks bs 0 y ≡ false
  first_lowest y =
      let own : (at bs 0).certificate ≡ 0 = omega (arith, known.certificates_known 0 known.some) in
      let view = known.first_view in
      let cert : certificate_view bs 0 ≡ 0 = ap (λ b. (at bs b).view) own ∙ view in
      or_from (ltb (at bs y).view (at bs 0).view) _ (le-ltb _ _ (omega (arith, view)))
      (and_right (eqb (at bs y).view (at bs 0).view) (ltb (certificate_view bs y) (certificate_view bs 0)) (le-ltb _ _ (omega (arith, cert))))

  -- so an unheard seat's report does not count
  pub heard_outrank :
      (parent : ℕ) →
      any_below (λ s. outranks bs (get_or (reports_of ls heard v) s 0) parent) 64 ≡ any_below (reports_higher bs (reports_of ls heard v) heard parent) 64
  heard_outrank parent = any_below_same _ _ 64 each
    where
      each : (k : ℕ) → k < 64 → outranks bs (get_or (reports_of ls heard v) k 0) parent ≡ (held k heard && outranks bs (get_or (reports_of ls heard v) k 0) parent)
      each k h =
          elim (cases_Bool (held k heard)) [
            | inl t ↦ sym (ap (λ b. b && outranks bs (get_or (reports_of ls heard v) k 0) parent) t)
            | inr f ↦
                let none : get_or (reports_of ls heard v) k 0 ≡ 0 = report_at k h ∙ ap (λ b. cond b (unwrap_or (latest ls k v) 0) 0) f in
                ap (λ x. outranks bs x parent) none ∙ first_lowest parent
                ∙ sym (ap (λ b. b && outranks bs (get_or (reports_of ls heard v) k 0) parent) f)
          ]

  -- a reported parent is of an earlier view
  pub reported_earlier :
      (parent : ℕ) → silent ls heard v ≡ false → any_below (reports_it (reports_of ls heard v) heard parent) 64 ≡ true → (at bs parent).view < v
  reported_earlier parent quiet told =
      let (s, h, t) = any_below_some _ 64 told in
      let parts = and_parts (held s heard) (eqb (get_or (reports_of ls heard v) s 0) parent) t in
      let is : report_of ls heard v s ≡ parent = sym (report_at s h) ∙ eqb-true _ _ parts.1 in
      (latest_held s parent (letter_of s parts.0 (any_below_not _ 64 quiet s h) ∙ ap Some is)).1

-- The same of reports that were gathered.
module _ (bs : List Block) (ls : List Letter) (known : Known bs ls) (heard : SeatSet) (v : ℕ) (r : Reports) (told : r ≡ gathered ls heard v) where
  pub gathered_held : (s : ℕ) → get_or r.blocks s 0 < length bs
  gathered_held s = subst (λ (x : Reports). get_or x.blocks s 0 < length bs) (sym told) (reports_held bs ls known heard.bits v s)

  pub gathered_outrank : (parent : ℕ) → any_below (λ s. outranks bs (get_or r.blocks s 0) parent) 64 ≡ any_below (reports_higher bs r.blocks r.heard.bits parent) 64
  gathered_outrank parent =
      subst (λ (x : Reports). any_below (λ s. outranks bs (get_or x.blocks s 0) parent) 64 ≡ any_below (reports_higher bs x.blocks x.heard.bits parent) 64)
      (sym told) (heard_outrank bs ls known heard.bits v parent)

  pub gathered_unfit : (parent : ℕ) → unfit bs (reports_of ls heard.bits v) heard.bits parent ≡ unfit bs r.blocks r.heard.bits parent
  gathered_unfit parent = ap (λ (x : Reports). unfit bs x.blocks x.heard.bits parent) (sym told)
