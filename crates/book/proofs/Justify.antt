-- A proposal is accepted exactly when it is justified and nothing else bars it.
-- Assumes nothing.
use Rattle.std.proofs.Common.{◌≡◌, ℕ, ◌<◌, Bool, true, false, not, ◌&&◌, T, eqb, ltb, List, length, get_or, Some, Ok, sym, refl, ap, ◌∙◌, inl, inr, add-one, arith}
use Rattle.std.proofs.lemmas.Bool.{and_parts, and_from, and_left, and_right, or_from, or_parts, both_ways, not-false, not_from_true, not_from_false, cases_Bool, eqb-true, eq-eqb, lt-ltb, ltb-false, lt-leb, le-ltb, le-leb, cases_lt}
use Rattle.quorum.specs.Sets.{held_within, subset_means, subset_made}
use Rattle.quorum.specs.Laws.{QuorumLaws}
use Rattle.quorum.specs.Seats.{held, Holds}
use Rattle.refusal.proofs.Replies.{none_applies, none_refused}
use Rattle.refusal.specs.Reasons.{NoneApplies}
use Rattle.safety.specs.Book.{RanksWithin}
use Rattle.letters.proofs.Searches.{any_below_some, any_below_not, any_below_found, any_below_none}
use Rattle.book.specs.Admission.{Design, any_below, certificate_view, has_view, shared_reasons, fast_reasons, slow_reasons, fast_reply, slow_reply, outranks, no_letter, latest, report_of, reports_of, reports_it, reports_higher}
use Rattle.book.specs.Known.{Known}
use Rattle.book.specs.Pages.{at}
use Rattle.book.specs.Rules.{model, JustifiedFast, JustifiedSlow, Unbarred}
use Rattle.book.specs.declared.block.Block.{Block}
use Rattle.letters.specs.declared.letter.Letter.{Letter}
use Rattle.book.specs.declared.block.Proposal.{Proposal}
use Rattle.book.proofs.Entries.{Screened, screened}
use Rattle.letters.proofs.Truth.{true_from, from_true}
use Rattle.book.proofs.Reflect.{not_from}
use Rattle.book.proofs.Reports.{letter_of, heard_report, report_at, latest_letter, letter_latest}
use Rattle.book.proofs.Views.{has_view_found, has_view_none}

-- the reasons that both kinds share, one way and the other
module _ (d : Design) (bs : List Block) (p : Proposal) where
  unbarred_of : Screened d bs p → Unbarred d bs p
  unbarred_of s =
      record {
        viewed = s.viewed;
        room = s.room;
        first_of_view = λ kept b h e.
            let open_not : held (d.leads p.view) d.open_seats ≡ false =
            elim (cases_Bool (held (d.leads p.view) d.open_seats)) [ inl t ↦ absurd (kept (from_true _ t)) | inr f ↦ f ] in
            both_ways (not (held (d.leads p.view) d.open_seats) && has_view bs p.view) s.no_twin
            (and_from _ _ (not_from_false _ open_not) (has_view_found bs p.view b h e));
      }

  module _ {most : ℕ} {tolerated : ℕ → Bool} (laws : QuorumLaws most d.seats d.quorum tolerated) where
    shared_none :
        T (d.quorum p.heard.bits) → p.parent < length bs → Unbarred d bs p → NoneApplies (shared_reasons d bs p)
    shared_none enough held_parent free = (
      not_from_true _ (lt-ltb _ _ (laws.quorum_within p.heard.bits enough)),
      (
        lt-leb _ _ held_parent,
        (
          not_from_true _ (and_from _ _ (le-leb _ _ free.viewed.0) (le-leb _ _ free.viewed.1)),
          (
            lt-leb _ _ free.room,
            (
              twin,
              (
                not_from_true _ (true_from _ enough),
                tt,
              ),
            ),
          ),
        ),
      ),
    )
      where
        twin : (not (held (d.leads p.view) d.open_seats) && has_view bs p.view) ≡ false
        twin =
            elim (cases_Bool (held (d.leads p.view) d.open_seats)) [
              | inl t ↦ and_left _ (has_view bs p.view) (not_from_true _ t)
              | inr f ↦ and_right (not (held (d.leads p.view) d.open_seats)) _ (has_view_none bs p.view (free.first_of_view (not_from _ f)))
            ]

    heard_below : T (d.quorum p.heard.bits) → (s : ℕ) → Holds s p.heard.bits → s < 64
    heard_below enough s h =
        let seated = held_within d.seats s p.heard.bits (laws.quorum_within p.heard.bits enough) h in
        omega (arith, seated, laws.seats_fit, laws.most_fits)

    pub fast_justified : (z : ℕ) → fast_reply d bs p ≡ Ok z → JustifiedFast d bs p × Unbarred d bs p
    fast_justified z e =
        let (a, (b, (c, (f, (g, (h, (voted, (next, end)))))))) = none_applies (fast_reasons d bs p) z (length bs) (sym e) in
        let s = screened d bs p z z (sym (none_refused (shared_reasons d bs p) z (a, (b, (c, (f, (g, (h, tt)))))))) in (
          record {
            parent_held = s.parent_held;
            next_view = sym (eqb-true _ _ (not-false _ next)) ∙ add-one _;
            enough = from_true _ s.enough;
            voted = subset_means _ _ (from_true _ (not-false _ voted));
          },
          unbarred_of s,
        )

    pub justified_fast : JustifiedFast d bs p → Unbarred d bs p → fast_reply d bs p ≡ Ok (length bs)
    justified_fast j free =
        let (a, (b, (c, (f, (g, (h, end)))))) = shared_none j.enough j.parent_held free in
        let voted = not_from_true _ (true_from _ (subset_made d.seats _ _ (laws.quorum_within p.heard.bits j.enough) j.voted)) in
        let next = not_from_true _ (eq-eqb _ _ (add-one _ ∙ sym j.next_view)) in
        none_refused (fast_reasons d bs p) (length bs) (a, (b, (c, (f, (g, (h, (voted, (next, tt))))))))

    module _ (ls : List Letter) (known : Known bs ls) where
      within_rank : (x : ℕ) → outranks bs x p.parent ≡ false → RanksWithin (model d bs) x p.parent
      within_rank x e =
          let parts = or_parts (ltb (at bs p.parent).view (at bs x).view) _ e in
          let below = ltb-false _ _ parts.0 in
          elim (cases_lt (at bs x).view (at bs p.parent).view) [
            | inl l ↦ inl l
            | inr g ↦
                let same : (at bs p.parent).view ≡ (at bs x).view = omega arith in
                elim (cases_Bool (ltb (certificate_view bs p.parent) (certificate_view bs x))) [
                  | inl t ↦ absurd (both_ways (eqb (at bs p.parent).view (at bs x).view && ltb (certificate_view bs p.parent) (certificate_view bs x)) parts.1 (and_from _ _ (eq-eqb _ _ same) t))
                  | inr f ↦ inr (sym same, ltb-false _ _ f)
                ]
          ]

      rank_within : (x : ℕ) → RanksWithin (model d bs) x p.parent → outranks bs x p.parent ≡ false
      rank_within x (inl l) =
          or_from (ltb (at bs p.parent).view (at bs x).view) _ (le-ltb _ _ (omega arith))
          (and_left (eqb (at bs p.parent).view (at bs x).view) _ (ne (at bs p.parent).view (at bs x).view l))
        where
          ne : (u w : ℕ) → w < u → eqb u w ≡ false
          ne u w h = elim (cases_Bool (eqb u w)) [ inl t ↦ absurd (omega (arith, eqb-true u w t)) | inr f ↦ f ]
      rank_within x (inr r) =
          or_from (ltb (at bs p.parent).view (at bs x).view) _ (le-ltb _ _ (omega (arith, r.0)))
          (and_right (eqb (at bs p.parent).view (at bs x).view) _ (le-ltb _ _ r.1))

      abbrev row : List ℕ
      row = reports_of ls p.heard.bits p.view

      row_at : (s : ℕ) → s < 64 → get_or row s 0 ≡ report_of ls p.heard.bits p.view s
      row_at s h = report_at bs ls known p.heard.bits p.view s h

      reads : (s b : ℕ) → Holds s p.heard.bits → s < 64 → latest ls s p.view ≡ Some b → get_or row s 0 ≡ b
      reads s b h l e = heard_report bs ls known p.heard.bits p.view s b (true_from _ h) l e

      pub slow_justified : (z : ℕ) → slow_reply d bs ls p ≡ Ok z → JustifiedSlow d bs ls p × Unbarred d bs p
      slow_justified z e =
          let (a, (b, (c, (f, (g, (h, (quiet, (fit, end)))))))) = none_applies (slow_reasons d bs ls p) z (length bs) (sym e) in
          let s = screened d bs p z z (sym (none_refused (shared_reasons d bs p) z (a, (b, (c, (f, (g, (h, tt)))))))) in
          let enough = from_true _ s.enough in
          let parts = or_parts (not (any_below (reports_it row p.heard.bits p.parent) 64)) _ fit in
          let letter = λ (k : ℕ) (hk : Holds k p.heard.bits). letter_of bs ls known p.heard.bits p.view k (true_from _ hk) (any_below_not _ 64 quiet k (heard_below enough k hk)) in
          let (q, below, told) = any_below_some (reports_it row p.heard.bits p.parent) 64 (not-false _ parts.0) in
          let told_parts = and_parts (held q p.heard.bits) (eqb (get_or row q 0) p.parent) told in
          let hq = from_true _ told_parts.0 in (
            record {
              parent_held = s.parent_held;
              enough = enough;
              letters = λ k hk. (report_of ls p.heard.bits p.view k, latest_letter ls k p.view _ (letter k hk));
              parent_reported = (q, hq, latest_letter ls q p.view p.parent (letter q hq ∙ ap Some (sym (row_at q below) ∙ eqb-true _ _ told_parts.1)));
              unbeaten = λ k x hk l.
                  let lk = heard_below enough k hk in
                  let is = reads k x hk lk (letter_latest ls k p.view x l) in
                  let higher = any_below_not (reports_higher bs row p.heard.bits p.parent) 64 parts.1 k lk in
                  within_rank x (ap (λ y. outranks bs y p.parent) (sym is) ∙ rest (held k p.heard.bits) _ (true_from _ hk) higher);
            },
            unbarred_of s,
          )
        where
          rest : (t u : Bool) → t ≡ true → (t && u) ≡ false → u ≡ false
          rest true u e f = f
          rest false u e f = absurd (both_ways false refl e)

      pub justified_slow : JustifiedSlow d bs ls p → Unbarred d bs p → slow_reply d bs ls p ≡ Ok (length bs)
      justified_slow j free =
          let (a, (b, (c, (f, (g, (h, end)))))) = shared_none j.enough j.parent_held free in
          let fit = or_from _ _ (not_from_true _ it) (any_below_none _ 64 higher) in
          none_refused (slow_reasons d bs ls p) (length bs) (a, (b, (c, (f, (g, (h, (any_below_none _ 64 quiet, (fit, tt))))))))
        where
          seat_of : (s : ℕ) → Holds s p.heard.bits → s < 64
          seat_of = heard_below j.enough

          quiet : (k : ℕ) → k < 64 → no_letter ls p.heard.bits p.view k ≡ false
          quiet k h =
              elim (cases_Bool (held k p.heard.bits)) [
                | inl t ↦
                    let l = j.letters k (from_true _ t) in
                    and_right (held k p.heard.bits) _ (ap (λ o. not (Rattle.std.specs.Option.is_some o)) (letter_latest ls k p.view l.0 l.1))
                | inr f ↦ and_left (held k p.heard.bits) _ f
              ]

          it : any_below (reports_it row p.heard.bits p.parent) 64 ≡ true
          it =
              let (q, hq, l) = j.parent_reported in
              any_below_found _ 64 q (seat_of q hq) (and_from _ _ (true_from _ hq) (eq-eqb _ _ (reads q p.parent hq (seat_of q hq) (letter_latest ls q p.view p.parent l))))

          higher : (k : ℕ) → k < 64 → reports_higher bs row p.heard.bits p.parent k ≡ false
          higher k h =
              elim (cases_Bool (held k p.heard.bits)) [
                | inl t ↦
                    let hk = from_true _ t in
                    let l = j.letters k hk in
                    let is = reads k l.0 hk h (letter_latest ls k p.view l.0 l.1) in
                    and_right (held k p.heard.bits) _ (ap (λ y. outranks bs y p.parent) is ∙ rank_within l.0 (j.unbeaten k l.0 hk l.1))
                | inr f ↦ and_left (held k p.heard.bits) _ f
              ]
