-- Every change keeps the book as the rules say.
-- Assumes nothing.
use Rattle.std.proofs.Common.{◌≡◌, ℕ, suc, ◌<◌, Bool, true, ◌&&◌, T, ltb, ◌⊎◌, List, [], ◌∷◌, ◌++◌, length, get_or, Some, None, Option, sym, refl, ap, ◌∙◌, subst, inl, inr, ⊎_elim, arith, length-set}
use Rattle.std.proofs.lemmas.List.{length_push}
use Rattle.std.proofs.lemmas.Bool.{and_parts, and_from, both_ways, cases_Bool, cond-true, cond-false, ltb-true, ltb-false, lt-ltb}
use Rattle.quorum.specs.Sets.{held_within}
use Rattle.quorum.specs.Laws.{QuorumLaws}
use Rattle.quorum.specs.Seats.{Holds}
use Rattle.safety.specs.Book.{Made, StandsOn, NoClash, Good}
use Rattle.safety.specs.Sound.{FastRule, ReportRule, Advances, Stays}
use Rattle.book.specs.Admission.{Design, certificate_view, good, entered, named, namers, taken, slow_certificate, reports_of, fast_block, slow_block}
use Rattle.book.specs.Changes.{vote_after}
use Rattle.book.specs.Kinds.{is_slow}
use Rattle.book.specs.Known.{Known}
use Rattle.book.specs.Pages.{no_reports, genesis, at, stands}
use Rattle.book.specs.Rules.{model, JustifiedFast, JustifiedSlow, Certified, SlowMade, WellMade}
use Rattle.book.specs.declared.block.Block.{Block}
use Rattle.book.specs.declared.block.Kind.{Kind}
use Rattle.book.specs.declared.block.Kind.TheVariants.{Fast as FastKind, Slow as SlowKind}
use Rattle.letters.specs.declared.letter.Letter.{Letter}
use Rattle.book.specs.declared.block.Proposal.{Proposal}
use Rattle.book.proofs.Chains.{stands_within}
use Rattle.book.proofs.Entries.{slow_certificate_held}
use Rattle.book.proofs.Extends.{Extends, extends_push, extends_vote, stands_up, stands_down, no_clash_up, no_clash_down, fast_up, slow_up, commit_up}
use Rattle.book.proofs.Growth.{at_old, at_new, old_or_new}
use Rattle.letters.proofs.Named.{named_is, is_named, names}
use Rattle.book.proofs.Reports.{latest_held, letter_latest, heard_report}
use Rattle.letters.proofs.Truth.{true_from}
use Rattle.book.proofs.Reflect.{stands_relates, relates_stands, good_told, good_tested}

-- The heard seats of a book's blocks are real.
seats_heard :
    (d : Design) (bs : List Block) {most : ℕ} {tolerated : ℕ → Bool} → QuorumLaws most d.seats d.quorum tolerated → WellMade d bs →
    (a s : ℕ) → 0 < a → a < length bs → Holds s (at bs a).heard.bits → s < 64
seats_heard d bs laws well a s p h t =
    let within = laws.quorum_within (at bs a).heard.bits (well.heard_enough a (p, h)) in
    omega (arith, held_within d.seats s (at bs a).heard.bits within t, laws.seats_fit, laws.most_fits)

-- One block more.
module _ (d : Design) (bs : List Block) (ls : List Letter) (known : Known bs ls) (b : Block) where
  abbrev more : List Block
  more = bs ++ b ∷ []

  -- what the new block must show
  record NewMade : Type 0 where
    parent_held : b.parent < length bs
    parent_earlier : (at bs b.parent).view < b.view
    led : b.maker ≡ d.leads b.view
    enough : T (d.quorum b.heard.bits)
    fast_made : (T (is_slow b.kind) → ⊥) → FastRule (model d more) (length bs)
    slow_made : T (is_slow b.kind) → SlowMade (model d more) (length bs)
    commit_made : Advances (model d more) (length bs) ⊎ Stays (model d more) (length bs)

  well_push : WellMade d bs → NewMade → WellMade d more
  well_push well new =
      let ext = extends_push bs b in
      let here = at_new bs b in
      record {
        genesis_view = ap (λ x. x.view) (at_old bs b 0 known.some) ∙ well.genesis_view;
        genesis_certificate = ap (λ x. x.certificate) (at_old bs b 0 known.some) ∙ well.genesis_certificate;
        genesis_commit = ap (λ x. x.commit) (at_old bs b 0 known.some) ∙ well.genesis_commit;
        parent_before = λ k m.
            ⊎_elim (λ l. omega (arith, ap (λ x. x.parent) (at_old bs b k l), well.parent_before k (m.0, l)))
            (λ e. omega (arith, e, ap (λ j. (at more j).parent) e, ap (λ x. x.parent) here, new.parent_held)) (old_or_new bs b k m.1);
        parent_view = λ k m.
            ⊎_elim
            (λ l.
            let up = ap (λ x. x.parent) (at_old bs b k l) in
            let below = well.parent_before k (m.0, l) in
            let parent = ap (λ y. (at more y).view) up ∙ ap (λ x. x.view) (at_old bs b (at bs k).parent (omega arith)) in
            omega (arith, parent, ap (λ x. x.view) (at_old bs b k l), well.parent_view k (m.0, l)))
            (λ e.
            let up = ap (λ j. (at more j).parent) e ∙ ap (λ x. x.parent) here in
            let parent = ap (λ y. (at more y).view) up ∙ ap (λ x. x.view) (at_old bs b b.parent new.parent_held) in
            omega (arith, parent, ap (λ j. (at more j).view) e, ap (λ x. x.view) here, new.parent_earlier))
            (old_or_new bs b k m.1);
        led = λ k m.
            ⊎_elim
            (λ l. let same = at_old bs b k l in ap (λ x. x.maker) same ∙ well.led k (m.0, l) ∙ ap (λ x. d.leads x.view) (sym same))
            (λ e. let same = ap (at more) e ∙ here in ap (λ x. x.maker) same ∙ new.led ∙ ap (λ x. d.leads x.view) (sym same))
            (old_or_new bs b k m.1);
        heard_enough = λ k m.
            ⊎_elim
            (λ l. subst (λ x. T (d.quorum x.heard.bits)) (sym (at_old bs b k l)) (well.heard_enough k (m.0, l)))
            (λ e. subst (λ x. T (d.quorum x.heard.bits)) (sym (ap (at more) e ∙ here)) new.enough)
            (old_or_new bs b k m.1);
        fast_made = λ k m fast.
            ⊎_elim
            (λ l. fast_up d ext known.parents_before known k (m.0, l) (well.fast_made k (m.0, l) (subst (λ x. T (is_slow x.kind) → ⊥) (at_old bs b k l) fast)))
            (λ e. subst (FastRule (model d more)) (sym e) (new.fast_made (subst (λ x. T (is_slow x.kind) → ⊥) (ap (at more) e ∙ here) fast)))
            (old_or_new bs b k m.1);
        slow_made = λ k m slow.
            ⊎_elim
            (λ l. slow_up d ext known.parents_before known k (m.0, l) (well.slow_made k (m.0, l) (subst (λ x. T (is_slow x.kind)) (at_old bs b k l) slow)))
            (λ e. subst (SlowMade (model d more)) (sym e) (new.slow_made (subst (λ x. T (is_slow x.kind)) (ap (at more) e ∙ here) slow)))
            (old_or_new bs b k m.1);
        commit_made = λ k m.
            ⊎_elim
            (λ l. commit_up d ext known.parents_before known k (m.0, l) (well.commit_made k (m.0, l)))
            (λ e. subst (λ j. Advances (model d more) j ⊎ Stays (model d more) j) (sym e) new.commit_made)
            (old_or_new bs b k m.1);
      }

-- The block that a proposal becomes.
module _
    (d : Design) (bs : List Block) (ls : List Letter) (known : Known bs ls) {most : ℕ} {tolerated : ℕ → Bool}
    (laws : QuorumLaws most d.seats d.quorum tolerated) (well : WellMade d bs) (p : Proposal) (maker : ℕ) (kind : Kind)
    (reports : List ℕ) (S : ℕ) (hp : p.parent < length bs) (hS : S < length bs)
  where
    abbrev block : Block
    block = entered bs maker p kind reports S

    abbrev later : List Block
    later = bs ++ entered bs maker p kind reports S ∷ []

    at_end : at later (length bs) ≡ entered bs maker p kind reports S
    at_end = at_new bs (entered bs maker p kind reports S)

    old : (k : ℕ) → k < length bs → at later k ≡ at bs k
    old k h = at_old bs (entered bs maker p kind reports S) k h

    -- the fields of the new block in the longer book, by number
    cert_is : (at later (length bs)).certificate ≡ S
    cert_is = ap (λ x. x.certificate) at_end

    second_is : (at later (at later (length bs)).certificate).certificate ≡ (at bs S).certificate
    second_is = ap (λ z. (at later z).certificate) cert_is ∙ ap (λ x. x.certificate) (old S hS)

    parent_is : (at later (length bs)).parent ≡ p.parent
    parent_is = ap (λ x. x.parent) at_end

    parent_commit_is : (at later (at later (length bs)).parent).commit ≡ (at bs p.parent).commit
    parent_commit_is = ap (λ z. (at later z).commit) parent_is ∙ ap (λ x. x.commit) (old p.parent hp)

    hB : (at bs S).certificate < length bs
    hB = omega (arith, known.certificates_known S hS)

    hC : (at bs p.parent).commit < length bs
    hC = omega (arith, known.commits_known p.parent hp)

    view_of : (x y : ℕ) → x ≡ y → y < length bs → (at later x).view ≡ (at bs y).view
    view_of x y e h = ap (λ z. (at later z).view) e ∙ ap (λ x. x.view) (old y h)

    -- good to commit, in the book before and after
    good_after : ((at bs S).view ≡ suc (at bs (at bs S).certificate).view) ⊎ NoClash (model d bs) S (at bs S).certificate → Good (model d later) (length bs)
    good_after (inl next) = inl (view_of _ _ cert_is hS ∙ next ∙ ap suc (sym (view_of _ _ second_is hB)))
    good_after (inr none) =
        inr (subst (λ y. NoClash (model d later) y (at later (at later (length bs)).certificate).certificate) (sym cert_is)
        (subst (NoClash (model d later) S) (sym second_is) (no_clash_up d (extends_push bs block) known.parents_before known S (at bs S).certificate hS hB none)))

    good_before : Good (model d later) (length bs) → ((at bs S).view ≡ suc (at bs (at bs S).certificate).view) ⊎ NoClash (model d bs) S (at bs S).certificate
    good_before (inl next) = inl (sym (view_of _ _ cert_is hS) ∙ next ∙ ap suc (view_of _ _ second_is hB))
    good_before (inr none) =
        inr (no_clash_down d (extends_push bs block) known.parents_before known S (at bs S).certificate hS hB
        (subst (NoClash (model d later) S) second_is
        (subst (λ y. NoClash (model d later) y (at later (at later (length bs)).certificate).certificate) cert_is none)))

    commit_new : Advances (model d later) (length bs) ⊎ Stays (model d later) (length bs)
    commit_new =
        let B = (at bs S).certificate in
        let C = (at bs p.parent).commit in
        let t = ltb (at bs C).view (at bs B).view && good bs S B in
        let seated = seats_heard d bs laws well in
        let point = ap (λ x. x.commit) at_end in
        let vB = view_of _ _ second_is hB in
        let vC = view_of _ _ parent_commit_is hC in
        elim (cases_Bool t) [
          | inl e ↦
              let parts = and_parts (ltb (at bs C).view (at bs B).view) (good bs S B) e in
              inl (record {
                good = good_after (good_told d bs known.parents_before known B hB S hS seated parts.1);
                later = omega (arith, ltb-true _ _ parts.0, vB, vC);
                point = point ∙ cond-true t B C e ∙ sym second_is;
              })
          | inr e ↦
              inr (record {
                point = point ∙ cond-false t B C e ∙ sym parent_commit_is;
                reached = λ g.
                    let is_good = good_tested d bs known.parents_before known B hB S hS seated (good_before g) in
                    elim (cases_Bool (ltb (at bs C).view (at bs B).view)) [
                      | inl higher ↦ absurd (both_ways t e (and_from _ _ higher is_good))
                      | inr lower ↦ omega (arith, ltb-false _ _ lower, vB, vC)
                    ];
              })
        ]

module _
    (d : Design) (bs : List Block) (ls : List Letter) (known : Known bs ls) {most : ℕ} {tolerated : ℕ → Bool}
    (laws : QuorumLaws most d.seats d.quorum tolerated) (well : WellMade d bs) (p : Proposal)
  where
    pub well_fast : JustifiedFast d bs p → WellMade d (bs ++ fast_block d bs p ∷ [])
    well_fast j =
        let hp = j.parent_held in
        let b = fast_block d bs p in
        let later = bs ++ b ∷ [] in
        let here = at_new bs b in
        let parent = ap (λ x. x.parent) here in
        well_push d bs ls known b well
        (record {
          parent_held = hp;
          parent_earlier = omega (arith, j.next_view);
          led = refl;
          enough = j.enough;
          fast_made = λ fast. record {
            voted = λ s h.
                subst (λ y. Holds s (at later y).voters.bits) (sym parent)
                (subst (λ x. Holds s x.voters.bits) (sym (at_old bs b p.parent hp)) (j.voted s (subst (λ x. Holds s x.heard.bits) here h)));
            next_view = ap (λ x. x.view) here ∙ j.next_view ∙ ap suc (sym (ap (λ y. (at later y).view) parent ∙ ap (λ x. x.view) (at_old bs b p.parent hp)));
            certifies = ap (λ x. x.certificate) here ∙ sym parent;
          };
          slow_made = λ slow. absurd slow;
          commit_made = commit_new d bs ls known laws well p (d.leads p.view) FastKind no_reports p.parent hp hp;
        })

    pub well_slow : JustifiedSlow d bs ls p → WellMade d (bs ++ slow_block d bs ls p ∷ [])
    well_slow j =
        well_push d bs ls known (slow_block d bs ls p) well
        (record {
          parent_held = j.parent_held;
          parent_earlier = (latest_held bs ls known p.heard.bits p.view j.parent_reported.0 p.parent (letter_latest ls _ p.view p.parent j.parent_reported.2)).1;
          led = refl;
          enough = j.enough;
          fast_made = λ fast. absurd (fast tt);
          slow_made = λ slow. record { reports = told; certificate = certificate (named d.quorum (reports_of ls p.heard.bits p.view) p.heard.bits) refl };
          commit_made = commit_new d bs ls known laws well p (d.leads p.view) SlowKind (reports_of ls p.heard.bits p.view) (slow_certificate d.quorum bs p.parent (reports_of ls p.heard.bits p.view) p.heard.bits) j.parent_held hS;
        })
      where
        hS : slow_certificate d.quorum bs p.parent (reports_of ls p.heard.bits p.view) p.heard.bits < length bs
        hS = slow_certificate_held d.quorum bs ls known p.parent (reports_of ls p.heard.bits p.view) p.heard.bits j.parent_held

        seat_of : (s : ℕ) → Holds s p.heard.bits → s < 64
        seat_of s h = omega (arith, held_within d.seats s p.heard.bits (laws.quorum_within p.heard.bits j.enough) h, laws.seats_fit, laws.most_fits)

        parent_is_it : (at (bs ++ slow_block d bs ls p ∷ []) (length bs)).parent ≡ p.parent
        parent_is_it = ap (λ x. x.parent) (at_new bs (slow_block d bs ls p))

        report_is : (s : ℕ) → get_or (at (bs ++ slow_block d bs ls p ∷ []) (length bs)).reports s 0 ≡ get_or (reports_of ls p.heard.bits p.view) s 0
        report_is s = ap (λ x. get_or x.reports s 0) (at_new bs (slow_block d bs ls p))

        heard_is : (s : ℕ) → Holds s (at (bs ++ slow_block d bs ls p ∷ []) (length bs)).heard.bits → Holds s p.heard.bits
        heard_is s h = subst (λ x. Holds s x.heard.bits) (at_new bs (slow_block d bs ls p)) h

        is_heard : (s : ℕ) → Holds s p.heard.bits → Holds s (at (bs ++ slow_block d bs ls p ∷ []) (length bs)).heard.bits
        is_heard s h = subst (λ x. Holds s x.heard.bits) (sym (at_new bs (slow_block d bs ls p))) h

        view_is : (x y : ℕ) → x ≡ y → y < length bs → (at (bs ++ slow_block d bs ls p ∷ []) x).view ≡ (at bs y).view
        view_is x y e h = ap (λ z. (at (bs ++ slow_block d bs ls p ∷ []) z).view) e ∙ ap (λ v. v.view) (at_old bs (slow_block d bs ls p) y h)

        cert_view_is : (x y : ℕ) → x ≡ y → y < length bs → (at (bs ++ slow_block d bs ls p ∷ []) (at (bs ++ slow_block d bs ls p ∷ []) x).certificate).view ≡ certificate_view bs y
        cert_view_is x y e h =
            view_is _ _ (ap (λ z. (at (bs ++ slow_block d bs ls p ∷ []) z).certificate) e ∙ ap (λ v. v.certificate) (at_old bs (slow_block d bs ls p) y h))
            (omega (arith, known.certificates_known y h))

        told : (s : ℕ) → Holds s (at (bs ++ slow_block d bs ls p ∷ []) (length bs)).heard.bits → ReportRule (model d (bs ++ slow_block d bs ls p ∷ [])) (length bs) (get_or (at (bs ++ slow_block d bs ls p ∷ []) (length bs)).reports s 0)
        told s h =
            let hs = heard_is s h in
            let l = j.letters s hs in
            let named_it = letter_latest ls s p.view l.0 l.1 in
            let in_book = (latest_held bs ls known p.heard.bits p.view s l.0 named_it).0 in
            let is = report_is s ∙ heard_report bs ls known p.heard.bits p.view s l.0 (true_from _ hs) (seat_of s hs) named_it in
            let rank = j.unbeaten s l.0 hs l.1 in
            let vx = view_is _ _ is in_book in
            let vp = view_is _ _ parent_is_it j.parent_held in
            let cx = cert_view_is _ _ is in_book in
            let cp = cert_view_is _ _ parent_is_it j.parent_held in
            record {
              known = omega (arith, is, in_book, length_push bs (slow_block d bs ls p));
              within = ⊎_elim (λ lt. inl (omega (arith, lt, vx, vp))) (λ eq. inr (omega (arith, eq.0, vx, vp), omega (arith, eq.1, cx, cp))) rank;
            }

        -- a quorum of the reports, as the longer book has them
        found : (c : ℕ) → Certified (model d (bs ++ slow_block d bs ls p ∷ [])) (length bs) c → named d.quorum (reports_of ls p.heard.bits p.view) p.heard.bits ≡ Some c
        found c r =
            is_named laws (reports_of ls p.heard.bits p.view) p.heard.bits r.quorum c r.enough (laws.quorum_within p.heard.bits j.enough)
            (λ s h. let t = r.reported s h in (heard_is s t.0, sym (report_is s) ∙ t.1))

        passes : (c : ℕ) → Certified (model d (bs ++ slow_block d bs ls p ∷ [])) (length bs) c → (stands bs p.parent c && ltb (certificate_view bs p.parent) (at bs c).view) ≡ true
        passes c r =
            let chain = stands_down d (extends_push bs (slow_block d bs ls p)) known.parents_before (subst (λ y. StandsOn (model d (bs ++ slow_block d bs ls p ∷ [])) y c) parent_is_it r.on_chain) j.parent_held in
            let test = relates_stands d bs known.parents_before chain in
            let hc : c < length bs = omega (arith, stands_within bs known.parents_before p.parent c j.parent_held test, j.parent_held) in
            and_from _ _ test (lt-ltb _ _ (omega (arith, r.later, cert_view_is _ _ parent_is_it j.parent_held, view_is c c refl hc)))

        inherits : (at (bs ++ slow_block d bs ls p ∷ []) (at (bs ++ slow_block d bs ls p ∷ []) (length bs)).parent).certificate ≡ (at bs p.parent).certificate
        inherits = ap (λ z. (at (bs ++ slow_block d bs ls p ∷ []) z).certificate) parent_is_it ∙ ap (λ v. v.certificate) (at_old bs (slow_block d bs ls p) p.parent j.parent_held)

        own_cert : (at (bs ++ slow_block d bs ls p ∷ []) (length bs)).certificate ≡ slow_certificate d.quorum bs p.parent (reports_of ls p.heard.bits p.view) p.heard.bits
        own_cert = ap (λ v. v.certificate) (at_new bs (slow_block d bs ls p))

        made_by : (c : ℕ) → named d.quorum (reports_of ls p.heard.bits p.view) p.heard.bits ≡ Some c → (stands bs p.parent c && ltb (certificate_view bs p.parent) (at bs c).view) ≡ true → Certified (model d (bs ++ slow_block d bs ls p ∷ [])) (length bs) c
        made_by c e t =
            let parts = and_parts (stands bs p.parent c) (ltb (certificate_view bs p.parent) (at bs c).view) t in
            let hc : c < length bs = omega (arith, stands_within bs known.parents_before p.parent c j.parent_held parts.0, j.parent_held) in
            let chain = stands_up d (extends_push bs (slow_block d bs ls p)) known.parents_before (stands_relates d bs known.parents_before p.parent c j.parent_held parts.0) in
            record {
              on_chain = subst (λ y. StandsOn (model d (bs ++ slow_block d bs ls p ∷ [])) y c) (sym parent_is_it) chain;
              later = omega (arith, ltb-true _ _ parts.1, cert_view_is _ _ parent_is_it j.parent_held, view_is c c refl hc);
              quorum = namers (reports_of ls p.heard.bits p.view) p.heard.bits c;
              enough = named_is laws (reports_of ls p.heard.bits p.view) p.heard.bits c e;
              reported = λ s h. let n = names (reports_of ls p.heard.bits p.view) p.heard.bits c s h in (is_heard s n.1, report_is s ∙ n.2);
            }

        certificate :
            (o : Option ℕ) → named d.quorum (reports_of ls p.heard.bits p.view) p.heard.bits ≡ o →
            Certified (model d (bs ++ slow_block d bs ls p ∷ [])) (length bs) (at (bs ++ slow_block d bs ls p ∷ []) (length bs)).certificate
            ⊎ (((at (bs ++ slow_block d bs ls p ∷ []) (length bs)).certificate ≡ (at (bs ++ slow_block d bs ls p ∷ []) (at (bs ++ slow_block d bs ls p ∷ []) (length bs)).parent).certificate)
            × ((c : ℕ) → Certified (model d (bs ++ slow_block d bs ls p ∷ [])) (length bs) c → ⊥))
        certificate None e = inr (own_cert ∙ ap (taken bs p.parent) e ∙ sym inherits, λ c r. none_some (sym e ∙ found c r))
          where
            none_some : {c : ℕ} → None ≡ Some c → ⊥
            none_some q = let z : ◌≡◌ {A = ℕ} 0 1 = cc in omega arith
        certificate (Some c) e =
            let t = stands bs p.parent c && ltb (certificate_view bs p.parent) (at bs c).view in
            elim (cases_Bool t) [
              | inl yes_t ↦
                  inl (subst (Certified (model d (bs ++ slow_block d bs ls p ∷ [])) (length bs)) (sym (own_cert ∙ ap (taken bs p.parent) e ∙ cond-true t c (at bs p.parent).certificate yes_t)) (made_by c e yes_t))
              | inr no_t ↦
                  inr (
                    own_cert ∙ ap (taken bs p.parent) e ∙ cond-false t c (at bs p.parent).certificate no_t ∙ sym inherits,
                    λ x r. both_ways t no_t (subst (λ y. (stands bs p.parent y && ltb (certificate_view bs p.parent) (at bs y).view) ≡ true) (same_some (sym (found x r) ∙ e)) (passes x r)),
                  )
            ]
          where
            same_some : {x y : ℕ} → Some x ≡ Some y → x ≡ y
            same_some q = cc

-- More votes and nothing else change nothing that the rules speak of.
pub well_same :
    (d : Design) {bs cs : List Block} {ls : List Letter} → Known bs ls → Extends bs cs → length cs ≡ length bs → WellMade d bs → WellMade d cs
well_same d {bs} {cs} known ext long well =
    record {
      genesis_view = (ext.each 0 known.some).view ∙ well.genesis_view;
      genesis_certificate = (ext.each 0 known.some).certificate ∙ well.genesis_certificate;
      genesis_commit = (ext.each 0 known.some).commit ∙ well.genesis_commit;
      parent_before = λ b m. omega (arith, (ext.each b (here m).1).parent, well.parent_before b (here m));
      parent_view = λ b m.
          let below = well.parent_before b (here m) in
          let parent = ap (λ z. (at cs z).view) (ext.each b (here m).1).parent ∙ (ext.each (at bs b).parent (omega (arith, below, (here m).1))).view in
          omega (arith, parent, (ext.each b (here m).1).view, well.parent_view b (here m));
      led = λ b m. (ext.each b (here m).1).maker ∙ well.led b (here m) ∙ ap d.leads (sym (ext.each b (here m).1).view);
      heard_enough = λ b m. subst (λ q. T (d.quorum q.bits)) (sym (ext.each b (here m).1).heard) (well.heard_enough b (here m));
      fast_made = λ b m fast. fast_up d ext known.parents_before known b (here m) (well.fast_made b (here m) (subst (λ q. T (is_slow q) → ⊥) (ext.each b (here m).1).kind fast));
      slow_made = λ b m slow. slow_up d ext known.parents_before known b (here m) (well.slow_made b (here m) (subst (λ q. T (is_slow q)) (ext.each b (here m).1).kind slow));
      commit_made = λ b m. commit_up d ext known.parents_before known b (here m) (well.commit_made b (here m));
    }
  where
    here : {b : ℕ} → Made (model d cs) b → Made (model d bs) b
    here m = (m.0, omega (arith, m.1, long))

pub well_vote : (d : Design) (bs : List Block) (ls : List Letter) → Known bs ls → (seat k : ℕ) → WellMade d bs → WellMade d (vote_after bs seat k)
well_vote d bs ls known seat k well = well_same d known (extends_vote bs seat k) (length-set bs k _) well

-- A new book is well made: it has no block to speak of.
pub well_first : (d : Design) (n : ℕ) → WellMade d (genesis n ∷ [])
well_first d n =
    record {
      genesis_view = refl;
      genesis_certificate = refl;
      genesis_commit = refl;
      parent_before = λ b m. absurd (none m);
      parent_view = λ b m. absurd (none m);
      led = λ b m. absurd (none m);
      heard_enough = λ b m. absurd (none m);
      fast_made = λ b m. absurd (none m);
      slow_made = λ b m. absurd (none m);
      commit_made = λ b m. absurd (none m);
    }
  where
    none : {b : ℕ} → Made (model d (genesis n ∷ [])) b → ⊥
    none m = omega (arith, m.0, m.1)
