-- One book later than another: more blocks and more votes, and all else as it was. What is said of a block stays true.
-- Assumes nothing.
use Rattle.std.proofs.Common.{◌≡◌, ℕ, suc, ◌<◌, ◌≤◌, T, ◌≢◌, ◌⊎◌, List, [], ◌∷◌, ◌++◌, length, get_or, sym, refl, ap, ◌∙◌, subst, inl, inr, ⊎_elim, arith, length-set, get_or-set_other, get_or-set_same}
use Rattle.std.proofs.lemmas.List.{length_push}
use Rattle.std.proofs.lemmas.Bool.{cases_eq}
use Rattle.quorum.specs.Sets.{with_keeps}
use Rattle.quorum.specs.Seats.{Holds}
use Rattle.safety.specs.Book.{Made, StandsOn, self, up, NoClash, Good, RanksWithin}
use Rattle.safety.specs.Sound.{FastRule, Advances, Stays}
use Rattle.book.specs.Admission.{Design}
use Rattle.book.specs.Changes.{voted, vote_after}
use Rattle.book.specs.Kinds.{is_slow}
use Rattle.book.specs.Known.{Known, ParentsBefore}
use Rattle.book.specs.Pages.{genesis, at}
use Rattle.book.specs.Rules.{model, Certified, SlowMade}
use Rattle.book.specs.declared.block.Block.{Block}
use Rattle.letters.specs.declared.letter.Letter.{Letter}
use Rattle.book.proofs.Chains.{later_positive}
use Rattle.book.proofs.Growth.{at_old}

-- a block, and the same block at a later time
pub record Later (x y : Block) : Type 0 where
  pub view : y.view ≡ x.view
  pub parent : y.parent ≡ x.parent
  pub maker : y.maker ≡ x.maker
  pub kind : y.kind ≡ x.kind
  pub heard : y.heard ≡ x.heard
  pub reports : y.reports ≡ x.reports
  pub certificate : y.certificate ≡ x.certificate
  pub commit : y.commit ≡ x.commit
  pub voters : (s : ℕ) → Holds s x.voters.bits → Holds s y.voters.bits

pub record Extends (bs cs : List Block) : Type 0 where
  pub longer : length bs ≤ length cs
  pub each : (b : ℕ) → b < length bs → Later (at bs b) (at cs b)

later_refl : (x : Block) → Later x x
later_refl x =
    record {
      view = refl;
      parent = refl;
      maker = refl;
      kind = refl;
      heard = refl;
      reports = refl;
      certificate = refl;
      commit = refl;
      voters = λ s h. h;
    }

pub extends_refl : (bs : List Block) → Extends bs bs
extends_refl bs = record { longer = omega arith; each = λ b h. later_refl (at bs b) }

pub extends_trans : {bs cs es : List Block} → Extends bs cs → Extends cs es → Extends bs es
extends_trans p q =
    record {
      longer = omega (arith, p.longer, q.longer);
      each = λ b h.
          let x = p.each b h in
          let y = q.each b (omega (arith, p.longer)) in
          record {
            view = y.view ∙ x.view;
            parent = y.parent ∙ x.parent;
            maker = y.maker ∙ x.maker;
            kind = y.kind ∙ x.kind;
            heard = y.heard ∙ x.heard;
            reports = y.reports ∙ x.reports;
            certificate = y.certificate ∙ x.certificate;
            commit = y.commit ∙ x.commit;
            voters = λ s v. y.voters s (x.voters s v);
          };
    }

pub extends_push : (bs : List Block) (b : Block) → Extends bs (bs ++ b ∷ [])
extends_push bs b =
    record {
      longer = omega (arith, length_push bs b);
      each = λ k h. subst (Later (at bs k)) (sym (at_old bs b k h)) (later_refl (at bs k));
    }

later_voted : (seat : ℕ) (x : Block) → Later x (voted seat x)
later_voted seat x =
    record {
      view = refl;
      parent = refl;
      maker = refl;
      kind = refl;
      heard = refl;
      reports = refl;
      certificate = refl;
      commit = refl;
      voters = λ s h. with_keeps s seat x.voters.bits h;
    }

pub extends_vote : (bs : List Block) (seat k : ℕ) → Extends bs (vote_after bs seat k)
extends_vote bs seat k =
    record { longer = omega (arith, length-set bs k (voted seat (at bs k))); each = each }
  where
    each : (b : ℕ) → b < length bs → Later (at bs b) (at (vote_after bs seat k) b)
    each b h =
        elim (cases_eq b k) [
          | inl e ↦
              subst (λ j. Later (at bs j) (at (vote_after bs seat k) j)) (sym e)
              (subst (Later (at bs k)) (sym (get_or-set_same bs k (voted seat (at bs k)) (genesis 0) (omega arith))) (later_voted seat (at bs k)))
          | inr n ↦ subst (Later (at bs b)) (sym (get_or-set_other bs k b (voted seat (at bs k)) (genesis 0) n)) (later_refl (at bs b))
        ]

-- What is said of the blocks of the earlier book is true of them in the later one, and nothing else is.
module _ (d : Design) {bs cs : List Block} (ext : Extends bs cs) (before : ParentsBefore bs) where
  made_up : {b : ℕ} → Made (model d bs) b → Made (model d cs) b
  made_up m = (m.0, omega (arith, m.1, ext.longer))

  pub stands_up : {x c : ℕ} → StandsOn (model d bs) x c → StandsOn (model d cs) x c
  stands_up self = self
  stands_up (up {b} {c} m p) =
      up (made_up m) (subst (λ y. StandsOn (model d cs) y c) (sym (ext.each b m.1).parent) (stands_up p))

  pub stands_down : {x c : ℕ} → StandsOn (model d cs) x c → x < length bs → StandsOn (model d bs) x c
  stands_down self h = self
  stands_down (up {b} {c} m p) h =
      let same = (ext.each b h).parent in
      let down = before b m.0 h in
      up (m.0, h) (subst (λ y. StandsOn (model d bs) y c) same (stands_down p (omega (arith, same, down))))

  module _ {ls : List Letter} (known : Known bs ls) where
    on_chain : {x c : ℕ} → StandsOn (model d bs) x c → x < length bs → c < length bs
    on_chain self h = h
    on_chain (up {b} m p) h = on_chain p (omega (arith, before b m.0 m.1))

    view_same : (b : ℕ) → b < length bs → (at cs b).view ≡ (at bs b).view
    view_same b h = (ext.each b h).view

    report_same : (b s : ℕ) → b < length bs → get_or (at cs b).reports s 0 ≡ get_or (at bs b).reports s 0
    report_same b s h = ap (λ r. get_or r s 0) (ext.each b h).reports

    report_in : (b s : ℕ) → b < length bs → get_or (at bs b).reports s 0 < length bs
    report_in b s h = omega (arith, known.reports_known b s h)

    certificate_in : (b : ℕ) → b < length bs → (at bs b).certificate < length bs
    certificate_in b h = omega (arith, known.certificates_known b h)

    commit_in : (b : ℕ) → b < length bs → (at bs b).commit < length bs
    commit_in b h = omega (arith, known.commits_known b h)

    parent_in : (b : ℕ) → 0 < b → b < length bs → (at bs b).parent < length bs
    parent_in b p h = omega (arith, before b p h)

    -- the view of a block that a field names
    view_at : (x y : ℕ) → x ≡ y → y < length bs → (at cs x).view ≡ (at bs y).view
    view_at x y e h = ap (λ z. (at cs z).view) e ∙ view_same y h

    pub no_clash_up : (S B : ℕ) → S < length bs → B < length bs → NoClash (model d bs) S B → NoClash (model d cs) S B
    no_clash_up S B hS hB none a s on slow later heard level differs =
        let on' = stands_down on hS in
        let ha = on_chain on' hS in
        let x = ext.each a ha in
        let later' : (at bs B).view < (at bs a).view = omega (arith, later, view_same B hB, view_same a ha) in
        let pos = later_positive bs known.first_view (at bs B).view a later' in
        let rep = report_same a s ha in
        let level' : (at bs (get_or (at bs a).reports s 0)).view ≡ (at bs (at bs a).parent).view =
        sym (view_at _ _ rep (report_in a s ha)) ∙ level ∙ view_at _ _ x.parent (parent_in a pos ha) in
        let differs' : get_or (at bs a).reports s 0 ≢ (at bs a).parent = λ e. differs (rep ∙ e ∙ sym x.parent) in
        ⊎_elim (λ p. inl (subst (λ y. StandsOn (model d cs) y B) (sym rep) (stands_up p)))
        (λ p. inr (subst (λ y. StandsOn (model d cs) B y) (sym rep) (stands_up p)))
        (none a s on' (subst (λ q. T (is_slow q)) x.kind slow) later' (subst (λ q. Holds s q.bits) x.heard heard) level' differs')

    pub no_clash_down : (S B : ℕ) → S < length bs → B < length bs → NoClash (model d cs) S B → NoClash (model d bs) S B
    no_clash_down S B hS hB none a s on slow later heard level differs =
        let ha = on_chain on hS in
        let x = ext.each a ha in
        let pos = later_positive bs known.first_view (at bs B).view a later in
        let rep = report_same a s ha in
        let level' : (at cs (get_or (at cs a).reports s 0)).view ≡ (at cs (at cs a).parent).view =
        view_at _ _ rep (report_in a s ha) ∙ level ∙ sym (view_at _ _ x.parent (parent_in a pos ha)) in
        let differs' : get_or (at cs a).reports s 0 ≢ (at cs a).parent = λ e. differs (sym rep ∙ e ∙ x.parent) in
        ⊎_elim (λ p. inl (stands_down (subst (λ y. StandsOn (model d cs) y B) rep p) (report_in a s ha)))
        (λ p. inr (stands_down (subst (λ y. StandsOn (model d cs) B y) rep p) hB))
        (none a s (stands_up on) (subst (λ q. T (is_slow q)) (sym x.kind) slow) (omega (arith, later, view_same B hB, view_same a ha)) (subst (λ q. Holds s q.bits) (sym x.heard) heard) level' differs')

    -- the certificate and the certificate of the certificate
    cert_same : (b : ℕ) → b < length bs → (at cs b).certificate ≡ (at bs b).certificate
    cert_same b h = (ext.each b h).certificate

    second_same : (b : ℕ) → b < length bs → (at cs (at cs b).certificate).certificate ≡ (at bs (at bs b).certificate).certificate
    second_same b h = ap (λ z. (at cs z).certificate) (cert_same b h) ∙ cert_same (at bs b).certificate (certificate_in b h)

    pub good_up : (b : ℕ) → b < length bs → Good (model d bs) b → Good (model d cs) b
    good_up b h (inl next) =
        let S = certificate_in b h in
        inl (view_at _ _ (cert_same b h) S ∙ next ∙ ap suc (sym (view_at _ _ (second_same b h) (certificate_in (at bs b).certificate S))))
    good_up b h (inr none) =
        let S = certificate_in b h in
        inr (subst (λ y. NoClash (model d cs) y (at cs y).certificate) (sym (cert_same b h))
        (subst (λ y. NoClash (model d cs) (at bs b).certificate y) (sym (cert_same (at bs b).certificate S)) (no_clash_up _ _ S (certificate_in (at bs b).certificate S) none)))

    pub good_down : (b : ℕ) → b < length bs → Good (model d cs) b → Good (model d bs) b
    good_down b h (inl next) =
        let S = certificate_in b h in
        inl (sym (view_at _ _ (cert_same b h) S) ∙ next ∙ ap suc (view_at _ _ (second_same b h) (certificate_in (at bs b).certificate S)))
    good_down b h (inr none) =
        let S = certificate_in b h in
        inr (no_clash_down _ _ S (certificate_in (at bs b).certificate S)
        (subst (λ y. NoClash (model d cs) (at bs b).certificate y) (cert_same (at bs b).certificate S)
        (subst (λ y. NoClash (model d cs) y (at cs y).certificate) (cert_same b h) none)))

    module _ (b : ℕ) (m : Made (model d bs) b) where
      parent_there : (at bs b).parent < length bs
      parent_there = parent_in b m.0 m.1

      pub fast_up : FastRule (model d bs) b → FastRule (model d cs) b
      fast_up r =
          let x = ext.each b m.1 in
          record {
            voted = λ s h.
                subst (λ y. Holds s (at cs y).voters.bits) (sym x.parent)
                ((ext.each (at bs b).parent parent_there).voters s (r.voted s (subst (λ q. Holds s q.bits) x.heard h)));
            next_view = x.view ∙ r.next_view ∙ ap suc (sym (view_at _ _ x.parent parent_there));
            certifies = x.certificate ∙ r.certifies ∙ sym x.parent;
          }

      ranks_up : (x y x' y' : ℕ) → x' ≡ x → y' ≡ y → x < length bs → y < length bs → RanksWithin (model d bs) x y → RanksWithin (model d cs) x' y'
      ranks_up x y x' y' e f hx hy r =
          let vx = view_at _ _ e hx in
          let vy = view_at _ _ f hy in
          let cx = ap (λ z. (at cs (at cs z).certificate).view) e ∙ view_at _ _ (cert_same x hx) (certificate_in x hx) in
          let cy = ap (λ z. (at cs (at cs z).certificate).view) f ∙ view_at _ _ (cert_same y hy) (certificate_in y hy) in
          ⊎_elim (λ lt. inl (omega (arith, lt, vx, vy))) (λ eq. inr (omega (arith, eq.0, vx, vy), omega (arith, eq.1, cx, cy))) r

      certified_up : (c : ℕ) → c < length bs → Certified (model d bs) b c → Certified (model d cs) b c
      certified_up c hc r =
          let x = ext.each b m.1 in
          let parent_cert = ap (λ z. (at cs (at cs z).certificate).view) x.parent ∙ view_at _ _ (cert_same (at bs b).parent parent_there) (certificate_in (at bs b).parent parent_there) in
          record {
            on_chain = subst (λ y. StandsOn (model d cs) y c) (sym x.parent) (stands_up r.on_chain);
            later = omega (arith, r.later, parent_cert, view_same c hc);
            quorum = r.quorum;
            enough = r.enough;
            reported = λ s h.
                let told = r.reported s h in
                (subst (λ q. Holds s q.bits) (sym x.heard) told.0, report_same b s m.1 ∙ told.1);
          }

      certified_down : (c : ℕ) → Certified (model d cs) b c → Certified (model d bs) b c
      certified_down c r =
          let x = ext.each b m.1 in
          let chain = stands_down (subst (λ y. StandsOn (model d cs) y c) x.parent r.on_chain) parent_there in
          let hc = on_chain chain parent_there in
          let parent_cert = ap (λ z. (at cs (at cs z).certificate).view) x.parent ∙ view_at _ _ (cert_same (at bs b).parent parent_there) (certificate_in (at bs b).parent parent_there) in
          record {
            on_chain = chain;
            later = omega (arith, r.later, parent_cert, view_same c hc);
            quorum = r.quorum;
            enough = r.enough;
            reported = λ s h.
                let told = r.reported s h in
                (subst (λ q. Holds s q.bits) x.heard told.0, sym (report_same b s m.1) ∙ told.1);
          }

      pub slow_up : SlowMade (model d bs) b → SlowMade (model d cs) b
      slow_up r =
          let x = ext.each b m.1 in
          record {
            reports = λ s h.
                let told = r.reports s (subst (λ q. Holds s q.bits) x.heard h) in
                let rep = report_same b s m.1 in
                record {
                  known = omega (arith, told.known, rep, ext.longer);
                  within = ranks_up _ _ _ _ rep x.parent told.known parent_there told.within;
                };
            certificate =
                ⊎_elim
                (λ own. inl (subst (Certified (model d cs) b) (sym x.certificate) (certified_up _ (certificate_in b m.1) own)))
                (λ old. inr (
                  x.certificate ∙ old.0 ∙ sym (ap (λ z. (at cs z).certificate) x.parent ∙ cert_same (at bs b).parent parent_there),
                  λ c q. old.1 c (certified_down c q),
                ))
                r.certificate;
          }

      pub commit_up : Advances (model d bs) b ⊎ Stays (model d bs) b → Advances (model d cs) b ⊎ Stays (model d cs) b
      commit_up r =
          let x = ext.each b m.1 in
          let S = certificate_in b m.1 in
          let B = certificate_in (at bs b).certificate S in
          let second = view_at _ _ (second_same b m.1) B in
          let parents = ap (λ z. (at cs z).commit) x.parent ∙ (ext.each (at bs b).parent parent_there).commit in
          let parents_view = view_at _ _ parents (commit_in (at bs b).parent parent_there) in
          ⊎_elim
          (λ a. inl (record {
            good = good_up b m.1 a.good;
            later = omega (arith, a.later, second, parents_view);
            point = x.commit ∙ a.point ∙ sym (second_same b m.1);
          }))
          (λ t. inr (record {
            point = x.commit ∙ t.point ∙ sym parents;
            reached = λ g. omega (arith, t.reached (good_down b m.1 g), second, parents_view);
          }))
          r
