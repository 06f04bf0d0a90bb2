-- What a proposal that passed has shown, and that its block can be added.
-- Assumes nothing.
use Rattle.std.proofs.Common.{◌≡◌, ℕ, ◌+◌, ◌<◌, ◌≤◌, Bool, true, false, cond, not, ◌&&◌, eqb, ltb, List, [], ◌∷◌, ◌++◌, length, get_or, Some, None, Ok, Err, Option, ap, ◌∙◌, inl, inr, arith}
use Rattle.std.proofs.lemmas.Bool.{and_parts, eq-eqb, ne_eqb, not-false, leb-false, cases_Bool, cond-true, cond-false}
use Rattle.quorum.specs.Seats.{held, within, subset}
use Rattle.refusal.proofs.Replies.{none_applies, replied_past, replied_stop}
use Rattle.refusal.specs.Reasons.{Reason, replied}
use Rattle.refusal.specs.declared.Refusal.{Refusal}
use Rattle.refusal.specs.declared.Refusal.TheVariants.{HeardSeatSilent, ParentUnfit}
use Rattle.rotation.proofs.Leaders.{view_passed}
use Rattle.rotation.specs.Turns.{is_view, IsView}
use Rattle.book.specs.Admission.{Design, has_view, shared_reasons, good, commit_after, entered, grown, fast_reply, fast_block, fast_blocks, reports_of, silent, unfit, certificate_view, named, taken, slow_certificate, slow_reply, slow_block, slow_blocks}
use Rattle.book.specs.Known.{Known, Enters}
use Rattle.book.specs.Pages.{at, stands}
use Rattle.book.specs.declared.block.Block.{Block}
use Rattle.book.specs.declared.block.Kind.{Kind}
use Rattle.letters.specs.declared.letter.Letter.{Letter}
use Rattle.book.specs.declared.block.Proposal.{Proposal}
use Rattle.book.proofs.Chains.{stands_within}

-- none of the shared reasons applies
pub record Screened (d : Design) (bs : List Block) (p : Proposal) : Type 0 where
  pub heard_within : within d.seats p.heard.bits ≡ true
  pub parent_held : p.parent < length bs
  pub viewed : IsView p.view
  pub room : length bs < 256
  pub no_twin : (not (held (d.leads p.view) d.open_seats) && has_view bs p.view) ≡ false
  pub enough : d.quorum p.heard.bits ≡ true

module _ {X : Type 0} (d : Design) (bs : List Block) (p : Proposal) (z x : X) where
  pub screened : Ok z ≡ replied (shared_reasons d bs p) x → Screened d bs p
  screened e =
      let (a, (b, (c, (f, (g, (h, end)))))) = none_applies (shared_reasons d bs p) z x e in
      record {
        heard_within = not-false (within d.seats p.heard.bits) a;
        parent_held = leb-false (length bs) p.parent b;
        viewed = view_passed p.view (not-false (is_view p.view) c);
        room = leb-false 256 (length bs) f;
        no_twin = g;
        enough = not-false (d.quorum p.heard.bits) h;
      }

-- a commit point is a block of the book: the parent's, or the certificate of the certificate
pub commit_held : (bs : List Block) (ls : List Letter) → Known bs ls → (parent S : ℕ) → parent < length bs → S < length bs → commit_after bs parent S < length bs
commit_held bs ls known parent S p s =
    let B = (at bs S).certificate in
    let C = (at bs parent).commit in
    let t = ltb (at bs C).view (at bs B).view && good bs S B in
    elim (cases_Bool t) [
      | inl e ↦ omega (arith, cond-true t B C e, known.certificates_known S s)
      | inr e ↦ omega (arith, cond-false t B C e, known.commits_known parent p)
    ]

module _ (bs : List Block) (ls : List Letter) (known : Known bs ls) (p : Proposal) (maker : ℕ) (kind : Kind) (reports : List ℕ) (S : ℕ) where
  pub can_enter :
      p.view ≤ 1000000 → p.parent < length bs → (at bs p.parent).view < p.view → S < length bs →
      ((s : ℕ) → get_or reports s 0 < length bs) → Enters bs (entered bs maker p kind reports S)
  can_enter v h e s r =
      record {
        view_within = v;
        parent_held = h;
        parent_earlier = e;
        height_within = omega (arith, known.heights_within p.parent h);
        certificate_held = s;
        commit_held = commit_held bs ls known p.parent S h s;
        reports_held = r;
      }

-- A fast proposal that passed, or that was refused.

module _ (d : Design) (bs : List Block) (p : Proposal) where
  fast_rest : List Reason
  fast_rest =
      (not (subset p.heard.bits (at bs p.parent).voters.bits), HeardSeatSilent)
      ∷ (not (eqb ((at bs p.parent).view + 1) p.view), ParentUnfit)
      ∷ []

  pub fast_accepted :
      (maker : ℕ) → Ok maker ≡ replied (shared_reasons d bs p) (d.leads p.view) →
      subset p.heard.bits (at bs p.parent).voters.bits ≡ true → (at bs p.parent).view + 1 ≡ p.view →
      fast_reply d bs p ≡ Ok (length bs)
  unfolding fast_rest
  fast_accepted maker e voted next =
      replied_past (shared_reasons d bs p) fast_rest maker (d.leads p.view) (length bs) e
      ∙ ap (λ b. cond (not b) (Err HeardSeatSilent) (cond (not (eqb ((at bs p.parent).view + 1) p.view)) (Err ParentUnfit) (Ok (length bs)))) voted
      ∙ ap (λ b. cond (not b) (Err ParentUnfit) (Ok (length bs))) (eq-eqb ((at bs p.parent).view + 1) p.view next)

  pub fast_unvoted :
      (maker : ℕ) → Ok maker ≡ replied (shared_reasons d bs p) (d.leads p.view) →
      subset p.heard.bits (at bs p.parent).voters.bits ≡ false → fast_reply d bs p ≡ Err HeardSeatSilent
  unfolding fast_rest
  fast_unvoted maker e voted =
      replied_past (shared_reasons d bs p) fast_rest maker (d.leads p.view) (length bs) e
      ∙ ap (λ b. cond (not b) (Err HeardSeatSilent) (cond (not (eqb ((at bs p.parent).view + 1) p.view)) (Err ParentUnfit) (Ok (length bs)))) voted

  pub fast_misplaced :
      (maker : ℕ) → Ok maker ≡ replied (shared_reasons d bs p) (d.leads p.view) →
      subset p.heard.bits (at bs p.parent).voters.bits ≡ true → ((at bs p.parent).view + 1 ≡ p.view → ⊥) →
      fast_reply d bs p ≡ Err ParentUnfit
  unfolding fast_rest
  fast_misplaced maker e voted other =
      replied_past (shared_reasons d bs p) fast_rest maker (d.leads p.view) (length bs) e
      ∙ ap (λ b. cond (not b) (Err HeardSeatSilent) (cond (not (eqb ((at bs p.parent).view + 1) p.view)) (Err ParentUnfit) (Ok (length bs)))) voted
      ∙ ap (λ b. cond (not b) (Err ParentUnfit) (Ok (length bs))) (ne_eqb ((at bs p.parent).view + 1) p.view other)

  pub fast_screened_out : (e : Refusal) → Err e ≡ replied (shared_reasons d bs p) (d.leads p.view) → fast_reply d bs p ≡ Err e
  unfolding fast_rest
  fast_screened_out e q = replied_stop (shared_reasons d bs p) fast_rest e (d.leads p.view) (length bs) q

  pub fast_grown : fast_reply d bs p ≡ Ok (length bs) → fast_blocks d bs p ≡ bs ++ fast_block d bs p ∷ []
  fast_grown e = ap (λ r. grown r bs (fast_block d bs p)) e

  pub fast_kept : (e : Refusal) → fast_reply d bs p ≡ Err e → fast_blocks d bs p ≡ bs
  fast_kept e q = ap (λ r. grown r bs (fast_block d bs p)) q

-- A slow proposal that passed, or that was refused.

module _ (d : Design) (bs : List Block) (ls : List Letter) (p : Proposal) where
  slow_rest : List Reason
  slow_rest =
      (silent ls p.heard.bits p.view, HeardSeatSilent)
      ∷ (unfit bs (reports_of ls p.heard.bits p.view) p.heard.bits p.parent, ParentUnfit)
      ∷ []

  pub slow_screened_out : (e : Refusal) → Err e ≡ replied (shared_reasons d bs p) (d.leads p.view) → slow_reply d bs ls p ≡ Err e
  unfolding slow_rest
  slow_screened_out e q = replied_stop (shared_reasons d bs p) slow_rest e (d.leads p.view) (length bs) q

  module _ (maker : ℕ) (e : Ok maker ≡ replied (shared_reasons d bs p) (d.leads p.view)) where
    past : slow_reply d bs ls p ≡ replied slow_rest (length bs)
    unfolding slow_rest
    past = replied_past (shared_reasons d bs p) slow_rest maker (d.leads p.view) (length bs) e

    pub slow_silent : silent ls p.heard.bits p.view ≡ true → slow_reply d bs ls p ≡ Err HeardSeatSilent
    unfolding slow_rest
    slow_silent s =
        past
        ∙ ap (λ b. cond b (Err HeardSeatSilent) (cond (unfit bs (reports_of ls p.heard.bits p.view) p.heard.bits p.parent) (Err ParentUnfit) (Ok (length bs)))) s

    module _ (quiet : silent ls p.heard.bits p.view ≡ false) where
      told_all : slow_reply d bs ls p ≡ cond (unfit bs (reports_of ls p.heard.bits p.view) p.heard.bits p.parent) (Err ParentUnfit) (Ok (length bs))
      unfolding slow_rest
      told_all =
          past
          ∙ ap (λ b. cond b (Err HeardSeatSilent) (cond (unfit bs (reports_of ls p.heard.bits p.view) p.heard.bits p.parent) (Err ParentUnfit) (Ok (length bs)))) quiet

      pub slow_unfit : unfit bs (reports_of ls p.heard.bits p.view) p.heard.bits p.parent ≡ true → slow_reply d bs ls p ≡ Err ParentUnfit
      slow_unfit u = told_all ∙ ap (λ b. cond b (Err ParentUnfit) (Ok (length bs))) u

      pub slow_accepted : unfit bs (reports_of ls p.heard.bits p.view) p.heard.bits p.parent ≡ false → slow_reply d bs ls p ≡ Ok (length bs)
      slow_accepted u = told_all ∙ ap (λ b. cond b (Err ParentUnfit) (Ok (length bs))) u

  pub slow_grown : slow_reply d bs ls p ≡ Ok (length bs) → slow_blocks d bs ls p ≡ bs ++ slow_block d bs ls p ∷ []
  slow_grown q = ap (λ r. grown r bs (slow_block d bs ls p)) q

  pub slow_kept : (e : Refusal) → slow_reply d bs ls p ≡ Err e → slow_blocks d bs ls p ≡ bs
  slow_kept e q = ap (λ r. grown r bs (slow_block d bs ls p)) q

-- the certificate of a slow block is a block of the book
pub slow_certificate_held :
    (quorum : ℕ → Bool) (bs : List Block) (ls : List Letter) → Known bs ls → (parent : ℕ) (reports : List ℕ) (heard : ℕ) →
    parent < length bs → slow_certificate quorum bs parent reports heard < length bs
slow_certificate_held quorum bs ls known parent reports heard h = pick (named quorum reports heard)
  where
    inherited : (at bs parent).certificate < length bs
    inherited = omega (arith, known.certificates_known parent h)

    pick : (o : Option ℕ) → taken bs parent o < length bs
    pick None = inherited
    pick (Some c) =
        let t = stands bs parent c && ltb (certificate_view bs parent) (at bs c).view in
        elim (cases_Bool t) [
          | inl e ↦
              let below = stands_within bs known.parents_before parent c h (and_parts (stands bs parent c) (ltb (certificate_view bs parent) (at bs c).view) e).0 in
              omega (arith, cond-true t c (at bs parent).certificate e)
          | inr e ↦ omega (arith, cond-false t c (at bs parent).certificate e, inherited)
        ]
