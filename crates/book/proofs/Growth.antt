-- What a book knows stays true as it grows: one block, one vote or one letter more.
-- Assumes nothing.
use Rattle.std.proofs.Common.{◌≡◌, ℕ, zero, suc, ◌<◌, ◌≤◌, ◌⊎◌, List, [], ◌∷◌, ◌++◌, length, get_or, set, sym, refl, ap, ◌∙◌, subst, inl, inr, arith, length-set, get_or-set_other, get_or-set_same}
use Rattle.std.proofs.lemmas.List.{get_or_append_left, get_or_push, length_push}
use Rattle.std.proofs.lemmas.Bool.{cases_eq, cases_lt}
use Rattle.book.specs.Changes.{voted}
use Rattle.book.specs.Known.{Known, Enters}
use Rattle.book.specs.Pages.{no_reports, genesis, at, letter_at}
use Rattle.book.specs.declared.block.Block.{Block}
use Rattle.letters.specs.declared.letter.Letter.{Letter}
use Rattle.book.proofs.Views.{zeros}

-- a block that was there, and the one that is added
pub at_old : (bs : List Block) (b : Block) (k : ℕ) → k < length bs → at (bs ++ b ∷ []) k ≡ at bs k
at_old bs b k h = get_or_append_left bs (b ∷ []) (genesis 0) k h

pub at_new : (bs : List Block) (b : Block) → at (bs ++ b ∷ []) (length bs) ≡ b
at_new bs b = get_or_push bs b (genesis 0) (length bs) refl

pub old_or_new : (bs : List Block) (b : Block) (k : ℕ) → k < length (bs ++ b ∷ []) → (k < length bs) ⊎ (k ≡ length bs)
old_or_new bs b k h =
    let n = length_push bs b in elim (cases_lt k (length bs)) [ inl l ↦ inl l | inr g ↦ inr (omega arith) ]

module _ (bs : List Block) (ls : List Letter) (known : Known bs ls) where
  module _ (b : Block) (enters : Enters bs b) where
    push : List Block
    push = bs ++ b ∷ []

    -- a fact of each block, from the old ones and the new one
    each : (P : ℕ → Block → Type 0) → ((k : ℕ) → k < length bs → P k (at bs k)) → P (length bs) b → (k : ℕ) → k < length (bs ++ b ∷ []) → P k (at (bs ++ b ∷ []) k)
    each P old new k h =
        elim (old_or_new bs b k h) [
          | inl l ↦ subst (P k) (sym (at_old bs b k l)) (old k l)
          | inr e ↦ subst (λ j. P j (at (bs ++ b ∷ []) j)) (sym e) (subst (P (length bs)) (sym (at_new bs b)) new)
        ]

    pub known_push : Known (bs ++ b ∷ []) ls
    known_push =
        let n = length_push bs b in
        record {
          some = omega arith;
          first_view = ap (λ x. x.view) (at_old bs b 0 known.some) ∙ known.first_view;
          views_within = each (λ k x. x.view ≤ 1000000) known.views_within enters.view_within;
          parents_before = λ k p h. each (λ k x. 0 < k → x.parent < k) (λ k l q. known.parents_before k q l) (λ q. enters.parent_held) k h p;
          parents_earlier = λ k p h.
              each (λ k x. 0 < k → (at (bs ++ b ∷ []) x.parent).view < x.view)
              (λ k l q.
              let down = known.parents_before k q l in
              let old = ap (λ x. x.view) (at_old bs b (at bs k).parent (omega arith)) in
              omega (arith, old, known.parents_earlier k q l))
              (λ q.
              let old = ap (λ x. x.view) (at_old bs b b.parent enters.parent_held) in
              omega (arith, old, enters.parent_earlier))
              k h p;
          heights_within = each (λ k x. x.height ≤ k) known.heights_within enters.height_within;
          certificates_known = each (λ k x. x.certificate ≤ k) known.certificates_known (omega (arith, enters.certificate_held));
          commits_known = each (λ k x. x.commit ≤ k) known.commits_known (omega (arith, enters.commit_held));
          reports_known = λ k s h. each (λ k x. get_or x.reports s 0 ≤ k) (λ k l. known.reports_known k s l) (omega (arith, enters.reports_held s)) k h;
          letters_known = λ i h. omega (arith, known.letters_known i h);
          letters_later = λ i h.
              let old = ap (λ x. x.view) (at_old bs b (letter_at ls i).block (known.letters_known i h)) in
              omega (arith, old, known.letters_later i h);
        }

  module _ (seat k : ℕ) (held : k < length bs) where
    -- of every block, what is not its voters is as it was
    same : {X : Type 0} (f : Block → X) → f (voted seat (at bs k)) ≡ f (at bs k) → (j : ℕ) → f (at (set bs k (voted seat (at bs k))) j) ≡ f (at bs j)
    same f e j =
        elim (cases_eq j k) [
          | inl is ↦
              ap (λ i. f (at (set bs k (voted seat (at bs k))) i)) is
              ∙ ap f (get_or-set_same bs k (voted seat (at bs k)) (genesis 0) held) ∙ e ∙ ap (λ i. f (at bs i)) (sym is)
          | inr other ↦ ap f (get_or-set_other bs k j (voted seat (at bs k)) (genesis 0) other)
        ]

    pub known_vote : Known (set bs k (voted seat (at bs k))) ls
    known_vote =
        let n = length-set bs k (voted seat (at bs k)) in
        let view = same (λ x. x.view) refl in
        let parent = same (λ x. x.parent) refl in
        record {
          some = omega (arith, known.some);
          first_view = view 0 ∙ known.first_view;
          views_within = λ b h. omega (arith, view b, known.views_within b (omega arith));
          parents_before = λ b p h. omega (arith, parent b, known.parents_before b p (omega arith));
          parents_earlier = λ b p h.
              let above = ap (λ x. (at (set bs k (voted seat (at bs k))) x).view) (parent b) in
              omega (arith, above, view (at bs b).parent, view b, known.parents_earlier b p (omega arith));
          heights_within = λ b h. omega (arith, same (λ x. x.height) refl b, known.heights_within b (omega arith));
          certificates_known = λ b h. omega (arith, same (λ x. x.certificate) refl b, known.certificates_known b (omega arith));
          commits_known = λ b h. omega (arith, same (λ x. x.commit) refl b, known.commits_known b (omega arith));
          reports_known = λ b s h. omega (arith, ap (λ r. get_or r s 0) (same (λ x. x.reports) refl b), known.reports_known b s (omega arith));
          letters_known = λ i h. omega (arith, known.letters_known i h);
          letters_later = λ i h. omega (arith, view (letter_at ls i).block, known.letters_later i h);
        }

  module _ (l : Letter) (held : l.block < length bs) (later : (at bs l.block).view < l.view) where
    each_letter : (P : Letter → Type 0) → ((i : ℕ) → i < length ls → P (letter_at ls i)) → P l → (i : ℕ) → i < length (ls ++ l ∷ []) → P (letter_at (ls ++ l ∷ []) i)
    each_letter P old new i h =
        let n = length_push ls l in
        let d : Letter = record { seat = 0; view = 0; block = 0 } in
        elim (cases_lt i (length ls)) [
          | inl below ↦ subst P (sym (get_or_append_left ls (l ∷ []) d i below)) (old i below)
          | inr end ↦ subst P (sym (get_or_push ls l d i (omega arith))) new
        ]

    pub known_letter : Known bs (ls ++ l ∷ [])
    known_letter =
        record {
          some = known.some;
          first_view = known.first_view;
          views_within = known.views_within;
          parents_before = known.parents_before;
          parents_earlier = known.parents_earlier;
          heights_within = known.heights_within;
          certificates_known = known.certificates_known;
          commits_known = known.commits_known;
          reports_known = known.reports_known;
          letters_known = each_letter (λ x. x.block < length bs) known.letters_known held;
          letters_later = each_letter (λ x. (at bs x.block).view < x.view) known.letters_later later;
        }

pub no_report : (s : ℕ) → get_or no_reports s 0 ≡ 0
unfolding no_reports
no_report s = zeros 64 s

-- the book of the first block alone
module _ (n : ℕ) where
  only : (P : ℕ → Block → Type 0) → P 0 (genesis n) → (b : ℕ) → b < length (genesis n ∷ []) → P b (at (genesis n ∷ []) b)
  only P p zero h = p
  only P p (suc b) h = absurd (omega arith)

  pub known_first : Known (genesis n ∷ []) []
  known_first =
      record {
        some = omega arith;
        first_view = refl;
        views_within = only (λ b x. x.view ≤ 1000000) (omega arith);
        parents_before = λ b p h. only (λ b x. 0 < b → x.parent < b) (λ q. q) b h p;
        parents_earlier = λ b p h. only (λ b x. 0 < b → (at (genesis n ∷ []) x.parent).view < x.view) (λ q. q) b h p;
        heights_within = only (λ b x. x.height ≤ b) (omega arith);
        certificates_known = only (λ b x. x.certificate ≤ b) (omega arith);
        commits_known = only (λ b x. x.commit ≤ b) (omega arith);
        reports_known = λ b s h. only (λ b x. get_or x.reports s 0 ≤ b) (omega (arith, no_report s)) b h;
        letters_known = λ i h. absurd (omega arith);
        letters_later = λ i h. absurd (omega arith);
      }
