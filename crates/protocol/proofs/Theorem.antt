-- The safety law: the argument over sound books, at every moment of every run.
-- Assumes nothing.
use Rattle.std.proofs.Common.{◌≡◌, ℕ, zero, suc, ◌<◌, ◌≤◌, Bool, true, false, cond, not, T, eqb, ltb, leb, List, [], ◌∷◌, ◌++◌, reverse, length, is_ok, Ok, Err, Result, sym, refl, ap, ◌∙◌, subst, inl, inr, ⊎_elim, arith, get_or-set_same}
use Rattle.std.proofs.lemmas.List.{reverse-append}
use Rattle.std.proofs.lemmas.Bool.{and_parts, and_cases, leb-false, both_ways, cases_Bool, cases_eq, eq-eqb, ltb-true, not-true, not-false, or_cases, or_left, or_right}
use Rattle.quorum.specs.Seats.{held}
use Rattle.refusal.proofs.Replies.{replied_least}
use Rattle.refusal.specs.Reasons.{Least}
use Rattle.refusal.specs.declared.Refusal.{Refusal}
use Rattle.refusal.specs.declared.Refusal.TheVariants.{CommitConflict, NoSuchSeat, NoSuchBlock, SeatIsOpen}
use Rattle.safety.proofs.Chains.{stands_trans}
use Rattle.safety.proofs.Commits.{proposals_stand, commits_agree}
use Rattle.safety.proofs.Elders.{elders_stand}
use Rattle.safety.proofs.Votes.{kept_leader_stands}
use Rattle.safety.specs.Book.{StandsOn, self, up}
use Rattle.book.specs.Admission.{Design, conflict}
use Rattle.book.specs.Known.{ParentsBefore}
use Rattle.book.specs.Pages.{at, chain_in, chain, among, stands}
use Rattle.book.specs.Rules.{model}
use Rattle.book.specs.declared.block.Block.{Block}
use Rattle.book.proofs.Chains.{chain_step}
use Rattle.book.proofs.Extends.{Extends, stands_up}
use Rattle.letters.proofs.Truth.{true_from}
use Rattle.book.proofs.Reflect.{not_from, stands_relates, relates_stands}
use Rattle.protocol.specs.Calls.{reply, after, changed, run, votes, show_after, show_reasons}
use Rattle.protocol.specs.Safety.{book_of, Starts, Agreement, KeptLeaderLasts, Elder, Fit, SafetyLaw, ProposalsLaw}
use Rattle.protocol.specs.State.{State, seat_at, idle, is_kept, fresh, commits}
use Rattle.protocol.specs.declared.call.Call.{Call}
use Rattle.protocol.specs.declared.call.Call.TheVariants.{Show}
use Rattle.protocol.proofs.Invariant.{KeptIn, sound}
use Rattle.protocol.proofs.Keeping.{inv_first}
use Rattle.protocol.proofs.Runs.{InvAt, Grows, KeptBy, Showing, showing, grows_trans, call_keeps, run_keeps}

-- Lists.

among_append : (x : ℕ) (xs ys : List ℕ) → among x ys ≡ true → among x (xs ++ ys) ≡ true
among_append x [] ys e = e
among_append x (y ∷ xs) ys e = or_right (eqb x y) _ (among_append x xs ys e)

append_among : (x : ℕ) (xs ys : List ℕ) → among x xs ≡ true → among x (xs ++ ys) ≡ true
append_among x [] ys e = absurd (both_ways false refl e)
append_among x (y ∷ xs) ys e =
    ⊎_elim (λ here. or_left (eqb x y) _ here) (λ later. or_right (eqb x y) _ (append_among x xs ys later)) (or_cases (eqb x y) (among x xs) e)

reverse_cons : (y : ℕ) (xs : List ℕ) → reverse (y ∷ xs) ≡ reverse xs ++ y ∷ []
reverse_cons y xs = reverse-append (y ∷ []) xs

among_reverse : (x : ℕ) (xs : List ℕ) → among x xs ≡ true → among x (reverse xs) ≡ true
among_reverse x [] e = absurd (both_ways false refl e)
among_reverse x (y ∷ xs) e =
    subst (λ zs. among x zs ≡ true) (sym (reverse_cons y xs))
    (⊎_elim (λ here. among_append x (reverse xs) (y ∷ []) (or_left (eqb x y) false here)) (λ later. append_among x (reverse xs) (y ∷ []) (among_reverse x xs later)) (or_cases (eqb x y) (among x xs) e))

-- Chains.

chain_suffix : (d : Design) (bs : List Block) → ParentsBefore bs → {x c : ℕ} → StandsOn (model d bs) x c → (ws : List ℕ) × (chain bs x ≡ ws ++ chain bs c)
chain_suffix d bs before self = ([], refl)
chain_suffix d bs before (up {b} m p) =
    let (ws, e) = chain_suffix d bs before p in (b ∷ ws, chain_step bs before b m.0 m.1 ∙ ap (λ xs. b ∷ xs) e)

-- the list of the chain of a block that stands on another starts with that of the other
starts : (d : Design) (bs : List Block) → ParentsBefore bs → {x c : ℕ} → StandsOn (model d bs) x c → Starts (reverse (chain bs c)) (reverse (chain bs x))
starts d bs before p =
    let (ws, e) = chain_suffix d bs before p in (reverse ws, ap reverse e ∙ reverse-append ws _)

-- the chain of a block is the same in a later book
same_chain : {bs cs : List Block} → Extends bs cs → ParentsBefore bs → (k x : ℕ) → x < length bs → chain_in bs k x ≡ chain_in cs k x
same_chain ext before zero x h = refl
same_chain {bs} {cs} ext before (suc k) x h =
    elim (cases_eq x 0) [
      | inl e ↦
          ap (λ t. x ∷ cond t [] (chain_in bs k (at bs x).parent)) (eq-eqb x 0 e)
          ∙ sym (ap (λ t. x ∷ cond t [] (chain_in cs k (at cs x).parent)) (eq-eqb x 0 e))
      | inr n ↦
          let down = before x (omega arith) h in
          ap (λ xs. x ∷ cond (eqb x 0) [] xs) (same_chain ext before k (at bs x).parent (omega arith) ∙ ap (chain_in cs k) (sym (ext.each x h).parent))
    ]

kept_in : (st : State) (s : ℕ) → T (is_kept st s) → KeptIn st.design s
kept_in st s t =
    let parts = and_parts (ltb s st.design.seats) (not (held s st.design.open_seats)) (true_from _ t) in
    record { seated = ltb-true _ _ parts.0; honest = not_from _ (not-true _ parts.1) }

-- At one moment.
module _ (m : State) {most : ℕ} {tolerated : ℕ → Bool} (fit : Fit m.design most tolerated) (inv : InvAt m) where
  lasts : KeptLeaderLasts m
  lasts x y made behind kept h later = kept_leader_stands (sound fit inv) x y made behind kept h later

  proposals : (b x : ℕ) → b < length m.blocks → x < length m.blocks → (book_of m).view ((book_of m).cert b) < (book_of m).view x → StandsOn (book_of m) x ((book_of m).commit b)
  proposals b x i j later = proposals_stand (sound fit inv) b x i j later

  elder_stands : (t a b : ℕ) → Elder (book_of m) t a b → StandsOn (book_of m) ((book_of m).commit t) ((book_of m).cert a)
  elder_stands t a b e = elders_stand (sound fit inv) t a b e.held e.first e.second e.elder e.made e.kept

  commit_in : (b : ℕ) → b < length m.blocks → (at m.blocks b).commit < length m.blocks
  commit_in b h = omega (arith, inv.known.commits_known b h)

  -- commit points and tips do not conflict
  no_conflict : (s b : ℕ) → KeptIn m.design s → b < length m.blocks → conflict m.blocks (at m.blocks b).commit (seat_at m s).tip ≡ false
  no_conflict s b k h =
      let (c, hc, is) = (inv.seat_rule s k).tip_commit in
      let agree = commits_agree (sound fit inv) b c h hc in
      elim (cases_Bool (conflict m.blocks (at m.blocks b).commit (seat_at m s).tip)) [
        | inr f ↦ f
        | inl t ↦
            let parts = and_parts (not (stands m.blocks (at m.blocks b).commit (seat_at m s).tip)) (not (stands m.blocks (seat_at m s).tip (at m.blocks b).commit)) t in
            ⊎_elim
            (λ p. absurd (both_ways _ (not-true _ parts.0) (relates_stands m.design m.blocks inv.known.parents_before (subst (StandsOn (book_of m) (at m.blocks b).commit) (sym is) p))))
            (λ p. absurd (both_ways _ (not-true _ parts.1) (relates_stands m.design m.blocks inv.known.parents_before (subst (λ x. StandsOn (book_of m) x (at m.blocks b).commit) (sym is) p))))
            agree
      ]

  -- so show never refuses for a conflict
  never_conflicts : (s b : ℕ) → reply m (Show s b) ≡ Err CommitConflict → ⊥
  never_conflicts s b e =
      let told = subst (Least (show_reasons m s b)) e (replied_least 0 (show_reasons m s b) (cond (votes m s b) 1 0) tt) in
      let seated : leb m.design.seats s ≡ false =
      elim (cases_Bool (leb m.design.seats s)) [ inl t ↦ absurd (too_low (told.1 NoSuchSeat (inl (t, refl)))) | inr f ↦ f ] in
      let block : leb (length m.blocks) b ≡ false =
      elim (cases_Bool (leb (length m.blocks) b)) [ inl t ↦ absurd (too_low' (told.1 NoSuchBlock (inr (inl (t, refl))))) | inr f ↦ f ] in
      let honest : held s m.design.open_seats ≡ false =
      elim (cases_Bool (held s m.design.open_seats)) [ inl t ↦ absurd (too_low'' (told.1 SeatIsOpen (inr (inr (inl (t, refl)))))) | inr f ↦ f ] in
      let clear = no_conflict s b (record { seated = leb-false _ _ seated; honest = not_from _ honest }) (leb-false _ _ block) in
      ⊎_elim (λ x. both_ways _ seated x.0)
      (⊎_elim (λ x. both_ways _ block x.0) (⊎_elim (λ x. both_ways _ honest x.0) (⊎_elim (λ x. both_ways _ clear x.0) (λ x. x))))
      told.0
    where
      too_low : 16 ≤ 3 → ⊥
      too_low h = omega arith

      too_low' : 16 ≤ 4 → ⊥
      too_low' h = omega arith

      too_low'' : 16 ≤ 7 → ⊥
      too_low'' h = omega arith

-- From one moment to a later one.
module _ (m m' : State) {most : ℕ} {tolerated : ℕ → Bool} (fit' : Fit m'.design most tolerated) (inv : InvAt m) (inv' : InvAt m') (grew : Grows m m') where
  agreement : Agreement m m'
  agreement s t ks kt =
      let (c, hc, is) = (inv.seat_rule s (kept_in m s ks)).tip_commit in
      let (e, he, it) = (inv'.seat_rule t (kept_in m' t kt)).tip_commit in
      let hc' : c < length m'.blocks = omega (arith, hc, grew.blocks.longer) in
      let is' : (at m'.blocks c).commit ≡ (seat_at m s).tip = (grew.blocks.each c hc).commit ∙ sym is in
      let in_m : (seat_at m s).tip < length m.blocks = omega (arith, is, inv.known.commits_known c hc) in
      let same : chain m'.blocks (seat_at m s).tip ≡ chain m.blocks (seat_at m s).tip = sym (same_chain grew.blocks inv.known.parents_before (seat_at m s).tip (seat_at m s).tip in_m) in
      let list = ap reverse same in
      ⊎_elim
      (λ p.
      let q = subst (λ x. StandsOn (book_of m') x (seat_at m' t).tip) is' (subst (StandsOn (book_of m') (at m'.blocks c).commit) (sym it) p) in
      let (zs, z) = starts m'.design m'.blocks inv'.known.parents_before q in
      inr (zs, sym list ∙ z))
      (λ p.
      let q = subst (StandsOn (book_of m') (seat_at m' t).tip) is' (subst (λ x. StandsOn (book_of m') x (at m'.blocks c).commit) (sym it) p) in
      let (zs, z) = starts m'.design m'.blocks inv'.known.parents_before q in
      inl (zs, z ∙ ap (λ xs. xs ++ zs) list))
      (commits_agree (sound fit' inv') c e hc' he)

-- A kept seat that accepts a showing of t has what t's commit point stands on, from then on.
module _ (m : State) {most : ℕ} {tolerated : ℕ → Bool} (fit : Fit m.design most tolerated) (inv : InvAt m) (s t : ℕ) (accepted : is_ok (reply m (Show s t)) ≡ true) where
  shows : Showing m fit inv s t
  shows = by (reply m (Show s t)) refl accepted
    where
      by : (q : Result ℕ Refusal) → reply m (Show s t) ≡ q → is_ok q ≡ true → Showing m fit inv s t
      by (Ok z) e a = showing m fit inv s t z e
      by (Err z) e a = absurd (both_ways false refl a)

  -- the tip right after the showing
  tip_then : (seat_at (after m (Show s t)) s).tip ≡ cond (stands m.blocks (at m.blocks t).commit (seat_at m s).tip) (at m.blocks t).commit (seat_at m s).tip
  tip_then = by (reply m (Show s t)) refl accepted
    where
      by : (q : Result ℕ Refusal) → reply m (Show s t) ≡ q → is_ok q ≡ true → (seat_at (changed (reply m (Show s t)) (show_after m s t) m) s).tip ≡ cond (stands m.blocks (at m.blocks t).commit (seat_at m s).tip) (at m.blocks t).commit (seat_at m s).tip
      by (Ok z) e a =
          ap (λ r. (seat_at (changed r (show_after m s t) m) s).tip) e
          ∙ ap (λ x. x.tip) (get_or-set_same m.seats s _ idle (omega (arith, shows.kept.seated, fit.rule.seats_fit, fit.rule.most_fits, inv.table)))
      by (Err z) e a = absurd (both_ways false refl a)

  -- it stands on t's commit point
  reaches : StandsOn (book_of m) (seat_at (after m (Show s t)) s).tip (at m.blocks t).commit
  reaches = subst (λ x. StandsOn (book_of m) x (at m.blocks t).commit) (sym tip_then) (by (stands m.blocks (at m.blocks t).commit (seat_at m s).tip) refl)
    where
      tip_in : (seat_at m s).tip < length m.blocks
      tip_in = let (c, h, is) = (inv.seat_rule s shows.kept).tip_commit in omega (arith, is, inv.known.commits_known c h)

      by : (b : Bool) → stands m.blocks (at m.blocks t).commit (seat_at m s).tip ≡ b → StandsOn (book_of m) (cond b (at m.blocks t).commit (seat_at m s).tip) (at m.blocks t).commit
      by true e = self
      by false e =
          ⊎_elim (λ x. absurd (both_ways _ e (not-false _ x))) (λ x. stands_relates m.design m.blocks inv.known.parents_before _ _ tip_in (not-false _ x))
          (and_cases (not (stands m.blocks (at m.blocks t).commit (seat_at m s).tip)) (not (stands m.blocks (seat_at m s).tip (at m.blocks t).commit)) shows.no_conflict)

  listed : (e : ℕ) → StandsOn (book_of m) (at m.blocks t).commit e → (more : List Call) → among e (commits (run (after m (Show s t)) more) s) ≡ true
  listed e below more =
      let (now, grew) = call_keeps m fit inv (Show s t) in
      let fit_now = subst (λ d. Fit d most tolerated) (sym grew.design_is) fit in
      let (end, later) = run_keeps more (after m (Show s t)) fit_now now in
      let whole = grows_trans now grew later in
      let first = stands_up m.design whole.blocks inv.known.parents_before (stands_trans reaches below) in
      let kept_now = subst (λ d. KeptIn d s) (sym grew.design_is) shows.kept in
      let moved = subst (λ d. StandsOn (model d (run (after m (Show s t)) more).blocks) (seat_at (run (after m (Show s t)) more) s).tip (seat_at (after m (Show s t)) s).tip) grew.design_is (later.tips s kept_now) in
      among_reverse e _ (relates_stands m.design (run (after m (Show s t)) more).blocks end.known.parents_before (stands_trans moved first))

-- The laws.

at_moment : (d : Design) (most : ℕ) (tolerated : ℕ → Bool) → Fit d most tolerated → (xs : List Call) → KeptBy (fresh d) (run (fresh d) xs)
unfolding fresh
at_moment d most tolerated fit xs = run_keeps xs (fresh d) fit (inv_first d (omega (arith, fit.rule.seats_fit, fit.rule.most_fits)))

fit_at : (d : Design) (most : ℕ) (tolerated : ℕ → Bool) → Fit d most tolerated → (m : State) → Grows (fresh d) m → Fit m.design most tolerated
unfolding fresh
fit_at d most tolerated fit m grew = subst (λ e. Fit e most tolerated) (sym grew.design_is) fit

pub safety_law : SafetyLaw
safety_law d most tolerated fit xs ys =
    let m = run (fresh d) xs in
    let (inv, grew) = at_moment d most tolerated fit xs in
    let fit_m = fit_at d most tolerated fit m grew in
    let (inv', more) = run_keeps ys m fit_m inv in
    let fit_m' = subst (λ e. Fit e most tolerated) (sym more.design_is) fit_m in (
      agreement m (run m ys) fit_m' inv inv' more,
      lasts m fit_m inv,
      λ t a b e. (elder_stands m fit_m inv t a b e, λ s ok. listed m fit_m inv s t ok ((book_of m).cert a) (elder_stands m fit_m inv t a b e)),
    )

pub proposals_law : ProposalsLaw
proposals_law d most tolerated fit xs =
    let m = run (fresh d) xs in
    let (inv, grew) = at_moment d most tolerated fit xs in
    let fit_m = fit_at d most tolerated fit m grew in
    (proposals m fit_m inv, never_conflicts m fit_m inv)
