-- Every change of a cluster keeps the invariant.
-- Assumes nothing.
use Rattle.std.proofs.Common.{◌≡◌, ℕ, ◌<◌, ◌≤◌, Bool, true, false, cond, T, ◌⊎◌, List, [], ◌∷◌, ◌++◌, length, get_or, set, replicate, sym, refl, ap, ◌∙◌, subst, inl, inr, ⊎_elim, arith, length-set, get_or-set_other, get_or-set_same}
use Rattle.std.proofs.lemmas.List.{get_or_append_left, get_or_push, length_push, length-replicate}
use Rattle.std.proofs.lemmas.Bool.{cases_eq, cases_lt, lt-ltb, ltb-true}
use Rattle.quorum.specs.Sets.{held_none, held_everyone, with_adds, with_holds}
use Rattle.quorum.specs.Seats.{Holds, everyone}
use Rattle.safety.specs.Book.{Made}
use Rattle.book.specs.Admission.{Design}
use Rattle.book.specs.Changes.{voted, vote_after}
use Rattle.book.specs.Kinds.{is_slow}
use Rattle.book.specs.Known.{Known}
use Rattle.book.specs.Pages.{genesis, at, letter_at}
use Rattle.book.specs.Rules.{model, WellMade}
use Rattle.book.specs.declared.block.Block.{Block}
use Rattle.letters.specs.declared.letter.Letter.{Letter}
use Rattle.book.proofs.Extends.{Extends, extends_vote}
use Rattle.book.proofs.Growth.{at_old, at_new, old_or_new, known_first, known_vote, known_letter}
use Rattle.book.proofs.Keeps.{well_first, well_vote}
use Rattle.letters.proofs.Truth.{true_from, from_true}
use Rattle.book.proofs.Reflect.{not_from}
use Rattle.protocol.specs.State.{idle}
use Rattle.protocol.specs.declared.seat.Seat.{Seat}
use Rattle.protocol.proofs.Seating.{idle_at}
use Rattle.protocol.proofs.Invariant.{KeptIn, SeatRule, LetterRule, Told, Inv}

-- After opening.

module _ (d : Design) (small : d.seats ≤ 64) where
  abbrev first : List Block
  first = genesis d.seats ∷ []

  only_first : {x : ℕ} → x < length first → x ≡ 0
  only_first h = omega arith

  all_voted : (s : ℕ) → s < d.seats → Holds s (everyone d.seats)
  all_voted s h = from_true _ (held_everyone d.seats s ∙ lt-ltb s d.seats h)

  pub inv_first : Inv d (genesis d.seats ∷ []) [] (replicate 64 idle)
  inv_first =
      record {
        known = known_first d.seats;
        well = well_first d d.seats;
        table = length-replicate 64 idle;
        voters_seated = λ b s h v. ltb-true s d.seats (sym (held_everyone d.seats s) ∙ true_from _ (subst (λ x. Holds s (at first x).voters.bits) (only_first h) v));
        makes_once = λ x y kept m h e. absurd (omega (arith, m.0, m.1));
        seat_rule = λ s k. subst (SeatRule first s) (sym (idle_at 64 s)) (begins s k);
        letter_rule = λ s i k h f. absurd (omega arith);
        told = λ b s m slow h. absurd (omega (arith, m.0, m.1));
      }
    where
      begins : (s : ℕ) → KeptIn d s → SeatRule (genesis d.seats ∷ []) s idle
      begins s k =
          record {
            vote_held = omega arith;
            voted_last = all_voted s k.seated;
            last_highest = λ x h v. inr (only_first h);
            votes_once = λ x y h i v w e. only_first h ∙ sym (only_first i);
            view_reached = omega arith;
            tip_commit = (0, omega arith, refl);
          }

-- One block more, with no votes yet.
module _ {d : Design} {bs : List Block} {ls : List Letter} {seats : List Seat} (inv : Inv d bs ls seats) (b : Block) where
  no_votes : b.voters.bits ≡ 0 → (s x : ℕ) → x < length (bs ++ b ∷ []) → Holds s (at (bs ++ b ∷ []) x).voters.bits → (x < length bs) × Holds s (at bs x).voters.bits
  no_votes none s x h v =
      ⊎_elim (λ l. (l, subst (λ y. Holds s y.voters.bits) (at_old bs b x l) v))
      (λ e. absurd (not_from _ (held_none s) (subst (λ q. Holds s q) (ap (λ k. (at (bs ++ b ∷ []) k).voters.bits) e ∙ ap (λ y. y.voters.bits) (at_new bs b) ∙ none) v)))
      (old_or_new bs b x h)

  view_old : (x : ℕ) → x < length bs → (at (bs ++ b ∷ []) x).view ≡ (at bs x).view
  view_old x h = ap (λ y. y.view) (at_old bs b x h)

  voters_old : (s x : ℕ) → x < length bs → Holds s (at bs x).voters.bits → Holds s (at (bs ++ b ∷ []) x).voters.bits
  voters_old s x h v = subst (λ y. Holds s y.voters.bits) (sym (at_old bs b x h)) v

  module _
      (known' : Known (bs ++ b ∷ []) ls) (well' : WellMade d (bs ++ b ∷ [])) (none : b.voters.bits ≡ 0)
      (alone : (Holds (d.leads b.view) d.open_seats → ⊥) → (x : ℕ) → x < length bs → (at bs x).view ≡ b.view → ⊥)
      (tells : (s : ℕ) → T (is_slow b.kind) → Holds s b.heard.bits → Told (bs ++ b ∷ []) ls (length bs) s)
    where
      longer : length bs < length (bs ++ b ∷ [])
      longer = omega (arith, length_push bs b)

      -- a kept leader's block and another of its view
      once : (x y : ℕ) → (Holds (at (bs ++ b ∷ []) x).maker d.open_seats → ⊥) → Made (model d (bs ++ b ∷ [])) x → y < length (bs ++ b ∷ []) → (at (bs ++ b ∷ []) x).view ≡ (at (bs ++ b ∷ []) y).view → x ≡ y
      once x y kept m h e =
          let leader : Holds (d.leads (at (bs ++ b ∷ []) x).view) d.open_seats → ⊥ = subst (λ k. Holds k d.open_seats → ⊥) (well'.led x m) kept in
          ⊎_elim
          (λ lx.
          ⊎_elim
          (λ ly. inv.makes_once x y (subst (λ z. Holds z.maker d.open_seats → ⊥) (at_old bs b x lx) kept) (m.0, lx) ly (sym (view_old x lx) ∙ e ∙ view_old y ly))
          (λ ey.
          let vb = e ∙ ap (λ k. (at (bs ++ b ∷ []) k).view) ey ∙ ap (λ z. z.view) (at_new bs b) in
          absurd (alone (subst (λ v. Holds (d.leads v) d.open_seats → ⊥) vb leader) x lx (sym (view_old x lx) ∙ vb)))
          (old_or_new bs b y h))
          (λ ex.
          let vb = ap (λ k. (at (bs ++ b ∷ []) k).view) ex ∙ ap (λ z. z.view) (at_new bs b) in
          ⊎_elim
          (λ ly. absurd (alone (subst (λ v. Holds (d.leads v) d.open_seats → ⊥) vb leader) y ly (sym (view_old y ly) ∙ sym e ∙ vb)))
          (λ ey. ex ∙ sym ey)
          (old_or_new bs b y h))
          (old_or_new bs b x m.1)

      seat_kept : (s : ℕ) (seat : Seat) → SeatRule bs s seat → SeatRule (bs ++ b ∷ []) s seat
      seat_kept s seat r =
          record {
            vote_held = omega (arith, r.vote_held, longer);
            voted_last = voters_old s seat.vote r.vote_held r.voted_last;
            last_highest = λ x h v.
                let o = no_votes none s x h v in
                ⊎_elim (λ l. inl (omega (arith, l, view_old x o.0, view_old seat.vote r.vote_held))) inr (r.last_highest x o.0 o.1);
            votes_once = λ x y h i v w e.
                let o = no_votes none s x h v in
                let q = no_votes none s y i w in
                r.votes_once x y o.0 q.0 o.1 q.1 (sym (view_old x o.0) ∙ e ∙ view_old y q.0);
            view_reached = omega (arith, r.view_reached, view_old seat.vote r.vote_held);
            tip_commit = let (c, h, e) = r.tip_commit in (c, omega (arith, h, longer), e ∙ sym (ap (λ z. z.commit) (at_old bs b c h)));
          }

      letter_kept : (s : ℕ) (seat : Seat) (l : Letter) → l.block < length bs → LetterRule bs s seat l → LetterRule (bs ++ b ∷ []) s seat l
      letter_kept s seat l h r =
          record {
            past = r.past;
            voted = voters_old s l.block h r.voted;
            last = λ x i v e.
                let o = no_votes none s x i v in
                ⊎_elim (λ lt. inl (omega (arith, lt, view_old x o.0, view_old l.block h))) inr (r.last x o.0 o.1 (omega (arith, e, view_old x o.0)));
          }

      told_kept : (k s : ℕ) → k < length bs → Told bs ls k s → Told (bs ++ b ∷ []) ls k s
      told_kept k s h t =
          record {
            number = t.number;
            held = t.held;
            from = t.from;
            for_view = t.for_view ∙ sym (view_old k h);
            names = t.names ∙ ap (λ z. get_or z.reports s 0) (sym (at_old bs b k h));
          }

      pub inv_push : Inv d (bs ++ b ∷ []) ls seats
      inv_push =
          record {
            known = known';
            well = well';
            table = inv.table;
            voters_seated = λ x s h v. let o = no_votes none s x h v in inv.voters_seated x s o.0 o.1;
            makes_once = once;
            seat_rule = λ s k. seat_kept s _ (inv.seat_rule s k);
            letter_rule = λ s i k h f. letter_kept s _ _ (inv.known.letters_known i h) (inv.letter_rule s i k h f);
            told = λ x s m slow h.
                ⊎_elim
                (λ l. told_kept x s l (inv.told x s (m.0, l) (subst (λ z. T (is_slow z.kind)) (at_old bs b x l) slow) (subst (λ z. Holds s z.heard.bits) (at_old bs b x l) h)))
                (λ e.
                let same = ap (at (bs ++ b ∷ [])) e ∙ at_new bs b in
                subst (λ k. Told (bs ++ b ∷ []) ls k s) (sym e) (tells s (subst (λ z. T (is_slow z.kind)) same slow) (subst (λ z. Holds s z.heard.bits) same h)))
                (old_or_new bs b x m.1);
          }

-- One vote more.
module _ {d : Design} {bs : List Block} {ls : List Letter} {seats : List Seat} (inv : Inv d bs ls seats) (seat k : ℕ) (hk : k < length bs) (seated : seat < d.seats) where
  abbrev more : List Block
  more = vote_after bs seat k

  abbrev ext : Extends bs (vote_after bs seat k)
  ext = extends_vote bs seat k

  same_length : length (vote_after bs seat k) ≡ length bs
  same_length = length-set bs k (voted seat (at bs k))

  -- who voted for x then: who had, or the new voter
  voter_is : (s x : ℕ) → Holds s (at more x).voters.bits → Holds s (at bs x).voters.bits ⊎ ((s ≡ seat) × (x ≡ k))
  voter_is s x v =
      elim (cases_eq x k) [
        | inl e ↦
            let here = ap (λ j. (at more j).voters.bits) e ∙ ap (λ z. z.voters.bits) (get_or-set_same bs k (voted seat (at bs k)) (genesis 0) hk) in
            ⊎_elim (λ o. inl (subst (λ j. Holds s (at bs j).voters.bits) (sym e) o)) (λ n. inr (n, e)) (with_adds s seat (at bs k).voters.bits (subst (Holds s) here v))
        | inr n ↦ inl (subst (λ z. Holds s z.voters.bits) (get_or-set_other bs k x (voted seat (at bs k)) (genesis 0) n) v)
      ]

  new_voter : seat < 64 → Holds seat (at more k).voters.bits
  new_voter l = subst (λ z. Holds seat z.voters.bits) (sym (get_or-set_same bs k (voted seat (at bs k)) (genesis 0) hk)) (with_holds seat (at bs k).voters.bits l)

  view_now : (x : ℕ) → x < length bs → (at more x).view ≡ (at bs x).view
  view_now x h = (ext.each x h).view

  -- another seat than the voter has done what it had done
  seat_other : (s : ℕ) (record_of : Seat) → (s ≡ seat → ⊥) → SeatRule bs s record_of → SeatRule more s record_of
  seat_other s me other r =
      record {
        vote_held = omega (arith, r.vote_held, same_length);
        voted_last = (ext.each me.vote r.vote_held).voters s r.voted_last;
        last_highest = λ x h v.
            let hx : x < length bs = omega (arith, h, same_length) in
            ⊎_elim (λ o. ⊎_elim (λ l. inl (omega (arith, l, view_now x hx, view_now me.vote r.vote_held))) inr (r.last_highest x hx o)) (λ n. absurd (other n.0)) (voter_is s x v);
        votes_once = λ x y h i v w e.
            let hx : x < length bs = omega (arith, h, same_length) in
            let hy : y < length bs = omega (arith, i, same_length) in
            ⊎_elim (λ o. ⊎_elim (λ q. r.votes_once x y hx hy o q (sym (view_now x hx) ∙ e ∙ view_now y hy)) (λ n. absurd (other n.0)) (voter_is s y w)) (λ n. absurd (other n.0)) (voter_is s x v);
        view_reached = omega (arith, r.view_reached, view_now me.vote r.vote_held);
        tip_commit = let (c, h, e) = r.tip_commit in (c, omega (arith, h, same_length), e ∙ sym (ext.each c h).commit);
      }

  letter_other : (s : ℕ) (me : Seat) (l : Letter) → l.block < length bs → (s ≡ seat → ⊥) → LetterRule bs s me l → LetterRule more s me l
  letter_other s me l h other r =
      record {
        past = r.past;
        voted = (ext.each l.block h).voters s r.voted;
        last = λ x i v e.
            let hx : x < length bs = omega (arith, i, same_length) in
            ⊎_elim (λ o. ⊎_elim (λ lt. inl (omega (arith, lt, view_now x hx, view_now l.block h))) inr (r.last x hx o (omega (arith, e, view_now x hx)))) (λ n. absurd (other n.0)) (voter_is s x v);
      }

  told_now : (b s : ℕ) → b < length bs → Told bs ls b s → Told more ls b s
  told_now b s h t =
      record {
        number = t.number;
        held = t.held;
        from = t.from;
        for_view = t.for_view ∙ sym (view_now b h);
        names = t.names ∙ ap (λ r. get_or r s 0) (sym (ext.each b h).reports);
      }

  made_then : {b : ℕ} → Made (model d more) b → Made (model d bs) b
  made_then m = (m.0, omega (arith, m.1, same_length))

  -- all but what a kept voter's own record says
  module _
      (seats' : List Seat) (table' : length seats' ≡ 64)
      (seat_rule' : (s : ℕ) → KeptIn d s → SeatRule more s (get_or seats' s idle))
      (letter_rule' : (s i : ℕ) → KeptIn d s → i < length ls → (letter_at ls i).seat ≡ s → LetterRule more s (get_or seats' s idle) (letter_at ls i))
    where
      pub inv_voted : Inv d more ls seats'
      inv_voted =
          record {
            known = known_vote bs ls inv.known seat k hk;
            well = well_vote d bs ls inv.known seat k inv.well;
            table = table';
            voters_seated = λ x s h v. ⊎_elim (λ o. inv.voters_seated x s (omega (arith, h, same_length)) o) (λ n. omega (arith, n.0, seated)) (voter_is s x v);
            makes_once = λ x y kept m h e.
                let mx = made_then m in
                let hy : y < length bs = omega (arith, h, same_length) in
                inv.makes_once x y (subst (λ q. Holds q d.open_seats → ⊥) (ext.each x mx.1).maker kept) mx hy (sym (view_now x mx.1) ∙ e ∙ view_now y hy);
            seat_rule = seat_rule';
            letter_rule = letter_rule';
            told = λ b s m slow h.
                let mb = made_then m in
                told_now b s mb.1 (inv.told b s mb (subst (λ q. T (is_slow q)) (ext.each b mb.1).kind slow) (subst (λ q. Holds s q.bits) (ext.each b mb.1).heard h));
          }

  -- by an open seat
  pub inv_vote : Holds seat d.open_seats → Inv d more ls seats
  inv_vote opened =
      inv_voted seats inv.table
      (λ s kept. seat_other s _ (λ e. kept.honest (subst (λ q. Holds q d.open_seats) (sym e) opened)) (inv.seat_rule s kept))
      (λ s i kept h f. letter_other s _ _ (inv.known.letters_known i h) (λ e. kept.honest (subst (λ q. Holds q d.open_seats) (sym e) opened)) (inv.letter_rule s i kept h f))

-- One letter more, and one seat's record changed, or either alone.

letter_old : (ls : List Letter) (l : Letter) (i : ℕ) → i < length ls → letter_at (ls ++ l ∷ []) i ≡ letter_at ls i
letter_old ls l i h = get_or_append_left ls (l ∷ []) (record { seat = 0; view = 0; block = 0 }) i h

letter_new : (ls : List Letter) (l : Letter) → letter_at (ls ++ l ∷ []) (length ls) ≡ l
letter_new ls l = get_or_push ls l (record { seat = 0; view = 0; block = 0 }) (length ls) refl

module _ {d : Design} {bs : List Block} {ls : List Letter} {seats : List Seat} (inv : Inv d bs ls seats) where
  -- the blocks stay: what is left to show is of seats and letters
  with_letters_kept :
      (l : Letter) → l.block < length bs → (at bs l.block).view < l.view → (seats' : List Seat) → length seats' ≡ 64 →
      ((s : ℕ) → KeptIn d s → SeatRule bs s (get_or seats' s idle)) →
      ((s i : ℕ) → KeptIn d s → i < length ls → (letter_at ls i).seat ≡ s → LetterRule bs s (get_or seats' s idle) (letter_at ls i)) →
      ((s : ℕ) → KeptIn d s → l.seat ≡ s → LetterRule bs s (get_or seats' s idle) l) → Inv d bs (ls ++ l ∷ []) seats'
  with_letters_kept l hl later seats' table' seat' letters' new' =
      record {
        known = known_letter bs ls inv.known l hl later;
        well = inv.well;
        table = table';
        voters_seated = inv.voters_seated;
        makes_once = inv.makes_once;
        seat_rule = seat';
        letter_rule = λ s i k h f.
            elim (cases_lt i (length ls)) [
              | inl below ↦
                  let same = letter_old ls l i below in
                  subst (LetterRule bs s (get_or seats' s idle)) (sym same) (letters' s i k below (ap (λ x. x.seat) (sym same) ∙ f))
              | inr end ↦
                  let last : i ≡ length ls = omega (arith, h, length_push ls l) in
                  let same = ap (letter_at (ls ++ l ∷ [])) last ∙ letter_new ls l in
                  subst (LetterRule bs s (get_or seats' s idle)) (sym same) (new' s k (ap (λ x. x.seat) (sym same) ∙ f))
            ];
        told = λ b s m slow h.
            let t = inv.told b s m slow h in
            let same = letter_old ls l t.number t.held in
            record {
              number = t.number;
              held = omega (arith, t.held, length_push ls l);
              from = ap (λ x. x.seat) same ∙ t.from;
              for_view = ap (λ x. x.view) same ∙ t.for_view;
              names = ap (λ x. x.block) same ∙ t.names;
            };
      }

  -- an open seat's letter
  pub inv_letter : (l : Letter) → l.block < length bs → (at bs l.block).view < l.view → Holds l.seat d.open_seats → Inv d bs (ls ++ l ∷ []) seats
  inv_letter l hl later opened =
      with_letters_kept l hl later seats inv.table inv.seat_rule inv.letter_rule
      (λ s k e. absurd (k.honest (subst (λ q. Holds q d.open_seats) e opened)))

  -- a seat's record after it is replaced, and the others'
  module _ (s : ℕ) (kept : KeptIn d s) (s_below : s < 64) (me : Seat) where
    mine : get_or (set seats s me) s idle ≡ me
    mine = get_or-set_same seats s me idle (omega (arith, s_below, inv.table))

    others : (t : ℕ) → (t ≡ s → ⊥) → get_or (set seats s me) t idle ≡ get_or seats t idle
    others t n = get_or-set_other seats s t me idle n

    table_kept : length (set seats s me) ≡ 64
    table_kept = length-set seats s me ∙ inv.table

    replaced : (P : ℕ → Seat → Type 0) → P s me → ((t : ℕ) → (t ≡ s → ⊥) → KeptIn d t → P t (get_or seats t idle)) → (t : ℕ) → KeptIn d t → P t (get_or (set seats s me) t idle)
    replaced P p q t k =
        elim (cases_eq t s) [
          | inl e ↦ subst (λ u. P u (get_or (set seats s me) u idle)) (sym e) (subst (P s) (sym mine) p)
          | inr n ↦ subst (P t) (sym (others t n)) (q t n k)
        ]

    -- the same letters and blocks, and a record that the rules allow
    pub inv_seat :
        SeatRule bs s me → ((i : ℕ) → i < length ls → (letter_at ls i).seat ≡ s → LetterRule bs s me (letter_at ls i)) → Inv d bs ls (set seats s me)
    inv_seat r letters' =
        record {
          known = inv.known;
          well = inv.well;
          table = table_kept;
          voters_seated = inv.voters_seated;
          makes_once = inv.makes_once;
          seat_rule = replaced (λ t x. SeatRule bs t x) r (λ t n k. inv.seat_rule t k);
          letter_rule = λ t i k h f.
              replaced (λ u x. (letter_at ls i).seat ≡ u → LetterRule bs u x (letter_at ls i)) (λ e. letters' i h e) (λ u n q e. inv.letter_rule u i q h e) t k f;
          told = inv.told;
        }

    -- Expire: the seat enters view v, and its letter names its last vote.
    pub inv_expire :
        (v : ℕ) → (get_or seats s idle).view < v → me ≡ record { view = v; vote = (get_or seats s idle).vote; tip = (get_or seats s idle).tip } →
        Inv d bs (ls ++ record { seat = s; view = v; block = (get_or seats s idle).vote } ∷ []) (set seats s me)
    inv_expire v later is =
        let old = get_or seats s idle in
        let r = inv.seat_rule s kept in
        let view_is = ap (λ x. x.view) is in
        let vote_is = ap (λ x. x.vote) is in
        let tip_is = ap (λ x. x.tip) is in
        let rule : SeatRule bs s me =
        subst (SeatRule bs s) (sym is)
        (record {
          vote_held = r.vote_held;
          voted_last = r.voted_last;
          last_highest = r.last_highest;
          votes_once = r.votes_once;
          view_reached = omega (arith, r.view_reached, later);
          tip_commit = r.tip_commit;
        }) in
        with_letters_kept (record { seat = s; view = v; block = old.vote }) r.vote_held (omega (arith, r.view_reached, later)) (set seats s me) table_kept
        (replaced (λ t x. SeatRule bs t x) rule (λ t n k. inv.seat_rule t k))
        (λ t i k h f.
        replaced (λ u x. (letter_at ls i).seat ≡ u → LetterRule bs u x (letter_at ls i))
        (λ e. let l = inv.letter_rule s i kept h e in record { past = omega (arith, l.past, later, view_is); voted = l.voted; last = l.last })
        (λ u n q e. inv.letter_rule u i q h e) t k f)
        (λ t k e.
        replaced (λ u x. s ≡ u → LetterRule bs u x (record { seat = s; view = v; block = old.vote }))
        (λ q. record { past = omega (arith, view_is); voted = r.voted_last; last = λ x h w earlier. r.last_highest x h w })
        (λ u n q f. absurd (n (sym f))) t k e)

-- Show: the seat may vote, and its tip may move to the block's commit point.
module _ {d : Design} {bs : List Block} {ls : List Letter} {seats : List Seat} (inv : Inv d bs ls seats) (small : d.seats ≤ 64) (s b : ℕ) (kept : KeptIn d s) (hb : b < length bs) where
  s_seat : s < 64
  s_seat = omega (arith, kept.seated, small)

  -- a tip that is the old one or the block's commit point
  tip_stays : (t : Bool) → (c : ℕ) × (c < length bs) × (cond t (at bs b).commit (get_or seats s idle).tip ≡ (at bs c).commit)
  tip_stays true = (b, hb, refl)
  tip_stays false = (inv.seat_rule s kept).tip_commit

  pub inv_shown_only :
      (t : Bool) →
      Inv d bs ls (set seats s (record { view = (get_or seats s idle).view; vote = (get_or seats s idle).vote; tip = cond t (at bs b).commit (get_or seats s idle).tip }))
  inv_shown_only t =
      let r = inv.seat_rule s kept in
      inv_seat inv s kept s_seat _
      (record {
        vote_held = r.vote_held;
        voted_last = r.voted_last;
        last_highest = r.last_highest;
        votes_once = r.votes_once;
        view_reached = r.view_reached;
        tip_commit = tip_stays t;
      })
      (λ i h f. let l = inv.letter_rule s i kept h f in record { past = l.past; voted = l.voted; last = l.last })

  pub inv_shown_voted :
      (t : Bool) → (get_or seats s idle).view ≤ (at bs b).view → (at bs (get_or seats s idle).vote).view < (at bs b).view →
      Inv d (vote_after bs s b) ls (set seats s (record { view = (at bs b).view; vote = b; tip = cond t (at bs b).commit (get_or seats s idle).tip }))
  inv_shown_voted t reached later =
      inv_voted inv s b hb kept.seated (set seats s me) (table_kept inv s kept s_seat me)
      (replaced inv s kept s_seat me (λ u x. SeatRule (vote_after bs s b) u x) rule (λ u n k. seat_other inv s b hb kept.seated u _ n (inv.seat_rule u k)))
      (λ u i k h f.
      replaced inv s kept s_seat me (λ w x. (letter_at ls i).seat ≡ w → LetterRule (vote_after bs s b) w x (letter_at ls i))
      (λ e. letters i h e)
      (λ w n q e. letter_other inv s b hb kept.seated w _ _ (inv.known.letters_known i h) n (inv.letter_rule w i q h e)) u k f)
    where
      me : Seat
      me = record { view = (at bs b).view; vote = b; tip = cond t (at bs b).commit (get_or seats s idle).tip }

      r : SeatRule bs s (get_or seats s idle)
      r = inv.seat_rule s kept

      long : length (vote_after bs s b) ≡ length bs
      long = same_length inv s b hb kept.seated

      view_is : (x : ℕ) → x < length bs → (at (vote_after bs s b) x).view ≡ (at bs x).view
      view_is = view_now inv s b hb kept.seated

      -- what was voted for before is earlier than b
      before : (x : ℕ) → x < length bs → Holds s (at bs x).voters.bits → (at bs x).view < (at bs b).view
      before x h v = ⊎_elim (λ l. omega (arith, l, later)) (λ e. omega (arith, ap (λ y. (at bs y).view) e, later)) (r.last_highest x h v)

      rule : SeatRule (vote_after bs s b) s me
      rule =
          record {
            vote_held = omega (arith, hb, long);
            voted_last = new_voter inv s b hb kept.seated s_seat;
            last_highest = λ x h v.
                let hx : x < length bs = omega (arith, h, long) in
                ⊎_elim (λ o. inl (omega (arith, before x hx o, view_is x hx, view_is b hb))) (λ n. inr n.1) (voter_is inv s b hb kept.seated s x v);
            votes_once = λ x y h i v w e.
                let hx : x < length bs = omega (arith, h, long) in
                let hy : y < length bs = omega (arith, i, long) in
                let level = sym (view_is x hx) ∙ e ∙ view_is y hy in
                ⊎_elim
                (λ o.
                ⊎_elim (λ q. r.votes_once x y hx hy o q level)
                (λ n. absurd (omega (arith, before x hx o, level, ap (λ z. (at bs z).view) n.1))) (voter_is inv s b hb kept.seated s y w))
                (λ m.
                ⊎_elim (λ q. absurd (omega (arith, before y hy q, level, ap (λ z. (at bs z).view) m.1)))
                (λ n. m.1 ∙ sym n.1) (voter_is inv s b hb kept.seated s y w))
                (voter_is inv s b hb kept.seated s x v);
            view_reached = omega (arith, view_is b hb);
            tip_commit = let (c, h, e) = tip_stays t in (c, omega (arith, h, long), e ∙ sym ((extends_vote bs s b).each c h).commit);
          }

      letters : (i : ℕ) → i < length ls → (letter_at ls i).seat ≡ s → LetterRule (vote_after bs s b) s me (letter_at ls i)
      letters i h e =
          let l = inv.letter_rule s i kept h e in
          let hl = inv.known.letters_known i h in
          record {
            past = omega (arith, l.past, reached);
            voted = ((extends_vote bs s b).each (letter_at ls i).block hl).voters s l.voted;
            last = λ x j v earlier.
                let hx : x < length bs = omega (arith, j, long) in
                ⊎_elim
                (λ o. ⊎_elim (λ lt. inl (omega (arith, lt, view_is x hx, view_is (letter_at ls i).block hl))) inr (l.last x hx o (omega (arith, earlier, view_is x hx))))
                (λ n. absurd (omega (arith, earlier, view_is x hx, ap (λ z. (at bs z).view) n.1, l.past, reached)))
                (voter_is inv s b hb kept.seated s x v);
          }
