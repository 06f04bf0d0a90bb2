-- What showing and expiring come to, once it is known whether they are refused.
-- Assumes nothing.
use Rattle.std.proofs.Common.{◌≡◌, ℕ, ◌+◌, ◌<◌, Bool, true, false, cond, not, ◌&&◌, ltb, leb, List, [], ◌∷◌, ◌++◌, length, get_or, set, Ok, Err, vec_items, Result, sym, refl, ap, ◌∙◌, subst, arith}
use Rattle.std.proofs.lemmas.Bool.{leb-false, lt-leb}
use Rattle.refusal.proofs.Replies.{none_applies, none_refused, passed_as, passed_value, refused_as, replied_past, replied_stop}
use Rattle.refusal.specs.Reasons.{Reason, replied}
use Rattle.refusal.specs.declared.Refusal.{Refusal}
use Rattle.refusal.specs.declared.Refusal.TheVariants.{NoSuchBlock, ViewOutOfRange, BlockNotBelowLetter, LettersFull}
use Rattle.quorum.specs.declared.rule.QuorumRule as QuorumRule
use Rattle.rotation.specs.Turns.{is_view}
use Rattle.book.specs.Admission.{Design, grown}
use Rattle.book.specs.Changes.{letter_reply, letter_after, vote_after}
use Rattle.book.specs.Pages.{at}
use Rattle.book.specs.declared.block.Block.{Block}
use Rattle.letters.specs.declared.letter.Letter.{Letter}
use Rattle.protocol.specs.Calls.{reply, after, changed, shown, show_reasons, show_after, leave_reasons, letters_full, expire_after}
use Rattle.protocol.specs.Held.{under}
use Rattle.protocol.specs.State.{State, idle}
use Rattle.protocol.specs.declared.call.Call.{Call}
use Rattle.protocol.specs.declared.call.Call.TheVariants.{Show, Expire}
use Rattle.protocol.specs.declared.inner.Inner.{Inner}
use Rattle.protocol.specs.declared.seat.Seat.{Seat}

-- a reply, and the state after it
abbrev pub Comes : State → Call → Result ℕ Refusal → State → Type 0
Comes st c r next = (r ≡ reply st c) × (next ≡ after st c)

-- whether a seat votes for a block
abbrev pub vote_due : Inner → ℕ → ℕ → Bool
vote_due inner s b =
    let bs = vec_items inner.book.blocks in
    let me = get_or inner.seats s idle in
    leb me.view (at bs b).view && ltb (at bs me.vote).view (at bs b).view

pub due_is : (inner : Inner) (s b view : ℕ) (r : Bool) → view ≡ (at (vec_items inner.book.blocks) b).view → r ≡ leb (get_or inner.seats s idle).view view && ltb (at (vec_items inner.book.blocks) (get_or inner.seats s idle).vote).view view → vote_due inner s b ≡ r
due_is inner s b view r is told =
    ap (λ v. leb (get_or inner.seats s idle).view v && ltb (at (vec_items inner.book.blocks) (get_or inner.seats s idle).vote).view v) (sym is) ∙ sym told

comes : (st next : State) (c : Call) (r : Result ℕ Refusal) → reply st c ≡ r → after st c ≡ changed (reply st c) next st → Comes st c r (changed r next st)
comes st next c r is then = (sym is, sym (then ∙ ap (λ q. changed q next st) is))

pub same_state : {d : Design} {bs cs : List Block} {ls ms : List Letter} {xs ys : List Seat} → bs ≡ cs → ls ≡ ms → xs ≡ ys → ◌≡◌ {A = State} (record { design = d; blocks = bs; letters = ls; seats = xs }) (record { design = d; blocks = cs; letters = ms; seats = ys })
same_state p q r = cc

-- Whatever the leaders are.

module _ {R : Type 0} (q : QuorumRule.Ghosts R) (rule : R) (inner : Inner) (s : ℕ) where
  abbrev st : (ℕ → ℕ) → State
  st leads = under q rule leads inner

  abbrev me : Seat
  me = get_or inner.seats s idle

  pub show_refused : (b : ℕ) (e : Refusal) → ((leads : ℕ → ℕ) → Err e ≡ replied (show_reasons (st leads) s b) (shown (st leads) s b).tip) → (leads : ℕ → ℕ) → Comes (st leads) (Show s b) (Err e) (st leads)
  show_refused b e told leads =
      comes (st leads) (show_after (st leads) s b) (Show s b) (Err e) (refused_as (show_reasons (st leads) s b) e _ _ (told leads)) refl

  -- by whether the seat votes
  abbrev show_with : (b : ℕ) → Bool → ℕ → (ℕ → ℕ) → State
  show_with b vote tip leads =
      let bs = vec_items inner.book.blocks in
      record {
        design = (st leads).design;
        blocks = cond vote (vote_after bs s b) bs;
        letters = vec_items inner.book.letters;
        seats = set inner.seats s (record { view = cond vote (at bs b).view me.view; vote = cond vote b me.vote; tip = tip });
      }

  pub show_passed : (b : ℕ) (vote : Bool) (tip : ℕ) → vote_due inner s b ≡ vote → ((leads : ℕ → ℕ) → Ok tip ≡ replied (show_reasons (st leads) s b) (shown (st leads) s b).tip) → (leads : ℕ → ℕ) → Comes (st leads) (Show s b) (Ok (cond vote 1 0)) (show_with b vote tip leads)
  show_passed b vote tip is told leads =
      let due = vote_due inner s b in
      let passed = comes (st leads) (show_after (st leads) s b) (Show s b) (Ok (cond due 1 0)) (passed_as (show_reasons (st leads) s b) _ _ _ (told leads)) refl in (
        ap (λ x. Ok (cond x 1 0)) (sym is) ∙ passed.0,
        ap (λ x. show_with b x tip leads) (sym is) ∙ ap (λ x. show_with b due x leads) (passed_value (show_reasons (st leads) s b) tip _ (told leads)) ∙ passed.1,
      )

  pub expire_refused : (v : ℕ) (e : Refusal) → ((leads : ℕ → ℕ) → Err e ≡ replied (leave_reasons (st leads) s v) me.vote) → (leads : ℕ → ℕ) → Comes (st leads) (Expire s v) (Err e) (st leads)
  expire_refused v e told leads =
      comes (st leads) (expire_after (st leads) s v) (Expire s v) (Err e) (replied_stop (leave_reasons (st leads) s v) (letters_full (st leads) ∷ []) e _ _ (told leads)) refl

  -- where it may leave, what is left is whether there is room for its letter
  pub expire_passed : (v vote : ℕ) (full : Bool) → leb 512 (length (vec_items inner.book.letters)) ≡ full → ((leads : ℕ → ℕ) → Ok vote ≡ replied (leave_reasons (st leads) s v) me.vote) → (leads : ℕ → ℕ) → Comes (st leads) (Expire s v) (cond full (Err LettersFull) (Ok me.vote)) (cond full (st leads) (expire_after (st leads) s v))
  expire_passed v vote full is told leads =
      let past = replied_past (leave_reasons (st leads) s v) (letters_full (st leads) ∷ []) _ _ me.vote (told leads) in
      let passed = comes (st leads) (expire_after (st leads) s v) (Expire s v) (cond full (Err LettersFull) (Ok me.vote)) (past ∙ ap (λ x. cond x (Err LettersFull) (Ok me.vote)) is) refl in
      (passed.0, by full ∙ passed.1)
    where
      by : (x : Bool) → cond x (st leads) (expire_after (st leads) s v) ≡ changed (cond x (Err LettersFull) (Ok me.vote)) (expire_after (st leads) s v) (st leads)
      by true = refl
      by false = refl

  -- the book has no reason of its own but that it has no room
  pub letter_left : (v vote : ℕ) → ((leads : ℕ → ℕ) → Ok vote ≡ replied (leave_reasons (st leads) s v) me.vote) → letter_reply (vec_items inner.book.blocks) (vec_items inner.book.letters) (record { seat = s; view = v; block = vote }) ≡ cond (leb 512 (length (vec_items inner.book.letters))) (Err LettersFull) (Ok (length (vec_items inner.book.letters) + 1))
  letter_left v vote told =
      let ls = vec_items inner.book.letters in
      let reasons = leave_reasons (st (λ x. 0)) s v in
      let none = none_applies reasons vote _ (told (λ x. 0)) in
      let is = passed_value reasons vote _ (told (λ x. 0)) in
      let bs = vec_items inner.book.blocks in
      let held = subst (λ b. leb (length bs) b ≡ false) (sym is) (lt-leb _ _ (inner.seated.votes s)) in
      let above : (at bs me.vote).view < v = omega (arith, inner.seated.views s, leb-false _ _ none.1.1.1.0) in
      let later = subst (λ b. leb v (at bs b).view ≡ false) (sym is) (lt-leb _ _ above) in
      let earlier : List Reason = (leb (length bs) vote, NoSuchBlock) ∷ (not (is_view v), ViewOutOfRange) ∷ (leb v (at bs vote).view, BlockNotBelowLetter) ∷ [] in
      replied_past {X = ℕ} earlier ((leb 512 (length ls), LettersFull) ∷ []) 0 0 (length ls + 1) (sym (none_refused earlier 0 (held, (none.1.0, (later, tt)))))

  pub letters_left : (v vote : ℕ) (full : Bool) → leb 512 (length (vec_items inner.book.letters)) ≡ full → ((leads : ℕ → ℕ) → Ok vote ≡ replied (leave_reasons (st leads) s v) me.vote) → letter_after (vec_items inner.book.blocks) (vec_items inner.book.letters) (record { seat = s; view = v; block = vote }) ≡ cond full (vec_items inner.book.letters) (vec_items inner.book.letters ++ record { seat = s; view = v; block = me.vote } ∷ [])
  letters_left v vote full is told =
      let ls = vec_items inner.book.letters in
      let by_reply = ap (λ r. grown r ls (record { seat = s; view = v; block = vote })) (letter_left v vote told ∙ ap (λ x. cond x (Err LettersFull) (Ok (length ls + 1))) is) in
      by_reply ∙ by full ∙ ap (λ b. cond full ls (ls ++ record { seat = s; view = v; block = b } ∷ [])) (passed_value (leave_reasons (st (λ x. 0)) s v) vote _ (told (λ x. 0)))
    where
      by : (x : Bool) → grown (cond x (Err LettersFull) (Ok (length (vec_items inner.book.letters) + 1))) (vec_items inner.book.letters) (record { seat = s; view = v; block = vote }) ≡ cond x (vec_items inner.book.letters) (vec_items inner.book.letters ++ record { seat = s; view = v; block = vote } ∷ [])
      by true = refl
      by false = refl
