-- What is known of the seats stays known: when the book is extended, and when one seat's record is replaced.
-- Assumes nothing.
use Rattle.std.proofs.Common.{◌≡◌, ℕ, zero, suc, ◌<◌, ◌≤◌, Bool, true, false, cond, List, length, get_or, set, replicate, Ok, Err, vec_items, Result, sym, refl, subst, inl, inr, arith, get_or-set_other, get_or-set_same}
use Rattle.std.proofs.lemmas.List.{set_past}
use Rattle.std.proofs.lemmas.Bool.{cases_eq, cases_lt}
use Rattle.refusal.proofs.Replies.{passed_value}
use Rattle.refusal.specs.Reasons.{replied}
use Rattle.refusal.specs.declared.Refusal.{Refusal}
use Rattle.quorum.specs.declared.rule.QuorumRule as QuorumRule
use Rattle.book.specs.Admission.{grown}
use Rattle.book.specs.Pages.{at, stands}
use Rattle.book.specs.declared.block.Block.{Block}
use Rattle.book.specs.declared.pages.Book.{Book}
use Rattle.book.proofs.Extends.{Extends, extends_refl, extends_push}
use Rattle.protocol.specs.Calls.{show_reasons, shown}
use Rattle.protocol.specs.Held.{under}
use Rattle.protocol.specs.Seated.{Seated}
use Rattle.protocol.specs.State.{idle}
use Rattle.protocol.specs.declared.inner.Inner.{Inner}
use Rattle.protocol.specs.declared.seat.Seat.{Seat}

pub seated_extends : {bs cs : List Block} (seats : List Seat) → Extends bs cs → Seated bs seats → Seated cs seats
seated_extends seats e k =
    record {
      votes = λ s. omega (arith, k.votes s, e.longer);
      tips = λ s. omega (arith, k.tips s, e.longer);
      views = λ s. omega (arith, k.views s, (e.each (get_or seats s idle).vote (k.votes s)).view);
    }

-- what holds of each thing of a list, and of another thing, holds of each where that one is put in
put_in : {A : Type 0} (P : A → Type 0) (xs : List A) (s : ℕ) (x d : A) → P x → ((t : ℕ) → P (get_or xs t d)) → (t : ℕ) → P (get_or (set xs s x) t d)
put_in P xs s x d p all t =
    elim (cases_eq t s) [
      | inl e ↦ elim (cases_lt s (length xs)) [
        | inl l ↦ subst (λ u. P (get_or (set xs s x) u d)) (sym e) (subst P (sym (get_or-set_same xs s x d l)) p)
        | inr l ↦ subst (λ ys. P (get_or ys t d)) (sym (set_past xs s x l)) (all t)
      ]
      | inr n ↦ subst P (sym (get_or-set_other xs s t x d n)) (all t)
    ]

pub seated_set : (bs : List Block) (seats : List Seat) (s : ℕ) (me : Seat) → Seated bs seats → me.vote < length bs → me.tip < length bs → (at bs me.vote).view ≤ me.view → Seated bs (set seats s me)
seated_set bs seats s me k vote tip view =
    record {
      votes = put_in (λ x. x.vote < length bs) seats s me idle vote k.votes;
      tips = put_in (λ x. x.tip < length bs) seats s me idle tip k.tips;
      views = put_in (λ x. (at bs x.vote).view ≤ x.view) seats s me idle view k.views;
    }

grown_extends : (r : Result ℕ Refusal) (bs : List Block) (b : Block) → Extends bs (grown r bs b)
grown_extends (Ok x) bs b = extends_push bs b
grown_extends (Err e) bs b = extends_refl bs

-- a proposal may add a block
pub seated_grown : (inner : Inner) (r : Result ℕ Refusal) (b : Block) (cs : List Block) → cs ≡ grown r (vec_items inner.book.blocks) b → Seated cs inner.seats
seated_grown inner r b cs is =
    let bs = vec_items inner.book.blocks in
    subst (λ xs. Seated xs inner.seats) (sym is) (seated_extends inner.seats (grown_extends r bs b) inner.seated)

pub idle_at : (n s : ℕ) → get_or (replicate n idle) s idle ≡ idle
idle_at zero s = refl
idle_at (suc n) zero = refl
idle_at (suc n) (suc s) = idle_at n s

-- seats that have done nothing, beside any book
pub seated_idle : (book : Book) → Seated (vec_items book.blocks) (replicate 64 idle)
seated_idle book =
    let known = book.known in
    let each : (P : Seat → Type 0) → P idle → (s : ℕ) → P (get_or (replicate 64 idle) s idle) = λ P p s. subst P (sym (idle_at 64 s)) p in
    let bs = vec_items book.blocks in
    record {
      votes = each (λ x. x.vote < length bs) known.some;
      tips = each (λ x. x.tip < length bs) known.some;
      views = each (λ x. (at bs x.vote).view ≤ x.view) (omega (arith, known.first_view));
    }

-- the tip of a seat that was shown a block is in the book
pub tip_held : {R : Type 0} (q : QuorumRule.Ghosts R) (rule : R) (inner : Inner) (s b z : ℕ) → ((leads : ℕ → ℕ) → Ok z ≡ replied (show_reasons (under q rule leads inner) s b) (shown (under q rule leads inner) s b).tip) → b < length (vec_items inner.book.blocks) → z < length (vec_items inner.book.blocks)
tip_held q rule inner s b z told held =
    let bs = vec_items inner.book.blocks in
    let st = under q rule (λ v. 0) inner in
    let commit : (at bs b).commit < length bs = omega (arith, inner.book.known.commits_known b held, held) in
    subst (λ x. x < length bs) (sym (passed_value (show_reasons st s b) z _ (told (λ v. 0)))) (either (stands bs (at bs b).commit (get_or inner.seats s idle).tip) commit (inner.seated.tips s))
  where
    either : {commit tip n : ℕ} (q : Bool) → commit < n → tip < n → cond q commit tip < n
    either true h k = h
    either false h k = k
