use Rattle.std.proofs.Common.{◌+◌, true, false, leb, length, get_or, set, Ok, Err, vec_items, sym, refl, ap, ◌∙◌, subst, arith}
use Rattle.std.proofs.lemmas.Result.{err_from_is_err_and}
use Rattle.std.proofs.lemmas.Bool.{leb-false}
use Rattle.refusal.proofs.Replies.{none_applies, passed_value, told_err, told_ok}
use Rattle.refusal.specs.declared.Refusal.TheVariants.{LettersFull}
use Rattle.protocol.specs.Calls.{leave_reasons}
use Rattle.protocol.specs.Held.{under}
use Rattle.protocol.specs.Seated.{Seated}
use Rattle.protocol.specs.State.{idle}
use Rattle.protocol.specs.declared.seat.Seat.{Seat}
use Rattle.protocol.proofs.Outcomes.{expire_refused, expire_passed, letter_left, letters_left, same_state}
use Rattle.protocol.proofs.Seating.{seated_set}
use Rattle.protocol.proofs.inner.Inner.expire.Goals as goal

pub returns-in_err-vote : goal.returns-in_err-vote
returns-in_err-vote g c =
    let e = c.in_err-vote.field-0.0 in
    let given = err_from_is_err_and c.from_residual.result c.from_residual.ensures.1 in
    let refused = expire_refused g.R.QuorumRule c.args.rule.now c.args.self.now c.args.seat c.args.view e c.in_err-vote.ensures.reply in
    record { reply = λ leads. given.1 ∙ ap Err given.2 ∙ (refused leads).0; after = λ leads. (refused leads).1 }

pub returns-in_err-add_letter : goal.returns-in_err-add_letter
returns-in_err-add_letter g c =
    let inner = c.args.self.now in
    let ls = vec_items inner.book.letters in
    let e = c.in_err-add_letter.field-0.0 in
    let given = err_from_is_err_and c.from_residual-in_err-add_letter.result c.from_residual-in_err-add_letter.ensures.1 in
    let leaves = c.in_ok-vote.ensures.reply in
    let left = letter_left g.R.QuorumRule c.args.rule.now inner c.args.seat c.args.view c.in_ok-vote.vote leaves in
    let told = told_err (leb 512 (length ls)) LettersFull e (length ls + 1) (c.in_err-add_letter.ensures.reply ∙ left) in
    let passed = expire_passed g.R.QuorumRule c.args.rule.now inner c.args.seat c.args.view c.in_ok-vote.vote true told.0 leaves in
    let letters = letters_left g.R.QuorumRule c.args.rule.now inner c.args.seat c.args.view c.in_ok-vote.vote true told.0 leaves in
    record { reply = λ leads. given.1 ∙ ap Err (given.2 ∙ told.1) ∙ (passed leads).0; after = λ leads. same_state c.add_letter.ensures.blocks (c.add_letter.ensures.letters ∙ letters) refl ∙ (passed leads).1 }

pub invariant_of-self-2 : goal.invariant_of-self-2
invariant_of-self-2 g c =
    let inner = c.args.self.now in
    let bs = vec_items inner.book.blocks in
    let seated = inner.seated in
    let before = get_or inner.seats c.args.seat idle in
    let me : Seat = record { view = c.args.view; vote = before.vote; tip = before.tip } in
    let then = seated_set bs inner.seats c.args.seat me seated (seated.votes c.args.seat) (seated.tips c.args.seat) (omega (arith, seated.views c.args.seat, leb-false _ _ (none_applies (leave_reasons (under g.R.QuorumRule c.args.rule.now (λ x. 0) inner) c.args.seat c.args.view) _ _ (c.in_ok-vote.ensures.reply (λ x. 0))).1.1.1.0)) in
    record { seated = subst (λ xs. Seated xs (set inner.seats c.args.seat me)) (sym c.add_letter.ensures.blocks) then }

pub returns : goal.returns
returns g c =
    let inner = c.args.self.now in
    let ls = vec_items inner.book.letters in
    let leaves = c.in_ok-vote.ensures.reply in
    let left = letter_left g.R.QuorumRule c.args.rule.now inner c.args.seat c.args.view c.in_ok-vote.vote leaves in
    let told = told_ok (leb 512 (length ls)) LettersFull _ (length ls + 1) (c.in_ok-add_letter.ensures.reply ∙ left) in
    let passed = expire_passed g.R.QuorumRule c.args.rule.now inner c.args.seat c.args.view c.in_ok-vote.vote false told.0 leaves in
    let letters = letters_left g.R.QuorumRule c.args.rule.now inner c.args.seat c.args.view c.in_ok-vote.vote false told.0 leaves in
    let vote = passed_value (leave_reasons (under g.R.QuorumRule c.args.rule.now (λ x. 0) inner) c.args.seat c.args.view) _ _ (leaves (λ x. 0)) in
    record { reply = λ leads. ap Ok vote ∙ (passed leads).0; after = λ leads. same_state c.add_letter.ensures.blocks (c.add_letter.ensures.letters ∙ letters) refl ∙ (passed leads).1 }
