use Rattle.std.proofs.Common.{cond, Ok, Err, sym, ap, ◌∙◌, arith}
use Rattle.std.proofs.lemmas.List.FromFn.{fill_by_all}
use Rattle.std.proofs.lemmas.Result.{err_from_is_err_and}
use Rattle.refusal.proofs.Replies.{told_err}
use Rattle.refusal.specs.declared.Refusal.TheVariants.{HeardSeatSilent}
use Rattle.letters.proofs.Searches.{any_below_found, any_below_none}
use Rattle.letters.specs.Letters.{no_letter, report_of, reports_of, gathered}
use Rattle.letters.proofs.reports.Reports.gather.Goals as goal

pub returns-in_err-block : goal.returns-in_err-block
returns-in_err-block c =
    let ls = c.args.letters.now in
    let heard = c.args.heard.bits in
    let v = c.args.view in
    let seat = c.loop-seat.seat in
    let p = err_from_is_err_and c.from_residual.result c.from_residual.ensures.1 in
    let told = told_err (no_letter ls heard v seat) HeardSeatSilent c.in_err-block.field-0.0 (report_of ls heard v seat) c.in_err-block.ensures in
    let found = any_below_found (no_letter ls heard v) 64 seat c.loop-seat-test.true told.0 in
    p.1 ∙ ap Err (p.2 ∙ told.1) ∙ sym (ap (λ t. cond t (Err HeardSeatSilent) (Ok (gathered ls c.args.heard v))) found)

pub returns : goal.returns
unfolding reports_of
returns c =
    let ls = c.args.letters.now in
    let heard = c.args.heard.bits in
    let v = c.args.view in
    let none = any_below_none (no_letter ls heard v) 64 (λ k h. c.loop-seat.invariant.told k (omega (arith, c.loop-seat-test.false))) in
    let filled =
    fill_by_all (report_of ls heard v) c.loop-seat.block-items 64 0 c.loop-seat.invariant.whole
    (λ k h. c.loop-seat.invariant.filled k (omega (arith, c.loop-seat-test.false))) in
    ap (λ x. Ok (record { heard = c.args.heard; blocks = x })) filled ∙ sym (ap (λ t. cond t (Err HeardSeatSilent) (Ok (gathered ls c.args.heard v))) none)
