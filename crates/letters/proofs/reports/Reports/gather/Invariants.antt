use Rattle.std.proofs.Common.{◌≡◌, ℕ, ◌<◌, false, length, slice_index}
use Rattle.letters.specs.Letters.{no_letter, report_of}
use Rattle.letters.proofs.reports.Reports.gather.Given as goal

abbrev pub invariant-loop-seat : goal.invariant-loop-seat
invariant-loop-seat l = record {
  whole : length l.block-items ≡ 64;
  told : (k : ℕ) → k < l.seat → no_letter l.letters l.heard.bits l.view k ≡ false;
  filled : (k : ℕ) → k < l.seat → slice_index l.block-items k ≡ report_of l.letters l.heard.bits l.view k;
}
