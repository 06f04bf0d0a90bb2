use Rattle.std.proofs.Common.{◌≡◌, ℕ, ◌<◌, ◌∙◌, false, slice_index, slice_index_or, vec_items, refl, arith, rules, tests}
use Rattle.std.specs.Option.{option_map_or}
use Rattle.std.specs.Ordering.{is_gt}
use Rattle.book.specs.Admission.{rank_of}
use Rattle.book.proofs.Arrays.{made_at}
use Rattle.book.proofs.Ranks.{rank_cmp, picked_above}
use Rattle.book.proofs.pages.Book.is_outranked.Goals as goal

pub returns : goal.returns
returns c =
    let bs = vec_items c.args.self.now.blocks in
    let ranks = c.from_fn-ranks.result in
    let told : c.is_some_and.result ≡ option_map_or (λ place. is_gt (rank_cmp (slice_index_or ranks place (0, 0)) (rank_of bs c.args.parent))) c.highest.result false = search (rules, tests) in
    let read : (k : ℕ) → k < 64 → slice_index_or ranks k (0, 0) ≡ rank_of bs (slice_index c.args.reports.now k) =
    λ k h. made_at _ (λ s. rank_of bs (slice_index c.args.reports.now s)) _ (λ s y q call. search (rules, tests)) _ refl ranks 0 64 c.from_fn-ranks.ensures.items.each k (0, 0) (omega arith) (omega arith) in
    told ∙ picked_above bs c.args.parent c.args.reports.now ranks c.from_fn-ranks.ensures.items.long read c.highest.result c.highest.ensures
