use Rattle.std.proofs.Common.{◌≡◌, ◌∙◌, ◌&&◌, ap₂, sym, refl, true, nat_lt, vec_items, rules, tests}
use Rattle.std.proofs.lemmas.Iterator.{YieldsList-from_range}
use Rattle.std.proofs.lemmas.Iterator.Search.{any_from_yields_List}
use Rattle.letters.proofs.Searches.{any_in_range}
use Rattle.book.specs.Admission.{told_rival, heard_rival}
use Rattle.book.specs.Kinds.{is_slow}
use Rattle.book.specs.Pages.{at}
use Rattle.book.proofs.base.Base.clashes.Goals as goal

pub returns-then-is_before : goal.returns-then-is_before
returns-then-is_before c =
    let bs = vec_items c.args.self.now.book.now.blocks in
    let test = told_rival bs c.args.self.now.number c.args.a in
    let heard : c.any.result ≡ heard_rival bs c.args.self.now.number c.args.a = any_from_yields_List test _ _ _ c.any.ensures.ran (YieldsList-from_range 0 64 64 refl refl) (λ x b q k. search (rules, tests)) ∙ any_in_range test 64 in
    let slow : is_slow (at bs c.args.a).kind ≡ true = search rules in
    let later : nat_lt (at bs c.args.self.now.number).view (at bs c.args.a).view ≡ true = search rules in
    heard ∙ sym (ap₂ (λ p q. p && (q && heard_rival bs c.args.self.now.number c.args.a)) slow later)
