use Rattle.std.proofs.Common.{◌≡◌, min, not, [], ◌∷◌, vec_items, sym, refl, ap, ◌∙◌, arith}
use Rattle.std.proofs.lemmas.Bool.{eq-eqb}
use Rattle.quorum.specs.Seats.{within}
use Rattle.book.specs.Pages.{genesis}
use Rattle.cluster.proofs.Opens.{seats_fit, state_fresh, safe_fresh}
use Rattle.cluster.proofs.cluster.Cluster.open.Goals as goal

pub returns : goal.returns
returns g c =
    let n = g.R.QuorumRule.seats c.args.rule in
    let quorum = g.R.QuorumRule.quorum c.args.rule in
    let leads = g.T.Rotation.leads c.args.rotation in
    let rule = g.met.R.QuorumRule.lawful c.args.rule in
    let rotation = g.met.T.Rotation.lawful c.args.rotation in
    let same : n ≡ g.T.Rotation.seats c.args.rotation = sym c.seats-n.ensures ∙ c.if-n-seats.false ∙ c.seats.ensures in
    let inner = c.new-2.result in
    let count : min c.seats-n.result 64 ≡ n = omega (arith, c.seats-n.ensures, seats_fit rule) in
    let blocks : vec_items inner.book.blocks ≡ genesis n ∷ [] =
    ap (λ b. vec_items b.blocks) c.new-2.ensures.book ∙ c.in_ok-book.ensures.pages.0 ∙ ap (λ k. genesis k ∷ []) count in
    let letters = ap (λ b. vec_items b.letters) c.new-2.ensures.book ∙ c.in_ok-book.ensures.pages.1 in
    let is = state_fresh n quorum leads c.args.open_set.bits inner blocks letters c.new-2.ensures.seats (ap (λ q. q.bits) c.new-2.ensures.open_set) in
    let seated = ap (λ k. within k c.args.open_set.bits) (sym c.seats-n.ensures) ∙ sym c.is_within.ensures ∙ c.if-not-is_within.false in
    record {
      opening = ((ap not (eq-eqb n _ same), (ap not seated, tt)), (refl, refl, is));
      safe = safe_fresh rule rotation same c.args.open_set.bits _ is;
    }
