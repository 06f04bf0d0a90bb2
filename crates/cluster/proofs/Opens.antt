-- What a newly made cluster is, and that it is safe.
-- Assumes nothing.
use Rattle.std.proofs.Common.{◌≡◌, ℕ, min, Bool, [], ◌∷◌, replicate, vec_items, sym, subst, arith}
use Rattle.quorum.specs.Laws.{QuorumLaws}
use Rattle.rotation.specs.Laws.{RotationLaws}
use Rattle.book.specs.Admission.{design}
use Rattle.book.specs.Pages.{genesis}
use Rattle.protocol.specs.Held.{held_by}
use Rattle.cluster.specs.Opening.{SafeIf}
use Rattle.protocol.specs.Safety.{Fit}
use Rattle.protocol.specs.State.{State, idle, fresh}
use Rattle.protocol.specs.declared.inner.Inner.{Inner}
use Rattle.protocol.proofs.Theorem.{safety_law, proposals_law}

pub state_fresh : (n : ℕ) (quorum : ℕ → Bool) (leads : ℕ → ℕ) (open_set : ℕ) (inner : Inner) → vec_items inner.book.blocks ≡ genesis n ∷ [] → vec_items inner.book.letters ≡ [] → inner.seats ≡ replicate 64 idle → inner.open_set.bits ≡ open_set → held_by n quorum leads inner ≡ fresh (design n quorum leads open_set)
unfolding fresh
state_fresh n quorum leads open_set inner blocks letters seats open_is = cc

module _ {n most : ℕ} {quorum tolerated : ℕ → Bool} (rule : QuorumLaws most n quorum tolerated) where
  pub seats_fit : min n 64 ≡ n
  seats_fit = omega (arith, rule.seats_fit, rule.most_fits)

  pub safe_fresh : {m : ℕ} {leads : ℕ → ℕ} → RotationLaws m leads → n ≡ m → (open_set : ℕ) (st : State) → st ≡ fresh (design n quorum leads open_set) → SafeIf (tolerated open_set) st
  safe_fresh {m} {leads} rotation same open_set st is t =
      let fit : Fit (design n quorum leads open_set) most tolerated = record { rule = rule; rotation = subst (λ k. RotationLaws k leads) (sym same) rotation; tolerable = t } in
      subst (SafeIf (tolerated open_set)) (sym is) (λ u. (safety_law _ most tolerated fit, proposals_law _ most tolerated fit)) t
