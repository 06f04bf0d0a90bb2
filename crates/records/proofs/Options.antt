-- What a value says that was found and then read.
-- Assumes nothing.
use Rattle.std.proofs.Common.{◌≡◌, Option, Some, None, Result, Err, MatchOption, MatchResult, subst}
use Rattle.std.specs.Option.{ok_or}

-- what follows from both ways of an Option follows from `ok_or` and `and_then` of it
pub read_or :
    {X Y E G S : Type 0} {L P : X → Type 0} {e : E} (o : Option X) (r : Result X E) (t : Result Y E) →
    r ≡ ok_or o e → MatchOption o S L → MatchResult r P (λ x. t ≡ Err x) →
    (S → t ≡ Err e → G) → ((x : X) → L x → P x → G) → G
read_or {P = P} None r t read found told none some = none found (subst (λ u. MatchResult u P (λ x. t ≡ Err x)) read told)
read_or {P = P} (Some x) r t read found told none some = some x found (subst (λ u. MatchResult u P (λ y. t ≡ Err y)) read told)
