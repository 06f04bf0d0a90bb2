-- A record at a place says what its own 32 bytes say.
use Rattle.std.proofs.Common.{◌≡◌, ℕ, ◌+◌, ◌≤◌, true, false, nat_lt, slice_index, List, length, take, drop, ◌∙◌, arith, add_assoc, add-zero}
use Rattle.std.proofs.lemmas.Bool.{ltb-true, le-ltb}
use Rattle.std.proofs.lemmas.List.{get_or-take, get_or-drop, length-take, length-drop}
use Rattle.records.specs.declared.record.Kind.{Kind}
use Rattle.records.specs.declared.record.Kind.TheVariants.{Open, Fast, Slow, Show, Expire, Vote, Letter}
use Rattle.records.specs.Decoding.{record_of, decoded}

own_byte : (bs : List ℕ) (p k : ℕ) → nat_lt k 32 ≡ true → slice_index (take 32 (drop p bs)) k ≡ slice_index bs (p + k)
own_byte bs p k within = get_or-take 32 (drop p bs) k 0 (ltb-true k 32 within) ∙ get_or-drop p bs k 0

own_record : (kind : Kind) (bs : List ℕ) (p : ℕ) → record_of kind (take 32 (drop p bs)) 0 ≡ record_of kind bs p
own_record Open bs p = simp (own_byte, add_assoc)
own_record Fast bs p = simp (own_byte, add_assoc)
own_record Slow bs p = simp (own_byte, add_assoc)
own_record Show bs p = simp (own_byte, add_assoc)
own_record Expire bs p = simp (own_byte, add_assoc)
own_record Vote bs p = simp (own_byte, add_assoc)
own_record Letter bs p = simp (own_byte, add_assoc)

pub decoded-own : (bs : List ℕ) (p : ℕ) → p + 32 ≤ length bs → decoded (take 32 (drop p bs)) 0 ≡ decoded bs p
decoded-own bs p enough =
    let own : nat_lt (length (take 32 (drop p bs))) 32 ≡ false = le-ltb _ _ (simp (length-take, length-drop) (omega arith)) in
    let whole : nat_lt (length bs) (p + 32) ≡ false = le-ltb _ _ enough in
    simp (own, whole, own_record, own_byte, add-zero)
