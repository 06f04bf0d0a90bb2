use Rattle.std.proofs.Common.{ℕ, ◌+◌, ◌<◌, ◌≤◌, length, drop, take, ap, ◌∙◌, refl, Some, arith}
use Rattle.std.proofs.lemmas.Bool.{lt-leb, lt-ltb, le-ltb}
use Rattle.std.proofs.lemmas.List.{take_all, length-take, length-drop}
use Rattle.records.specs.Decoding.{decoded}
use Rattle.records.proofs.Decoding.{decoded-own}
use Rattle.records.proofs.Options.{read_or}
use Rattle.records.proofs.reader.ReaderIterator.next.Goals as goal

pub returns-clause-steps : goal.returns-clause-steps
returns-clause-steps c =
    let bytes = c.args.self.now.bytes.now in
    let at = c.args.self.now.at in
    let more = lt-leb _ _ c.if-at-self.false in
    read_or _ _ _ c.ok_or-bytes.ensures.value c.first_chunk.ensures.cases c.and_then.ensures
    (λ short none.
    let cut : length bytes < at + 32 = omega (arith, short, length-take {A = ℕ}, length-drop {A = ℕ}) in
    (rw (more, lt-ltb _ _ cut) (ap Some none), rw (more, lt-ltb _ _ cut) (omega arith), refl))
    (λ x first read.
    let enough : at + 32 ≤ length bytes = omega (arith, first.enough, length-take {A = ℕ}, length-drop {A = ℕ}) in
    let own = first.same ∙ ap (take 32) (take_all _ (drop at bytes) (omega (arith, length-drop {A = ℕ}))) in
    let told = read ∙ ap (λ bs. decoded bs 0) own ∙ decoded-own bytes at enough in
    (rw more (ap Some told), rw (more, le-ltb _ _ enough) (omega arith), refl))
