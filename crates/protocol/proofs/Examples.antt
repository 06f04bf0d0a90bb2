-- The marked runs, computed: each state of a run from the one before.
-- Assumes nothing.
use Rattle.std.proofs.Common.{◌≡◌, ℕ, List, [], ◌∷◌, ◌++◌, replicate, Ok, Err, refl, ap, ◌∙◌}
use lib.Count.{ones, ones_in}
use Rattle.refusal.specs.declared.Refusal.TheVariants.{ParentUnfit}
use Rattle.book.specs.Admission.{any_below, last_below, set_where, reports_of}
use Rattle.book.specs.Pages.{no_reports, genesis}
use Rattle.book.specs.declared.block.Block.{Block}
use Rattle.book.specs.declared.block.Kind.TheVariants.{Fast as IsFast, Slow as IsSlow}
use Rattle.letters.specs.declared.letter.Letter.{Letter}
use Rattle.protocol.specs.Calls.{reply, after, run}
use Rattle.protocol.specs.Marked.{four, proposal, show_all, certificate_in, commit_in, started, two_blocks, three_blocks, failed_view, carried_on, certified_again, split_votes, other_branch, other_certified, told_more, reported_branch, reported_certified, MarkedRuns}
use Rattle.protocol.specs.State.{State, fresh, idle}
use Rattle.protocol.specs.declared.call.Call.TheVariants.{Fast, Slow, Show, Expire, Letter as Write}
use Rattle.protocol.specs.declared.seat.Seat.{Seat}

-- Views, parents, certificates, commit points and voters, in short.

abbrev fast_made : ℕ → ℕ → ℕ → ℕ → ℕ → ℕ → ℕ → Block
fast_made v parent maker height certificate commit voters =
    record {
      view = v;
      parent = parent;
      payload = 0;
      maker = maker;
      height = height;
      kind = IsFast;
      heard = record { bits = 7 };
      reports = no_reports;
      certificate = certificate;
      commit = commit;
      voters = record { bits = voters };
    }

abbrev slow_made : ℕ → ℕ → ℕ → ℕ → ℕ → List ℕ → ℕ → ℕ → ℕ → Block
slow_made v parent maker height heard reports certificate commit voters =
    record {
      view = v;
      parent = parent;
      payload = 0;
      maker = maker;
      height = height;
      kind = IsSlow;
      heard = record { bits = heard };
      reports = reports ++ replicate 61 0;
      certificate = certificate;
      commit = commit;
      voters = record { bits = voters };
    }

abbrev seat : ℕ → ℕ → ℕ → Seat
seat v vote tip = record { view = v; vote = vote; tip = tip }

abbrev letter : ℕ → ℕ → ℕ → Letter
letter s v b = record { seat = s; view = v; block = b }

abbrev state : List Block → List Letter → List Seat → State
state bs ls ss = record { design = four; blocks = genesis 4 ∷ bs; letters = ls; seats = ss ++ replicate 61 idle }

abbrev first : Block
first = fast_made 1 0 1 1 0 0 7

abbrev second : ℕ → Block
second voters = fast_made 2 1 2 2 1 0 voters

abbrev at_start : State
at_start = state (first ∷ []) [] (seat 1 1 0 ∷ seat 1 1 0 ∷ seat 1 1 0 ∷ [])

started_is : started ≡ at_start
unfolding ones ones_in started fresh
started_is = refl

abbrev at_two : State
at_two = state (first ∷ second 0 ∷ []) [] (seat 1 1 0 ∷ seat 1 1 0 ∷ seat 1 1 0 ∷ [])

second_step : after at_start (Fast (proposal 2 1 7)) ≡ at_two
unfolding ones ones_in
second_step = refl

two_is : two_blocks ≡ at_two
unfolding two_blocks
two_is = ap (λ st. after st (Fast (proposal 2 1 7))) started_is ∙ second_step

-- View 3 on the votes for block 2.

abbrev at_voted : State
at_voted = state (first ∷ second 7 ∷ []) [] (seat 2 2 0 ∷ seat 2 2 0 ∷ seat 2 2 0 ∷ [])

voted_step : run at_two (show_all 2) ≡ at_voted
unfolding ones ones_in
voted_step = refl

abbrev third : ℕ → Block
third voters = fast_made 3 2 3 3 2 1 voters

abbrev at_three : State
at_three = state (first ∷ second 7 ∷ third 0 ∷ []) [] (seat 2 2 0 ∷ seat 2 2 0 ∷ seat 2 2 0 ∷ [])

third_step : after at_voted (Fast (proposal 3 2 7)) ≡ at_three
unfolding ones ones_in
third_step = refl

three_is : three_blocks ≡ at_three
unfolding three_blocks
three_is =
    ap (λ st. run st (show_all 2 ++ Fast (proposal 3 2 7) ∷ [])) two_is
    ∙ (ap (λ st. after st (Fast (proposal 3 2 7))) voted_step ∙ third_step)

-- View 3 after view 2 failed.

abbrev at_failed : State
at_failed =
    state (first ∷ second 3 ∷ []) (letter 0 3 2 ∷ letter 1 3 2 ∷ letter 2 3 1 ∷ []) (seat 3 2 0 ∷ seat 3 2 0 ∷ seat 3 1 0 ∷ [])

failed_step : run at_two (Show 0 2 ∷ Show 1 2 ∷ Expire 0 3 ∷ Expire 1 3 ∷ Expire 2 3 ∷ []) ≡ at_failed
failed_step = refl

failed_is : failed_view ≡ at_failed
unfolding failed_view
failed_is = ap (λ st. run st (Show 0 2 ∷ Show 1 2 ∷ Expire 0 3 ∷ Expire 1 3 ∷ Expire 2 3 ∷ [])) two_is ∙ failed_step

abbrev carried : ℕ → Block
carried voters = slow_made 3 2 3 3 7 (2 ∷ 2 ∷ 1 ∷ []) 1 0 voters

abbrev at_carried : State
at_carried =
    state
    (first ∷ second 3 ∷ carried 0 ∷ [])
    (letter 0 3 2 ∷ letter 1 3 2 ∷ letter 2 3 1 ∷ [])
    (seat 3 2 0 ∷ seat 3 2 0 ∷ seat 3 1 0 ∷ [])

carried_step : after at_failed (Slow (proposal 3 2 7)) ≡ at_carried
unfolding ones ones_in any_below last_below set_where reports_of
carried_step = refl

carried_is : carried_on ≡ at_carried
unfolding carried_on
carried_is = ap (λ st. after st (Slow (proposal 3 2 7))) failed_is ∙ carried_step

abbrev at_again : State
at_again =
    state
    (first ∷ second 3 ∷ carried 7 ∷ fast_made 4 3 0 4 3 1 0 ∷ [])
    (letter 0 3 2 ∷ letter 1 3 2 ∷ letter 2 3 1 ∷ [])
    (seat 3 3 0 ∷ seat 3 3 0 ∷ seat 3 3 0 ∷ [])

again_step : run at_carried (show_all 3 ++ Fast (proposal 4 3 7) ∷ []) ≡ at_again
unfolding ones ones_in any_below
again_step = refl

again_is : certified_again ≡ at_again
unfolding certified_again
again_is = ap (λ st. run st (show_all 3 ++ Fast (proposal 4 3 7) ∷ [])) carried_is ∙ again_step

-- View 5 after the votes of view 3 were split.

abbrev split_letters : List Letter
split_letters = letter 0 5 3 ∷ letter 1 5 3 ∷ letter 2 5 4 ∷ []

abbrev at_twins : State
at_twins = state (first ∷ second 7 ∷ third 0 ∷ third 0 ∷ []) [] (seat 2 2 0 ∷ seat 2 2 0 ∷ seat 2 2 0 ∷ [])

twins_step : after at_three (Fast (proposal 3 2 7)) ≡ at_twins
unfolding ones ones_in
twins_step = refl

abbrev at_split : State
at_split = state (first ∷ second 7 ∷ third 3 ∷ third 4 ∷ []) split_letters (seat 5 3 1 ∷ seat 5 3 1 ∷ seat 5 4 1 ∷ [])

split_step : run at_twins (Show 0 3 ∷ Show 1 3 ∷ Show 2 4 ∷ Expire 0 5 ∷ Expire 1 5 ∷ Expire 2 5 ∷ []) ≡ at_split
split_step = refl

split_is : split_votes ≡ at_split
unfolding split_votes
split_is =
    ap (λ st. run st (Fast (proposal 3 2 7) ∷ Show 0 3 ∷ Show 1 3 ∷ Show 2 4 ∷ Expire 0 5 ∷ Expire 1 5 ∷ Expire 2 5 ∷ [])) three_is
    ∙ (ap (λ st. run st (Show 0 3 ∷ Show 1 3 ∷ Show 2 4 ∷ Expire 0 5 ∷ Expire 1 5 ∷ Expire 2 5 ∷ [])) twins_step ∙ split_step)

abbrev other : ℕ → Block
other voters = slow_made 5 4 1 4 7 (3 ∷ 3 ∷ 4 ∷ []) 2 1 voters

abbrev at_other : State
at_other =
    state (first ∷ second 7 ∷ third 3 ∷ third 4 ∷ other 0 ∷ []) split_letters (seat 5 3 1 ∷ seat 5 3 1 ∷ seat 5 4 1 ∷ [])

other_step : after at_split (Slow (proposal 5 4 7)) ≡ at_other
unfolding ones ones_in any_below last_below set_where reports_of
other_step = refl

other_is : other_branch ≡ at_other
unfolding other_branch
other_is = ap (λ st. after st (Slow (proposal 5 4 7))) split_is ∙ other_step

abbrev at_other_voted : State
at_other_voted =
    state (first ∷ second 7 ∷ third 3 ∷ third 4 ∷ other 7 ∷ []) split_letters (seat 5 5 1 ∷ seat 5 5 1 ∷ seat 5 5 1 ∷ [])

other_voted_step : run at_other (show_all 5) ≡ at_other_voted
other_voted_step = refl

-- the last block's commit point, which is what the run is for
other_commits : commit_in (after at_other_voted (Fast (proposal 6 5 7))) 6 ≡ 2
unfolding ones ones_in any_below
other_commits = refl

other_certified_is : other_certified ≡ after at_other_voted (Fast (proposal 6 5 7))
unfolding other_certified
other_certified_is =
    ap (λ st. run st (show_all 5 ++ Fast (proposal 6 5 7) ∷ [])) other_is
    ∙ ap (λ st. after st (Fast (proposal 6 5 7))) other_voted_step

-- View 5 with the report of the open seat.

abbrev at_told : State
at_told =
    state
    (first ∷ second 7 ∷ third 3 ∷ third 4 ∷ [])
    (split_letters ++ letter 3 5 3 ∷ [])
    (seat 5 3 1 ∷ seat 5 3 1 ∷ seat 5 4 1 ∷ [])

told_step : after at_split (Write (letter 3 5 3)) ≡ at_told
told_step = refl

told_is : told_more ≡ at_told
unfolding told_more
told_is = ap (λ st. after st (Write (letter 3 5 3))) split_is ∙ told_step

abbrev reported : ℕ → Block
reported voters =
    record {
      view = 5;
      parent = 3;
      payload = 0;
      maker = 1;
      height = 4;
      kind = IsSlow;
      heard = record { bits = 15 };
      reports = 3 ∷ 3 ∷ 4 ∷ 3 ∷ replicate 60 0;
      certificate = 3;
      commit = 2;
      voters = record { bits = voters };
    }

abbrev at_reported : State
at_reported =
    state
    (first ∷ second 7 ∷ third 3 ∷ third 4 ∷ reported 0 ∷ [])
    (split_letters ++ letter 3 5 3 ∷ [])
    (seat 5 3 1 ∷ seat 5 3 1 ∷ seat 5 4 1 ∷ [])

reported_step : after at_told (Slow (proposal 5 3 15)) ≡ at_reported
unfolding ones ones_in any_below last_below set_where reports_of
reported_step = refl

reported_is : reported_branch ≡ at_reported
unfolding reported_branch
reported_is = ap (λ st. after st (Slow (proposal 5 3 15))) told_is ∙ reported_step

abbrev at_reported_voted : State
at_reported_voted =
    state
    (first ∷ second 7 ∷ third 3 ∷ third 4 ∷ reported 7 ∷ [])
    (split_letters ++ letter 3 5 3 ∷ [])
    (seat 5 5 2 ∷ seat 5 5 2 ∷ seat 5 5 2 ∷ [])

reported_voted_step : run at_reported (show_all 5) ≡ at_reported_voted
reported_voted_step = refl

clash_commits : commit_in (after at_reported_voted (Fast (proposal 6 5 7))) 6 ≡ 2
unfolding ones ones_in any_below
clash_commits = refl

reported_certified_is : reported_certified ≡ after at_reported_voted (Fast (proposal 6 5 7))
unfolding reported_certified
reported_certified_is =
    ap (λ st. run st (show_all 5 ++ Fast (proposal 6 5 7) ∷ [])) reported_is
    ∙ ap (λ st. after st (Fast (proposal 6 5 7))) reported_voted_step

-- Replies.

first_replies : reply (fresh four) (Fast (proposal 1 0 7)) ≡ Ok 1
unfolding ones ones_in fresh
first_replies = refl

second_replies : reply at_start (Fast (proposal 2 1 7)) ≡ Ok 2
unfolding ones ones_in
second_replies = refl

outranked_replies : reply at_failed (Slow (proposal 3 1 7)) ≡ Err ParentUnfit
unfolding ones ones_in any_below last_below reports_of
outranked_replies = refl

carried_replies : reply at_failed (Slow (proposal 3 2 7)) ≡ Ok 3
unfolding ones ones_in any_below last_below reports_of
carried_replies = refl

other_replies : reply at_split (Slow (proposal 5 4 7)) ≡ Ok 5
unfolding ones ones_in any_below last_below reports_of
other_replies = refl

reported_replies : reply at_told (Slow (proposal 5 3 15)) ≡ Ok 5
unfolding ones ones_in any_below last_below reports_of
reported_replies = refl

pub marked_runs : MarkedRuns
marked_runs =
    record {
      first_enters = first_replies;
      first_certificate = ap (λ st. certificate_in st 1) started_is;
      second_enters = ap (λ st. reply st (Fast (proposal 2 1 7))) started_is ∙ second_replies;
      second_certificate = ap (λ st. certificate_in st 2) two_is;
      second_commit = ap (λ st. commit_in st 2) two_is;
      third_certificate = ap (λ st. certificate_in st 3) three_is;
      third_commit = ap (λ st. commit_in st 3) three_is;
      outranked_refused = ap (λ st. reply st (Slow (proposal 3 1 7))) failed_is ∙ outranked_replies;
      carried_enters = ap (λ st. reply st (Slow (proposal 3 2 7))) failed_is ∙ carried_replies;
      carried_certificate = ap (λ st. certificate_in st 3) carried_is;
      again_certificate = ap (λ st. certificate_in st 4) again_is;
      again_commit = ap (λ st. commit_in st 4) again_is;
      other_enters = ap (λ st. reply st (Slow (proposal 5 4 7))) split_is ∙ other_replies;
      other_certificate = ap (λ st. certificate_in st 5) other_is;
      other_commit = ap (λ st. commit_in st 6) other_certified_is ∙ other_commits;
      reported_enters = ap (λ st. reply st (Slow (proposal 5 3 15))) told_is ∙ reported_replies;
      reported_certificate = ap (λ st. certificate_in st 5) reported_is;
      reported_commit = ap (λ st. commit_in st 5) reported_is;
      clash_commit = ap (λ st. commit_in st 6) reported_certified_is ∙ clash_commits;
      heavy_quorum = refl;
      light_none = refl;
      light_tolerated = refl;
    }
