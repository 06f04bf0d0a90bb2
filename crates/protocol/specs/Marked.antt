-- Worked runs, as facts about the definitions.
-- Assumes nothing.
use Rattle.std.specs.Prelude.{◌≡◌, ℕ, true, false, List, [], ◌∷◌, ◌++◌, Ok, Err}
use Rattle.quorum.specs.Counting.{count_quorum, seats_for}
use Rattle.quorum.specs.Weighing.{weight_quorum, weight_tolerated}
use Rattle.refusal.specs.declared.Refusal.TheVariants.{ParentUnfit}
use Rattle.rotation.specs.Robin.{robin_leads}
use Rattle.book.specs.Admission.{Design, design}
use Rattle.book.specs.Pages.{at}
use Rattle.book.specs.declared.block.Proposal.{Proposal}
use Rattle.protocol.specs.Calls.{reply, after, run}
use Rattle.protocol.specs.State.{State, fresh}
use Rattle.protocol.specs.declared.call.Call.{Call}
use Rattle.protocol.specs.declared.call.Call.TheVariants.{Fast, Slow, Show, Expire, Letter as Write}

-- four seats, one of which may be faulty, in round robin from seat 1; seat 3 is open
abbrev pub four : Design
four = design (seats_for 1) (count_quorum 1) (robin_leads 4 1) 8

-- a proposal by view, parent and heard seats
abbrev pub proposal : ℕ → ℕ → ℕ → Proposal
proposal v parent heard = record { view = v; parent = parent; payload = 0; heard = record { bits = heard } }

-- a block is shown to the three kept seats
abbrev pub show_all : ℕ → List Call
show_all b = Show 0 b ∷ Show 1 b ∷ Show 2 b ∷ []

abbrev pub certificate_in : State → ℕ → ℕ
certificate_in st b = (at st.blocks b).certificate

abbrev pub commit_in : State → ℕ → ℕ
commit_in st b = (at st.blocks b).commit

-- a straight start: block 1, shown to all, and block 2 on it
unfoldable pub started : State
started = run (fresh four) (Fast (proposal 1 0 7) ∷ show_all 1)

unfoldable pub two_blocks : State
two_blocks = after started (Fast (proposal 2 1 7))

-- a third block on the votes for the second
unfoldable pub three_blocks : State
three_blocks = run two_blocks (show_all 2 ++ Fast (proposal 3 2 7) ∷ [])

-- view 2 fails for want of one vote, and view 3 carries on from its proposal
unfoldable pub failed_view : State
failed_view = run two_blocks (Show 0 2 ∷ Show 1 2 ∷ Expire 0 3 ∷ Expire 1 3 ∷ Expire 2 3 ∷ [])

unfoldable pub carried_on : State
carried_on = after failed_view (Slow (proposal 3 2 7))

unfoldable pub certified_again : State
certified_again = run carried_on (show_all 3 ++ Fast (proposal 4 3 7) ∷ [])

-- the open leader of view 3 makes a second block on the same parent, and the votes are split
unfoldable pub split_votes : State
split_votes =
    run three_blocks (Fast (proposal 3 2 7) ∷ Show 0 3 ∷ Show 1 3 ∷ Show 2 4 ∷ Expire 0 5 ∷ Expire 1 5 ∷ Expire 2 5 ∷ [])

unfoldable pub other_branch : State
other_branch = after split_votes (Slow (proposal 5 4 7))

unfoldable pub other_certified : State
other_certified = run other_branch (show_all 5 ++ Fast (proposal 6 5 7) ∷ [])

-- instead, the open seat reports the first of the two, which then has a quorum of reports
unfoldable pub told_more : State
told_more = after split_votes (Write (record { seat = 3; view = 5; block = 3 }))

unfoldable pub reported_branch : State
reported_branch = after told_more (Slow (proposal 5 3 15))

unfoldable pub reported_certified : State
reported_certified = run reported_branch (show_all 5 ++ Fast (proposal 6 5 7) ∷ [])

-- The marked steps of the runs, all together.
pub record MarkedRuns : Type 0 where
  -- block 1, its certificate block 0
  pub first_enters : reply (fresh four) (Fast (proposal 1 0 7)) ≡ Ok 1
  pub first_certificate : certificate_in started 1 ≡ 0
  -- block 2 certifies block 1 and commits nothing yet
  pub second_enters : reply started (Fast (proposal 2 1 7)) ≡ Ok 2
  pub second_certificate : certificate_in two_blocks 2 ≡ 1
  pub second_commit : commit_in two_blocks 2 ≡ 0
  -- block 3 certifies block 2 and commits block 1
  pub third_certificate : certificate_in three_blocks 3 ≡ 2
  pub third_commit : commit_in three_blocks 3 ≡ 1
  -- after a failed view, its proposal is the parent to take
  pub outranked_refused : reply failed_view (Slow (proposal 3 1 7)) ≡ Err ParentUnfit
  pub carried_enters : reply failed_view (Slow (proposal 3 2 7)) ≡ Ok 3
  pub carried_certificate : certificate_in carried_on 3 ≡ 1
  pub again_certificate : certificate_in certified_again 4 ≡ 3
  pub again_commit : commit_in certified_again 4 ≡ 1
  -- a report of the other block of the view is no clash: it stands on the block to commit
  pub other_enters : reply split_votes (Slow (proposal 5 4 7)) ≡ Ok 5
  pub other_certificate : certificate_in other_branch 5 ≡ 2
  pub other_commit : commit_in other_certified 6 ≡ 2
  -- a quorum of reports certifies; the report of the other block then clashes, and the commit point stays
  pub reported_enters : reply told_more (Slow (proposal 5 3 15)) ≡ Ok 5
  pub reported_certificate : certificate_in reported_branch 5 ≡ 3
  pub reported_commit : commit_in reported_branch 5 ≡ 2
  pub clash_commit : commit_in reported_certified 6 ≡ 2
  -- weights 5, 1, 1: seat 0 decides alone, and the two others are tolerated
  pub heavy_quorum : weight_quorum (5 ∷ 1 ∷ 1 ∷ []) 1 ≡ true
  pub light_none : weight_quorum (5 ∷ 1 ∷ 1 ∷ []) 6 ≡ false
  pub light_tolerated : weight_tolerated (5 ∷ 1 ∷ 1 ∷ []) 6 ≡ true
