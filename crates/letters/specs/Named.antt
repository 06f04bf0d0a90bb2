-- What reports name.
-- Assumes nothing.
use Rattle.std.specs.Prelude.{◌≡◌, ℕ, Bool, ◌&&◌, T, List, Option, ◌==◌, slice_index}
use Rattle.quorum.specs.Laws.{QuorumLaws}
use Rattle.quorum.specs.Seats.{held}
use Rattle.letters.specs.Searches.{last_below, set_where}

-- seat s is heard and reports exactly this block
abbrev pub reports_it : List ℕ → ℕ → ℕ → ℕ → Bool
reports_it reports heard block s = held s heard && slice_index reports s == block

-- the heard seats whose report is exactly c
abbrev pub namers : List ℕ → ℕ → ℕ → ℕ
namers reports heard c = set_where (reports_it reports heard c) 64

-- seat s is heard, and the seats that report the same block as it are a quorum
abbrev pub decides_with : (ℕ → Bool) → List ℕ → ℕ → ℕ → Bool
decides_with quorum reports heard s = held s heard && quorum (namers reports heard (slice_index reports s))

-- the block that a quorum of the reports names; no two are (see the theorem that there is one at most)
abbrev pub named : (ℕ → Bool) → List ℕ → ℕ → Option ℕ
named quorum reports heard = last_below (decides_with quorum reports heard) (λ s. slice_index reports s) 64

-- At most one block is named by a quorum of the reports, under any rule with its laws.
abbrev pub OneNamed : Type 0
OneNamed =
    (most n : ℕ) (quorum tolerated : ℕ → Bool) → QuorumLaws most n quorum tolerated →
    (reports : List ℕ) (heard b c : ℕ) → T (quorum (namers reports heard b)) → T (quorum (namers reports heard c)) → b ≡ c
