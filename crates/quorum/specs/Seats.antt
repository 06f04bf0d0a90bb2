-- Sets of seats. A seat is a number below 64, and a set of seats is a number of 64 binary digits: seat s is the digit
-- worth 2 ^ s.
-- Assumes nothing.
use Rattle.std.specs.Prelude.{ℕ, suc, ◌+◌, ◌-◌, ◌/◌, ◌%◌, ◌^◌, Bool, cond, T, List, [], ◌∷◌, ◌==◌, bit_and, bit_or, count_ones, nat_lt}

-- whether the set q holds seat s
abbrev pub held : ℕ → ℕ → Bool
held s q = q / 2 ^ s % 2 == 1

abbrev pub Holds : ℕ → ℕ → Type 0
Holds s q = T (held s q)

-- whether every seat of q is one of the n seats 0 to n - 1
abbrev pub within : ℕ → ℕ → Bool
within n q = nat_lt q (2 ^ n)

abbrev pub union : ℕ → ℕ → ℕ
union p q = bit_or p q

-- the set q with seat s added; there is no seat past 63
abbrev pub with_seat : ℕ → ℕ → ℕ
with_seat s q = cond (nat_lt s 64) (union q (2 ^ s)) q

-- whether q holds every seat that p holds
abbrev pub subset : ℕ → ℕ → Bool
subset p q = bit_and p q == p

-- all of the n seats
abbrev pub everyone : ℕ → ℕ
everyone n = 2 ^ n - 1

-- the n seats without those of q
abbrev pub everyone_but : ℕ → ℕ → ℕ
everyone_but n q = everyone n - q % 2 ^ n

-- how many seats q holds
abbrev pub how_many : ℕ → ℕ
how_many q = count_ones q

-- what all seats weigh together
abbrev pub total_weight : List ℕ → ℕ
total_weight [] = 0
total_weight (w ∷ ws) = w + total_weight ws

-- the weight of the seats that q holds, where ws are the weights of seat s and the seats after it
abbrev pub weight_from : ℕ → List ℕ → ℕ → ℕ
weight_from s [] q = 0
weight_from s (w ∷ ws) q = cond (held s q) w 0 + weight_from (suc s) ws q

-- the weight of q, where ws are the weights of the seats from 0 on
abbrev pub weight_of : List ℕ → ℕ → ℕ
weight_of ws q = weight_from 0 ws q
