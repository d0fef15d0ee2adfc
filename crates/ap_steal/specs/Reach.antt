-- How far a worker searches by itself before it shares out the kids of a path.
use Rattle.std.specs.Prelude.{◌+◌, ◌*◌, ◌^◌, ℕ, zero, suc, min, max, nat_lt, if◌then◌else◌, Option, Some, None}
use Rattle.std.specs.Int.{trailing_zeros, w32, w64}
use Rattle.ap_paths.specs.declared.limits.Limit.{Limit}
use Rattle.ap_paths.specs.declared.limits.Limit.TheVariants as limits

-- After so many paths in a row that left its deque empty, on a way of this length: as many choices as the way has, and 64 at
-- least, since so much it takes to go there again; and with each two that divides the number of those paths eight times as many, so
-- that what is searched in vain is a small part of what is found.
abbrev pub reach_of_narrow : ℕ → ℕ → ℕ
reach_of_narrow narrow way = max (min way (2 ^ 24)) 64 * 2 ^ (3 * min (trailing_zeros w32 narrow) 13)

-- Where all answers are wanted, a worker that has paths in its deque searches all that is below a path, once it has run 16
-- paths, since others find work in its deque.
abbrev pub reach_for_all : ℕ → ℕ → ℕ → Option ℕ
reach_for_all count zero way = if nat_lt 16 count then None else Some 64
reach_for_all count (suc n) way = Some (reach_of_narrow (suc n) way)

-- Where not all are wanted, the search may end while what is beside the way has no end: it is 32, with each of the first five twos that
-- divide the length of the way four times as many, and then twice as many. At the root it is none.
abbrev pub reach_by_twos : ℕ → ℕ
reach_by_twos twos = 32 * 2 ^ (twos + min twos 5)

abbrev pub reach_for_first : ℕ → ℕ
reach_for_first zero = 0
reach_for_first (suc n) = reach_by_twos (min (trailing_zeros w64 (suc n)) 26)

-- how many choices are made below a path on a way of this length, at most, or all
abbrev pub reach : Limit → ℕ → ℕ → ℕ → Option ℕ
reach limits.All count narrow way = reach_for_all count narrow way
reach (limits.First n) count narrow way = Some (reach_for_first way)
