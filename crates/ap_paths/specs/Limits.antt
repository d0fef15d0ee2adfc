-- How many answers are wanted: what a limit takes of outputs in path order.
use Rattle.std.specs.Prelude.{◌≡◌, ℕ, zero, suc, ◌+◌, ◌<◌, Bool, true, false, if◌then◌else◌, List, [], ◌∷◌}
use Rattle.ap_defs.specs.Answers.{NominalOut, found, cut, stuck}
use Rattle.ap_paths.specs.declared.limits.Limit.{Limit}
use Rattle.ap_paths.specs.declared.limits.Limit.TheVariants as limits
use Rattle.ap_paths.specs.Entries.{TreeEntry, split, done, skip, stop}

-- the output is an answer
abbrev pub is_answer_out : NominalOut → Bool
is_answer_out (found p a) = true
is_answer_out (cut p) = false
is_answer_out (stuck p) = false

-- how many answers are among the outputs
abbrev pub found_in : List NominalOut → ℕ
found_in [] = 0
found_in (o ∷ os) = (if is_answer_out o then 1 else 0) + found_in os

-- the shortest beginning that has n answers, or all where there are fewer
abbrev pub first_part : ℕ → List NominalOut → List NominalOut
first_part zero os = []
first_part (suc n) [] = []
first_part (suc n) (o ∷ os) = o ∷ first_part (if is_answer_out o then n else suc n) os

-- what a limit takes of the outputs
abbrev pub part : Limit → List NominalOut → List NominalOut
part limits.All os = os
part (limits.First n) os = first_part n os

-- fewer than all may be wanted
abbrev pub is_limited : Limit → Bool
is_limited limits.All = false
is_limited (limits.First n) = true

-- fewer answers are there than are wanted
abbrev pub IsWanting : Limit → ℕ → Type 0
IsWanting limits.All n = Unit {0}
IsWanting (limits.First w) n = n < w

-- a path is left out only where so many answers are wanted
abbrev pub IsWithin : Limit → TreeEntry → Type 0
IsWithin l (split seat p ks) = Unit {0}
IsWithin l (done seat p os) = Unit {0}
IsWithin l (skip seat p n) = l ≡ limits.First n
IsWithin l (stop seat) = Unit {0}

abbrev pub AreWithin : Limit → List TreeEntry → Type 0
AreWithin l [] = Unit {0}
AreWithin l (e ∷ es) = IsWithin l e × AreWithin l es
