-- Sums over lists of paths, by which two lists are said to have the same paths, each as often.
use Rattle.std.specs.Prelude.{◌≡◌, ℕ, ◌+◌, Bool, true, false, List, [], ◌∷◌}
use Rattle.ap_paths.specs.History.{same_path}

-- the sum of a weight over paths
abbrev pub weigh : (List ℕ → ℕ) → List (List ℕ) → ℕ
weigh h [] = 0
weigh h (p ∷ ps) = h p + weigh h ps

abbrev pub one_if : Bool → ℕ
one_if true = 1
one_if false = 0

-- 1 for the path p, and 0 for others
abbrev pub is_it : List ℕ → List ℕ → ℕ
is_it p q = one_if (same_path p q)

-- how often the path stands in a list
abbrev pub times_in : List (List ℕ) → List ℕ → ℕ
times_in ps p = weigh (is_it p) ps

-- the lists have the same paths, each as often
abbrev pub HaveSame : List (List ℕ) → List (List ℕ) → Type 0
HaveSame ps qs = (h : List ℕ → ℕ) → weigh h ps ≡ weigh h qs
