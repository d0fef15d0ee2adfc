-- New names, and permutations that exchange two lists of names or extend a finite injection.
use Rattle.std.specs.Prelude.{◌≡◌, ℕ, suc, true, false, List, [], ◌∷◌, ◌++◌, if◌then◌else◌, nat_lt}
use Rattle.ap_defs.specs.Permutations.{has_name, swap_of}
use Rattle.ap_defs.specs.declared.terms.Name.{Name}
use Rattle.ap_defs.specs.declared.terms.Swap.{Swap}

-- no name stands in both lists
abbrev pub AreApart : List Name → List Name → Type 0
AreApart cs ds = (a : Name) → has_name a cs ≡ true → has_name a ds ≡ false

-- each name of the first list is exchanged with the one beside it
abbrev pub exchange : List Name → List Name → List Swap
exchange (c ∷ cs) (d ∷ ds) = swap_of c d ∷ exchange cs ds
exchange _ _ = []

-- the least number from m on that is above the number of each name
abbrev pub number_above : List Name → ℕ → ℕ
number_above [] m = m
number_above (a ∷ as') m = if nat_lt a.num (number_above as' m) then number_above as' m else suc a.num

-- names with the sorts of these, numbered from n on
abbrev pub renumbered : List Name → ℕ → List Name
renumbered [] n = []
renumbered (a ∷ as') n = record { sort = a.sort; num = n } ∷ renumbered as' (suc n)

-- names with the sorts of the first ones, numbered from m on or later, that are none of the second ones
abbrev pub new_names : List Name → List Name → ℕ → List Name
new_names cs as' m = renumbered cs (number_above as' m)

-- takes the first names to the second ones, by way of new names
abbrev pub extension : List Name → List Name → ℕ → List Swap
extension cs ds m = exchange (new_names cs (cs ++ ds) m) ds ++ exchange cs (new_names cs (cs ++ ds) m)
