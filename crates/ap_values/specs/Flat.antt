-- Permutations as the names that they move, beside the numbers of their images.
use Rattle.std.specs.Prelude.{◌≡◌, ℕ, List, [], ◌∷◌, map, if◌then◌else◌}
use Rattle.ap_defs.specs.Canonical.{canonical, moved_names}
use Rattle.ap_defs.specs.Permutations.{act_name, add_name, name_eq}
use Rattle.ap_defs.specs.declared.terms.Name.{Name}
use Rattle.ap_defs.specs.declared.terms.Swap.{Swap}
use Rattle.ap_values.specs.declared.flat.Moved.{Moved}

abbrev pub image_num : List Swap → Name → ℕ
image_num p a = (act_name p a).num

abbrev pub moved_by : List Swap → Name → Moved
moved_by p a = record { name = a; image = image_num p a }

-- each name that a permutation moves, ascending by sort and then by number
abbrev pub moved_list : List Swap → List Moved
moved_list p = map (moved_by p) (moved_names p)

-- the canonical list of a permutation that moves exactly these names, each to the one beside it
abbrev pub Flat : List Moved → Type 0
Flat ms = (p : List Swap) × ((canonical p ≡ p) × (moved_list p ≡ ms))

-- the union of two sets of names
abbrev pub united : List Name → List Name → List Name
united [] bs = bs
united (a ∷ as') bs = add_name a (united as' bs)

-- the names of a list on which two permutations differ
abbrev pub kept : List Swap → List Swap → List Name → List Name
kept p q [] = []
kept p q (a ∷ as') = if name_eq (act_name p a) (act_name q a) then kept p q as' else (a ∷ kept p q as')
