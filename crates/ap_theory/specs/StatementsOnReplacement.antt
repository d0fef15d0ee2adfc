-- What is proved of replacing each name by its image, in the lists of suspensions too.
use Rattle.std.specs.Prelude.{◌≡◌, true, false, List, [], ◌∷◌, map}
use Rattle.ap_defs.specs.Alpha.{fresh}
use Rattle.ap_defs.specs.Groundings.{Grounding, grounded}
use Rattle.ap_defs.specs.Occurrences.{names_then}
use Rattle.ap_defs.specs.Permutations.{act_name, has_name}
use Rattle.ap_defs.specs.Renaming.{replace_names, replace_swap}
use Rattle.ap_defs.specs.Terms.{GroundTerm, NominalTerm, abs, act_ground, app, name, pair, unit}
use Rattle.ap_defs.specs.declared.terms.Name.{Name}
use Rattle.ap_defs.specs.declared.terms.Swap.{Swap}

abbrev pub ReplacedPermutation : Type 0
ReplacedPermutation = (p q : List Swap) (a : Name) → act_name (map (replace_swap p) q) (act_name p a) ≡ act_name p (act_name q a)

-- a term none of whose names is moved stays as it is
abbrev pub ReplacementOfTheFixed : Type 0
ReplacementOfTheFixed = (p : List Swap) (t : NominalTerm) → ((a : Name) → has_name a (names_then t []) ≡ true → act_name p a ≡ a) → replace_names p t ≡ t

-- replacing the names of a term and moving what stands for its variables moves the ground term
abbrev pub ReplacementAndGrounding : Type 0
ReplacementAndGrounding = (p : List Swap) (g : Grounding) (t : NominalTerm) → act_ground p (grounded g t) ≡ grounded (λ x. act_ground p (g x)) (replace_names p t)

-- the names of a ground term, binders too, in front of others
abbrev pub ground_names_then : GroundTerm → List Name → List Name
ground_names_then unit as' = as'
ground_names_then (name a) as' = a ∷ as'
ground_names_then (pair t u) as' = ground_names_then t (ground_names_then u as')
ground_names_then (app f t) as' = ground_names_then t as'
ground_names_then (abs a t) as' = a ∷ ground_names_then t as'

abbrev pub AbsentNamesAreFresh : Type 0
AbsentNamesAreFresh = (a : Name) (t : GroundTerm) → has_name a (ground_names_then t []) ≡ false → fresh a t ≡ true

-- a permutation that moves no name of a ground term leaves it
abbrev pub UnmovedGroundTermIsFixed : Type 0
UnmovedGroundTermIsFixed = (p : List Swap) (t : GroundTerm) → ((a : Name) → has_name a (ground_names_then t []) ≡ true → act_name p a ≡ a) → act_ground p t ≡ t
