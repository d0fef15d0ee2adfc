-- Ground terms that are picked for types: each name in one is new.
use Rattle.std.specs.Prelude.{◌+◌, ℕ, zero, suc, Bool, ◌==◌, ◌&&◌, if◌then◌else◌, List, [], ◌∷◌, ◌++◌, length, max, Option, Some, None}
use Rattle.ap_defs.specs.declared.terms.Name.{Name}
use Rattle.ap_defs.specs.Terms as terms
use Rattle.ap_defs.specs.Terms.{GroundTerm}
use Rattle.ap_defs.specs.Types.{NominalConstructor, NominalType, abs, base, list, names, pair, unit}
use Rattle.ap_types.specs.Inhabited.{all_inhabited}
use Rattle.ap_types.specs.Rounds.{reached}

-- A ground term, made after new names with these sorts, and the sorts of the new names from then on.
abbrev pub Pick : Type 0
Pick = List ℕ → GroundTerm × List ℕ

-- new names are numbered from n on, in order
abbrev pub new_name : ℕ → List ℕ → ℕ → Name
new_name n sorts s = record { sort = s; num = n + length sorts }

abbrev pub picked_pair : GroundTerm → GroundTerm × List ℕ → GroundTerm × List ℕ
picked_pair g b = (terms.pair g b.0, b.1)

abbrev pub constructor_applied : ℕ → GroundTerm × List ℕ → GroundTerm × List ℕ
constructor_applied f a = (terms.app f a.0, a.1)

abbrev pub abstracted : Name → GroundTerm × List ℕ → GroundTerm × List ℕ
abstracted c a = (terms.abs c a.0, a.1)

-- what is picked for a type, by what is picked for data types, from left to right
abbrev pub pick_type : (ℕ → Pick) → ℕ → NominalType → Pick
pick_type by n unit ss = (terms.unit, ss)
pick_type by n (names s) ss = (terms.name (new_name n ss s), ss ++ s ∷ [])
pick_type by n (base d) ss = by d ss
pick_type by n (pair t u) ss = let a = pick_type by n t ss in picked_pair a.0 (pick_type by n u a.1)
pick_type by n (list t) ss = (terms.app 0 terms.unit, ss)
pick_type by n (abs s t) ss = abstracted (new_name n ss s) (pick_type by n t (ss ++ s ∷ []))

-- for the arguments of a constructor
abbrev pub pick_arguments : (ℕ → Pick) → ℕ → List NominalType → Pick
pick_arguments by n [] ss = (terms.unit, ss)
pick_arguments by n (t ∷ []) ss = pick_type by n t ss
pick_arguments by n (t ∷ u ∷ us) ss = let a = pick_type by n t ss in picked_pair a.0 (pick_arguments by n (u ∷ us) a.1)

-- The number and the arguments of the first constructor of a data type whose arguments are inhabited by data types that are given; the
-- first one in the list has the number f.
abbrev pub first_passing : (ℕ → Bool) → ℕ → List NominalConstructor → ℕ → Option (ℕ × List NominalType)
first_passing found f [] d = None
first_passing found f (c ∷ cs) d =
    if (c.result == d) && all_inhabited found c.args then Some (f, c.args) else first_passing found (suc f) cs d

abbrev pub pick_application : (ℕ → Pick) → ℕ → Option (ℕ × List NominalType) → Pick
pick_application by n None ss = (terms.unit, ss)
pick_application by n (Some c) ss = constructor_applied c.0 (pick_arguments by n c.1 ss)

-- What is picked for a data type, of those that so many rounds find to be inhabited: an application of the first constructor whose
-- arguments are inhabited by data types of rounds before its own.
abbrev pub pick_data : List NominalConstructor → ℕ → ℕ → ℕ → Pick
pick_data cs n zero d ss = (terms.unit, ss)
pick_data cs n (suc r) d ss =
    if reached all_inhabited cs r d then pick_data cs n r d ss
    else pick_application (pick_data cs n r) n (first_passing (reached all_inhabited cs r) 2 cs d) ss

-- one more than the greatest number of a data type with a constructor
abbrev pub data_bound : List NominalConstructor → ℕ
data_bound [] = 0
data_bound (c ∷ cs) = max (suc c.result) (data_bound cs)

-- what is picked for a type, where new names are numbered from n on
abbrev pub picked : List NominalConstructor → ℕ → NominalType → Pick
picked cs n t ss = pick_type (pick_data cs n (data_bound cs)) n t ss
