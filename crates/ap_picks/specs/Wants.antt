-- What a term is picked for, and what comes next.
use Rattle.std.specs.Prelude.{◌≡◌, ◌+◌, ◌<◌, ℕ, zero, suc, true, if◌then◌else◌, List, [], ◌∷◌, map, Option, Some, None}
use Rattle.ap_defs.specs.Spines.{term_in}
use Rattle.ap_defs.specs.Terms as terms
use Rattle.ap_defs.specs.Terms.{term_of}
use Rattle.ap_defs.specs.Types.{NominalConstructor, NominalType, abs, base, list, names, pair, type_of, unit}
use Rattle.ap_defs.specs.Typing.{embedded}
use Rattle.ap_types.specs.Inhabited.{all_inhabited, inhabited_if}
use Rattle.ap_types.specs.Rounds.{reached}
use Rattle.ap_picks.specs.Picks.{Pick, first_passing, pick_arguments, pick_data, pick_type}
use Rattle.ap_picks.specs.declared.opening.Next.{Next}
use Rattle.ap_picks.specs.declared.opening.Next.TheVariants as nexts
use Rattle.ap_picks.specs.declared.opening.Want.{Want}
use Rattle.ap_picks.specs.declared.opening.Want.TheVariants as wants

-- what is picked
abbrev pub pick_for : List NominalConstructor → ℕ → Want → Pick
pick_for cs n (wants.Type r t) ss = pick_type (pick_data cs n r) n (type_of t.now) ss
pick_for cs n (wants.Arguments r ts) ss = pick_arguments (pick_data cs n r) n (map type_of ts.now) ss

-- it is inhabited, by the data types of so many rounds
abbrev pub IsWell : List NominalConstructor → Want → Type 0
IsWell cs (wants.Type r t) = inhabited_if (reached all_inhabited cs r) (type_of t.now) ≡ true
IsWell cs (wants.Arguments r ts) = all_inhabited (reached all_inhabited cs r) (map type_of ts.now) ≡ true

-- in how many steps
abbrev pub cost_type : (ℕ → ℕ) → NominalType → ℕ
cost_type by unit = 1
cost_type by (names s) = 1
cost_type by (base d) = by d
cost_type by (pair t u) = suc (cost_type by t + cost_type by u)
cost_type by (list t) = 2
cost_type by (abs s t) = suc (cost_type by t)

abbrev pub cost_arguments : (ℕ → ℕ) → List NominalType → ℕ
cost_arguments by [] = 1
cost_arguments by (t ∷ []) = cost_type by t
cost_arguments by (t ∷ u ∷ us) = suc (cost_type by t + cost_arguments by (u ∷ us))

abbrev pub cost_application : (ℕ → ℕ) → Option (ℕ × List NominalType) → ℕ
cost_application by None = 1
cost_application by (Some c) = suc (cost_arguments by c.1)

abbrev pub cost_data : List NominalConstructor → ℕ → ℕ → ℕ
cost_data cs zero d = 1
cost_data cs (suc r) d =
    if reached all_inhabited cs r d then cost_data cs r d
    else cost_application (cost_data cs r) (first_passing (reached all_inhabited cs r) 2 cs d)

abbrev pub cost : List NominalConstructor → Want → ℕ
cost cs (wants.Type r t) = cost_type (cost_data cs r) (type_of t.now)
cost cs (wants.Arguments r ts) = cost_arguments (cost_data cs r) (map type_of ts.now)

-- the one is what the other is within a layer
pub record IsInside (cs : List NominalConstructor) (n : ℕ) (before : List ℕ) (w : Want) (after : List ℕ) (v : Want) (layered : terms.NominalTerm → terms.NominalTerm) : Type 0 where
  pub term : embedded (pick_for cs n w before).0 ≡ layered (embedded (pick_for cs n v after).0)
  pub sorts : (pick_for cs n w before).1 ≡ (pick_for cs n v after).1
  pub well : IsWell cs v
  pub less : cost cs v < cost cs w

-- it is the pair of the two
pub record IsBeside (cs : List NominalConstructor) (n : ℕ) (before : List ℕ) (w : Want) (after : List ℕ) (u v : Want) : Type 0 where
  pub same : after ≡ before
  pub term : embedded (pick_for cs n w before).0
      ≡ terms.pair (embedded (pick_for cs n u before).0) (embedded (pick_for cs n v (pick_for cs n u before).1).0)
  pub sorts : (pick_for cs n w before).1 ≡ (pick_for cs n v (pick_for cs n u before).1).1
  pub left_well : IsWell cs u
  pub right_well : IsWell cs v
  pub left_less : cost cs u < cost cs w
  pub right_less : cost cs v < cost cs w

-- what comes next, where new names have these sorts before it and those after it
abbrev pub IsNext : List NominalConstructor → ℕ → List ℕ → Want → List ℕ → Next → Type 0
IsNext cs n before w after (nexts.Leaf t) = (embedded (pick_for cs n w before).0 ≡ term_of t) × ((pick_for cs n w before).1 ≡ after)
IsNext cs n before w after (nexts.Inside l v) = IsInside cs n before w after v (term_in l)
IsNext cs n before w after (nexts.Beside u v) = IsBeside cs n before w after u v
