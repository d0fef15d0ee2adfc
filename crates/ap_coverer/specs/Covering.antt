-- The ground terms of the variables of an answer.
use Rattle.std.specs.Prelude.{◌≡◌, ◌<◌, ℕ, true, List, [], ◌∷◌, map}
use Rattle.ap_defs.specs.declared.terms.Cond.{Cond}
use Rattle.ap_defs.specs.declared.terms.Swap.{Swap}
use Rattle.ap_defs.specs.declared.terms.Term.{Term}
use Rattle.ap_defs.specs.declared.terms.Var.{Var}
use Rattle.ap_defs.specs.Answers.{NominalAnswer}
use Rattle.ap_defs.specs.Groundings.{Grounding, meets}
use Rattle.ap_defs.specs.Permutations.{act_name}
use Rattle.ap_defs.specs.Terms as terms
use Rattle.ap_defs.specs.Terms.{GroundTerm, NominalTerm, term_of}
use Rattle.ap_defs.specs.Types.{NominalConstructor, NominalType}
use Rattle.ap_defs.specs.Typing.{embedded}
use Rattle.ap_complete.specs.Coverings.{replace_in_cond}
use Rattle.ap_cover.specs.StatementsOnMatching.{matched_with}
use Rattle.ap_ground.specs.TypedGroundings.{GivesTypes}
use Rattle.ap_instance.specs.Tables.{term_beside}
use Rattle.ap_instance.specs.declared.picks.Picks.{Picks}

-- the names of conditions, under swappings, have lower numbers
abbrev pub AreNamesBelow : ℕ → List Swap → List Cond → Type 0
AreNamesBelow n swaps [] = Unit {0}
AreNamesBelow n swaps (c ∷ cs) = ((act_name swaps c.name).num < n) × AreNamesBelow n swaps cs

-- a variable and a term, as the program has them
abbrev pub term_pair : Var × Term → Var × NominalTerm
term_pair p = (p.0, term_of p.1)

-- each variable with the term that it is given
abbrev pub pairs_by : (Var → NominalTerm) → List (Var × NominalType) → List (Var × NominalTerm)
pairs_by f vs = map (λ v. (v.0, f v.0)) vs

-- These are the variables of an answer, in order, each with the ground term that a grounding gives it.
abbrev pub AreGivenBy : Grounding → List (Var × NominalType) → List (Var × Term) → Type 0
AreGivenBy f vs ps = map term_pair ps ≡ pairs_by (λ x. embedded (f x)) vs

-- a table of terms of the types of an answer's variables that meet its conditions under swappings
pub record IsFilled (cs : List NominalConstructor) (a : NominalAnswer) (swaps : List Swap) (p : Picks) : Type 0 where
  pub other : Grounding
  pub table : (x : Var) → term_beside p.vars.keys p.terms.items (λ y. terms.unit) x ≡ embedded (other x)
  pub types : GivesTypes cs a.vars other
  pub conditions : meets other (map (replace_in_cond swaps) a.conds) ≡ true

-- The variables of an answer have what they match of the terms, and those that stand in no binding have terms of their types that meet
-- the conditions.
pub record AreMatched (cs : List NominalConstructor) (a : NominalAnswer) (gs : List GroundTerm) (swaps : List Swap) (ps : List (Var × Term)) : Type 0 where
  pub other : Grounding
  pub types : GivesTypes cs a.vars other
  pub conditions : meets other (map (replace_in_cond swaps) a.conds) ≡ true
  pub given : AreGivenBy (matched_with a gs swaps other) a.vars ps
