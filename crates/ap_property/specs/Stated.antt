-- The stated instance of an answer: a ground term for each of the query's free variables.
use Rattle.std.specs.Prelude.{ℕ, if◌then◌else◌, List, [], ◌∷◌, ◌++◌, length, map}
use Rattle.ap_defs.specs.declared.terms.Name.{Name}
use Rattle.ap_defs.specs.declared.terms.Swap.{Swap}
use Rattle.ap_defs.specs.declared.terms.Var.{Var}
use Rattle.ap_defs.specs.Answers.{NominalAnswer}
use Rattle.ap_defs.specs.Freshness.{var_eq}
use Rattle.ap_defs.specs.Groundings.{grounded}
use Rattle.ap_defs.specs.Occurrences.{names_of_terms}
use Rattle.ap_defs.specs.Printing.{first_names}
use Rattle.ap_defs.specs.Renaming.{local_names, replace_names}
use Rattle.ap_defs.specs.Terms.{GroundTerm, unit}
use Rattle.ap_defs.specs.Types.{NominalConstructor, NominalLocal, NominalType}
use Rattle.ap_theory.specs.Exchanges.{extension, renumbered}
use Rattle.ap_picks.specs.Picks.{picked}

-- the names of an answer that are none of the query's, in order of their first occurrence
abbrev pub other_names : List NominalLocal → NominalAnswer → List Name
other_names locals a = first_names (local_names 0 locals) (names_of_terms a.binds ++ map (λ c. c.name) a.conds)

-- the permutation that numbers them on from the query's identifiers
abbrev pub settling : List NominalLocal → NominalAnswer → List Swap
settling locals a = extension (other_names locals a) (renumbered (other_names locals a) (length locals)) (length locals)

-- A ground term for each typed variable in order, and the sorts of the new names, which are numbered from n on.
abbrev pub picks_from : List NominalConstructor → ℕ → List (Var × NominalType) → List ℕ → List (Var × GroundTerm) × List ℕ
picks_from cs n [] ss = ([], ss)
picks_from cs n (v ∷ vs) ss =
    let a = picked cs n v.1 ss in
    let b = picks_from cs n vs a.1 in
    ((v.0, a.0) ∷ b.0, b.1)

-- the term beside a variable
abbrev pub given : List (Var × GroundTerm) → Var → GroundTerm
given [] y = unit
given (p ∷ ps) y = if var_eq p.0 y then p.1 else given ps y

-- Ground terms, and the sorts of their names that are none of the query's, which are numbered on from its identifiers.
pub record Instance : Type 0 where
  pub terms : List GroundTerm
  pub sorts : List ℕ

-- The answer with its names numbered on from the query's identifiers, and for each variable the term that is picked for its type.
abbrev pub stated : List NominalConstructor → List NominalLocal → NominalAnswer → Instance
stated cs locals a =
    let ps = picks_from cs (length locals) a.vars (map (λ b. b.sort) (other_names locals a)) in
    record {
      terms = map (λ t. grounded (given ps.0) (replace_names (settling locals a) t)) a.binds;
      sorts = ps.1;
    }
