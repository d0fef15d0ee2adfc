-- What is proved of matching an answer with its instance.
use Rattle.std.specs.Prelude.{◌≡◌, ◌≤◌, ℕ, true, List, map}
use Rattle.ap_defs.specs.declared.terms.Swap.{Swap}
use Rattle.ap_defs.specs.Answers as answers
use Rattle.ap_defs.specs.Answers.{NominalAnswer, query_outs}
use Rattle.ap_defs.specs.Derivations.{GroundProof, height, path}
use Rattle.ap_defs.specs.Goals.{NominalProgram, NominalQuery}
use Rattle.ap_defs.specs.GroundProofs.{AlphaEach, AreOfTypes, IsValid, environment}
use Rattle.ap_defs.specs.Groundings.{Grounding, grounded, meets}
use Rattle.ap_defs.specs.Renaming.{local_names, local_vars, replace_names}
use Rattle.ap_defs.specs.Resolution.{kinds_of}
use Rattle.ap_defs.specs.Terms.{GroundTerm}
use Rattle.ap_defs.specs.Types.{NominalConstructor}
use Rattle.ap_ground.specs.TypedGroundings.{GivesTypes}
use Rattle.ap_program.specs.Typed.{IsTypedQuery, term_form}
use Rattle.ap_complete.specs.Coverings.{TakesApart, replace_in_cond}
use Rattle.ap_complete.specs.NumberedProofs.{IsAmong}
use Rattle.ap_complete.specs.Restriction.{KeepsRestriction}
use Rattle.ap_cover.specs.Matched.{given_by, matched_each}

-- A grounding gives each variable of the answer a term of its type, meets the conditions under the swappings, and gives the terms up to
-- renaming of binders.
pub record GivesInstance (cs : List NominalConstructor) (a : NominalAnswer) (gs : List GroundTerm) (swaps : List Swap) (f : Grounding) : Type 0 where
  pub types : GivesTypes cs a.vars f
  pub conditions : meets f (map (replace_in_cond swaps) a.conds) ≡ true
  pub equal : AlphaEach gs (map (λ t. grounded f (replace_names swaps t)) a.binds)

-- the terms that stand at the places of the answer's variables
abbrev pub matched_with : NominalAnswer → List GroundTerm → List Swap → Grounding → Grounding
matched_with a gs swaps other = given_by (matched_each (map (replace_names swaps) a.binds) gs) other

-- The answer at the path of a ground proof covers it by what its terms match, under all swappings that leave the query's names and take
-- the other ones to names that are fresh for the terms; variables that stand in no binding may have any terms that meet the conditions.
abbrev pub MatchedTermsCover : Type 0
MatchedTermsCover = (p : NominalProgram) → KeepsRestriction p → (q : NominalQuery) → IsTypedQuery term_form p.signature q
    → (depth : ℕ) (gs : List GroundTerm) → AreOfTypes p.signature.constructors (kinds_of q.locals) (local_vars 0 q.locals) gs
    → (proof : GroundProof) → IsValid p (kinds_of q.locals) proof q.goal (environment q.locals (local_names 0 q.locals) gs) → height proof ≤ depth
    → (a : NominalAnswer) → IsAmong (answers.found (path proof) a) (query_outs p.clauses depth q)
    → (swaps : List Swap) → TakesApart q.locals a gs swaps
    → (other : Grounding) → GivesTypes p.signature.constructors a.vars other → meets other (map (replace_in_cond swaps) a.conds) ≡ true
    → GivesInstance p.signature.constructors a gs swaps (matched_with a gs swaps other)
