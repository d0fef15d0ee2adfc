-- Ground terms that are an instance of an answer, up to names that are none of the query's.
use Rattle.std.specs.Prelude.{◌≡◌, ◌⊎◌, ℕ, true, false, List, [], ◌∷◌, ◌++◌, map}
use Rattle.ap_defs.specs.declared.terms.Cond.{Cond}
use Rattle.ap_defs.specs.declared.terms.Name.{Name}
use Rattle.ap_defs.specs.declared.terms.Swap.{Swap}
use Rattle.ap_defs.specs.Answers as answers
use Rattle.ap_defs.specs.Answers.{NominalAnswer, NominalOut, query_outs}
use Rattle.ap_defs.specs.Goals.{NominalProgram, NominalQuery}
use Rattle.ap_defs.specs.GroundProofs.{AlphaEach}
use Rattle.ap_defs.specs.Groundings.{Grounding, grounded, meets}
use Rattle.ap_defs.specs.Lines.{shown_in, terms_of_binds, var_texts}
use Rattle.ap_defs.specs.Occurrences.{names_of_terms}
use Rattle.ap_defs.specs.PathOrder.{has_prefix}
use Rattle.ap_defs.specs.Permutations.{act_name, has_name}
use Rattle.ap_defs.specs.Renaming.{local_names, replace_names}
use Rattle.ap_defs.specs.Terms.{GroundTerm}
use Rattle.ap_defs.specs.Types.{NominalConstructor, NominalLocal}
use Rattle.ap_ground.specs.ShownInstances.{shown_terms, vars_among}
use Rattle.ap_ground.specs.TypedGroundings.{GivesTypes}
use Rattle.ap_complete.specs.NumberedProofs.{IsAmong}
use Rattle.ap_complete.specs.StatementsOnFreshness.{FreshForTerms}

abbrev pub replace_in_cond : List Swap → Cond → Cond
replace_in_cond s c = record { name = act_name s c.name; var = c.var }

-- each name of the query stays as it is
abbrev pub LeavesNames : List NominalLocal → List Swap → Type 0
LeavesNames locals s = (b : Name) → has_name b (local_names 0 locals) ≡ true → act_name s b ≡ b

-- Where swappings that leave the query's names act on the names of the bindings and of the conditions, the terms are an instance: a
-- grounding gives each variable a term of its type, meets the conditions, and gives the terms up to renaming of binders.
pub record IsGroundInstance (cs : List NominalConstructor) (locals : List NominalLocal) (a : NominalAnswer) (gs : List GroundTerm) : Type 0 where
  pub swaps : List Swap
  pub leaves : LeavesNames locals swaps
  pub grounding : Grounding
  pub types : GivesTypes cs a.vars grounding
  pub conditions : meets grounding (map (replace_in_cond swaps) a.conds) ≡ true
  pub equal : AlphaEach gs (map (λ t. grounded grounding (replace_names swaps t)) a.binds)

-- These swappings make the terms an instance.
pub record IsInstanceBy (cs : List NominalConstructor) (locals : List NominalLocal) (a : NominalAnswer) (gs : List GroundTerm) (swaps : List Swap) : Type 0 where
  pub grounding : Grounding
  pub types : GivesTypes cs a.vars grounding
  pub conditions : meets grounding (map (replace_in_cond swaps) a.conds) ≡ true
  pub equal : AlphaEach gs (map (λ t. grounded grounding (replace_names swaps t)) a.binds)

-- the names of its bindings and conditions
abbrev pub names_of_answer : NominalAnswer → List Name
names_of_answer a = names_of_terms a.binds ++ map (λ c. c.name) a.conds

-- Swappings that leave the query's names, and take the other names of the answer to names that are fresh for the terms.
pub record TakesApart (locals : List NominalLocal) (a : NominalAnswer) (gs : List GroundTerm) (swaps : List Swap) : Type 0 where
  pub leaves : LeavesNames locals swaps
  pub apart : (b : Name) → has_name b (names_of_answer a) ≡ true → has_name b (local_names 0 locals) ≡ false → FreshForTerms (act_name swaps b) gs

-- The same of what is shown of the answer: those of the terms that stand for variables that are shown.
pub record IsShownInstance (cs : List NominalConstructor) (locals : List NominalLocal) (a : NominalAnswer) (gs : List GroundTerm) : Type 0 where
  pub swaps : List Swap
  pub leaves : LeavesNames locals swaps
  pub grounding : Grounding
  pub types : GivesTypes cs (vars_among (shown_in locals a).vars a.vars) grounding
  pub conditions : meets grounding (map (replace_in_cond swaps) (shown_in locals a).conds) ≡ true
  pub equal : AlphaEach (shown_terms (var_texts locals) gs) (map (λ t. grounded grounding (replace_names swaps t)) (terms_of_binds (shown_in locals a).binds))

-- A ground proof with this path is covered: an answer stands at the path of which the terms are an instance, or a branch is stuck at a
-- beginning of the path.
pub data IsCovered (p : NominalProgram) (q : NominalQuery) (depth : ℕ) (gs : List GroundTerm) (path : List ℕ) : Type 0 where
  answered : (a : NominalAnswer) → IsAmong (answers.found path a) (query_outs p.clauses depth q) → IsGroundInstance p.signature.constructors q.locals a gs → IsCovered p q depth gs path
  is_stuck : (l : List ℕ) → IsAmong (answers.stuck l) (query_outs p.clauses depth q) → has_prefix l path ≡ true → IsCovered p q depth gs path

-- some answer has the property
abbrev pub SomeAnswer : (NominalAnswer → Type 0) → List NominalOut → Type 0
SomeAnswer P [] = ⊥
SomeAnswer P (answers.found p a ∷ os) = P a ⊎ SomeAnswer P os
SomeAnswer P (answers.cut p ∷ os) = SomeAnswer P os
SomeAnswer P (answers.stuck p ∷ os) = SomeAnswer P os

-- some branch is stuck
abbrev pub SomeStuck : List NominalOut → Type 0
SomeStuck [] = ⊥
SomeStuck (answers.found p a ∷ os) = SomeStuck os
SomeStuck (answers.cut p ∷ os) = SomeStuck os
SomeStuck (answers.stuck p ∷ os) = Unit {0}

-- none is
abbrev pub HasNoStuckOut : List NominalOut → Type 0
HasNoStuckOut [] = Unit {0}
HasNoStuckOut (answers.found p a ∷ os) = HasNoStuckOut os
HasNoStuckOut (answers.cut p ∷ os) = HasNoStuckOut os
HasNoStuckOut (answers.stuck p ∷ os) = ⊥
