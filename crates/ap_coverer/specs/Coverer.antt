-- What covers a ground proof: the answer at its path, with swappings and ground terms by which it comes to what is proved, or a branch
-- that is stuck at a beginning of the path.
use Rattle.std.specs.Prelude.{◌≡◌, ◌-◌, ℕ, true, List, [], ◌∷◌, Some, slice_get}
use Rattle.ap_defs.specs.declared.terms.Swap.{Swap}
use Rattle.ap_defs.specs.declared.terms.Term.{Term}
use Rattle.ap_defs.specs.declared.terms.Var.{Var}
use Rattle.ap_defs.specs.Answers as answers
use Rattle.ap_defs.specs.Answers.{NominalAnswer, outs_at, query_outs}
use Rattle.ap_defs.specs.Derivations.{path}
use Rattle.ap_defs.specs.Goals.{NominalProgram, NominalQuery}
use Rattle.ap_defs.specs.Groundings.{Grounding}
use Rattle.ap_defs.specs.PathOrder.{has_prefix}
use Rattle.ap_backchain.specs.Problems.{clauses_in, program_of_problem, queries_in}
use Rattle.ap_backchain.specs.declared.problem.Problem.{Problem}
use Rattle.ap_bundle.specs.Bundles.{NominalProved}
use Rattle.ap_checks.specs.Checks.{verdict_of, yes}
use Rattle.ap_complete.specs.Coverings.{LeavesNames}
use Rattle.ap_complete.specs.NumberedProofs.{IsAmong}
use Rattle.ap_cover.specs.Ground.{ground_terms}
use Rattle.ap_cover.specs.StatementsOnMatching.{GivesInstance}
use Rattle.ap_clearing.specs.Clearing.{Clears, in_the_way, used_names}
use Rattle.ap_coverer.specs.Covering.{AreGivenBy}
use Rattle.ap_coverer.specs.declared.grounding.Covering.{Covering}
use Rattle.ap_coverer.specs.declared.covering.Covered.{Covered}
use Rattle.ap_coverer.specs.declared.covering.Covered.TheVariants as code

-- The search has an answer at the path of the proof. The swappings leave the query's names, and take each other name of the answer that
-- stands in what is proved to the first of its sort that stands nowhere. Each variable of the answer, in order, has a ground term, of its
-- type; with these and with the names exchanged, the conditions are met and each binding is what is proved, up to renaming of binders.
pub record IsCoveredBy (p : NominalProgram) (q : NominalQuery) (depth : ℕ) (d : NominalProved) (l : List ℕ) (swaps : List Swap) (terms : List (Var × Term)) : Type 0 where
  pub path : l ≡ path d.derivation
  pub answer : NominalAnswer
  pub found : IsAmong (answers.found l answer) (query_outs p.clauses depth q)
  pub leaves : LeavesNames q.locals swaps
  pub brings : Clears (used_names q.locals answer d.answer.binds) (in_the_way q.locals answer d.answer.binds) swaps
  pub grounding : Grounding
  pub given : AreGivenBy grounding answer.vars terms
  pub covers : GivesInstance p.signature.constructors answer (ground_terms d.answer.binds) swaps grounding

-- A branch of the search is stuck at a beginning of the path of the proof.
pub record IsStuckBefore (p : NominalProgram) (q : NominalQuery) (depth : ℕ) (d : NominalProved) (l : List ℕ) : Type 0 where
  pub stuck : IsAmong (answers.stuck l) (query_outs p.clauses depth q)
  pub begins : has_prefix l (path d.derivation) ≡ true

abbrev pub IsCoverOf : NominalProgram → NominalQuery → ℕ → NominalProved → Covered → Type 0
IsCoverOf p q depth d (code.Answer l swaps terms) = IsCoveredBy p q depth d l swaps terms
IsCoverOf p q depth d (code.Stuck l) = IsStuckBefore p q depth d l

-- it covers a proof of the problem's query
abbrev pub CoversProof : Problem → NominalProved → Covered → Type 0
CoversProof p d c = (q : NominalQuery) → slice_get (queries_in p) (p.query - 1) ≡ Some q → IsCoverOf (program_of_problem p) q p.depth d c

-- the verdict on the proof, for the problem's query, is that it checks
abbrev pub ChecksFor : Problem → NominalProved → Type 0
ChecksFor p d = verdict_of (program_of_problem p) p.query d.answer d.derivation ≡ yes

-- the search of the problem's query has the answer at a path, and nothing else there
abbrev pub IsAnswerAt : Problem → List ℕ → NominalAnswer → Type 0
IsAnswerAt p l a = (q : NominalQuery) → slice_get (queries_in p) (p.query - 1) ≡ Some q → outs_at (clauses_in p) p.depth q l ≡ answers.found l a ∷ []

-- the answer at its path covers it by these swappings and ground terms
abbrev pub CoversBy : Problem → NominalProved → Covering → Type 0
CoversBy p d c = (q : NominalQuery) → slice_get (queries_in p) (p.query - 1) ≡ Some q → IsCoveredBy (program_of_problem p) q p.depth d (path d.derivation) c.swaps.items c.grounding.items
