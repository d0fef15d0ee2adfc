-- The output that covers a ground proof: the answer at its path, or a branch that is stuck at a beginning of it.
use Rattle.std.specs.Prelude.{◌≡◌, ℕ, suc, Bool, true, ◌&&◌, if◌then◌else◌, List, [], ◌∷◌, Option, None, Some, slice_get}
use Rattle.ap_defs.specs.Answers as answers
use Rattle.ap_defs.specs.Answers.{NominalAnswer, NominalOut, query_outs}
use Rattle.ap_defs.specs.Derivations.{path}
use Rattle.ap_defs.specs.Goals.{NominalProgram, NominalQuery}
use Rattle.ap_defs.specs.PathOrder.{has_prefix}
use Rattle.ap_defs.specs.Terms.{GroundTerm}
use Rattle.ap_bundle.specs.Bundles.{NominalProved}
use Rattle.ap_checks.specs.Checks.{query_at}
use Rattle.ap_complete.specs.Coverings.{IsGroundInstance}
use Rattle.ap_cover.specs.Ground.{ground_terms}

-- The answer, or the stuck branch, of this number among those that a search finds, from 1, and its path.
pub data NominalCover : Type 0 where
  answer : ℕ → List ℕ → NominalCover
  stuck : ℕ → List ℕ → NominalCover

-- each begins with the other
abbrev pub is_same_path : List ℕ → List ℕ → Bool
is_same_path l path = has_prefix l path && has_prefix path l

-- the first output that covers a proof of this path, behind so many answers and so many stuck branches
abbrev pub cover_behind : ℕ → ℕ → List ℕ → List NominalOut → Option NominalCover
cover_behind m n path [] = None
cover_behind m n path (answers.found l a ∷ os) = if is_same_path l path then Some (answer (suc m) l) else cover_behind (suc m) n path os
cover_behind m n path (answers.cut l ∷ os) = cover_behind m n path os
cover_behind m n path (answers.stuck l ∷ os) = if has_prefix l path then Some (stuck (suc n) l) else cover_behind m (suc n) path os

-- the output that covers a proof of this path
abbrev pub cover_of : List ℕ → List NominalOut → Option NominalCover
cover_of path os = cover_behind 0 0 path os

-- the outputs of the query with this number, to a depth
abbrev pub outs_of_query : Option NominalQuery → NominalProgram → ℕ → List NominalOut
outs_of_query None p depth = []
outs_of_query (Some q) p depth = query_outs p.clauses depth q

abbrev pub outs_asked : NominalProgram → ℕ → ℕ → List NominalOut
outs_asked p depth k = outs_of_query (query_at p.queries k) p depth

-- the output that covers a proof, among those that the search of its query to a depth finds
abbrev pub cover_of_proof : NominalProgram → ℕ → NominalProved → Option NominalCover
cover_of_proof p depth d = cover_of (path d.derivation) (outs_asked p depth d.query)

-- the answers among outputs, and the stuck branches
abbrev pub answers_among : List NominalOut → List NominalOut
answers_among [] = []
answers_among (answers.found l a ∷ os) = answers.found l a ∷ answers_among os
answers_among (answers.cut l ∷ os) = answers_among os
answers_among (answers.stuck l ∷ os) = answers_among os

abbrev pub stuck_among : List NominalOut → List NominalOut
stuck_among [] = []
stuck_among (answers.found l a ∷ os) = stuck_among os
stuck_among (answers.cut l ∷ os) = stuck_among os
stuck_among (answers.stuck l ∷ os) = answers.stuck l ∷ stuck_among os

-- What covers a proof of this path for these terms: an answer at the path of which the terms are an instance, or a branch that is stuck
-- at a beginning of it.
pub data IsCover (p : NominalProgram) (q : NominalQuery) (depth : ℕ) (gs : List GroundTerm) (path : List ℕ) : Option NominalCover → Type 0 where
  by_answer : (n : ℕ) (a : NominalAnswer) → slice_get (answers_among (query_outs p.clauses depth q)) n ≡ Some (answers.found path a)
      → IsGroundInstance p.signature.constructors q.locals a gs → IsCover p q depth gs path (Some (answer (suc n) path))
  by_stuck : (n : ℕ) (l : List ℕ) → slice_get (stuck_among (query_outs p.clauses depth q)) n ≡ Some (answers.stuck l) → has_prefix l path ≡ true
      → IsCover p q depth gs path (Some (stuck (suc n) l))

-- A proof is covered by what is found for it.
pub record IsCoveredProof (p : NominalProgram) (depth : ℕ) (d : NominalProved) : Type 0 where
  pub q : NominalQuery
  pub asked : query_at p.queries d.query ≡ Some q
  pub covered : IsCover p q depth (ground_terms d.answer.binds) (path d.derivation) (cover_of_proof p depth d)
