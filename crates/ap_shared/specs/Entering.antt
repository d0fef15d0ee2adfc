-- The walk that enters a term in a table behind its parts.
use Rattle.std.specs.Prelude.{ℕ, List, [], ◌∷◌, map, reverse, Option, Some}
use Rattle.ap_defs.specs.Terms as terms
use Rattle.ap_defs.specs.Terms.{NominalTerm, term_of}
use Rattle.ap_bundle.specs.Forms.{◌>>=◌, first}
use Rattle.ap_shared.specs.declared.entering.Step.{Step}
use Rattle.ap_shared.specs.declared.entering.Step.TheVariants as steps
use Rattle.ap_shared.specs.Shared.{shared_at}

-- a step of a walk: to a term, or behind its parts
pub data WalkStep : Type 0 where
  enter : NominalTerm → WalkStep
  leave : NominalTerm → WalkStep

abbrev pub walk_step : Step → WalkStep
walk_step (steps.Enter r) = enter (term_of r.now)
walk_step (steps.Leave r) = leave (term_of r.now)

-- the steps that are left, the next one first
abbrev pub steps_waiting : List Step → List WalkStep
steps_waiting ks = reverse (map walk_step ks)

-- the steps of a term
abbrev pub steps_through : NominalTerm → List WalkStep
steps_through terms.unit = leave terms.unit ∷ []
steps_through (terms.name a) = leave (terms.name a) ∷ []
steps_through (terms.pair t u) = enter t ∷ enter u ∷ leave (terms.pair t u) ∷ []
steps_through (terms.app f t) = enter t ∷ leave (terms.app f t) ∷ []
steps_through (terms.abs a t) = enter t ∷ leave (terms.abs a t) ∷ []
steps_through (terms.susp p x) = leave (terms.susp p x) ∷ []

-- a pair by the lines of its parts, the right one first, and the other lines
abbrev pub pair_by : List NominalTerm → List ℕ → Option (NominalTerm × List ℕ)
pair_by ts ls = first ls >>= λ right. first right.1 >>= λ left. Some (terms.pair (shared_at ts left.0) (shared_at ts right.0), left.1)

-- a term by the lines of its parts, the last of them first, and the other lines
abbrev pub taken_by : List NominalTerm → NominalTerm → List ℕ → Option (NominalTerm × List ℕ)
taken_by ts terms.unit ls = Some (terms.unit, ls)
taken_by ts (terms.name a) ls = Some (terms.name a, ls)
taken_by ts (terms.pair t u) ls = pair_by ts ls
taken_by ts (terms.app f t) ls = first ls >>= λ part. Some (terms.app f (shared_at ts part.0), part.1)
taken_by ts (terms.abs a t) ls = first ls >>= λ part. Some (terms.abs a (shared_at ts part.0), part.1)
taken_by ts (terms.susp p x) ls = Some (terms.susp p x, ls)
