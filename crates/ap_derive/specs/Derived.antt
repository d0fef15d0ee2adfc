-- The derivation of the answer at a path.
use Rattle.std.specs.Prelude.{◌≡◌, ℕ, List, [], ◌∷◌, Some}
use Rattle.ap_defs.specs.Answers.{answer_in, derivation_in, found, outs_at}
use Rattle.ap_defs.specs.Derivations.{NominalDerivation}
use Rattle.ap_defs.specs.Goals.{Clauses, NominalQuery}
use Rattle.ap_defs.specs.Resolution.{State, solve_query}
use Rattle.ap_checks.specs.Traces.{Finds, Traced, traced_query}
use Rattle.ap_shared.specs.SharedViews.{shared_derivation, shared_terms}
use Rattle.ap_derive.specs.declared.assembling.Derived.{Derived}

-- a derivation over the terms of its table
abbrev pub derived : Derived → NominalDerivation
derived d = shared_derivation (shared_terms d.terms) d.derivation

-- The whole path leads to a state, with a derivation in which variables stand for themselves.
pub record LeadsOn (program : Clauses) (depth : ℕ) (q : NominalQuery) (path : List ℕ) : Type 0 where
  pub traced : Traced
  pub leads : traced_query program depth q path ≡ Some traced
  pub whole : traced.rest ≡ []

-- The whole path leads to a state, with a derivation in which variables stand for themselves. The search finds both there, and has
-- no other output at the path; and this is the derivation with what the variables stand for in the end.
pub record IsDerivationAt (program : Clauses) (depth : ℕ) (q : NominalQuery) (path : List ℕ) (d : NominalDerivation) : Type 0 where
  pub state : State
  pub plain : NominalDerivation
  pub leads : traced_query program depth q path ≡ Some (record { state = state; derivation = plain; rest = [] })
  pub finds : Finds (solve_query program depth q) path state plain
  pub only : outs_at program depth q path ≡ found path (answer_in q.locals state plain) ∷ []
  pub closed : d ≡ derivation_in state plain
