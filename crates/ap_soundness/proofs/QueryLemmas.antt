-- A state that was found for a query, under a typed grounding that solves it, makes a ground proof of the query.
use Rattle.std.proofs.Common.{subst, ◌≡◌, ◌+◌, ◌≤◌, ℕ, [], map, max, refl, ap, ap₂, ◌∙◌, sym, suc, arith}
use Rattle.ap_defs.specs.Answers.{kind_at}
use Rattle.ap_defs.specs.Derivations.{DerivationOver, NominalDerivation, atom, both, equal, exists, fresh, height, left, map_terms, new, right, succeed}
use Rattle.ap_defs.specs.Goals.{NominalProgram, NominalQuery}
use Rattle.ap_defs.specs.GroundProofs.{environment}
use Rattle.ap_defs.specs.Groundings.{Grounding, grounded}
use Rattle.ap_defs.specs.Renaming.{local_names, local_vars}
use Rattle.ap_defs.specs.Resolution.{State, first_state, kinds_of, solve, solve_query}
use Rattle.ap_defs.specs.Terms.{GroundTerm}
use Rattle.ap_defs.specs.declared.terms.Var.{Var}
use Rattle.ap_program.specs.Typed.{IsTypedProgram, IsTypedQuery, term_form}
use Rattle.ap_ground.specs.Environments.{AgreeOn}
use Rattle.ap_ground.proofs.FreeIdentifierLemmas.{proofs_see_free}
use Rattle.ap_ground.proofs.ScopeLemmas.{goal_local}
use Rattle.ap_soundness.specs.FoundStates.{EachFound, IsDerivableState}
use Rattle.ap_soundness.specs.StatementsOnSoundness.{FoundStatesAreDerivable}
use Rattle.ap_soundness.proofs.EachFoundLemmas.{Property, each_weaken}
use Rattle.ap_ground.proofs.ItemEnvironmentLemmas.{goal_vars_local, item_agrees}
use Rattle.ap_soundness.proofs.FoundLemmas.{found_is_valid}
use Rattle.ap_ground.proofs.ShiftLemmas.{goal_by_none, shifted, var_by_none}
use Rattle.ap_soundness.proofs.StepLemmas.{FoundFrom, ground_proof}

pub height_mapped : {S T : Type 0} (f : S → T) (d : DerivationOver S) → height (map_terms f d) ≡ height d
height_mapped f (atom k as' ts d) = ap suc (height_mapped f d)
height_mapped f equal = refl
height_mapped f fresh = refl
height_mapped f succeed = refl
height_mapped f (both d e) = ap₂ max (height_mapped f d) (height_mapped f e)
height_mapped f (left d) = height_mapped f d
height_mapped f (right d) = height_mapped f d
height_mapped f (exists t d) = height_mapped f d
height_mapped f (new a d) = height_mapped f d

module _ (p : NominalProgram) (typed : IsTypedProgram p) (depth : ℕ) (q : NominalQuery) (t : IsTypedQuery term_form p.signature q) where
  abbrev pub FromQuery : Property
  FromQuery = FoundFrom p (kinds_of q.locals) 0 q.goal (first_state q) depth

  pub query_found : EachFound FromQuery (solve_query p.clauses depth q)
  query_found =
      subst (λ goal. EachFound FromQuery (solve p.clauses depth goal (first_state q))) (goal_by_none q.goal)
      (found_is_valid p typed depth (kinds_of q.locals) 0 q.goal (first_state q) (λ i k e. let l : 0 + i ≡ i = omega arith in ap (kind_at (kinds_of q.locals)) l ∙ e) t.0)

  agrees_on_query : (g : Grounding) → AgreeOn q.goal (shifted 0 g) (environment q.locals (local_names 0 q.locals) (map g (local_vars 0 q.locals)))
  agrees_on_query g =
      subst (λ (f : Var → GroundTerm). AgreeOn q.goal (shifted 0 g) (environment q.locals (local_names 0 q.locals) (map f (local_vars 0 q.locals)))) (λ i x. g (var_by_none x i))
      (item_agrees 0 g q.locals q.goal (goal_local p.signature q.locals [] q.goal t.2 t.0)
      (goal_vars_local p.signature.constructors p.signature.predicates q.locals q.goal t.0 (λ i e. (t.2.inside i e).1)))

  pub derivable : (s : State) (d : NominalDerivation) → FromQuery s d → IsDerivableState p q depth s d
  derivable s d f g h k =
      let proof = ground_proof g d in
      let e = height_mapped (grounded g) d in
      let low = f.low in (
        proof,
        proofs_see_free p (kinds_of q.locals) proof q.goal (shifted 0 g) (environment q.locals (local_names 0 q.locals) (map g (local_vars 0 q.locals))) (f.valid g h k).1 (agrees_on_query g),
        subst (λ (n : ℕ). n ≤ depth) (sym e) low,
      )

pub found_derivable : FoundStatesAreDerivable
found_derivable p typed depth q t =
    each_weaken (FromQuery p typed depth q t) (IsDerivableState p q depth) (derivable p typed depth q t) (solve_query p.clauses depth q) (query_found p typed depth q t)
