-- What stands for the variables of an answer's derivation, and for those of the query, has their types.
use Rattle.std.proofs.Common.{subst, ◌≡◌, true, List, [], ◌++◌, map, sym, ap, ◌∙◌, inl, inr, true≢false}
use Rattle.ap_defs.specs.Answers.{binds_in, closed_term, derivation_in, typed_vars, vars_in}
use Rattle.ap_defs.specs.Derivations.{NominalDerivation, terms_in}
use Rattle.ap_defs.specs.GroundProofs.{AreOfTypes, HasTypeOf}
use Rattle.ap_defs.specs.Groundings.{Grounding, grounded}
use Rattle.ap_defs.specs.Occurrences.{vars_of_terms}
use Rattle.ap_defs.specs.Renaming.{local_vars}
use Rattle.ap_defs.specs.Resolution.{State, kinds_of}
use Rattle.ap_defs.specs.Substitution.{under}
use Rattle.ap_defs.specs.Terms.{susp}
use Rattle.ap_defs.specs.Types as types
use Rattle.ap_defs.specs.Types.{NominalConstructor, NominalLocal}
use Rattle.ap_defs.specs.Typing.{one}
use Rattle.ap_defs.specs.Unification.{has_var, vars_then}
use Rattle.ap_defs.specs.declared.terms.Var.{Var}
use Rattle.ap_program.specs.RawTyping.{HasTermType}
use Rattle.ap_search.specs.TypedStates.{IsTypedState}
use Rattle.ap_search.proofs.RecordLemmas.{has_var-append, terms_in_map, vars_of_closed}
use Rattle.ap_search.proofs.TypingLemmas.{under_typed}
use Rattle.ap_theory.proofs.BooleanLemmas.{or_if_left, or_if_right}
use Rattle.ap_ground.specs.TypedGroundings.{GivesKinds, GivesTypes}
use Rattle.ap_ground.proofs.InstanceTypingLemmas.{grounded_typed}
use Rattle.ap_ground.proofs.ItemEnvironmentLemmas.{free_is_variable, types_renamed}
use Rattle.ap_ground.proofs.OccurrenceLemmas.{IsVariable, var_stands}
use Rattle.ap_soundness.proofs.StepLemmas.{KindsKept}
use Rattle.ap_soundness.proofs.AnswerVarLemmas.{canonical_vars, given_type, has_ascending, has_in_closed}
use Rattle.ap_soundness.proofs.ClosingLemmas.{closing}

module _ (cs : List NominalConstructor) (locals : List NominalLocal) (s : State) (typed : IsTypedState cs s) (d : NominalDerivation) where
  abbrev answer_vars : List Var
  answer_vars = vars_in (binds_in locals s) s.conditions (derivation_in s d)

  abbrev bound_vars : List Var
  bound_vars = vars_of_terms (binds_in locals s)

  abbrev cond_vars : List Var
  cond_vars = map (λ c. c.var) s.conditions

  abbrev brought_vars : List Var
  brought_vars = vars_of_terms (terms_in (derivation_in s d))

  -- the variables of what stands for variables
  abbrev AreAnswered : List Var → Type 0
  AreAnswered xs = (x y : Var) → has_var x xs ≡ true → has_var y (vars_then (under s.bindings (susp [] x)) []) ≡ true → has_var y answer_vars ≡ true

  closed_has : (x y : Var) → has_var y (vars_then (under s.bindings (susp [] x)) []) ≡ true → has_var y (vars_then (closed_term s (susp [] x)) []) ≡ true
  closed_has x y k = ap (has_var y) (canonical_vars (under s.bindings (susp [] x)) []) ∙ k

  pub derivation_answered : AreAnswered (vars_of_terms (terms_in d))
  derivation_answered x y h k =
      let there : has_var y brought_vars ≡ true =
      ap (λ ts. has_var y (vars_of_terms ts)) (terms_in_map (closed_term s) d) ∙ ap (has_var y) (vars_of_closed s (terms_in d))
      ∙ has_in_closed s x y (vars_of_terms (terms_in d)) h (closed_has x y k) in
      has_ascending y ((bound_vars ++ cond_vars) ++ brought_vars)
      (has_var-append y (bound_vars ++ cond_vars) brought_vars ∙ or_if_right (has_var y (bound_vars ++ cond_vars)) (has_var y brought_vars) there)

  pub locals_answered : AreAnswered (local_vars 0 locals)
  locals_answered x y h k =
      let there = has_in_closed s x y (local_vars 0 locals) h (closed_has x y k) in
      has_ascending y ((bound_vars ++ cond_vars) ++ brought_vars)
      (has_var-append y (bound_vars ++ cond_vars) brought_vars ∙ or_if_left (has_var y (bound_vars ++ cond_vars)) (has_var y brought_vars)
      (has_var-append y bound_vars cond_vars ∙ or_if_left (has_var y bound_vars) (has_var y cond_vars) there))

  -- what stands for a variable has the variable's type
  pub closing_gives : (xs : List Var) → AreAnswered xs → ((x : Var) → has_var x xs ≡ true → IsVariable s.kinds x) → (g : Grounding) → GivesTypes cs (typed_vars s.kinds answer_vars) g
      → GivesKinds cs s.kinds xs (closing s.bindings g)
  closing_gives xs answered known g h x m =
      let v = known x m in
      let t = under s.bindings (susp [] x) in
      let of : HasTermType cs s.kinds t v.0 = under_typed cs s.kinds s.bindings typed.bindings (susp [] x) (one v.0) (tt, v.1) in
      let given : GivesKinds cs s.kinds (vars_then t []) g = λ y k.
      elim (var_stands cs s.kinds t (one v.0) of y [] k) [
        | inl i ↦ given_type cs s.kinds g answer_vars h y i.0.0 (answered x y m k) i.0.1
        | inr i ↦ absurd (true≢false (sym i))
      ] in
      subst (λ o. HasTypeOf cs o (grounded g t)) (sym v.1) (grounded_typed cs s.kinds g t v.0 of given)

  -- so have what stands for the item's free variables
  pub locals_have_types : KindsKept (kinds_of locals) s.kinds → (g : Grounding) → GivesTypes cs (typed_vars s.kinds answer_vars) g
      → AreOfTypes cs (kinds_of locals) (local_vars 0 locals) (map (closing s.bindings g) (local_vars 0 locals))
  locals_have_types kept g h =
      types_renamed cs (kinds_of locals) (closing s.bindings g) (local_vars 0 locals) (λ x m.
      let v = free_is_variable locals x m in
      let there = kept x.num (types.var v.0) v.1 in
      let known : (y : Var) → has_var y (local_vars 0 locals) ≡ true → IsVariable s.kinds y = λ y i. (let w = free_is_variable locals y i in (w.0, kept y.num (types.var w.0) w.1)) in
      subst (λ o. HasTypeOf cs o (closing s.bindings g x)) (there ∙ sym v.1) (closing_gives (local_vars 0 locals) locals_answered known g h x m))
