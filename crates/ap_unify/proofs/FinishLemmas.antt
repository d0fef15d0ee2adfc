-- The end of a run, where only the conditions on variables that were bound are reduced again.
use Rattle.std.proofs.Common.{◌≡◌, Bool, true, false, ◌||◌, List, [], ◌∷◌, ◌++◌, map, refl, sym, ap, ap₂, ◌∙◌}
use Rattle.std.proofs.lemmas.List.{map-append}
use Rattle.std.specs.Prelude.{Option, Some, None}
use Rattle.ap_defs.specs.Freshness.{Conds, add_cond, add_conds, both, has_cond, reduce}
use Rattle.ap_defs.specs.Substitution.{Binding, Problem, moved}
use Rattle.ap_defs.specs.Unification.{Unified, finish, problem_of, reduce_all, solved, unified_under}
use Rattle.ap_defs.specs.declared.terms.Cond.{Cond}
use Rattle.ap_theory.proofs.BooleanLemmas.{or_nothing}
use Rattle.ap_theory.proofs.CollectionLemmas.{collected_both, collected_same}
use Rattle.ap_theory.proofs.ConditionSetLemmas.{add_conds_same, has_cond-append, has_cond_add_all}
use Rattle.ap_theory.proofs.IdempotenceLemmas.{bound_term_unbound}
use Rattle.ap_theory.proofs.ReductionLemmas.{reduce_all-append}
use Rattle.ap_theory.specs.StatementsOnConditions.{collected, joined_conditions}
use Rattle.ap_theory.specs.Variables.{EachCond, IsIdempotent, IsUnbound}
use Rattle.ap_rules.proofs.RunLemmas.{reduce_all_under}
use Rattle.ap_unify.specs.Finishing.{with_kept}
use Rattle.ap_rules.specs.Runs.{problem_under, stage_under}

-- conditions on unbound variables reduce to themselves
pub kept_reduced : (bs : List Binding) (ds : Conds) → EachCond (IsUnbound bs) ds → reduce_all bs (map problem_of ds) ≡ Some ds
kept_reduced bs [] h = refl
kept_reduced bs (c ∷ cs) h = ap₂ both (ap (λ o. reduce c.name (moved [] c.var o)) (bound_term_unbound bs c.var h.0)) (kept_reduced bs cs h.1)

add_each : (cs ds es : List Cond) → add_conds (cs ++ ds) es ≡ add_conds cs (add_conds ds es)
add_each [] ds es = refl
add_each (c ∷ cs) ds es = ap (add_cond c) (add_each cs ds es)

or_rotate : (x y z : Bool) → ((x || y) || z) ≡ ((y || z) || x)
or_rotate true true z = refl
or_rotate true false true = refl
or_rotate true false false = refl
or_rotate false true z = refl
or_rotate false false true = refl
or_rotate false false false = refl

abbrev pub made : List Binding → Option Conds → Option Unified
made bs None = None
made bs (Some cs) = Some (record { bindings = bs; conditions = cs })

made_collected : (bs : List Binding) (o : Option (List Cond)) → unified_under bs o ≡ made bs (collected o)
made_collected bs None = refl
made_collected bs (Some cs) = refl

-- The conditions that are kept are a set.
module _ (kept : Conds) (set : add_conds kept [] ≡ kept) where
  added_to : (cs : List Cond) → add_conds (cs ++ kept) [] ≡ add_conds cs kept
  added_to cs = add_each cs kept [] ∙ ap (add_conds cs) set

  regrouped : (cs ds : List Cond) → add_conds ((kept ++ cs) ++ ds) [] ≡ add_conds (cs ++ ds) kept
  regrouped cs ds =
      add_conds_same ((kept ++ cs) ++ ds) ((cs ++ ds) ++ kept)
      (λ c. has_cond-append c (kept ++ cs) ds ∙ ap (λ x. x || has_cond c ds) (has_cond-append c kept cs)
      ∙ or_rotate (has_cond c kept) (has_cond c cs) (has_cond c ds)
      ∙ sym (has_cond-append c (cs ++ ds) kept ∙ ap (λ x. x || has_cond c kept) (has_cond-append c cs ds)))
      ∙ added_to (cs ++ ds)

  both_kept : (o p : Option (List Cond)) → collected (both (both (Some kept) o) p) ≡ with_kept kept (both o p)
  both_kept None p = refl
  both_kept (Some cs) None = refl
  both_kept (Some cs) (Some ds) = ap Some (regrouped cs ds)

  -- what was collected as a set may be added
  pub kept_collected : (more : Conds) (o : Option (List Cond)) → collected o ≡ Some more → with_kept kept o ≡ Some (add_conds more kept)
  kept_collected more None e = cc
  kept_collected more (Some cs) e =
      ap Some (sym (added_to cs)
      ∙ add_conds_same (cs ++ kept) (add_conds cs [] ++ kept)
      (λ c. has_cond-append c cs kept ∙ ap (λ x. x || has_cond c kept) (sym (has_cond_add_all c cs [] ∙ or_nothing (has_cond c cs))) ∙ sym (has_cond-append c (add_conds cs []) kept))
      ∙ added_to (add_conds cs [])
      ∙ ap (λ ds. add_conds ds kept) (some_same e))
    where
      some_same : {v w : Conds} → Some v ≡ Some w → v ≡ w
      some_same k = cc

  module _ (bs : List Binding) (idempotent : IsIdempotent bs) (unbound : EachCond (IsUnbound bs) kept) where
    reduced_parts : (taken : List Cond) → reduce_all bs (map problem_of (kept ++ taken)) ≡ both (Some kept) (reduce_all bs (map problem_of taken))
    reduced_parts taken =
        ap (reduce_all bs) (map-append problem_of kept taken) ∙ reduce_all-append bs (map problem_of kept) (map problem_of taken)
        ∙ ap (λ o. both o (reduce_all bs (map problem_of taken))) (kept_reduced bs kept unbound)

    -- all conditions and problems reduce to what those reduce to that were taken, beside those that are kept
    pub finish_kept : (ds taken : List Cond) → ((c : Cond) → has_cond c ds ≡ has_cond c (kept ++ taken)) → (ps : List Problem)
        → finish ds (solved (stage_under bs [] ps)) ≡ made bs (with_kept kept (reduce_all bs (map problem_of taken ++ ps)))
    finish_kept ds taken same ps =
        let q = reduce_all bs ps in
        made_collected bs (reduce_all bs (map problem_of ds ++ map (problem_under bs) ps))
        ∙ ap (made bs)
        (ap collected (reduce_all-append bs (map problem_of ds) (map (problem_under bs) ps) ∙ ap (both (reduce_all bs (map problem_of ds))) (reduce_all_under bs idempotent ps))
        ∙ collected_both (reduce_all bs (map problem_of ds)) q
        ∙ ap (λ o. joined_conditions o (collected q)) (collected_same bs ds (kept ++ taken) same)
        ∙ sym (collected_both (reduce_all bs (map problem_of (kept ++ taken))) q)
        ∙ ap (λ o. collected (both o q)) (reduced_parts taken)
        ∙ both_kept (reduce_all bs (map problem_of taken)) q
        ∙ ap (with_kept kept) (sym (reduce_all-append bs (map problem_of taken) ps)))
