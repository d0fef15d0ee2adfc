-- Laws of the tests of freshness and equality under a list of conditions.
use Rattle.std.proofs.Common.{◌≡◌, true, List, [], ◌∷◌, refl, sym, true≢false, ◌↔◌}
use Rattle.std.specs.Prelude.{Option, Some, None}
use Rattle.std.specs.List.{list_all}
use Rattle.ap_defs.specs.Freshness.{Conds, alpha_under, fresh_under, has_cond, reduce}
use Rattle.ap_defs.specs.Permutations.{act_name, disagreement, swap_of}
use Rattle.ap_defs.specs.SameTerm.{SameTerm}
use Rattle.ap_defs.specs.Terms.{NominalTerm, act_term}
use Rattle.ap_defs.specs.declared.terms.Cond.{Cond}
use Rattle.ap_defs.specs.declared.terms.Name.{Name}
use Rattle.ap_defs.specs.declared.terms.Swap.{Swap}
use Rattle.ap_theory.specs.Contexts.{Equal, Fresh, listed_context}
use Rattle.ap_theory.specs.StatementsOnTests.{all_in}
use Rattle.ap_theory.specs.Substitutions.{Meets, MeetsSome, variables}
use Rattle.ap_theory.proofs.DisagreementLemmas.{differing_disagree, disagree_differing, each_list_all, list_all_each}
use Rattle.ap_theory.proofs.EqualityLemmas.{Equal_act_act, Equal_equivariant, Equal_itself, Equal_same_both, Equal_swap_fresh, Equal_sym, Equal_trans, Fresh_both, Fresh_equivariant}
use Rattle.ap_theory.proofs.LogicLemmas.{and_iff, iff_both, iff_itself, iff_sym, iff_trans, same_if}
use Rattle.ap_theory.proofs.ReductionLemmas.{Fresh_reduce_variables}
use Rattle.ap_theory.proofs.SameTermLemmas.{same_sym}
use Rattle.ap_theory.proofs.TestLemmas.{Equal_alpha_under, Fresh_fresh_under, alpha_under_Equal, alpha_under_iff, fresh_under_Fresh, fresh_under_iff}

module _ (ds : Conds) where
  pub alpha_under_itself : (t : NominalTerm) → alpha_under ds t t ≡ true
  alpha_under_itself t = Equal_alpha_under ds t t (Equal_itself (listed_context ds) t)

  pub alpha_under_sym : (t u : NominalTerm) → alpha_under ds t u ≡ true → alpha_under ds u t ≡ true
  alpha_under_sym t u h = Equal_alpha_under ds u t (Equal_sym (listed_context ds) t u (alpha_under_Equal ds t u h))

  pub alpha_under_trans : (t u v : NominalTerm) → alpha_under ds t u ≡ true → alpha_under ds u v ≡ true → alpha_under ds t v ≡ true
  alpha_under_trans t u v h k = Equal_alpha_under ds t v (Equal_trans (listed_context ds) t u v (alpha_under_Equal ds t u h) (alpha_under_Equal ds u v k))

  -- what is equivalent for the relations is equal for the tests
  alpha_under_if : (t u v w : NominalTerm) → Equal (listed_context ds) t u ↔ Equal (listed_context ds) v w → alpha_under ds t u ≡ alpha_under ds v w
  alpha_under_if t u v w h = same_if (iff_trans (alpha_under_iff ds t u) (iff_trans h (iff_sym (alpha_under_iff ds v w))))

  fresh_under_if : (a b : Name) (t u : NominalTerm) → Fresh (listed_context ds) a t ↔ Fresh (listed_context ds) b u → fresh_under ds a t ≡ fresh_under ds b u
  fresh_under_if a b t u h = same_if (iff_trans (fresh_under_iff ds a t) (iff_trans h (iff_sym (fresh_under_iff ds b u))))

  pub alpha_under_act : (p : List Swap) (t u : NominalTerm) → alpha_under ds (act_term p t) (act_term p u) ≡ alpha_under ds t u
  alpha_under_act p t u = alpha_under_if (act_term p t) (act_term p u) t u (Equal_equivariant (listed_context ds) p t u)

  pub fresh_under_act : (p : List Swap) (a : Name) (t : NominalTerm) → fresh_under ds (act_name p a) (act_term p t) ≡ fresh_under ds a t
  fresh_under_act p a t = fresh_under_if (act_name p a) a (act_term p t) t (Fresh_equivariant (listed_context ds) p a t)

  pub fresh_under_alpha : (a : Name) (t u : NominalTerm) → alpha_under ds t u ≡ true → fresh_under ds a t ≡ fresh_under ds a u
  fresh_under_alpha a t u h = fresh_under_if a a t u (Fresh_both (listed_context ds) a t u (alpha_under_Equal ds t u h))

  pub alpha_under_same : (t u v w : NominalTerm) → SameTerm t v → SameTerm u w → alpha_under ds t u ≡ alpha_under ds v w
  alpha_under_same t u v w h k =
      alpha_under_if t u v w (Equal_same_both (listed_context ds) t u v w h k, Equal_same_both (listed_context ds) v w t u (same_sym h) (same_sym k))

  pub alpha_under_disagreement : (p q : List Swap) (t : NominalTerm)
      → alpha_under ds (act_term p t) (act_term q t) ≡ list_all (λ c. fresh_under ds c t) (disagreement p q)
  alpha_under_disagreement p q t =
      same_if (iff_trans (alpha_under_iff ds (act_term p t) (act_term q t))
      (iff_trans (Equal_act_act (listed_context ds) p q t) (
        (λ h. each_list_all (λ c. fresh_under ds c t) (disagreement p q) (λ c m. Fresh_fresh_under ds c t (h c (disagree_differing p q c m)))),
        (λ h c n. fresh_under_Fresh ds c t (list_all_each (λ b. fresh_under ds b t) (disagreement p q) h c (differing_disagree p q c n))),
      )))

  pub alpha_under_swap_fresh : (a b : Name) (t : NominalTerm) → a.sort ≡ b.sort → fresh_under ds a t ≡ true → fresh_under ds b t ≡ true
      → alpha_under ds (act_term (swap_of a b ∷ []) t) t ≡ true
  alpha_under_swap_fresh a b t e f g =
      Equal_alpha_under ds (act_term (swap_of a b ∷ []) t) t (Equal_swap_fresh (listed_context ds) a b t e (fresh_under_Fresh ds a t f) (fresh_under_Fresh ds b t g))

  listed_all : (cs : List Cond) → Meets (listed_context ds) variables cs ↔ (list_all (λ c. has_cond c ds) cs ≡ true)
  listed_all [] = ((λ h. refl), (λ h. tt))
  listed_all (c ∷ cs) = iff_trans (iff_both iff_itself (listed_all cs)) (iff_sym (and_iff (has_cond c ds) (list_all (λ b. has_cond b ds) cs)))

  listed_some : (o : Option (List Cond)) → MeetsSome (listed_context ds) variables o ↔ (all_in ds o ≡ true)
  listed_some None = ((λ h. absurd h), (λ h. absurd (true≢false (sym h))))
  listed_some (Some cs) = listed_all cs

  -- freshness follows from just those conditions that have each one to which it reduces
  pub fresh_under_reduce : (a : Name) (t : NominalTerm) → fresh_under ds a t ≡ all_in ds (reduce a t)
  fresh_under_reduce a t = same_if (iff_trans (fresh_under_iff ds a t) (iff_trans (Fresh_reduce_variables (listed_context ds) a t) (listed_some (reduce a t))))
