-- A grounding is a substitution of ground terms, so that what is proved of substitutions holds of groundings.
use Rattle.std.proofs.Common.{◌≡◌, true, ◌&&◌, List, [], ◌∷◌, refl, sym, ap, ap₂, ◌∙◌, inl, inr, true≢false, ◌↔◌}
use Rattle.std.specs.Prelude.{Option, Some, None}
use Rattle.ap_defs.specs.Alpha.{alpha, fresh}
use Rattle.ap_defs.specs.Freshness.{Conds, add_cond, add_conds, alpha_under, cond_eq, fresh_under, has_cond, reduce, var_eq}
use Rattle.ap_defs.specs.Groundings.{Grounding, agrees, equates_all, grounded, is_instance, meets}
use Rattle.ap_defs.specs.Permutations.{act_name, name_eq}
use Rattle.ap_defs.specs.Substitution.{Binding, under, ◌:=◌}
use Rattle.ap_defs.specs.Terms.{NominalTerm, abs, act_ground, act_term, app, name, pair, susp, unit}
use Rattle.ap_defs.specs.Unification.{Unified, unify}
use Rattle.ap_defs.specs.declared.terms.Cond.{Cond}
use Rattle.ap_defs.specs.declared.terms.Name.{Name}
use Rattle.ap_defs.specs.declared.terms.Swap.{Swap}
use Rattle.ap_defs.specs.declared.terms.Var.{Var}
use Rattle.ap_theory.specs.Contexts.{Equal, Fresh, listed_context}
use Rattle.ap_theory.specs.StatementsOnGroundings.{meets_some}
use Rattle.ap_theory.specs.Substitutions.{Agrees, EquatesAll, IsInstance, Meets, MeetsSome, Substitution, applied}
use Rattle.ap_theory.proofs.BooleanLemmas.{and_left, and_right, or_cases}
use Rattle.ap_theory.proofs.GroundLemmas.{act_ground-append, alpha_iff, embed, embed_act, fresh_iff, none}
use Rattle.ap_theory.proofs.LogicLemmas.{and_iff, iff_both, iff_nothing, iff_same, iff_sym, iff_trans, same_if}
use Rattle.ap_theory.proofs.MostGeneralLemmas.{Meets_add, Meets_add_all, under_Agrees, unify_Solves}
use Rattle.ap_theory.proofs.PermutationLemmas.{name_eq_same}
use Rattle.ap_theory.proofs.ReductionLemmas.{Fresh_reduce}
use Rattle.ap_theory.proofs.SubstitutionLemmas.{applied_Equal, applied_Fresh}
use Rattle.ap_theory.proofs.TermLemmas.{var_same}
use Rattle.ap_theory.proofs.TestLemmas.{alpha_under_Equal, fresh_under_Fresh}

-- grounding carries a permutation over
pub grounded_act : (g : Grounding) (p : List Swap) (t : NominalTerm) → grounded g (act_term p t) ≡ act_ground p (grounded g t)
grounded_act g p unit = refl
grounded_act g p (name a) = refl
grounded_act g p (pair t u) = ap₂ pair (grounded_act g p t) (grounded_act g p u)
grounded_act g p (app f t) = ap (app f) (grounded_act g p t)
grounded_act g p (abs a t) = ap (abs (act_name p a)) (grounded_act g p t)
grounded_act g p (susp q x) = act_ground-append p q (g x)

-- the substitution
abbrev pub embedded : Grounding → Substitution
embedded g x = embed (g x)

pub embed_grounded : (g : Grounding) (t : NominalTerm) → embed (grounded g t) ≡ applied (embedded g) t
embed_grounded g unit = refl
embed_grounded g (name a) = refl
embed_grounded g (pair t u) = ap₂ pair (embed_grounded g t) (embed_grounded g u)
embed_grounded g (app f t) = ap (app f) (embed_grounded g t)
embed_grounded g (abs a t) = ap (abs a) (embed_grounded g t)
embed_grounded g (susp p x) = embed_act p (g x)

module _ (g : Grounding) where
  pub fresh_grounded : (a : Name) (t : NominalTerm) → fresh a (grounded g t) ≡ true ↔ Fresh none a (applied (embedded g) t)
  fresh_grounded a t = iff_trans (fresh_iff a (grounded g t)) (iff_same (Fresh none a) (embed_grounded g t))

  pub alpha_grounded : (t u : NominalTerm) → alpha (grounded g t) (grounded g u) ≡ true ↔ Equal none (applied (embedded g) t) (applied (embedded g) u)
  alpha_grounded t u =
      iff_trans (alpha_iff (grounded g t) (grounded g u))
      (iff_trans (iff_same (λ z. Equal none z (embed (grounded g u))) (embed_grounded g t)) (iff_same (Equal none (applied (embedded g) t)) (embed_grounded g u)))

  meets_iff : (ds : Conds) → meets g ds ≡ true ↔ Meets none (embedded g) ds
  meets_iff [] = ((λ h. tt), (λ h. refl))
  meets_iff (c ∷ cs) = iff_trans (and_iff (fresh c.name (g c.var)) (meets g cs)) (iff_both (fresh_iff c.name (g c.var)) (meets_iff cs))

  agrees_iff : (bs : List Binding) → agrees g bs ≡ true ↔ Agrees none (embedded g) bs
  agrees_iff [] = ((λ h. tt), (λ h. refl))
  agrees_iff ((x := t) ∷ bs) =
      iff_trans (and_iff (alpha (g x) (grounded g t)) (agrees g bs))
      (iff_both (iff_trans (alpha_iff (g x) (grounded g t)) (iff_same (Equal none (embed (g x))) (embed_grounded g t))) (agrees_iff bs))

  equates_all_iff : (ts us : List NominalTerm) → equates_all g ts us ≡ true ↔ EquatesAll none (embedded g) ts us
  equates_all_iff [] us = ((λ h. tt), (λ h. refl))
  equates_all_iff (t ∷ ts) [] = ((λ h. tt), (λ h. refl))
  equates_all_iff (t ∷ ts) (u ∷ us) = iff_trans (and_iff (alpha (grounded g t) (grounded g u)) (equates_all g ts us)) (iff_both (alpha_grounded t u) (equates_all_iff ts us))

  is_instance_iff : (o : Option Unified) → is_instance g o ≡ true ↔ IsInstance none (embedded g) o
  is_instance_iff None = iff_nothing (λ h. true≢false (sym h))
  is_instance_iff (Some r) = iff_trans (and_iff (agrees g r.bindings) (meets g r.conditions)) (iff_both (agrees_iff r.bindings) (meets_iff r.conditions))

  -- Each grounding that agrees with the substitution, meets the conditions and makes each two sides equal is an instance of what
  -- unification gives, and the other way round. Where it gives none, there is no such grounding.
  pub unify_instances : (bs : List Binding) (ds : Conds) (ts us : List NominalTerm)
      → (meets g ds && (agrees g bs && equates_all g ts us)) ≡ is_instance g (unify bs ds ts us)
  unify_instances bs ds ts us =
      same_if
      (iff_trans (and_iff (meets g ds) (agrees g bs && equates_all g ts us))
      (iff_trans (iff_both (meets_iff ds) (iff_trans (and_iff (agrees g bs) (equates_all g ts us)) (iff_both (agrees_iff bs) (equates_all_iff ts us))))
      (iff_trans ((λ h. (h.0, h.1.0, h.1.1)), (λ h. (h.0, (h.1, h.2))))
      (iff_trans (unify_Solves none (embedded g) bs ds ts us) (iff_sym (is_instance_iff (unify bs ds ts us)))))))

  -- under bindings with which the grounding agrees, a term keeps its ground meaning
  pub under_alpha : (bs : List Binding) → agrees g bs ≡ true → (t : NominalTerm) → alpha (grounded g t) (grounded g (under bs t)) ≡ true
  under_alpha bs h t = (alpha_grounded t (under bs t)).1 (under_Agrees none (embedded g) bs ((agrees_iff bs).0 h) t)

  -- a problem holds just where the conditions are met to which it reduces
  pub fresh_reduce : (a : Name) (t : NominalTerm) → fresh a (grounded g t) ≡ meets_some g (reduce a t)
  fresh_reduce a t = same_if (iff_trans (fresh_grounded a t) (iff_trans (Fresh_reduce none (embedded g) a t) (iff_sym (meets_some_iff (reduce a t)))))
    where
      meets_some_iff : (o : Option (List Cond)) → meets_some g o ≡ true ↔ MeetsSome none (embedded g) o
      meets_some_iff None = iff_nothing (λ h. true≢false (sym h))
      meets_some_iff (Some cs) = meets_iff cs

  pub meets_add : (c : Cond) (ds : Conds) → meets g (add_cond c ds) ≡ (fresh c.name (g c.var) && meets g ds)
  meets_add c ds =
      same_if
      (iff_trans (meets_iff (add_cond c ds))
      (iff_trans (Meets_add none (embedded g) c ds)
      (iff_sym (iff_trans (and_iff (fresh c.name (g c.var)) (meets g ds)) (iff_both (fresh_iff c.name (g c.var)) (meets_iff ds))))))

  pub meets_add_all : (cs : List Cond) (ds : Conds) → meets g (add_conds cs ds) ≡ (meets g cs && meets g ds)
  meets_add_all cs ds =
      same_if
      (iff_trans (meets_iff (add_conds cs ds))
      (iff_trans (Meets_add_all none (embedded g) cs ds) (iff_sym (iff_trans (and_iff (meets g cs) (meets g ds)) (iff_both (meets_iff cs) (meets_iff ds))))))

-- What follows under conditions holds of each grounding that meets them.
listed_met : (g : Grounding) (ds : Conds) → meets g ds ≡ true → (c : Name) (x : Var) → listed_context ds c x → Fresh none c (embed (g x))
listed_met g [] m c x h = cc
listed_met g (d ∷ ds) m c x h =
    let here : fresh d.name (g d.var) ≡ true = and_left (fresh d.name (g d.var)) (meets g ds) m in
    elim (or_cases (cond_eq (record { name = c; var = x }) d) (has_cond (record { name = c; var = x }) ds) h) [
      | inl e ↦
          let n : c ≡ d.name = name_eq_same c d.name (and_right (var_eq x d.var) (name_eq c d.name) e) in
          let v : x ≡ d.var = var_same x d.var (and_left (var_eq x d.var) (name_eq c d.name) e) in
          (fresh_iff c (g x)).0 (ap₂ (λ a y. fresh a (g y)) n v ∙ here)
      | inr k ↦ listed_met g ds (and_right (fresh d.name (g d.var)) (meets g ds) m) c x k
    ]

pub fresh_under_sound : (g : Grounding) (ds : Conds) → meets g ds ≡ true → (a : Name) (t : NominalTerm) → fresh_under ds a t ≡ true
    → fresh a (grounded g t) ≡ true
fresh_under_sound g ds m a t h = (fresh_grounded g a t).1 (applied_Fresh (listed_context ds) none (embedded g) (listed_met g ds m) a t (fresh_under_Fresh ds a t h))

pub alpha_under_sound : (g : Grounding) (ds : Conds) → meets g ds ≡ true → (t u : NominalTerm) → alpha_under ds t u ≡ true
    → alpha (grounded g t) (grounded g u) ≡ true
alpha_under_sound g ds m t u h = (alpha_grounded g t u).1 (applied_Equal (listed_context ds) none (embedded g) (listed_met g ds m) t u (alpha_under_Equal ds t u h))
