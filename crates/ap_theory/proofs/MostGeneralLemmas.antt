-- The substitutions that unification leaves are those that it was given and that make the sides equal, under any set of conditions.
use Rattle.std.proofs.Common.{subst, ◌≡◌, true, false, List, [], ◌∷◌, ◌++◌, map, refl, sym, ◌↔◌}
use Rattle.std.specs.Prelude.{if◌then◌else◌, Option, Some, None}
use Rattle.ap_defs.specs.Freshness.{Conds, add_cond, add_conds, cond_before, cond_eq, reduce, var_eq}
use Rattle.ap_defs.specs.Permutations.{name_eq}
use Rattle.ap_defs.specs.Substitution.{Binding, Problem, bound_term, under, ◌#◌, ◌:=◌}
use Rattle.ap_defs.specs.Terms.{NominalTerm}
use Rattle.ap_defs.specs.Unification.{Ending, ending, equations_of, finish, first_stage, problem_of, reduce_all, solved, steps_for, unfinished, unify, unsolvable, unified_under}
use Rattle.ap_defs.specs.declared.terms.Cond.{Cond}
use Rattle.ap_defs.specs.declared.terms.Var.{Var}
use Rattle.ap_theory.specs.Contexts.{Context, Equal, Fresh}
use Rattle.ap_theory.specs.Substitutions.{Agrees, Equates, EquatesAll, Freshens, IsInstance, Meets, MeetsSome, Substitution, applied, bound_or_itself, substitution_of}
use Rattle.ap_theory.proofs.BooleanLemmas.{and_left, and_right}
use Rattle.ap_theory.proofs.EqualityLemmas.{Equal_itself, Fresh_both}
use Rattle.ap_theory.proofs.LogicLemmas.{iff_both, iff_itself, iff_nothing, iff_same, iff_sym, iff_trans, iff_when}
use Rattle.ap_theory.proofs.PermutationLemmas.{name_eq_same}
use Rattle.ap_theory.proofs.ReductionLemmas.{Fresh_reduce, MeetsSome_both}
use Rattle.ap_theory.proofs.SolvingLemmas.{Equal_both, Freshens-append, Solves, SolvesEnding, run_Solves}
use Rattle.ap_theory.proofs.SubstitutionLemmas.{applied_congruent, applied_under}
use Rattle.ap_theory.proofs.TermLemmas.{act_term_none, var_same}
use Rattle.ap_theory.proofs.TerminationLemmas.{IsSpent, ending_ends, run_spent}

module _ (d : Context) (s : Substitution) where
  bound_Equal : (bs : List Binding) → Agrees d s bs → (x : Var) → Equal d (s x) (applied s (substitution_of bs x))
  bound_Equal [] h x = subst (Equal d (s x)) (sym (act_term_none (s x))) (Equal_itself d (s x))
  bound_Equal ((y := t) ∷ bs) h x =
      elim (var_eq x y) as (λ b. var_eq x y ≡ b → Equal d (s x) (applied s (bound_or_itself x (if b then Some t else bound_term bs x)))) [
        | true ↦ λ e. subst (λ (z : Var). Equal d (s z) (applied s t)) (sym (var_same x y e)) h.0
        | false ↦ λ e. bound_Equal bs h.1 x
      ] refl

  -- under bindings with which the substitution agrees, a term keeps its meaning
  pub under_Agrees : (bs : List Binding) → Agrees d s bs → (t : NominalTerm) → Equal d (applied s t) (applied s (under bs t))
  under_Agrees bs h t =
      subst (Equal d (applied s t)) (sym (applied_under s bs t)) (applied_congruent d s (λ x. applied s (substitution_of bs x)) t (λ x o. bound_Equal bs h x))

  Freshens_reduce : (bs : List Binding) → Agrees d s bs → (ps : List Problem) → Freshens d s ps ↔ MeetsSome d s (reduce_all bs ps)
  Freshens_reduce bs h [] = iff_itself
  Freshens_reduce bs h ((a # t) ∷ ps) =
      iff_trans
      (iff_both (iff_trans (Fresh_both d a (applied s t) (applied s (under bs t)) (under_Agrees bs h t)) (Fresh_reduce d s a (under bs t))) (Freshens_reduce bs h ps))
      (iff_sym (MeetsSome_both d s (reduce a (under bs t)) (reduce_all bs ps)))

  cond_eq_same : (b c : Cond) → cond_eq b c ≡ true → Fresh d b.name (s b.var) ↔ Fresh d c.name (s c.var)
  cond_eq_same b c h =
      iff_trans
      (iff_same (λ a. Fresh d a (s b.var)) (name_eq_same b.name c.name (and_right (var_eq b.var c.var) (name_eq b.name c.name) h)))
      (iff_same (λ x. Fresh d c.name (s x)) (var_same b.var c.var (and_left (var_eq b.var c.var) (name_eq b.name c.name) h)))

  pub Meets_add : (c : Cond) (ds : Conds) → Meets d s (add_cond c ds) ↔ (Fresh d c.name (s c.var) × Meets d s ds)
  Meets_add c [] = iff_itself
  Meets_add c (b ∷ bs) =
      elim (cond_eq c b) as (λ v. cond_eq c b ≡ v → Meets d s (if v then (b ∷ bs) else (if cond_before c b then (c ∷ b ∷ bs) else (b ∷ add_cond c bs))) ↔ (Fresh d c.name (s c.var) × Meets d s (b ∷ bs))) [
        | true ↦ λ e. ((λ h. ((cond_eq_same c b e).1 h.0, h)), (λ h. h.1))
        | false ↦ λ e. elim (cond_before c b) as (λ v. Meets d s (if v then (c ∷ b ∷ bs) else (b ∷ add_cond c bs)) ↔ (Fresh d c.name (s c.var) × Meets d s (b ∷ bs))) [
          | true ↦ iff_itself
          | false ↦
              let k : Meets d s (add_cond c bs) ↔ (Fresh d c.name (s c.var) × Meets d s bs) = Meets_add c bs in
              ((λ h. ((k.0 h.1).0, (h.0, (k.0 h.1).1))), (λ h. (h.1.0, k.1 (h.0, h.1.1))))
        ]
      ] refl

  pub Meets_add_all : (cs : List Cond) (ds : Conds) → Meets d s (add_conds cs ds) ↔ (Meets d s cs × Meets d s ds)
  Meets_add_all [] ds = ((λ h. (tt, h)), (λ h. h.1))
  Meets_add_all (c ∷ cs) ds =
      let k : Meets d s (add_conds cs ds) ↔ (Meets d s cs × Meets d s ds) = Meets_add_all cs ds in
      iff_trans (Meets_add c (add_conds cs ds)) ((λ h. ((h.0, (k.0 h.1).0), (k.0 h.1).1)), (λ h. (h.0.0, k.1 (h.0.1, h.1))))

  Freshens_conds : (ds : Conds) → Freshens d s (map problem_of ds) ↔ Meets d s ds
  Freshens_conds [] = iff_itself
  Freshens_conds (c ∷ cs) = iff_both (iff_same (Fresh d c.name) (act_term_none (s c.var))) (Freshens_conds cs)

  IsInstance_with : (bs : List Binding) (o : Option (List Cond)) → IsInstance d s (unified_under bs o) ↔ (Agrees d s bs × MeetsSome d s o)
  IsInstance_with bs None = ((λ h. absurd h), (λ h. h.1))
  IsInstance_with bs (Some cs) = iff_both iff_itself (iff_trans (Meets_add_all cs []) ((λ h. h.0), (λ h. (h, tt))))

  IsInstance_reduce : (bs : List Binding) (ps : List Problem) → IsInstance d s (unified_under bs (reduce_all bs ps)) ↔ (Agrees d s bs × Freshens d s ps)
  IsInstance_reduce bs ps = iff_trans (IsInstance_with bs (reduce_all bs ps)) (iff_when (λ h. iff_sym (Freshens_reduce bs h ps)))

  Equates_under : (bs : List Binding) → Agrees d s bs → (ts us : List NominalTerm) → EquatesAll d s ts us ↔ Equates d s (equations_of bs ts us)
  Equates_under bs h [] us = iff_itself
  Equates_under bs h (t ∷ ts) [] = iff_itself
  Equates_under bs h (t ∷ ts) (u ∷ us) =
      iff_both (Equal_both d s (applied s t) (applied s (under bs t)) (applied s u) (applied s (under bs u)) (under_Agrees bs h t) (under_Agrees bs h u)) (Equates_under bs h ts us)

  first_Solves : (bs : List Binding) (ts us : List NominalTerm) → (Agrees d s bs × EquatesAll d s ts us) ↔ Solves d s (first_stage bs ts us)
  first_Solves bs ts us =
      iff_trans (iff_when (λ h. Equates_under bs h ts us)) ((λ h. (h.1, tt, h.0)), (λ h. (h.2, h.0)))

  finish_Solves : (ds : Conds) (e : Ending) → IsSpent e → (Meets d s ds × SolvesEnding d s e) ↔ IsInstance d s (finish ds e)
  finish_Solves ds unfinished k = iff_nothing (λ h. h.1)
  finish_Solves ds unsolvable k = iff_nothing (λ h. h.1)
  finish_Solves ds (solved r) k =
      let all : IsInstance d s (unified_under r.bindings (reduce_all r.bindings (map problem_of ds ++ r.problems))) ↔ (Agrees d s r.bindings × Freshens d s (map problem_of ds ++ r.problems)) =
      IsInstance_reduce r.bindings (map problem_of ds ++ r.problems) in
      let parts = Freshens-append d s (map problem_of ds) r.problems in
      let conds = Freshens_conds ds in (
        (λ h. all.1 (h.1.2, parts.1 (conds.1 h.0, h.1.1))),
        (λ h.
            let a = all.0 h in
            let b = parts.0 a.1 in
            (conds.0 b.0, (subst (Equates d s) (sym k) tt, b.1, a.0))),
      )

  -- A substitution that meets the conditions, agrees with the bindings and makes each two sides equal is an instance of what
  -- unification gives, and the other way round. Where it gives none, there is no such substitution.
  pub unify_Solves : (bs : List Binding) (ds : Conds) (ts us : List NominalTerm)
      → (Meets d s ds × Agrees d s bs × EquatesAll d s ts us) ↔ IsInstance d s (unify bs ds ts us)
  unfolding unify ending
  unify_Solves bs ds ts us =
      let first = first_stage bs ts us in
      let start = first_Solves bs ts us in
      iff_trans
      ((λ h. (h.0, start.0 (h.1, h.2))), (λ h. (h.0, (start.1 h.1).0, (start.1 h.1).1)))
      (iff_trans (iff_both iff_itself (run_Solves d s (steps_for first) first (ending_ends first))) (finish_Solves ds (ending first) (run_spent (steps_for first) first)))
