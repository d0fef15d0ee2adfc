-- What a run and its end make of the triple of a store.
use Rattle.std.proofs.Common.{subst, ◌≡◌, ℕ, true, false, List, [], ◌∷◌, ◌++◌, map, refl, reverse, sym, ap, ◌∙◌}
use Rattle.std.proofs.lemmas.List.{append-nil}
use Rattle.std.specs.Prelude.{Bool, if◌then◌else◌, Option, Some, None}
use Rattle.ap_defs.specs.Freshness.{Conds, add_cond, add_conds, cond_before, cond_eq, has_cond}
use Rattle.ap_defs.specs.Renaming.{AreBelow, AreBindingsBelow}
use Rattle.ap_defs.specs.Substitution.{Binding, Problem}
use Rattle.ap_defs.specs.Terms.{NominalTerm}
use Rattle.ap_defs.specs.Unification.{Unified, ending, finish, problem_of, reduce_all, solved, unify, unsolvable}
use Rattle.ap_defs.specs.declared.terms.Cond.{Cond}
use Rattle.ap_search.proofs.NumberLemmas.{IsUnifiedBelow, unify_below}
use Rattle.ap_search.specs.FitStates.{AreCondsBelow}
use Rattle.ap_store.specs.Triples.{AreOnUnbound, Triple}
use Rattle.ap_theory.proofs.ConditionSetLemmas.{cond_eq_tells}
use Rattle.ap_theory.proofs.IdempotenceLemmas.{ExtendsWell, unify_extends}
use Rattle.ap_theory.specs.StatementsOnConditions.{collected}
use Rattle.ap_theory.specs.Variables.{EachCond, IsIdempotent, IsUnbound}
use Rattle.ap_unify.proofs.FinishLemmas.{finish_kept, kept_collected, made}
use Rattle.ap_rules.proofs.RunLemmas.{first_under}
use Rattle.ap_unify.specs.Finishing.{EndsAs, some_if, with_kept}
use Rattle.ap_rules.specs.Runs.{paired, stage_under}
use Rattle.ap_unify.specs.Unified.{IsResult}
use Rattle.ap_rules.specs.Work.{AreKept, pair_equation, problems_met, work_stage}
use Rattle.ap_rules.specs.declared.pairs.Work.{Work}

-- What holds of the triple of any store.
pub record IsWell (a : Triple) : Type 0 where
  pub bindings : AreBindingsBelow a.next a.bindings
  pub conditions : AreCondsBelow a.next a.conditions
  pub idempotent : IsIdempotent a.bindings
  pub unbound : EachCond (IsUnbound a.bindings) a.conditions
  pub set : add_conds a.conditions [] ≡ a.conditions

-- a condition of a set to which it was added, and the others
parts_of_add : (a : Triple) (c : Cond) (ds : Conds) → AreOnUnbound a (add_cond c ds) → AreOnUnbound a (c ∷ []) × AreOnUnbound a ds
parts_of_add a c [] h = (h, tt)
parts_of_add a c (d ∷ ds) h =
    elim (cond_eq c d) as (λ v. cond_eq c d ≡ v → AreOnUnbound a (if v then (d ∷ ds) else (if cond_before c d then (c ∷ d ∷ ds) else (d ∷ add_cond c ds))) → AreOnUnbound a (c ∷ []) × AreOnUnbound a (d ∷ ds)) [
      | true ↦ λ e k. (subst (λ b. AreOnUnbound a (b ∷ [])) (sym (cond_eq_tells c d e)) (k.0, tt), k)
      | false ↦ λ e. elim (cond_before c d) as (λ v. AreOnUnbound a (if v then (c ∷ d ∷ ds) else (d ∷ add_cond c ds)) → AreOnUnbound a (c ∷ []) × AreOnUnbound a (d ∷ ds)) [
        | true ↦ λ k. ((k.0, tt), k.1)
        | false ↦ λ k. let p = parts_of_add a c ds k.1 in (p.0, (k.0, p.1))
      ]
    ] refl h

part_on_unbound : (a : Triple) (cs : List Cond) (ds : Conds) → AreOnUnbound a (add_conds cs ds) → AreOnUnbound a cs
part_on_unbound a [] ds h = tt
part_on_unbound a (c ∷ cs) ds h = let p = parts_of_add a c (add_conds cs ds) h in (p.0.0, part_on_unbound a cs ds p.1)

pub on_unbound : (a : Triple) (cs : Conds) → AreCondsBelow a.next cs → EachCond (IsUnbound a.bindings) cs → AreOnUnbound a cs
on_unbound a [] h k = tt
on_unbound a (c ∷ cs) h k = ((h.0.0, h.0.1, k.0), on_unbound a cs h.1 k.1)

-- A run from the triple a has come to the triple b.
module _ (a b : Triple) (ts us : List NominalTerm) (ps : List Problem) (taken : List Cond) (well : IsWell a) (well_after : IsWell b) where
  -- a run with no solution
  pub none_unified : EndsAs (stage_under a.bindings (paired ts us) []) unsolvable → unify a.bindings a.conditions ts us ≡ None
  unfolding unify
  none_unified e = ap (finish a.conditions) (ap ending (first_under a.bindings ts us)) ∙ e a.conditions

  module _ (run : EndsAs (stage_under a.bindings (paired ts us) []) (solved (stage_under b.bindings [] ps))) (kept : AreKept a.conditions b.conditions taken) where
    -- the result of the rules
    pub unified_by_end : unify a.bindings a.conditions ts us ≡ made b.bindings (with_kept b.conditions (reduce_all b.bindings (map problem_of taken ++ ps)))
    unfolding unify
    unified_by_end =
        ap (finish a.conditions) (ap ending (first_under a.bindings ts us)) ∙ run a.conditions
        ∙ finish_kept b.conditions well_after.set b.bindings well_after.idempotent well_after.unbound a.conditions taken kept ps

    -- what problems and conditions reduce to may be added
    pub collected_on_unbound : a.next ≡ b.next → AreBelow a.next ts → AreBelow a.next us → (cs : Conds)
        → collected (reduce_all b.bindings (map problem_of taken ++ ps)) ≡ Some cs → AreOnUnbound b cs
    collected_on_unbound n h k cs e =
        let r : Unified = record { bindings = b.bindings; conditions = add_conds cs b.conditions } in
        let u : unify a.bindings a.conditions ts us ≡ Some r = unified_by_end ∙ ap (made b.bindings) (kept_collected b.conditions well_after.set cs (reduce_all b.bindings (map problem_of taken ++ ps)) e) in
        let below : AreBindingsBelow a.next r.bindings × AreCondsBelow a.next r.conditions = subst (IsUnifiedBelow a.next) u (unify_below a.next a.bindings a.conditions ts us well.bindings well.conditions h k) in
        let extends : ExtendsWell a.bindings (Some r) = subst (ExtendsWell a.bindings) u (unify_extends a.bindings a.conditions ts us well.idempotent) in
        part_on_unbound b cs b.conditions (on_unbound b (add_conds cs b.conditions) (subst (λ m. AreCondsBelow m (add_conds cs b.conditions)) n below.1) extends.1)

    -- the end gives the result
    pub is_result : (c : Triple) (fine : Bool) → with_kept b.conditions (reduce_all b.bindings (map problem_of taken ++ ps)) ≡ some_if fine c.conditions
        → c.bindings ≡ b.bindings → c.next ≡ a.next → IsResult (unify a.bindings a.conditions ts us) a fine c
    is_result c fine e f n =
        subst (λ (o : Option Unified). IsResult o a fine c) (sym (unified_by_end ∙ ap (made b.bindings) e))
        (elim fine as (λ v. IsResult (made b.bindings (some_if v c.conditions)) a v c) [
          | true ↦ (refl, same_parts c b.bindings a.next f n)
          | false ↦ refl
        ])
      where
        same_parts : (d : Triple) (bs : List Binding) (m : ℕ) → d.bindings ≡ bs → d.next ≡ m → d ≡ record { bindings = bs; conditions = d.conditions; next = m }
        same_parts d bs m p q = rw (← p, ← q) refl

  -- no solution of the equations
  pub is_no_result : (c : Triple) → EndsAs (stage_under a.bindings (paired ts us) []) unsolvable → IsResult (unify a.bindings a.conditions ts us) a false c
  is_no_result c e = subst (λ (o : Option Unified). IsResult o a false c) (sym (none_unified e)) refl

-- The last work of a run, and what is kept at first.
pub last_of_work : (s : List Binding) (w : Work) → w.equations.items ≡ [] → work_stage s w ≡ stage_under s [] (problems_met w)
last_of_work s w e = ap (λ es. stage_under s (map pair_equation (reverse es)) (problems_met w)) e

pub first_kept : (a : Triple) (w : Work) → w.taken.items ≡ [] → AreKept a.conditions a.conditions w.taken.items
first_kept a w e c = ap (has_cond c) (sym (append-nil a.conditions) ∙ ap (λ ts. a.conditions ++ ts) (sym e))
