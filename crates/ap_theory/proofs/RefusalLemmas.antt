-- Where unification gives a result, the two sides have the same heads.
use Rattle.std.proofs.Common.{subst, ◌≡◌, true, false, ◌&&◌, List, [], ◌∷◌, ◌++◌, map, refl, sym, ap, ap₂, ◌∙◌, inl, inr, true≢false}
use Rattle.std.specs.Prelude.{◌==◌, Option, Some, None}
use Rattle.ap_defs.specs.Freshness.{Conds, add_conds, alpha_under, fresh_under}
use Rattle.ap_defs.specs.Permutations.{swap_of}
use Rattle.ap_defs.specs.Substitution.{Binding, under}
use Rattle.ap_defs.specs.Terms.{NominalTerm, abs, act_term, app, name, pair, susp, unit}
use Rattle.ap_defs.specs.Unification.{Ending, Unified, ending, finish, first_stage, problem_of, reduce_all, solved, unfinished, unify, unsolvable, unified_under}
use Rattle.ap_defs.specs.declared.terms.Cond.{Cond}
use Rattle.ap_defs.specs.declared.terms.Name.{Name}
use Rattle.ap_theory.specs.StatementsOnResults.{equal_all_under, has_same_head, have_same_heads}
use Rattle.ap_theory.specs.Variables.{IsIdempotent}
use Rattle.ap_theory.proofs.BooleanLemmas.{and_both, and_left, and_right}
use Rattle.ap_theory.proofs.ConditionSetLemmas.{add_conds_twice}
use Rattle.ap_theory.proofs.OpenSoundnessLemmas.{under_unify, unify_equal_all}
use Rattle.ap_theory.proofs.PermutationLemmas.{name_tells}
use Rattle.ap_theory.proofs.TermLemmas.{same_number}

sorts_or_equal : (ds : Conds) (a : Name) (t : NominalTerm) (b : Name) (u : NominalTerm) → alpha_under ds (abs a t) (abs b u) ≡ true → (a.sort == b.sort) ≡ true
sorts_or_equal ds a t b u h =
    elim (name_tells a b) [
      | inl w ↦ same_number a.sort b.sort (ap (λ n. n.sort) w.1)
      | inr w ↦
          let k : ((a.sort == b.sort) && (fresh_under ds a u && alpha_under ds t (act_term (swap_of a b ∷ []) u))) ≡ true = rw w.0 at h in
          and_left (a.sort == b.sort) (fresh_under ds a u && alpha_under ds t (act_term (swap_of a b ∷ []) u)) k
    ]

-- terms that bindings make equal have the same heads
alpha_same_head : (ds : Conds) (bs : List Binding) (t u : NominalTerm) → alpha_under ds (under bs t) (under bs u) ≡ true → has_same_head t u ≡ true
alpha_same_head ds bs unit unit h = refl
alpha_same_head ds bs (name a) (name b) h = h
alpha_same_head ds bs (pair t u) (pair v w) h = refl
alpha_same_head ds bs (app f t) (app g u) h = and_left (f == g) (alpha_under ds (under bs t) (under bs u)) h
alpha_same_head ds bs (abs a t) (abs b u) h = sorts_or_equal ds a (under bs t) b (under bs u) h
alpha_same_head ds bs (susp p x) u h = refl
alpha_same_head ds bs unit (susp q y) h = refl
alpha_same_head ds bs (name a) (susp q y) h = refl
alpha_same_head ds bs (pair t u) (susp q y) h = refl
alpha_same_head ds bs (app f t) (susp q y) h = refl
alpha_same_head ds bs (abs a t) (susp q y) h = refl
alpha_same_head ds bs _ _ h = absurd (true≢false (sym h))

all_same_heads : (ds : Conds) (bs cs : List Binding) → ((t : NominalTerm) → under cs (under bs t) ≡ under cs t) → (ts us : List NominalTerm)
    → equal_all_under ds cs ts us ≡ true → have_same_heads bs ts us ≡ true
all_same_heads ds bs cs e [] us h = refl
all_same_heads ds bs cs e (t ∷ ts) [] h = refl
all_same_heads ds bs cs e (t ∷ ts) (u ∷ us) h =
    and_both (has_same_head (under bs t) (under bs u)) (have_same_heads bs ts us)
    (alpha_same_head ds cs (under bs t) (under bs u) (ap₂ (alpha_under ds) (e t) (e u) ∙ and_left (alpha_under ds (under cs t) (under cs u)) (equal_all_under ds cs ts us) h))
    (all_same_heads ds bs cs e ts us (and_right (alpha_under ds (under cs t) (under cs u)) (equal_all_under ds cs ts us) h))

-- where a head differs, unification gives nothing
pub unify_heads : (bs : List Binding) (ds : Conds) (ts us : List NominalTerm) → IsIdempotent bs → have_same_heads bs ts us ≡ false → unify bs ds ts us ≡ None
unify_heads bs ds ts us i h = refused (unify bs ds ts us) (λ r e. all_same_heads r.conditions bs r.bindings (under_unify bs ds ts us r i e) ts us (unify_equal_all bs ds ts us r i e))
  where
    refused : (o : Option Unified) → ((r : Unified) → o ≡ Some r → have_same_heads bs ts us ≡ true) → o ≡ None
    refused None k = refl
    refused (Some r) k = absurd (true≢false (sym (k r refl) ∙ h))

-- The conditions of a result are a set.
abbrev HasSet : Option Unified → Type 0
HasSet None = Unit {0}
HasSet (Some r) = add_conds r.conditions [] ≡ r.conditions

with_set : (bs : List Binding) (o : Option (List Cond)) → HasSet (unified_under bs o)
with_set bs None = tt
with_set bs (Some cs) = add_conds_twice cs

finish_set : (ds : Conds) (e : Ending) → HasSet (finish ds e)
finish_set ds unfinished = tt
finish_set ds unsolvable = tt
finish_set ds (solved r) = with_set r.bindings (reduce_all r.bindings (map problem_of ds ++ r.problems))

pub unify_set : (bs : List Binding) (ds : Conds) (ts us : List NominalTerm) (r : Unified) → unify bs ds ts us ≡ Some r
    → add_conds r.conditions [] ≡ r.conditions
unfolding unify
unify_set bs ds ts us r e = subst HasSet e (finish_set ds (ending (first_stage bs ts us)))
