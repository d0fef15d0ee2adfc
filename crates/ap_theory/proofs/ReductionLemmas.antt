-- The conditions to which a freshness problem reduces are the least under which the name is fresh.
use Rattle.std.proofs.Common.{◌≡◌, ◌≢◌, ◌⊎◌, true, false, ◌&&◌, ◌||◌, not, List, [], ◌∷◌, ◌++◌, map, refl, sym, ap, ap₂, ◌∙◌, inl, inr, append_assoc, append-nil, ◌↔◌}
use Rattle.std.specs.Prelude.{is_none, if◌then◌else◌, Option, Some, None}
use Rattle.ap_defs.specs.Freshness.{both, reduce}
use Rattle.ap_defs.specs.Permutations.{act_name, inverse, name_eq}
use Rattle.ap_defs.specs.Substitution.{Binding, Problem, bound_term, moved, under, ◌#◌}
use Rattle.ap_defs.specs.Terms.{NominalTerm, abs, act_term, app, name, pair, susp, unit}
use Rattle.ap_defs.specs.Unification.{problem_of, reduce_all}
use Rattle.ap_defs.specs.declared.terms.Cond.{Cond}
use Rattle.ap_defs.specs.declared.terms.Name.{Name}
use Rattle.ap_defs.specs.declared.terms.Swap.{Swap}
use Rattle.ap_defs.specs.declared.terms.Var.{Var}
use Rattle.ap_theory.specs.Contexts.{Context, Fresh}
use Rattle.ap_theory.specs.StatementsOnConditions.{is_free, reduce_again}
use Rattle.ap_theory.specs.Substitutions.{Meets, MeetsSome, Substitution, applied, variables}
use Rattle.ap_theory.proofs.EqualityLemmas.{Fresh_act, act_Fresh}
use Rattle.ap_theory.proofs.LogicLemmas.{iff_both, iff_itself, iff_nothing, iff_same, iff_sym, iff_trans}
use Rattle.ap_theory.proofs.PermutationLemmas.{act-append, inverse-append, name_eq_moved, name_tells}
use Rattle.ap_theory.proofs.SubstitutionLemmas.{applied_variables}
use Rattle.ap_theory.proofs.TermLemmas.{act_term_none}

module _ (d : Context) (s : Substitution) where
  pub Meets-append : (cs ds : List Cond) → Meets d s (cs ++ ds) ↔ (Meets d s cs × Meets d s ds)
  Meets-append [] ds = ((λ h. (tt, h)), (λ h. h.1))
  Meets-append (c ∷ cs) ds =
      let k : Meets d s (cs ++ ds) ↔ (Meets d s cs × Meets d s ds) = Meets-append cs ds in
      ((λ h. ((h.0, (k.0 h.1).0), (k.0 h.1).1)), (λ h. (h.0.0, k.1 (h.0.1, h.1))))

  pub MeetsSome_both : (o p : Option (List Cond)) → MeetsSome d s (both o p) ↔ (MeetsSome d s o × MeetsSome d s p)
  MeetsSome_both None p = ((λ h. absurd h), (λ h. h.0))
  MeetsSome_both (Some cs) None = ((λ h. absurd h), (λ h. h.1))
  MeetsSome_both (Some cs) (Some ds) = Meets-append cs ds

  -- a name is fresh for what a substitution makes of a term just where the conditions are met to which this reduces
  pub Fresh_reduce : (a : Name) (t : NominalTerm) → Fresh d a (applied s t) ↔ MeetsSome d s (reduce a t)
  Fresh_reduce a unit = iff_itself
  Fresh_reduce a (name b) =
      elim (name_tells a b) [
        | inl w ↦ rw w.0 (iff_nothing (λ h. h w.1))
        | inr w ↦ rw w.0 ((λ h. tt), (λ h. w.1))
      ]
  Fresh_reduce a (pair t u) = iff_trans (iff_both (Fresh_reduce a t) (Fresh_reduce a u)) (iff_sym (MeetsSome_both (reduce a t) (reduce a u)))
  Fresh_reduce a (app f t) = Fresh_reduce a t
  Fresh_reduce a (abs b t) =
      elim (name_tells a b) [
        | inl w ↦ rw w.0 ((λ h. tt), (λ h. inl w.1))
        | inr w ↦ rw w.0 (iff_trans ((λ h. or_else (Fresh d a (applied s t)) w.1 h), (λ h. inr h)) (Fresh_reduce a t))
      ]
    where
      or_else : {a b : Name} (A : Type 0) → a ≢ b → (a ≡ b) ⊎ A → A
      or_else A n (inl e) = absurd (n e)
      or_else A n (inr h) = h
  Fresh_reduce a (susp p x) = ((λ h. (Fresh_act d p a (s x) h, tt)), (λ h. act_Fresh d p a (s x) h.0))

pub Fresh_reduce_variables : (d : Context) (a : Name) (t : NominalTerm) → Fresh d a t ↔ MeetsSome d variables (reduce a t)
Fresh_reduce_variables d a t = iff_trans (iff_same (Fresh d a) (sym (applied_variables t))) (Fresh_reduce d variables a t)

pub is_none_both : (o p : Option (List Cond)) → is_none (both o p) ≡ (is_none o || is_none p)
is_none_both None p = refl
is_none_both (Some cs) None = refl
is_none_both (Some cs) (Some ds) = refl

-- a problem is refuted just where the name is free in the term
pub is_none_reduce : (a : Name) (t : NominalTerm) → is_none (reduce a t) ≡ is_free a t
is_none_reduce a unit = refl
is_none_reduce a (name b) = elim (name_eq a b) as (λ v. is_none {T = List Cond} (if v then None else Some []) ≡ v) [ true ↦ refl | false ↦ refl ]
is_none_reduce a (pair t u) = is_none_both (reduce a t) (reduce a u) ∙ ap₂ ◌||◌ (is_none_reduce a t) (is_none_reduce a u)
is_none_reduce a (app f t) = is_none_reduce a t
is_none_reduce a (abs b t) = elim (name_eq a b) as (λ v. is_none {T = List Cond} (if v then Some [] else reduce a t) ≡ (not v && is_free a t)) [ true ↦ refl | false ↦ is_none_reduce a t ]
is_none_reduce a (susp p x) = refl

pub reduce_act : (p : List Swap) (a : Name) (t : NominalTerm) → reduce a (act_term p t) ≡ reduce (act_name (inverse p) a) t
reduce_act p a unit = refl
reduce_act p a (name b) = ap (λ v. if v then None else Some []) (name_eq_moved p a b)
reduce_act p a (pair t u) = ap₂ both (reduce_act p a t) (reduce_act p a u)
reduce_act p a (app f t) = reduce_act p a t
reduce_act p a (abs b t) = ap₂ (λ v o. if v then Some [] else o) (name_eq_moved p a b) (reduce_act p a t)
reduce_act p a (susp q x) = ap (λ b. Some (record { name = b; var = x } ∷ [])) (ap (λ r. act_name r a) (inverse-append p q) ∙ act-append (inverse q) (inverse p) a)

both_nothing : (o : Option (List Cond)) → both o None ≡ None
both_nothing None = refl
both_nothing (Some cs) = refl

both_empty : (o : Option (List Cond)) → both o (Some []) ≡ o
both_empty None = refl
both_empty (Some cs) = ap Some (append-nil cs)

both_assoc : (o p q : Option (List Cond)) → both (both o p) q ≡ both o (both p q)
both_assoc None p q = refl
both_assoc (Some cs) None q = refl
both_assoc (Some cs) (Some ds) None = refl
both_assoc (Some cs) (Some ds) (Some es) = ap Some (append_assoc cs ds es)

pub reduce_all-append : (bs : List Binding) (ps qs : List Problem) → reduce_all bs (ps ++ qs) ≡ both (reduce_all bs ps) (reduce_all bs qs)
reduce_all-append bs [] qs = empty_both (reduce_all bs qs)
  where
    empty_both : (o : Option (List Cond)) → o ≡ both (Some []) o
    empty_both None = refl
    empty_both (Some cs) = refl
reduce_all-append bs ((a # t) ∷ ps) qs = ap (both (reduce a (under bs t))) (reduce_all-append bs ps qs) ∙ sym (both_assoc (reduce a (under bs t)) (reduce_all bs ps) (reduce_all bs qs))

pub both_again : (bs : List Binding) (o p : Option (List Cond)) → both (reduce_again bs o) (reduce_again bs p) ≡ reduce_again bs (both o p)
both_again bs None p = refl
both_again bs (Some cs) None = both_nothing (reduce_all bs (map problem_of cs))
both_again bs (Some cs) (Some ds) = sym (reduce_all-append bs (map problem_of cs) (map problem_of ds)) ∙ ap (reduce_all bs) (sym (map_problem_of cs ds))
  where
    map_problem_of : (es fs : List Cond) → map problem_of (es ++ fs) ≡ map problem_of es ++ map problem_of fs
    map_problem_of [] fs = refl
    map_problem_of (e ∷ es) fs = ap (λ ps. problem_of e ∷ ps) (map_problem_of es fs)

reduce_moved : (p : List Swap) (a : Name) (x : Var) (o : Option NominalTerm) → reduce a (moved p x o) ≡ reduce (act_name (inverse p) a) (moved [] x o)
reduce_moved p a x None = refl
reduce_moved p a x (Some t) = reduce_act p a t ∙ sym (ap (reduce (act_name (inverse p) a)) (act_term_none t))

-- it doesn't matter whether a problem is reduced before or after the bindings are carried out
pub reduce_under : (bs : List Binding) (a : Name) (t : NominalTerm) → reduce a (under bs t) ≡ reduce_again bs (reduce a t)
reduce_under bs a unit = refl
reduce_under bs a (name b) = elim (name_eq a b) as (λ v. (if v then None else Some []) ≡ reduce_again bs (if v then None else Some [])) [ true ↦ refl | false ↦ refl ]
reduce_under bs a (pair t u) = ap₂ both (reduce_under bs a t) (reduce_under bs a u) ∙ both_again bs (reduce a t) (reduce a u)
reduce_under bs a (app f t) = reduce_under bs a t
reduce_under bs a (abs b t) = elim (name_eq a b) as (λ v. (if v then Some [] else reduce a (under bs t)) ≡ reduce_again bs (if v then Some [] else reduce a t)) [ true ↦ refl | false ↦ reduce_under bs a t ]
reduce_under bs a (susp p x) = reduce_moved p a x (bound_term bs x) ∙ sym (both_empty (reduce (act_name (inverse p) a) (moved [] x (bound_term bs x))))
