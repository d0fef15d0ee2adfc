-- Terms that count as equal, and what rules and reductions make of them.
use Rattle.std.proofs.Common.{subst, ◌≡◌, true, false, ◌||◌, List, [], ◌∷◌, ◌++◌, map, refl, sym, ap, ap₂, ◌∙◌, ◌↔◌}
use Rattle.std.specs.Prelude.{if◌then◌else◌, nat_lt, ◌==◌, Option, Some}
use Rattle.ap_defs.specs.Canonical.{canonical_term}
use Rattle.ap_defs.specs.Freshness.{Conds, both, reduce, var_eq}
use Rattle.ap_defs.specs.Permutations.{IsSamePerm, act_name, disagreement, inverse, name_eq, swap_of}
use Rattle.ap_defs.specs.SameTerm.{SameBindings, SameEquations, SameProblems, SameRule, SameTerm, next_binding, next_equation, next_problem, no_bindings, no_equations, no_problems, same_abs, same_app, same_bind, same_clash, same_name, same_pair, same_replace, same_susp, same_unit}
use Rattle.ap_defs.specs.Substitution.{Binding, Equation, Problem, occurs, put, put_binding, put_equation, put_problem, ◌#◌, ◌≐◌}
use Rattle.ap_defs.specs.Terms.{NominalTerm, abs, act_term, app, name, pair, susp, unit}
use Rattle.ap_defs.specs.Unification.{bind, clash, fresh_for, problem_of, replace, rule, unless_occurs}
use Rattle.ap_defs.specs.declared.terms.Cond.{Cond}
use Rattle.ap_defs.specs.declared.terms.Name.{Name}
use Rattle.ap_defs.specs.declared.terms.Swap.{Swap}
use Rattle.ap_defs.specs.declared.terms.Var.{Var}
use Rattle.ap_theory.proofs.CanonicalLemmas.{canonical_act, canonical_same}
use Rattle.ap_theory.proofs.DisagreementLemmas.{disagreement_same}
use Rattle.ap_theory.proofs.PermutationLemmas.{act-append, act_inverse, act_swap, append_same, inverse_act, inverse_same}
use Rattle.ap_theory.proofs.TermLemmas.{act_term-append, act_term_none}

pub act_same : (p q : List Swap) → IsSamePerm p q → {t u : NominalTerm} → SameTerm t u → SameTerm (act_term p t) (act_term q u)
act_same p q h same_unit = same_unit
act_same p q h (same_name {a}) = subst (λ (x : Name). SameTerm (name (act_name p a)) (name x)) (h a) same_name
act_same p q h (same_pair i j) = same_pair (act_same p q h i) (act_same p q h j)
act_same p q h (same_app i) = same_app (act_same p q h i)
act_same p q h (same_abs {a} {t} {u} i) = subst (λ (x : Name). SameTerm (abs (act_name p a) (act_term p t)) (abs x (act_term q u))) (h a) (same_abs (act_same p q h i))
act_same p q h (same_susp {p = r} {q = s} i) = same_susp (append_same p r q s h i)

pub occurs_same : (x : Var) {t u : NominalTerm} → SameTerm t u → occurs x t ≡ occurs x u
occurs_same x same_unit = refl
occurs_same x same_name = refl
occurs_same x (same_pair i j) = ap₂ ◌||◌ (occurs_same x i) (occurs_same x j)
occurs_same x (same_app i) = occurs_same x i
occurs_same x (same_abs i) = occurs_same x i
occurs_same x (same_susp i) = refl

pub put_same : (x : Var) {v w : NominalTerm} → SameTerm v w → {t u : NominalTerm} → SameTerm t u → SameTerm (put x v t) (put x w u)
put_same x h same_unit = same_unit
put_same x h same_name = same_name
put_same x h (same_pair i j) = same_pair (put_same x h i) (put_same x h j)
put_same x h (same_app i) = same_app (put_same x h i)
put_same x h (same_abs i) = same_abs (put_same x h i)
put_same x {v} {w} h (same_susp {p} {q} {x = y} i) =
    elim (var_eq x y) as (λ b. SameTerm (if b then act_term p v else susp p y) (if b then act_term q w else susp q y)) [ true ↦ act_same p q i h | false ↦ same_susp i ]

bind_same : (x : Var) (p q : List Swap) → IsSamePerm p q → {t u : NominalTerm} → SameTerm t u
    → SameRule (unless_occurs x t (act_term (inverse p) t)) (unless_occurs x u (act_term (inverse q) u))
bind_same x p q h {t} {u} i =
    rw (occurs_same x i) (elim (occurs x u) as (λ b. SameRule (if b then clash else bind x (act_term (inverse p) t)) (if b then clash else bind x (act_term (inverse q) u))) [
      | true ↦ same_clash
      | false ↦ same_bind (act_same (inverse p) (inverse q) (inverse_same p q h) i)
    ])

problems_same : (x : Var) (cs : List Name) → SameProblems (map (fresh_for x) cs) (map (fresh_for x) cs)
problems_same x [] = no_problems
problems_same x (c ∷ cs) = next_problem (same_susp (λ a. refl)) (problems_same x cs)

-- the rule for equations that count as equal
pub rule_same : {t u v w : NominalTerm} → SameTerm t v → SameTerm u w → SameRule (rule t u) (rule v w)
rule_same same_unit same_unit = same_replace no_equations no_problems
rule_same (same_name {a}) (same_name {a = b}) = elim (name_eq a b) as (λ v. SameRule (if v then replace [] [] else clash) (if v then replace [] [] else clash)) [ true ↦ same_replace no_equations no_problems | false ↦ same_clash ]
rule_same (same_pair h i) (same_pair j k) = same_replace (next_equation h j (next_equation i k no_equations)) no_problems
rule_same (same_app {f} {t} {u = v} h) (same_app {f = g} {t = u} {u = w} i) =
    elim (f == g) as (λ b. SameRule (if b then replace ((t ≐ u) ∷ []) [] else clash) (if b then replace ((v ≐ w) ∷ []) [] else clash)) [ true ↦ same_replace (next_equation h i no_equations) no_problems | false ↦ same_clash ]
rule_same (same_abs {a} {t} {u = v} h) (same_abs {a = b} {t = u} {u = w} i) =
    elim (name_eq a b) as (λ c. SameRule (if c then replace ((t ≐ u) ∷ []) [] else (if a.sort == b.sort then replace ((t ≐ act_term (swap_of a b ∷ []) u) ∷ []) ((a # u) ∷ []) else clash)) (if c then replace ((v ≐ w) ∷ []) [] else (if a.sort == b.sort then replace ((v ≐ act_term (swap_of a b ∷ []) w) ∷ []) ((a # w) ∷ []) else clash))) [
      | true ↦ same_replace (next_equation h i no_equations) no_problems
      | false ↦ elim (a.sort == b.sort) as (λ c. SameRule (if c then replace ((t ≐ act_term (swap_of a b ∷ []) u) ∷ []) ((a # u) ∷ []) else clash) (if c then replace ((v ≐ act_term (swap_of a b ∷ []) w) ∷ []) ((a # w) ∷ []) else clash)) [
        | true ↦ same_replace (next_equation h (act_same (swap_of a b ∷ []) (swap_of a b ∷ []) (λ n. refl) i) no_equations) (next_problem i no_problems)
        | false ↦ same_clash
      ]
    ]
rule_same (same_susp {p} {q} {x} h) (same_susp {p = r} {q = s} {x = y} i) =
    elim (var_eq x y) as (λ b. SameRule (if b then replace [] (map (fresh_for x) (disagreement p r)) else (if nat_lt x.num y.num then bind y (susp (inverse r ++ p) x) else bind x (susp (inverse p ++ r) y))) (if b then replace [] (map (fresh_for x) (disagreement q s)) else (if nat_lt x.num y.num then bind y (susp (inverse s ++ q) x) else bind x (susp (inverse q ++ s) y)))) [
      | true ↦ subst (λ (cs : List Name). SameRule (replace [] (map (fresh_for x) (disagreement p r))) (replace [] (map (fresh_for x) cs))) (disagreement_same p r q s h i) (same_replace no_equations (problems_same x (disagreement p r)))
      | false ↦ elim (nat_lt x.num y.num) as (λ b. SameRule (if b then bind y (susp (inverse r ++ p) x) else bind x (susp (inverse p ++ r) y)) (if b then bind y (susp (inverse s ++ q) x) else bind x (susp (inverse q ++ s) y))) [
        | true ↦ same_bind (same_susp (append_same (inverse r) p (inverse s) q (inverse_same r s i) h))
        | false ↦ same_bind (same_susp (append_same (inverse p) r (inverse q) s (inverse_same p q h) i))
      ]
    ]
rule_same (same_susp {p} {q} {x} h) same_unit = bind_same x p q h same_unit
rule_same (same_susp {p} {q} {x} h) (same_name {a}) = bind_same x p q h (same_name {a = a})
rule_same (same_susp {p} {q} {x} h) (same_pair i j) = bind_same x p q h (same_pair i j)
rule_same (same_susp {p} {q} {x} h) (same_app i) = bind_same x p q h (same_app i)
rule_same (same_susp {p} {q} {x} h) (same_abs i) = bind_same x p q h (same_abs i)
rule_same same_unit (same_susp {p} {q} {x} h) = bind_same x p q h same_unit
rule_same (same_name {a}) (same_susp {p} {q} {x} h) = bind_same x p q h (same_name {a = a})
rule_same (same_pair i j) (same_susp {p} {q} {x} h) = bind_same x p q h (same_pair i j)
rule_same (same_app i) (same_susp {p} {q} {x} h) = bind_same x p q h (same_app i)
rule_same (same_abs i) (same_susp {p} {q} {x} h) = bind_same x p q h (same_abs i)
rule_same _ _ = same_clash

-- stages, steps and runs
pub put_equations_same : (x : Var) {v w : NominalTerm} → SameTerm v w → {es fs : List Equation} → SameEquations es fs
    → SameEquations (map (put_equation x v) es) (map (put_equation x w) fs)
put_equations_same x h no_equations = no_equations
put_equations_same x h (next_equation i j k) = next_equation (put_same x h i) (put_same x h j) (put_equations_same x h k)

pub put_problems_same : (x : Var) {v w : NominalTerm} → SameTerm v w → {ps qs : List Problem} → SameProblems ps qs
    → SameProblems (map (put_problem x v) ps) (map (put_problem x w) qs)
put_problems_same x h no_problems = no_problems
put_problems_same x h (next_problem i j) = next_problem (put_same x h i) (put_problems_same x h j)

pub put_bindings_same : (x : Var) {v w : NominalTerm} → SameTerm v w → {r s : List Binding} → SameBindings r s
    → SameBindings (map (put_binding x v) r) (map (put_binding x w) s)
put_bindings_same x h no_bindings = no_bindings
put_bindings_same x h (next_binding i j) = next_binding (put_same x h i) (put_bindings_same x h j)

pub equations_append_same : {es fs gs hs : List Equation} → SameEquations es fs → SameEquations gs hs → SameEquations (es ++ gs) (fs ++ hs)
equations_append_same no_equations k = k
equations_append_same (next_equation i j h) k = next_equation i j (equations_append_same h k)

pub problems_append_same : {ps qs rs ts : List Problem} → SameProblems ps qs → SameProblems rs ts → SameProblems (ps ++ rs) (qs ++ ts)
problems_append_same no_problems k = k
problems_append_same (next_problem i h) k = next_problem i (problems_append_same h k)

-- terms that count as equal
pub same_itself : (t : NominalTerm) → SameTerm t t
same_itself unit = same_unit
same_itself (name a) = same_name
same_itself (pair t u) = same_pair (same_itself t) (same_itself u)
same_itself (app f t) = same_app (same_itself t)
same_itself (abs a t) = same_abs (same_itself t)
same_itself (susp p x) = same_susp (λ a. refl)

pub same_sym : {t u : NominalTerm} → SameTerm t u → SameTerm u t
same_sym same_unit = same_unit
same_sym same_name = same_name
same_sym (same_pair h i) = same_pair (same_sym h) (same_sym i)
same_sym (same_app h) = same_app (same_sym h)
same_sym (same_abs h) = same_abs (same_sym h)
same_sym (same_susp h) = same_susp (λ a. sym (h a))

-- two permutations that are equal to two others, in a row
pub act_act_same : (p q r s : List Swap) (t : NominalTerm) → IsSamePerm (p ++ q) (r ++ s) → SameTerm (act_term p (act_term q t)) (act_term r (act_term s t))
act_act_same p q r s t h =
    subst (λ (z : NominalTerm). SameTerm z (act_term r (act_term s t))) (act_term-append p q t)
    (subst (λ (z : NominalTerm). SameTerm (act_term (p ++ q) t) z) (act_term-append r s t) (act_same (p ++ q) (r ++ s) h (same_itself t)))

pub act_act_none : (p q : List Swap) (t : NominalTerm) → IsSamePerm (p ++ q) [] → SameTerm (act_term p (act_term q t)) t
act_act_none p q t h =
    subst (λ (z : NominalTerm). SameTerm z t) (act_term-append p q t)
    (subst (λ (z : NominalTerm). SameTerm (act_term (p ++ q) t) z) (act_term_none t) (act_same (p ++ q) [] h (same_itself t)))

pub inverse_act_same : (p : List Swap) (t : NominalTerm) → SameTerm (act_term (inverse p) (act_term p t)) t
inverse_act_same p t = act_act_none (inverse p) p t (λ a. act-append (inverse p) p a ∙ inverse_act p a)

pub act_inverse_same : (p : List Swap) (t : NominalTerm) → SameTerm (act_term p (act_term (inverse p) t)) t
act_inverse_same p t = act_act_none p (inverse p) t (λ a. act-append p (inverse p) a ∙ act_inverse p a)

pub act_swap_same : (p : List Swap) (a b : Name) (t : NominalTerm) → a.sort ≡ b.sort
    → SameTerm (act_term p (act_term (swap_of a b ∷ []) t)) (act_term (swap_of (act_name p a) (act_name p b) ∷ []) (act_term p t))
act_swap_same p a b t e = act_act_same p (swap_of a b ∷ []) (swap_of (act_name p a) (act_name p b) ∷ []) p t (λ c. act-append p (swap_of a b ∷ []) c ∙ act_swap p a b c e)

pub same_trans : {t u v : NominalTerm} → SameTerm t u → SameTerm u v → SameTerm t v
same_trans same_unit same_unit = same_unit
same_trans same_name same_name = same_name
same_trans (same_pair h i) (same_pair j k) = same_pair (same_trans h j) (same_trans i k)
same_trans (same_app h) (same_app i) = same_app (same_trans h i)
same_trans (same_abs h) (same_abs i) = same_abs (same_trans h i)
same_trans (same_susp h) (same_susp i) = same_susp (λ a. h a ∙ i a)

-- Terms with canonical lists.
pub canonical_term_same : (t : NominalTerm) → SameTerm (canonical_term t) t
canonical_term_same unit = same_unit
canonical_term_same (name a) = same_name
canonical_term_same (pair t u) = same_pair (canonical_term_same t) (canonical_term_same u)
canonical_term_same (app f t) = same_app (canonical_term_same t)
canonical_term_same (abs a t) = same_abs (canonical_term_same t)
canonical_term_same (susp p x) = same_susp (canonical_act p)

pub same_canonical_term : {t u : NominalTerm} → SameTerm t u → canonical_term t ≡ canonical_term u
same_canonical_term same_unit = refl
same_canonical_term same_name = refl
same_canonical_term (same_pair h i) = ap₂ pair (same_canonical_term h) (same_canonical_term i)
same_canonical_term (same_app {f} h) = ap (app f) (same_canonical_term h)
same_canonical_term (same_abs {a} h) = ap (abs a) (same_canonical_term h)
same_canonical_term (same_susp {p} {q} {x} h) = ap (λ r. susp r x) (canonical_same p q h)

pub same_iff_canonical : (t u : NominalTerm) → SameTerm t u ↔ (canonical_term t ≡ canonical_term u)
same_iff_canonical t u = (
  (λ h. same_canonical_term h),
  (λ e. same_trans (same_sym (canonical_term_same t)) (subst (λ (z : NominalTerm). SameTerm z u) (sym e) (canonical_term_same u))),
)

pub reduce_same : (a : Name) {t u : NominalTerm} → SameTerm t u → reduce a t ≡ reduce a u
reduce_same a same_unit = refl
reduce_same a same_name = refl
reduce_same a (same_pair h i) = ap₂ both (reduce_same a h) (reduce_same a i)
reduce_same a (same_app h) = reduce_same a h
reduce_same a (same_abs {a = b} {t} {u} h) = ap (λ (o : Option (List Cond)). if name_eq a b then Some [] else o) (reduce_same a h)
reduce_same a (same_susp {p} {q} {x} h) = ap (λ (b : Name). Some (record { name = b; var = x } ∷ [])) (inverse_same p q h a)

pub conds_same : (ds : Conds) → SameProblems (map problem_of ds) (map problem_of ds)
conds_same [] = no_problems
conds_same (d ∷ ds) = next_problem (same_susp (λ a. refl)) (conds_same ds)
