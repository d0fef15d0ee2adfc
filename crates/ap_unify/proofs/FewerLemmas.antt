-- Each step leaves fewer steps that suffice, and so does an equation that is left out. Problems don't matter to them.
use Rattle.std.proofs.Common.{subst, ◌≡◌, ◌≢◌, ◌⊎◌, ◌+◌, ◌*◌, ◌<◌, ◌≤◌, ℕ, zero, suc, true, false, ◌||◌, List, [], ◌∷◌, ◌++◌, map, length, refl, sym, ap, ◌∙◌, inl, inr, arith, mul-le-mul, true≢false}
use Rattle.std.specs.Prelude.{if◌then◌else◌}
use Rattle.std.proofs.lemmas.Bool.Decides.{nat_tests}
use Rattle.ap_defs.specs.Freshness.{var_eq}
use Rattle.ap_defs.specs.Occurrences.{without_var}
use Rattle.ap_defs.specs.Substitution.{Binding, Equation, Problem, occurs, put, put_equation, ◌≐◌}
use Rattle.ap_defs.specs.Terms.{NominalTerm, abs, act_term, app, name, pair, susp, unit}
use Rattle.ap_defs.specs.Unification.{Progress, Rule, Stage, apply_rule, bind, clash, distinct_vars, done, enough, failed, has_var, next, replace, rule, size, size_of, step, step_of, steps_for, vars_of, vars_then}
use Rattle.ap_defs.specs.declared.terms.Var.{Var}
use Rattle.ap_theory.specs.Variables.{EachVar}
use Rattle.ap_theory.proofs.BooleanLemmas.{or_cases, or_if_left, or_if_right, or_right}
use Rattle.ap_theory.proofs.TermLemmas.{same_var, size_act_term, size_pos, var_same}
use Rattle.ap_theory.proofs.TerminationLemmas.{Shrinks, rule_shrinks}
use Rattle.ap_theory.proofs.VariableLemmas.{EachEquation, each_equation-append, each_equation_put, each_pair, each_susp, not_var, occurs_apart}

enough_more : (n k m j : ℕ) → n ≤ k → m ≤ j → enough n m ≤ enough k j
enough_more zero zero m j h l = omega arith
enough_more zero (suc k) m j h l = omega arith
enough_more (suc n) zero m j h l = absurd (omega arith)
enough_more (suc n) (suc k) m j h l =
    let s : m * m ≤ j * j = mul-le-mul l l in
    let a : enough n (m * m) ≤ enough k (j * j) = enough_more n k (m * m) (j * j) (omega arith) s in
    omega arith

enough_fewer : (n k m j : ℕ) → n ≤ k → m < j → enough n m < enough k j
enough_fewer zero zero m j h l = omega arith
enough_fewer zero (suc k) m j h l = omega arith
enough_fewer (suc n) zero m j h l = absurd (omega arith)
enough_fewer (suc n) (suc k) m j h l =
    let le : m ≤ j = omega arith in
    let s : m * m ≤ j * j = mul-le-mul le le in
    let a : enough n (m * m) ≤ enough k (j * j) = enough_more n k (m * m) (j * j) (omega arith) s in
    omega arith

enough_bound : (n k m j : ℕ) → n < k → m ≤ j * j → enough n m < enough k j
enough_bound n zero m j h l = absurd (omega arith)
enough_bound n (suc k) m j h l =
    let a : enough n m ≤ enough k (j * j) = enough_more n k m (j * j) (omega arith) l in
    omega arith

-- The size where a term is put for a variable.
size_put : (x : Var) (v : NominalTerm) (t : NominalTerm) → size (put x v t) ≤ size t * size v
size_put x v unit = let h = size_pos v in omega arith
size_put x v (name a) = let h = size_pos v in omega arith
size_put x v (pair t u) = let h = size_pos v in let a = size_put x v t in let b = size_put x v u in omega arith
size_put x v (app f t) = let h = size_pos v in let a = size_put x v t in omega arith
size_put x v (abs n t) = let h = size_pos v in let a = size_put x v t in omega arith
size_put x v (susp p y) =
    elim (var_eq x y) as (λ b. size (if b then act_term p v else susp p y) ≤ 1 * size v) [
      | true ↦ let h = size_act_term p v in omega arith
      | false ↦ let h = size_pos v in omega arith
    ]

size_put_all : (x : Var) (v : NominalTerm) (es : List Equation) → size_of (map (put_equation x v) es) ≤ size_of es * size v
size_put_all x v [] = omega arith
size_put_all x v ((t ≐ u) ∷ es) = let a = size_put x v t in let b = size_put x v u in let c = size_put_all x v es in omega arith

size_of-append : (es fs : List Equation) → size_of (es ++ fs) ≡ size_of es + size_of fs
size_of-append [] fs = omega arith
size_of-append ((t ≐ u) ∷ es) fs = let h = size_of-append es fs in omega arith

-- Without a variable, one fewer is left.
length_without_var : (x : Var) (ys : List Var) → length (without_var x ys) ≤ length ys
length_without_var x [] = omega arith
length_without_var x (y ∷ ys) =
    let h = length_without_var x ys in
    elim (var_eq x y) as (λ b. length (if b then without_var x ys else (y ∷ without_var x ys)) ≤ suc (length ys)) [ true ↦ omega arith | false ↦ omega arith ]

shorter_without_var : (x : Var) (ys : List Var) → has_var x ys ≡ true → length (without_var x ys) < length ys
shorter_without_var x [] h = cc
shorter_without_var x (y ∷ ys) h =
    elim (var_eq x y) as (λ b. (b || has_var x ys) ≡ true → length (if b then without_var x ys else (y ∷ without_var x ys)) < suc (length ys)) [
      | true ↦ λ k. let l = length_without_var x ys in omega arith
      | false ↦ λ k. let l = shorter_without_var x ys k in omega arith
    ] h

has_without_var : (x y : Var) (ys : List Var) → var_eq x y ≡ false → has_var y ys ≡ true → has_var y (without_var x ys) ≡ true
has_without_var x y [] e h = h
has_without_var x y (z ∷ zs) e h =
    elim (var_eq x z) as (λ b. var_eq x z ≡ b → has_var y (if b then without_var x zs else (z ∷ without_var x zs)) ≡ true) [
      | true ↦ λ k. has_without_var x y zs e (or_right (var_eq y z) (has_var y zs) (let q = var_same x z k in grind (arith, nat_tests)) h)
      | false ↦ λ k. elim (var_eq y z) as (λ c. (c || has_var y zs) ≡ true → (c || has_var y (without_var x zs)) ≡ true) [ true ↦ λ l. refl | false ↦ λ l. has_without_var x y zs e l ] h
    ] refl

abbrev Among : List Var → Var → Type 0
Among vs x = has_var x vs ≡ true

abbrev IsPart : List Var → List Var → Type 0
IsPart xs ys = (x : Var) → has_var x xs ≡ true → has_var x ys ≡ true

among_without_var : (x : Var) (vs : List Var) (y : Var) → Among vs y → x ≢ y → Among (without_var x vs) y
among_without_var x vs y h n = has_without_var x y vs (not_var x y n) h

each_without_var : (x : Var) (vs : List Var) (t : NominalTerm) → occurs x t ≡ false → EachVar (Among vs) t → EachVar (Among (without_var x vs)) t
each_without_var x vs t h k y o = among_without_var x vs y (k y o) (occurs_apart x y t h o)

has_itself : (x : Var) (xs : List Var) → has_var x (x ∷ xs) ≡ true
has_itself x xs = or_if_left (var_eq x x) (has_var x xs) (same_var x x refl)

has_later : (x y : Var) (xs : List Var) → has_var x xs ≡ true → has_var x (y ∷ xs) ≡ true
has_later x y xs h = or_if_right (var_eq x y) (has_var x xs) h

-- one that stands in a list is not one that doesn't
apart_from : (x y : Var) (xs : List Var) → has_var x xs ≡ true → has_var y xs ≡ false → var_eq y x ≡ false
apart_from x y xs h k = not_var y x (λ e. true≢false (sym h ∙ ap (λ z. has_var z xs) (sym e) ∙ k))

-- variables without repeats are no more than those of a list that has all of them
fewest : (xs ys : List Var) → IsPart xs ys → length (distinct_vars xs) ≤ length ys
fewest [] ys h = omega arith
fewest (y ∷ xs) ys h =
    elim (has_var y xs) as (λ b. has_var y xs ≡ b → length (if b then distinct_vars xs else (y ∷ distinct_vars xs)) ≤ length ys) [
      | true ↦ λ e. fewest xs ys (λ x k. h x (has_later x y xs k))
      | false ↦ λ e.
          let a = fewest xs (without_var y ys) (λ x k. has_without_var y x ys (apart_from x y xs k e) (h x (has_later x y xs k))) in
          let b = shorter_without_var y ys (h y (has_itself y xs)) in
          omega arith
    ] refl

-- The variables of the equations are all in their list, and no others.
within_vars : (ys : List Var) (t : NominalTerm) (xs : List Var) → IsPart (vars_then t xs) ys → EachVar (Among ys) t × IsPart xs ys
within_vars ys unit xs h = ((λ x o. cc), h)
within_vars ys (name a) xs h = ((λ x o. cc), h)
within_vars ys (pair t u) xs h = let a = within_vars ys t (vars_then u xs) h in let b = within_vars ys u xs a.1 in (each_pair (Among ys) t u a.0 b.0, b.1)
within_vars ys (app f t) xs h = within_vars ys t xs h
within_vars ys (abs a t) xs h = within_vars ys t xs h
within_vars ys (susp p x) xs h = (each_susp (Among ys) p x (h x (has_itself x xs)), λ y k. h y (has_later y x xs k))

all_within_vars : (ys : List Var) (es : List Equation) → IsPart (vars_of es) ys → EachEquation (Among ys) es
all_within_vars ys [] h = tt
all_within_vars ys ((t ≐ u) ∷ es) h =
    let a = within_vars ys t (vars_then u (vars_of es)) h in
    let b = within_vars ys u (vars_of es) a.1 in
    ((a.0, b.0), all_within_vars ys es b.1)

distinct_part : (xs : List Var) → IsPart xs (distinct_vars xs)
distinct_part [] x h = h
distinct_part (y ∷ ys) x h =
    elim (has_var y ys) as (λ b. has_var y ys ≡ b → has_var x (if b then distinct_vars ys else (y ∷ distinct_vars ys)) ≡ true) [
      | true ↦ λ e. distinct_part ys x (elim (or_cases (var_eq x y) (has_var x ys) h) [ inl k ↦ ap (λ z. has_var z ys) (var_same x y k) ∙ e | inr k ↦ k ])
      | false ↦ λ e. elim (or_cases (var_eq x y) (has_var x ys) h) [
        | inl k ↦ or_if_left (var_eq x y) (has_var x (distinct_vars ys)) k
        | inr k ↦ or_if_right (var_eq x y) (has_var x (distinct_vars ys)) (distinct_part ys x k)
      ]
    ] refl

in_term : (x : Var) (t : NominalTerm) (xs : List Var) → has_var x (vars_then t xs) ≡ true → (occurs x t ≡ true) ⊎ (has_var x xs ≡ true)
in_term x unit xs h = inr h
in_term x (name a) xs h = inr h
in_term x (pair t u) xs h =
    elim (in_term x t (vars_then u xs) h) [
      | inl e ↦ inl (or_if_left (occurs x t) (occurs x u) e)
      | inr k ↦ elim (in_term x u xs k) [ inl e ↦ inl (or_if_right (occurs x t) (occurs x u) e) | inr l ↦ inr l ]
    ]
in_term x (app f t) xs h = in_term x t xs h
in_term x (abs a t) xs h = in_term x t xs h
in_term x (susp p y) xs h = or_cases (var_eq x y) (has_var x xs) h

vars_part : (ys : List Var) (es : List Equation) → EachEquation (Among ys) es → IsPart (vars_of es) ys
vars_part ys [] h x k = cc
vars_part ys ((t ≐ u) ∷ es) h x k =
    elim (in_term x t (vars_then u (vars_of es)) k) [
      | inl e ↦ h.0.0 x e
      | inr l ↦ elim (in_term x u (vars_of es) l) [ inl e ↦ h.0.1 x e | inr i ↦ vars_part ys es h.1 x i ]
    ]

abbrev vars_in : List Equation → List Var
vars_in es = distinct_vars (vars_of es)

abbrev FewerAfter : ℕ → Progress → Type 0
FewerAfter k done = Unit {0}
FewerAfter k failed = Unit {0}
FewerAfter k (next s) = enough (length (vars_in s.equations)) (size_of s.equations) < k

fewer_by_rule : (vs : List Var) (m n : ℕ) (r : Rule) (es : List Equation) (ps : List Problem) (bs : List Binding) → Shrinks (Among vs) n r → EachEquation (Among vs) es → n + size_of es ≤ m
    → FewerAfter (enough (length vs) m) (apply_rule r es ps bs)
fewer_by_rule vs m n (replace new qs) es ps bs r h l =
    enough_fewer (length (vars_in (new ++ es))) (length vs) (size_of (new ++ es)) m
    (fewest (vars_of (new ++ es)) vs (vars_part vs (new ++ es) (each_equation-append (Among vs) new es r.1 h)))
    (let e = size_of-append new es in let f = r.0 in omega arith)
fewer_by_rule vs m n (bind x v) es ps bs r h l =
    let fs = map (put_equation x v) es in
    let ws = without_var x vs in
    let w = each_without_var x vs v r.2 r.1 in
    let part = vars_part ws fs (each_equation_put (Among vs) (Among ws) x v (among_without_var x vs) w es h) in
    let few = fewest (vars_of fs) ws part in
    let one = shorter_without_var x vs r.0 in
    enough_bound (length (vars_in fs)) (length vs) (size_of fs) m
    (omega arith)
    (let a = size_put_all x v es in
    let b : size_of es * size v ≤ m * m = mul-le-mul (let f = r.3 in omega arith) (let f = r.3 in omega arith) in
    omega arith)
fewer_by_rule vs m n clash es ps bs r h l = tt

fewer_step : (es : List Equation) (ps : List Problem) (bs : List Binding) → FewerAfter (enough (length (vars_in es)) (size_of es)) (step_of es ps bs)
fewer_step [] ps bs = tt
fewer_step ((t ≐ u) ∷ es) ps bs =
    let fs = (t ≐ u) ∷ es in
    let vs = vars_in fs in
    let h = all_within_vars vs fs (distinct_part (vars_of fs)) in
    fewer_by_rule vs (size_of fs) (size t + size u) (rule t u) es ps bs (rule_shrinks (Among vs) t u h.0.0 h.0.1) h.1 (omega arith)

-- The steps that suffice, by which a loop that takes them ends.
unfoldable pub steps_to_end : Stage → ℕ
steps_to_end s = steps_for s

pub step_fewer : (s r : Stage) → step s ≡ next r → steps_to_end r < steps_to_end s
unfolding steps_to_end
step_fewer s r e = subst (FewerAfter (steps_for s)) e (fewer_step s.equations s.problems s.bindings)

pub without_fewer : (t u : NominalTerm) (es : List Equation) (ps : List Problem) (bs : List Binding)
    → steps_to_end (record { equations = es; problems = ps; bindings = bs }) < steps_to_end (record { equations = (t ≐ u) ∷ es; problems = ps; bindings = bs })
unfolding steps_to_end
without_fewer t u es ps bs =
    let fs = (t ≐ u) ∷ es in
    let vs = vars_in fs in
    let h = all_within_vars vs fs (distinct_part (vars_of fs)) in
    let k = size_pos t in
    enough_fewer (length (vars_in es)) (length vs) (size_of es) (size_of fs) (fewest (vars_of es) vs (vars_part vs es h.1)) (omega arith)

-- problems don't matter
pub steps_alike : (s : Stage) (ps : List Problem) → steps_to_end (record { equations = s.equations; problems = ps; bindings = s.bindings }) ≡ steps_to_end s
unfolding steps_to_end
steps_alike s ps = refl
