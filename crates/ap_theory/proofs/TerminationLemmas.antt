-- Unification ends: the steps that `ending` allows suffice.
use Rattle.std.proofs.Common.{subst, ◌≡◌, ◌≢◌, ◌+◌, ◌*◌, ◌<◌, ◌≤◌, ℕ, zero, suc, true, false, ◌||◌, List, [], ◌∷◌, ◌++◌, map, length, refl, sym, ap, ◌∙◌, arith, mul-le-mul}
use Rattle.std.specs.Prelude.{if◌then◌else◌, nat_lt, ◌==◌}
use Rattle.std.proofs.lemmas.Bool.Decides.{nat_tests}
use Rattle.ap_defs.specs.Freshness.{var_eq}
use Rattle.ap_defs.specs.Occurrences.{without_var}
use Rattle.ap_defs.specs.Permutations.{disagreement, inverse, name_eq, swap_of}
use Rattle.ap_defs.specs.Substitution.{Binding, Equation, Problem, occurs, put, put_binding, put_equation, put_problem, ◌#◌, ◌:=◌, ◌≐◌}
use Rattle.ap_defs.specs.Terms.{NominalTerm, abs, act_term, app, name, pair, susp, unit}
use Rattle.ap_defs.specs.Unification.{Ending, Progress, Rule, Stage, ending_after, apply_rule, bind, clash, distinct_vars, done, ending, enough, failed, fresh_for, has_var, next, replace, rule, run, size, size_of, solved, step, steps_for, unfinished, unless_occurs, unsolvable, vars_of, vars_then}
use Rattle.ap_defs.specs.declared.terms.Swap.{Swap}
use Rattle.ap_defs.specs.declared.terms.Var.{Var}
use Rattle.ap_theory.specs.Variables.{EachVar}
use Rattle.ap_theory.proofs.BooleanLemmas.{or_right}
use Rattle.ap_theory.proofs.TermLemmas.{occurs_act, size_act_term, size_pos, var_eq_flip, var_same}
use Rattle.ap_theory.proofs.VariableLemmas.{EachEquation, EachProblem, each_act, each_equation-append, each_equation_put, each_fresh_for, each_left, each_pair, each_right, each_susp, not_var, occurs_apart, susp_each}

-- More steps change nothing once a run has ended.
abbrev pub HasEnded : Ending → Type 0
HasEnded unfinished = ⊥
HasEnded unsolvable = Unit {0}
HasEnded (solved s) = Unit {0}

after_more : (f g : Stage → Ending) (s : Stage) → ((s' : Stage) → HasEnded (f s') → g s' ≡ f s') → (p : Progress) → HasEnded (ending_after f s p)
    → ending_after g s p ≡ ending_after f s p
after_more f g s go done h = refl
after_more f g s go failed h = refl
after_more f g s go (next s') h = go s' h

pub run_more : (k j : ℕ) (s : Stage) → k ≤ j → HasEnded (run k s) → run j s ≡ run k s
run_more zero j s l h = absurd h
run_more (suc k) zero s l h = absurd (omega arith)
run_more (suc k) (suc j) s l h = after_more (run k) (run j) s (λ s' e. run_more k j s' (omega arith) e) (step s) h

pub run_ended : (k j : ℕ) (s : Stage) → k ≤ j → HasEnded (run k s) → HasEnded (run j s)
run_ended k j s l h = subst HasEnded (sym (run_more k j s l h)) h

size_put : (x : Var) (v : NominalTerm) (t : NominalTerm) → size (put x v t) ≤ size t * size v
size_put x v unit = let h = size_pos v in omega arith
size_put x v (name a) = let h = size_pos v in omega arith
size_put x v (pair t u) = let h = size_pos v in let a = size_put x v t in let b = size_put x v u in omega arith
size_put x v (app f t) = let h = size_pos v in let a = size_put x v t in omega arith
size_put x v (abs n t) = let h = size_pos v in let a = size_put x v t in omega arith
size_put x v (susp p y) =
    elim (var_eq x y) as (λ b. size (if b then act_term p v else susp p y) ≤ 1 * size v) [
      | true ↦ let h = size_act_term p v in omega arith
      | false ↦ let h = size_pos v in omega arith
    ]

size_put_all : (x : Var) (v : NominalTerm) (es : List Equation) → size_of (map (put_equation x v) es) ≤ size_of es * size v
size_put_all x v [] = omega arith
size_put_all x v ((t ≐ u) ∷ es) = let a = size_put x v t in let b = size_put x v u in let c = size_put_all x v es in omega arith

-- What the rule for an equation of size m leaves, whose variables have a property.
abbrev pub Shrinks : (Var → Type 0) → ℕ → Rule → Type 0
Shrinks P m (replace new qs) = (size_of new < m) × EachEquation P new × EachProblem P qs
Shrinks P m (bind x v) = P x × EachVar P v × (occurs x v ≡ false) × (size v ≤ m)
Shrinks P m clash = Unit {0}

module _ (P : Var → Type 0) where
  shrinks_susps : (p : List Swap) (x : Var) (q : List Swap) (y : Var) → P x → P y → Shrinks P 2 (rule (susp p x) (susp q y))
  shrinks_susps p x q y h k =
      elim (var_eq x y) as (λ v. var_eq x y ≡ v → Shrinks P 2 (if v then replace [] (map (fresh_for x) (disagreement p q)) else (if nat_lt x.num y.num then bind y (susp (inverse q ++ p) x) else bind x (susp (inverse p ++ q) y)))) [
        | true ↦ λ e. (omega arith, tt, each_fresh_for P x h (disagreement p q))
        | false ↦ λ e. elim (nat_lt x.num y.num) as (λ w. Shrinks P 2 (if w then bind y (susp (inverse q ++ p) x) else bind x (susp (inverse p ++ q) y))) [
          | true ↦ (k, each_susp P (inverse q ++ p) x h, var_eq_flip y x ∙ e, omega arith)
          | false ↦ (h, each_susp P (inverse p ++ q) y k, e, omega arith)
        ]
      ] refl

  shrinks_bind : (p : List Swap) (x : Var) (u : NominalTerm) (m : ℕ) → P x → EachVar P u → size u ≤ m → Shrinks P m (unless_occurs x u (act_term (inverse p) u))
  shrinks_bind p x u m h k l =
      elim (occurs x u) as (λ v. occurs x u ≡ v → Shrinks P m (if v then clash else bind x (act_term (inverse p) u))) [
        | true ↦ λ e. tt
        | false ↦ λ e. (h, each_act P (inverse p) u k, occurs_act x (inverse p) u ∙ e, let j = size_act_term (inverse p) u in omega arith)
      ] refl

  pub rule_shrinks : (t u : NominalTerm) → EachVar P t → EachVar P u → Shrinks P (size t + size u) (rule t u)
  rule_shrinks unit unit h k = (omega arith, tt, tt)
  rule_shrinks (name a) (name b) h k = elim (name_eq a b) as (λ v. Shrinks P 2 (if v then replace [] [] else clash)) [ true ↦ (omega arith, tt, tt) | false ↦ tt ]
  rule_shrinks (pair t u) (pair v w) h k = (omega arith, ((each_left P t u h, each_left P v w k), ((each_right P t u h, each_right P v w k), tt)), tt)
  rule_shrinks (app f t) (app g u) h k =
      elim (f == g) as (λ v. Shrinks P (size (app f t) + size (app g u)) (if v then replace ((t ≐ u) ∷ []) [] else clash)) [ true ↦ (omega arith, ((h, k), tt), tt) | false ↦ tt ]
  rule_shrinks (abs a t) (abs b u) h k =
      elim (name_eq a b) as (λ v. Shrinks P (size (abs a t) + size (abs b u)) (if v then replace ((t ≐ u) ∷ []) [] else (if a.sort == b.sort then replace ((t ≐ act_term (swap_of a b ∷ []) u) ∷ []) ((a # u) ∷ []) else clash))) [
        | true ↦ (omega arith, ((h, k), tt), tt)
        | false ↦ elim (a.sort == b.sort) as (λ v. Shrinks P (size (abs a t) + size (abs b u)) (if v then replace ((t ≐ act_term (swap_of a b ∷ []) u) ∷ []) ((a # u) ∷ []) else clash)) [
          | true ↦ (let j = size_act_term (swap_of a b ∷ []) u in omega arith, ((h, each_act P (swap_of a b ∷ []) u k), tt), (k, tt))
          | false ↦ tt
        ]
      ]
  rule_shrinks (susp p x) (susp q y) h k = shrinks_susps p x q y (susp_each P p x h) (susp_each P q y k)
  rule_shrinks (susp p x) u h k = shrinks_bind p x u (1 + size u) (susp_each P p x h) k (omega arith)
  rule_shrinks t (susp q y) h k = shrinks_bind q y t (size t + 1) (susp_each P q y k) h (omega arith)
  rule_shrinks _ _ h k = tt

-- Without a variable, one fewer is left.
length_without_var : (x : Var) (ys : List Var) → length (without_var x ys) ≤ length ys
length_without_var x [] = omega arith
length_without_var x (y ∷ ys) = let h = length_without_var x ys in elim (var_eq x y) as (λ b. length (if b then without_var x ys else (y ∷ without_var x ys)) ≤ suc (length ys)) [ true ↦ omega arith | false ↦ omega arith ]

shorter_without_var : (x : Var) (ys : List Var) → has_var x ys ≡ true → length (without_var x ys) < length ys
shorter_without_var x [] h = cc
shorter_without_var x (y ∷ ys) h =
    elim (var_eq x y) as (λ b. (b || has_var x ys) ≡ true → length (if b then without_var x ys else (y ∷ without_var x ys)) < suc (length ys)) [
      | true ↦ λ k. let l = length_without_var x ys in omega arith
      | false ↦ λ k. let l = shorter_without_var x ys k in omega arith
    ] h

has_without_var : (x y : Var) (ys : List Var) → var_eq x y ≡ false → has_var y ys ≡ true → has_var y (without_var x ys) ≡ true
has_without_var x y [] e h = h
has_without_var x y (z ∷ zs) e h =
    elim (var_eq x z) as (λ b. var_eq x z ≡ b → has_var y (if b then without_var x zs else (z ∷ without_var x zs)) ≡ true) [
      | true ↦ λ k. has_without_var x y zs e (or_right (var_eq y z) (has_var y zs) (let q = var_same x z k in grind (arith, nat_tests)) h)
      | false ↦ λ k. elim (var_eq y z) as (λ c. (c || has_var y zs) ≡ true → (c || has_var y (without_var x zs)) ≡ true) [ true ↦ λ l. refl | false ↦ λ l. has_without_var x y zs e l ] h
    ] refl

abbrev Among : List Var → Var → Type 0
Among vs x = has_var x vs ≡ true

among_without_var : (x : Var) (vs : List Var) (y : Var) → Among vs y → x ≢ y → Among (without_var x vs) y
among_without_var x vs y h n = has_without_var x y vs (not_var x y n) h

each_without_var : (x : Var) (vs : List Var) (t : NominalTerm) → occurs x t ≡ false → EachVar (Among vs) t → EachVar (Among (without_var x vs)) t
each_without_var x vs t h k y o = among_without_var x vs y (k y o) (occurs_apart x y t h o)

size_of-append : (es fs : List Equation) → size_of (es ++ fs) ≡ size_of es + size_of fs
size_of-append [] fs = omega arith
size_of-append ((t ≐ u) ∷ es) fs = let h = size_of-append es fs in omega arith

-- Every stage with equations in these variables, of at most this size, ends within these steps.
abbrev EndsWithin : ℕ → List Var → ℕ → Type 0
EndsWithin k vs m = (es : List Equation) (ps : List Problem) (s : List Binding) → EachEquation (Among vs) es → size_of es ≤ m → HasEnded (run k (record { equations = es; problems = ps; bindings = s }))

-- One step, where the plain steps and the steps after a binding end
after_rule : (k : ℕ) (vs : List Var) (m : ℕ) (t u : NominalTerm) (es : List Equation) (ps : List Problem) (s : List Binding)
    → EachEquation (Among vs) es → size t + size u + size_of es ≤ m
    → ((fs : List Equation) (qs : List Problem) → EachEquation (Among vs) fs → size_of fs < size t + size u + size_of es → HasEnded (run k (record { equations = fs; problems = qs; bindings = s })))
    → ((x : Var) → has_var x vs ≡ true → EndsWithin k (without_var x vs) (m * m))
    → (r : Rule) → Shrinks (Among vs) (size t + size u) r → (whole : Stage) → HasEnded (ending_after (run k) whole (apply_rule r es ps s))
after_rule k vs m t u es ps s h l plain bound (replace new qs) r whole =
    plain (new ++ es) (ps ++ qs) (each_equation-append (Among vs) new es r.1 h) (let e = size_of-append new es in let f = r.0 in omega arith)
after_rule k vs m t u es ps s h l plain bound (bind x v) r whole =
    let w = each_without_var x vs v r.2 r.1 in
    bound x r.0 (map (put_equation x v) es) (map (put_problem x v) ps) ((x := v) ∷ map (put_binding x v) s)
    (each_equation_put (Among vs) (Among (without_var x vs)) x v (among_without_var x vs) w es h)
    (let a = size_put_all x v es in
    let b : size_of es * size v ≤ m * m = mul-le-mul (let f = r.3 in omega arith) (let f = r.3 in omega arith) in
    omega arith)
after_rule k vs m t u es ps s h l plain bound clash r whole = tt

-- Up to the next binding.
to_binding : (k : ℕ) (vs : List Var) (m after_binding : ℕ) → ((x : Var) → has_var x vs ≡ true → EndsWithin after_binding (without_var x vs) (m * m))
    → (es : List Equation) (ps : List Problem) (s : List Binding) → EachEquation (Among vs) es → size_of es ≤ m → size_of es < k → (j : ℕ) → k + after_binding ≤ j → HasEnded (run j (record { equations = es; problems = ps; bindings = s }))
to_binding zero vs m b go es ps s h l n j g = absurd (omega arith)
to_binding (suc k) vs m b go es ps s h l n zero g = absurd (omega arith)
to_binding (suc k) vs m b go [] ps s h l n (suc j) g = tt
to_binding (suc k) vs m b go ((t ≐ u) ∷ es) ps s h l n (suc j) g =
    after_rule j vs m t u es ps s h.1 l
    (λ fs qs i o. to_binding k vs m b go fs qs s i (omega arith) (omega arith) j (omega arith))
    (λ x i fs qs c o p. run_ended b j _ (omega arith) (go x i fs qs c o p))
    (rule t u)
    (rule_shrinks (Among vs) t u h.0.0 h.0.1)
    (record { equations = (t ≐ u) ∷ es; problems = ps; bindings = s })

pub enough_ends : (n : ℕ) (vs : List Var) (m : ℕ) → length vs ≤ n → EndsWithin (enough n m) vs m
enough_ends zero vs m c es ps s h l =
    to_binding (1 + m) vs m 0 (λ x i. absurd (let d = shorter_without_var x vs i in omega arith)) es ps s h l (omega arith) (1 + m) (omega arith)
enough_ends (suc n) vs m c es ps s h l =
    to_binding (1 + m) vs m (enough n (m * m)) (λ x i. enough_ends n (without_var x vs) (m * m) (let d = shorter_without_var x vs i in omega arith)) es ps s h l (omega arith) (1 + m + enough n (m * m)) (omega arith)

-- The variables of the equations are all in their list.
abbrev IsPart : List Var → List Var → Type 0
IsPart xs ys = (x : Var) → has_var x xs ≡ true → has_var x ys ≡ true

has_itself : (x : Var) (xs : List Var) → has_var x (x ∷ xs) ≡ true
has_itself x xs = let e : var_eq x x ≡ true = grind (arith, nat_tests) in ap (λ b. b || has_var x xs) e

has_later : (x y : Var) (xs : List Var) → has_var x xs ≡ true → has_var x (y ∷ xs) ≡ true
has_later x y xs h = elim (var_eq x y) as (λ b. (b || has_var x xs) ≡ true) [ true ↦ refl | false ↦ h ]

within_vars : (ys : List Var) (t : NominalTerm) (xs : List Var) → IsPart (vars_then t xs) ys → EachVar (Among ys) t × IsPart xs ys
within_vars ys unit xs h = ((λ x o. cc), h)
within_vars ys (name a) xs h = ((λ x o. cc), h)
within_vars ys (pair t u) xs h = let a = within_vars ys t (vars_then u xs) h in let b = within_vars ys u xs a.1 in (each_pair (Among ys) t u a.0 b.0, b.1)
within_vars ys (app f t) xs h = within_vars ys t xs h
within_vars ys (abs a t) xs h = within_vars ys t xs h
within_vars ys (susp p x) xs h = (each_susp (Among ys) p x (h x (has_itself x xs)), λ y k. h y (has_later y x xs k))

all_within_vars : (ys : List Var) (es : List Equation) → IsPart (vars_of es) ys → EachEquation (Among ys) es
all_within_vars ys [] h = tt
all_within_vars ys ((t ≐ u) ∷ es) h =
    let a = within_vars ys t (vars_then u (vars_of es)) h in
    let b = within_vars ys u (vars_of es) a.1 in
    ((a.0, b.0), all_within_vars ys es b.1)

distinct_part : (xs : List Var) → IsPart xs (distinct_vars xs)
distinct_part [] x h = h
distinct_part (y ∷ ys) x h =
    elim (has_var y ys) as (λ b. has_var y ys ≡ b → has_var x (if b then distinct_vars ys else (y ∷ distinct_vars ys)) ≡ true) [
      | true ↦ λ e. distinct_part ys x (elim (var_eq x y) as (λ b. var_eq x y ≡ b → (b || has_var x ys) ≡ true → has_var x ys ≡ true) [
        | true ↦ λ k _. ap (λ z. has_var z ys) (var_same x y k) ∙ e
        | false ↦ λ k l. l
      ] refl h)
      | false ↦ λ e. elim (var_eq x y) as (λ b. (b || has_var x ys) ≡ true → (b || has_var x (distinct_vars ys)) ≡ true) [ true ↦ λ l. refl | false ↦ λ l. distinct_part ys x l ] h
    ] refl

-- a run always ends
pub ending_ends : (s : Stage) → HasEnded (ending s)
unfolding ending
ending_ends s =
    let vs = distinct_vars (vars_of s.equations) in
    enough_ends (length vs) vs (size_of s.equations) (omega arith) s.equations s.problems s.bindings (all_within_vars vs s.equations (distinct_part (vars_of s.equations))) (omega arith)

-- the ending of a stage is that of the next one
pub ending_next : (s s' : Stage) → step s ≡ next s' → ending s ≡ ending s'
unfolding ending
ending_next s s' e =
    let k = steps_for s in
    let j = steps_for s' in
    let one : run (suc (k + j)) s ≡ run (k + j) s' = ap (ending_after (run (k + j)) s) e in
    sym (run_more k (suc (k + j)) s (omega arith) (ending_ends s)) ∙ one ∙ run_more j (k + j) s' (omega arith) (ending_ends s')

pub ending_failed : (s : Stage) → step s ≡ failed → ending s ≡ unsolvable
unfolding ending
ending_failed s e = sym (run_more (steps_for s) (suc (steps_for s)) s (omega arith) (ending_ends s)) ∙ ap (ending_after (run (steps_for s)) s) e

pub ending_done : (s : Stage) → step s ≡ done → ending s ≡ solved s
unfolding ending
ending_done s e = sym (run_more (steps_for s) (suc (steps_for s)) s (omega arith) (ending_ends s)) ∙ ap (ending_after (run (steps_for s)) s) e

-- the ending of a stage, by any number of steps in which it ends
pub ending_by : (k : ℕ) (s : Stage) → HasEnded (run k s) → ending s ≡ run k s
unfolding ending
ending_by k s h =
    sym (run_more (steps_for s) (k + steps_for s) s (omega arith) (ending_ends s)) ∙ run_more k (k + steps_for s) s (omega arith) h

-- The steps until the end, by which a loop that takes them ends.
abbrev counted : (Stage → ℕ) → Progress → ℕ
counted f done = 0
counted f failed = 0
counted f (next s) = 1 + f s

abbrev pub count : ℕ → Stage → ℕ
count zero s = 0
count (suc k) s = counted (count k) (step s)

counted_more : (k j : ℕ) (s : Stage) → ((s' : Stage) → HasEnded (run k s') → count j s' ≡ count k s') → (p : Progress) → HasEnded (ending_after (run k) s p)
    → counted (count j) p ≡ counted (count k) p
counted_more k j s go done h = refl
counted_more k j s go failed h = refl
counted_more k j s go (next s') h = ap (λ n. 1 + n) (go s' h)

count_more : (k j : ℕ) (s : Stage) → k ≤ j → HasEnded (run k s) → count j s ≡ count k s
count_more zero j s l h = absurd h
count_more (suc k) zero s l h = absurd (omega arith)
count_more (suc k) (suc j) s l h = counted_more k j s (λ s' e. count_more k j s' (omega arith) e) (step s) h

unfoldable pub steps_left : Stage → ℕ
steps_left s = count (steps_for s) s

pub steps_left_next : (s s' : Stage) → step s ≡ next s' → steps_left s ≡ 1 + steps_left s'
unfolding steps_left ending
steps_left_next s s' e =
    let k = steps_for s in
    let j = steps_for s' in
    sym (count_more k (suc (k + j)) s (omega arith) (ending_ends s))
    ∙ ap (counted (count (k + j))) e
    ∙ ap (λ n. 1 + n) (count_more j (k + j) s' (omega arith) (ending_ends s'))

pub ending_finished : (s : Stage) → ending s ≢ unfinished
ending_finished s e = subst HasEnded e (ending_ends s)

finished_ended : (e : Ending) → e ≢ unfinished → HasEnded e
finished_ended unfinished n = n refl
finished_ended unsolvable n = tt
finished_ended (solved s) n = tt

pub ending_bound : (s : Stage) (k : ℕ) → steps_for s ≤ k → run k s ≡ ending s
unfolding ending
ending_bound s k l = run_more (steps_for s) k s l (ending_ends s)

pub ending_any : (s : Stage) (k : ℕ) → run k s ≢ unfinished → run k s ≡ ending s
ending_any s k n = sym (ending_by k s (finished_ended (run k s) n))

-- A run that ends with a solution has no equation left.
abbrev pub IsSpent : Ending → Type 0
IsSpent unfinished = Unit {0}
IsSpent unsolvable = Unit {0}
IsSpent (solved s) = s.equations ≡ []

spent_rule : (k : ℕ) (r : Rule) (es : List Equation) (ps : List Problem) (s : List Binding) (whole : Stage) → ((s' : Stage) → IsSpent (run k s'))
    → IsSpent (ending_after (run k) whole (apply_rule r es ps s))
spent_rule k (replace new qs) es ps s whole go = go _
spent_rule k (bind x v) es ps s whole go = go _
spent_rule k clash es ps s whole go = tt

spent_step : (k : ℕ) (es : List Equation) (ps : List Problem) (s : List Binding) → ((s' : Stage) → IsSpent (run k s'))
    → IsSpent (run (suc k) (record { equations = es; problems = ps; bindings = s }))
spent_step k [] ps s go = refl
spent_step k ((t ≐ u) ∷ es) ps s go = spent_rule k (rule t u) es ps s (record { equations = (t ≐ u) ∷ es; problems = ps; bindings = s }) go

pub run_spent : (k : ℕ) (s : Stage) → IsSpent (run k s)
run_spent zero s = tt
run_spent (suc k) s = spent_step k s.equations s.problems s.bindings (run_spent k)
