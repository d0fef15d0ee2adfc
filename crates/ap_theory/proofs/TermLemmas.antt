-- Laws of nominal terms: action, variables, size.
use Rattle.std.proofs.Common.{◌≡◌, ◌+◌, ◌≤◌, ℕ, true, ◌||◌, List, [], ◌∷◌, ◌++◌, refl, ap, ap₂, arith, eqb, append_assoc}
use Rattle.std.proofs.lemmas.Bool.Decides.{nat_tests}
use Rattle.ap_defs.specs.Freshness.{cond_eq, var_eq}
use Rattle.ap_defs.specs.Permutations.{name_eq, swap_of}
use Rattle.ap_defs.specs.Substitution.{occurs}
use Rattle.ap_defs.specs.Terms.{NominalTerm, abs, act_term, app, name, pair, susp, unit}
use Rattle.ap_defs.specs.Unification.{size}
use Rattle.ap_defs.specs.declared.terms.Cond.{Cond}
use Rattle.ap_defs.specs.declared.terms.Name.{Name}
use Rattle.ap_defs.specs.declared.terms.Swap.{Swap}
use Rattle.ap_defs.specs.declared.terms.Var.{Var}
use Rattle.ap_theory.proofs.BooleanLemmas.{and_both}
use Rattle.ap_theory.proofs.PermutationLemmas.{act-append, name_eq_itself}

pub var_same : (x y : Var) → var_eq x y ≡ true → x ≡ y
var_same x y h = grind (arith, nat_tests)

pub occurs_act : (x : Var) (p : List Swap) (t : NominalTerm) → occurs x (act_term p t) ≡ occurs x t
occurs_act x p unit = refl
occurs_act x p (name a) = refl
occurs_act x p (pair t u) = ap₂ ◌||◌ (occurs_act x p t) (occurs_act x p u)
occurs_act x p (app f t) = occurs_act x p t
occurs_act x p (abs a t) = occurs_act x p t
occurs_act x p (susp q y) = refl

pub size_act_term : (p : List Swap) (t : NominalTerm) → size (act_term p t) ≡ size t
size_act_term p unit = refl
size_act_term p (name a) = refl
size_act_term p (pair t u) = ap₂ (λ m n. 1 + m + n) (size_act_term p t) (size_act_term p u)
size_act_term p (app f t) = ap (λ n. 1 + n) (size_act_term p t)
size_act_term p (abs a t) = ap (λ n. 1 + n) (size_act_term p t)
size_act_term p (susp q x) = refl

pub size_pos : (t : NominalTerm) → 1 ≤ size t
size_pos unit = omega arith
size_pos (name a) = omega arith
size_pos (pair t u) = omega arith
size_pos (app f t) = omega arith
size_pos (abs a t) = omega arith
size_pos (susp p x) = omega arith

pub var_eq_flip : (x y : Var) → var_eq x y ≡ var_eq y x
var_eq_flip x y = grind (arith, nat_tests)

pub act_term-append : (p q : List Swap) (t : NominalTerm) → act_term (p ++ q) t ≡ act_term p (act_term q t)
act_term-append p q unit = refl
act_term-append p q (name a) = ap name (act-append p q a)
act_term-append p q (pair t u) = ap₂ pair (act_term-append p q t) (act_term-append p q u)
act_term-append p q (app f t) = ap (app f) (act_term-append p q t)
act_term-append p q (abs a t) = ap₂ abs (act-append p q a) (act_term-append p q t)
act_term-append p q (susp r x) = ap (λ l. susp l x) (append_assoc p q r)

pub act_term_none : (t : NominalTerm) → act_term [] t ≡ t
act_term_none unit = refl
act_term_none (name a) = refl
act_term_none (pair t u) = ap₂ pair (act_term_none t) (act_term_none u)
act_term_none (app f t) = ap (app f) (act_term_none t)
act_term_none (abs a t) = ap (abs a) (act_term_none t)
act_term_none (susp p x) = refl

pub same_var : (x y : Var) → x ≡ y → var_eq x y ≡ true
same_var x y h = grind (arith, nat_tests)

pub number_same : (m n : ℕ) → eqb m n ≡ true → m ≡ n
number_same m n h = grind (arith, nat_tests)

pub same_number : (m n : ℕ) → m ≡ n → eqb m n ≡ true
same_number m n h = grind (arith, nat_tests)

pub cond_eq_itself : (c : Cond) → cond_eq c c ≡ true
cond_eq_itself c = and_both (var_eq c.var c.var) (name_eq c.name c.name) (same_var c.var c.var refl) (name_eq_itself c.name)

-- a term under one swapping
abbrev pub swapped : Name → Name → NominalTerm → NominalTerm
swapped a b t = act_term (swap_of a b ∷ []) t
