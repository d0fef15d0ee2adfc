-- A goal whose identifiers are numbered from n on, under a grounding.
use Rattle.std.proofs.Common.{◌≡◌, ◌+◌, ℕ, true, false, ◌||◌, List, [], ◌∷◌, ◌++◌, map, refl, sym, ap, ap₂, ◌∙◌, arith}
use Rattle.std.specs.Prelude.{if◌then◌else◌}
use Rattle.std.proofs.lemmas.Bool.Decides.{nat_tests}
use Rattle.std.proofs.lemmas.List.{map-append}
use Rattle.ap_defs.specs.Freshness.{var_eq}
use Rattle.ap_defs.specs.Goals.{NominalGoal, succeed, atom, equal, fresh, both, either, exists, new}
use Rattle.ap_defs.specs.GroundProofs.{Environment, instance, with_name, with_term}
use Rattle.ap_defs.specs.Groundings.{Grounding, grounded}
use Rattle.ap_defs.specs.Occurrences.{free_vars, vars_of_terms, without_var}
use Rattle.ap_defs.specs.Permutations.{name_eq}
use Rattle.ap_defs.specs.Renaming.{rename_goal, rename_name, rename_swap, rename_term, rename_var}
use Rattle.ap_defs.specs.Terms as terms
use Rattle.ap_defs.specs.Terms.{GroundTerm, NominalTerm}
use Rattle.ap_defs.specs.Unification.{has_var, vars_then}
use Rattle.ap_defs.specs.declared.terms.Name.{Name}
use Rattle.ap_defs.specs.declared.terms.Swap.{Swap}
use Rattle.ap_defs.specs.declared.terms.Var.{Var}
use Rattle.ap_theory.proofs.PermutationLemmas.{name_eq_same}
use Rattle.ap_theory.proofs.TermLemmas.{var_same}

-- a name is the one with the higher number, and a variable has what that one has
abbrev pub shifted : ℕ → Grounding → Environment
shifted n g = record { names = rename_name n; terms = λ x. g (rename_var n x) }

pub shifted_instance : (n : ℕ) (g : Grounding) (t : NominalTerm) → instance (shifted n g) t ≡ grounded g (rename_term n t)
shifted_instance n g terms.unit = refl
shifted_instance n g (terms.name a) = refl
shifted_instance n g (terms.pair t u) = ap₂ terms.pair (shifted_instance n g t) (shifted_instance n g u)
shifted_instance n g (terms.app f t) = ap (terms.app f) (shifted_instance n g t)
shifted_instance n g (terms.abs a t) = ap (terms.abs (rename_name n a)) (shifted_instance n g t)
shifted_instance n g (terms.susp p x) = refl

-- What `new` and `exists` bring stands for itself.
pub shifted_name : (n : ℕ) (a b : Name) → (if name_eq a b then rename_name n a else rename_name n b) ≡ rename_name n b
shifted_name n a b =
    elim (name_eq a b) as (λ v. name_eq a b ≡ v → (if v then rename_name n a else rename_name n b) ≡ rename_name n b) [
      | true ↦ λ e. ap (rename_name n) (name_eq_same a b e)
      | false ↦ λ e. refl
    ] refl

pub with_own_name : (n : ℕ) (g : Grounding) (a : Name) → with_name (shifted n g) a (rename_name n a) ≡ shifted n g
with_own_name n g a = λ i. record { names = λ b. shifted_name n a b i; terms = λ x. g (rename_var n x) }

shifted_term : (n : ℕ) (g : Grounding) (x y : Var) (t : GroundTerm) → t ≡ g (rename_var n x) → (if var_eq x y then t else g (rename_var n y)) ≡ g (rename_var n y)
shifted_term n g x y t h =
    elim (var_eq x y) as (λ v. var_eq x y ≡ v → (if v then t else g (rename_var n y)) ≡ g (rename_var n y)) [
      | true ↦ λ e. h ∙ ap (λ z. g (rename_var n z)) (var_same x y e)
      | false ↦ λ e. refl
    ] refl

pub with_own_term : (n : ℕ) (g : Grounding) (x : Var) (t : GroundTerm) → t ≡ g (rename_var n x) → with_term (shifted n g) x t ≡ shifted n g
with_own_term n g x t h = λ i. record { names = rename_name n; terms = λ y. shifted_term n g x y t h i }

-- Renaming is injective, and free variables are renamed.
pub rename_apart : (n : ℕ) (a b : Name) → rename_name n a ≡ rename_name n b → a ≡ b
rename_apart n a b h = grind arith

pub var_eq_renamed : (n : ℕ) (x y : Var) → var_eq (rename_var n x) (rename_var n y) ≡ var_eq x y
var_eq_renamed n x y = grind (arith, nat_tests)

pub has_renamed : (n : ℕ) (x : Var) (xs : List Var) → has_var (rename_var n x) (map (rename_var n) xs) ≡ has_var x xs
has_renamed n x [] = refl
has_renamed n x (y ∷ ys) = ap₂ ◌||◌ (var_eq_renamed n x y) (has_renamed n x ys)

without_renamed : (n : ℕ) (x : Var) (ys : List Var) → without_var (rename_var n x) (map (rename_var n) ys) ≡ map (rename_var n) (without_var x ys)
without_renamed n x [] = refl
without_renamed n x (y ∷ ys) =
    ap₂ (λ b zs. if b then zs else (rename_var n y ∷ zs)) (var_eq_renamed n x y) (without_renamed n x ys)
    ∙ elim (var_eq x y) as (λ b. (if b then map (rename_var n) (without_var x ys) else (rename_var n y ∷ map (rename_var n) (without_var x ys)))
    ≡ map (rename_var n) (if b then without_var x ys else (y ∷ without_var x ys))) [ true ↦ refl | false ↦ refl ]

vars_renamed : (n : ℕ) (t : NominalTerm) (xs : List Var) → vars_then (rename_term n t) (map (rename_var n) xs) ≡ map (rename_var n) (vars_then t xs)
vars_renamed n terms.unit xs = refl
vars_renamed n (terms.name a) xs = refl
vars_renamed n (terms.pair t u) xs = ap (vars_then (rename_term n t)) (vars_renamed n u xs) ∙ vars_renamed n t (vars_then u xs)
vars_renamed n (terms.app f t) xs = vars_renamed n t xs
vars_renamed n (terms.abs a t) xs = vars_renamed n t xs
vars_renamed n (terms.susp p x) xs = refl

all_vars_renamed : (n : ℕ) (ts : List NominalTerm) → vars_of_terms (map (rename_term n) ts) ≡ map (rename_var n) (vars_of_terms ts)
all_vars_renamed n [] = refl
all_vars_renamed n (t ∷ ts) = ap (vars_then (rename_term n t)) (all_vars_renamed n ts) ∙ vars_renamed n t (vars_of_terms ts)

pub free_vars_renamed : (n : ℕ) (goal : NominalGoal) → free_vars (rename_goal n goal) ≡ map (rename_var n) (free_vars goal)
free_vars_renamed n succeed = refl
free_vars_renamed n (atom p ts) = all_vars_renamed n ts
free_vars_renamed n (equal t u) = ap (vars_then (rename_term n t)) (vars_renamed n u []) ∙ vars_renamed n t (vars_then u [])
free_vars_renamed n (fresh t u) = ap (vars_then (rename_term n t)) (vars_renamed n u []) ∙ vars_renamed n t (vars_then u [])
free_vars_renamed n (both f h) = ap₂ ◌++◌ (free_vars_renamed n f) (free_vars_renamed n h) ∙ sym (map-append (rename_var n) (free_vars f) (free_vars h))
free_vars_renamed n (either f h) = ap₂ ◌++◌ (free_vars_renamed n f) (free_vars_renamed n h) ∙ sym (map-append (rename_var n) (free_vars f) (free_vars h))
free_vars_renamed n (exists x f) = ap (without_var (rename_var n x)) (free_vars_renamed n f) ∙ without_renamed n x (free_vars f)
free_vars_renamed n (new a f) = free_vars_renamed n f

-- Renaming by nothing.
swaps_by_none : (p : List Swap) → map (rename_swap 0) p ≡ p
swaps_by_none [] = refl
swaps_by_none (s ∷ p) =
    let l : 0 + s.left ≡ s.left = omega arith in
    let r : 0 + s.right ≡ s.right = omega arith in
    ap₂ ◌∷◌ (ap₂ (λ i j. record { sort = s.sort; left = i; right = j }) l r) (swaps_by_none p)

pub name_by_none : (a : Name) → rename_name 0 a ≡ a
name_by_none a = let e : 0 + a.num ≡ a.num = omega arith in ap (λ i. record { sort = a.sort; num = i }) e

pub var_by_none : (x : Var) → rename_var 0 x ≡ x
var_by_none x = let e : 0 + x.num ≡ x.num = omega arith in ap (λ i. record { num = i }) e

term_by_none : (t : NominalTerm) → rename_term 0 t ≡ t
term_by_none terms.unit = refl
term_by_none (terms.name a) = ap terms.name (name_by_none a)
term_by_none (terms.pair t u) = ap₂ terms.pair (term_by_none t) (term_by_none u)
term_by_none (terms.app f t) = ap (terms.app f) (term_by_none t)
term_by_none (terms.abs a t) = ap₂ terms.abs (name_by_none a) (term_by_none t)
term_by_none (terms.susp p x) = ap₂ terms.susp (swaps_by_none p) (var_by_none x)

terms_by_none : (ts : List NominalTerm) → map (rename_term 0) ts ≡ ts
terms_by_none [] = refl
terms_by_none (t ∷ ts) = ap₂ ◌∷◌ (term_by_none t) (terms_by_none ts)

pub goal_by_none : (goal : NominalGoal) → rename_goal 0 goal ≡ goal
goal_by_none succeed = refl
goal_by_none (atom p ts) = ap (atom p) (terms_by_none ts)
goal_by_none (equal t u) = ap₂ equal (term_by_none t) (term_by_none u)
goal_by_none (fresh t u) = ap₂ fresh (term_by_none t) (term_by_none u)
goal_by_none (both f h) = ap₂ both (goal_by_none f) (goal_by_none h)
goal_by_none (either f h) = ap₂ either (goal_by_none f) (goal_by_none h)
goal_by_none (exists x f) = ap₂ exists (var_by_none x) (goal_by_none f)
goal_by_none (new a f) = ap₂ new (name_by_none a) (goal_by_none f)
