-- The variables of terms, equations and problems, under the action and where a term is put for a variable.
use Rattle.std.proofs.Common.{subst, ◌≡◌, ◌≢◌, true, false, List, [], ◌∷◌, ◌++◌, map, refl, sym, ap, ◌∙◌, inl, inr, true≢false}
use Rattle.std.specs.Prelude.{if◌then◌else◌}
use Rattle.ap_defs.specs.Freshness.{var_eq}
use Rattle.ap_defs.specs.Substitution.{Equation, Problem, occurs, put, put_equation, put_problem, ◌#◌, ◌≐◌}
use Rattle.ap_defs.specs.Terms.{NominalTerm, abs, act_term, app, name, pair, susp, unit}
use Rattle.ap_defs.specs.Unification.{fresh_for}
use Rattle.ap_defs.specs.declared.terms.Name.{Name}
use Rattle.ap_defs.specs.declared.terms.Swap.{Swap}
use Rattle.ap_defs.specs.declared.terms.Var.{Var}
use Rattle.ap_theory.specs.Variables.{EachVar}
use Rattle.ap_theory.proofs.BooleanLemmas.{false_if_not, or_cases, or_if_left, or_if_right}
use Rattle.ap_theory.proofs.TermLemmas.{occurs_act, same_var, var_same}

abbrev pub EachEquation : (Var → Type 0) → List Equation → Type 0
EachEquation P [] = Unit {0}
EachEquation P ((t ≐ u) ∷ es) = (EachVar P t × EachVar P u) × EachEquation P es

abbrev pub EachProblem : (Var → Type 0) → List Problem → Type 0
EachProblem P [] = Unit {0}
EachProblem P ((a # t) ∷ ps) = EachVar P t × EachProblem P ps

-- a variable that doesn't occur differs from one that does
pub occurs_apart : (x y : Var) (t : NominalTerm) → occurs x t ≡ false → occurs y t ≡ true → x ≢ y
occurs_apart x y t h o e = true≢false (sym (ap (λ z. occurs z t) e ∙ o) ∙ h)

pub not_var : (x y : Var) → x ≢ y → var_eq x y ≡ false
not_var x y n = false_if_not (var_eq x y) (λ h. n (var_same x y h))

module _ (P : Var → Type 0) where
  pub each_act : (p : List Swap) (t : NominalTerm) → EachVar P t → EachVar P (act_term p t)
  each_act p t h x o = h x (sym (occurs_act x p t) ∙ o)

  pub each_left : (t u : NominalTerm) → EachVar P (pair t u) → EachVar P t
  each_left t u h x o = h x (or_if_left (occurs x t) (occurs x u) o)

  pub each_right : (t u : NominalTerm) → EachVar P (pair t u) → EachVar P u
  each_right t u h x o = h x (or_if_right (occurs x t) (occurs x u) o)

  pub each_pair : (t u : NominalTerm) → EachVar P t → EachVar P u → EachVar P (pair t u)
  each_pair t u h k x o = elim (or_cases (occurs x t) (occurs x u) o) [ inl e ↦ h x e | inr e ↦ k x e ]

  pub each_susp : (p : List Swap) (y : Var) → P y → EachVar P (susp p y)
  each_susp p y h x o = subst P (sym (var_same x y o)) h

  pub susp_each : (p : List Swap) (y : Var) → EachVar P (susp p y) → P y
  susp_each p y h = h y (same_var y y refl)

  pub each_fresh_for : (x : Var) → P x → (cs : List Name) → EachProblem P (map (fresh_for x) cs)
  each_fresh_for x h [] = tt
  each_fresh_for x h (c ∷ cs) = (each_susp [] x h, each_fresh_for x h cs)

  pub each_equation-append : (es fs : List Equation) → EachEquation P es → EachEquation P fs → EachEquation P (es ++ fs)
  each_equation-append [] fs h k = k
  each_equation-append ((t ≐ u) ∷ es) fs h k = (h.0, each_equation-append es fs h.1 k)

  pub each_problem-append : (ps qs : List Problem) → EachProblem P ps → EachProblem P qs → EachProblem P (ps ++ qs)
  each_problem-append [] qs h k = k
  each_problem-append ((a # t) ∷ ps) qs h k = (h.0, each_problem-append ps qs h.1 k)

-- what a variable but x had, and the variables of v have, those of a term have when v is put for x
module _ (P Q : Var → Type 0) (x : Var) (v : NominalTerm) (other : (y : Var) → P y → x ≢ y → Q y) (new : EachVar Q v) where
  pub each_put : (t : NominalTerm) → EachVar P t → EachVar Q (put x v t)
  each_put unit h = λ y o. cc
  each_put (name a) h = λ y o. cc
  each_put (pair t u) h = each_pair Q (put x v t) (put x v u) (each_put t (each_left P t u h)) (each_put u (each_right P t u h))
  each_put (app f t) h = each_put t h
  each_put (abs a t) h = each_put t h
  each_put (susp p y) h =
      elim (var_eq x y) as (λ b. var_eq x y ≡ b → EachVar Q (if b then act_term p v else susp p y)) [
        | true ↦ λ e. each_act Q p v new
        | false ↦ λ e. each_susp Q p y (other y (susp_each P p y h) (λ f. true≢false (sym (same_var x y f) ∙ e)))
      ] refl

  pub each_equation_put : (es : List Equation) → EachEquation P es → EachEquation Q (map (put_equation x v) es)
  each_equation_put [] h = tt
  each_equation_put ((t ≐ u) ∷ es) h = ((each_put t h.0.0, each_put u h.0.1), each_equation_put es h.1)

  pub each_problem_put : (ps : List Problem) → EachProblem P ps → EachProblem Q (map (put_problem x v) ps)
  each_problem_put [] h = tt
  each_problem_put ((a # t) ∷ ps) h = (each_put t h.0, each_problem_put ps h.1)
