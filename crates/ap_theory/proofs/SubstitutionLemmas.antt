-- Laws of substitutions.
use Rattle.std.proofs.Common.{subst, ◌≡◌, ◌≤◌, true, false, List, [], ◌∷◌, refl, sym, ap, ap₂, ◌∙◌, inl, inr, arith, true≢false, append-nil}
use Rattle.std.specs.Prelude.{if◌then◌else◌, Option, Some, None}
use Rattle.ap_defs.specs.Freshness.{var_eq}
use Rattle.ap_defs.specs.Permutations.{act_name, inverse, swap_of}
use Rattle.ap_defs.specs.Substitution.{Binding, bound_term, moved, occurs, put, under, ◌:=◌}
use Rattle.ap_defs.specs.Terms.{NominalTerm, abs, act_term, app, name, pair, susp, unit}
use Rattle.ap_defs.specs.Unification.{size}
use Rattle.ap_defs.specs.declared.terms.Name.{Name}
use Rattle.ap_defs.specs.declared.terms.Swap.{Swap}
use Rattle.ap_defs.specs.declared.terms.Var.{Var}
use Rattle.ap_theory.specs.Contexts.{Context, Equal, Fresh}
use Rattle.ap_theory.specs.Substitutions.{Substitution, applied, bound_or_itself, substitution_of, variables}
use Rattle.ap_theory.proofs.BooleanLemmas.{or_cases, or_if_left, or_if_right}
use Rattle.ap_theory.proofs.EqualityLemmas.{Equal_act, act_Fresh, differ_Equal}
use Rattle.ap_theory.proofs.TermLemmas.{act_term-append, act_term_none, same_var, size_act_term, swapped, var_eq_flip, var_same}

-- the action commutes with a substitution
pub applied_act : (s : Substitution) (p : List Swap) (t : NominalTerm) → applied s (act_term p t) ≡ act_term p (applied s t)
applied_act s p unit = refl
applied_act s p (name a) = refl
applied_act s p (pair t u) = ap₂ pair (applied_act s p t) (applied_act s p u)
applied_act s p (app f t) = ap (app f) (applied_act s p t)
applied_act s p (abs a t) = ap (abs (act_name p a)) (applied_act s p t)
applied_act s p (susp q x) = act_term-append p q (s x)

-- one substitution after another
pub applied_applied : (r s : Substitution) (t : NominalTerm) → applied r (applied s t) ≡ applied (λ x. applied r (s x)) t
applied_applied r s unit = refl
applied_applied r s (name a) = refl
applied_applied r s (pair t u) = ap₂ pair (applied_applied r s t) (applied_applied r s u)
applied_applied r s (app f t) = ap (app f) (applied_applied r s t)
applied_applied r s (abs a t) = ap (abs a) (applied_applied r s t)
applied_applied r s (susp p x) = applied_act r p (s x)

pub applied_variables : (t : NominalTerm) → applied variables t ≡ t
applied_variables unit = refl
applied_variables (name a) = refl
applied_variables (pair t u) = ap₂ pair (applied_variables t) (applied_variables u)
applied_variables (app f t) = ap (app f) (applied_variables t)
applied_variables (abs a t) = ap (abs a) (applied_variables t)
applied_variables (susp p x) = ap (λ q. susp q x) (append-nil p)

-- only the variables of a term matter
pub applied_local : (r s : Substitution) (t : NominalTerm) → ((x : Var) → occurs x t ≡ true → r x ≡ s x) → applied r t ≡ applied s t
applied_local r s unit h = refl
applied_local r s (name a) h = refl
applied_local r s (pair t u) h =
    ap₂ pair
    (applied_local r s t (λ x o. h x (or_if_left (occurs x t) (occurs x u) o)))
    (applied_local r s u (λ x o. h x (or_if_right (occurs x t) (occurs x u) o)))
applied_local r s (app f t) h = ap (app f) (applied_local r s t h)
applied_local r s (abs a t) h = ap (abs a) (applied_local r s t h)
applied_local r s (susp p x) h = ap (act_term p) (h x (same_var x x refl))

-- a substitution keeps freshness and equality, if its terms meet what was said of the variables
module _ (d e : Context) (s : Substitution) (m : (c : Name) (x : Var) → d c x → Fresh e c (s x)) where
  pub applied_Fresh : (a : Name) (t : NominalTerm) → Fresh d a t → Fresh e a (applied s t)
  applied_Fresh a unit h = tt
  applied_Fresh a (name b) h = h
  applied_Fresh a (pair t u) h = (applied_Fresh a t h.0, applied_Fresh a u h.1)
  applied_Fresh a (app f t) h = applied_Fresh a t h
  applied_Fresh a (abs b t) (inl k) = inl k
  applied_Fresh a (abs b t) (inr h) = inr (applied_Fresh a t h)
  applied_Fresh a (susp p x) h = act_Fresh e p a (s x) (m (act_name (inverse p) a) x h)

  pub applied_Equal : (t u : NominalTerm) → Equal d t u → Equal e (applied s t) (applied s u)
  applied_Equal unit unit h = tt
  applied_Equal (name a) (name b) h = h
  applied_Equal (pair t u) (pair v w) h = (applied_Equal t v h.0, applied_Equal u w h.1)
  applied_Equal (app f t) (app g u) h = (h.0, applied_Equal t u h.1)
  applied_Equal (abs a t) (abs b u) (inl h) = inl (h.0, applied_Equal t u h.1)
  applied_Equal (abs a t) (abs b u) (inr h) =
      inr (h.0, h.1, subst (λ z. Equal e (applied s t) z) (applied_act s (swap_of a b ∷ []) u) (applied_Equal t (swapped a b u) h.2), applied_Fresh a u h.3)
  applied_Equal (susp p x) (susp q y) h = subst (λ z. Equal e (act_term p (s x)) (act_term q (s z))) h.0 (differ_Equal e (s x) p q (λ c n. m c x (h.1 c n)))
  applied_Equal _ _ h = absurd h

-- substitutions that are equal on the variables of a term make equal terms of it
pub applied_congruent : (d : Context) (r s : Substitution) (t : NominalTerm) → ((x : Var) → occurs x t ≡ true → Equal d (r x) (s x))
    → Equal d (applied r t) (applied s t)
applied_congruent d r s unit h = tt
applied_congruent d r s (name a) h = refl
applied_congruent d r s (pair t u) h = (
  applied_congruent d r s t (λ x o. h x (or_if_left (occurs x t) (occurs x u) o)),
  applied_congruent d r s u (λ x o. h x (or_if_right (occurs x t) (occurs x u) o)),
)
applied_congruent d r s (app f t) h = (refl, applied_congruent d r s t h)
applied_congruent d r s (abs a t) h = inl (refl, applied_congruent d r s t h)
applied_congruent d r s (susp p x) h = Equal_act d (r x) (s x) p (h x (same_var x x refl))

-- a variable that occurs in a term has at most the term's size
pub size_occurs_most : (s : Substitution) (x : Var) (t : NominalTerm) → occurs x t ≡ true → size (s x) ≤ size (applied s t)
size_occurs_most s x unit h = cc
size_occurs_most s x (name a) h = cc
size_occurs_most s x (pair t u) h =
    elim (or_cases (occurs x t) (occurs x u) h) [
      | inl e ↦ let l : size (s x) ≤ size (applied s t) = size_occurs_most s x t e in omega arith
      | inr e ↦ let l : size (s x) ≤ size (applied s u) = size_occurs_most s x u e in omega arith
    ]
size_occurs_most s x (app f t) h = let l : size (s x) ≤ size (applied s t) = size_occurs_most s x t h in omega arith
size_occurs_most s x (abs a t) h = let l : size (s x) ≤ size (applied s t) = size_occurs_most s x t h in omega arith
size_occurs_most s x (susp p y) h =
    let e : x ≡ y = var_same x y h in
    let f : size (act_term p (s y)) ≡ size (s y) = size_act_term p (s y) in
    rw (f, e) (omega arith)

-- Lists of bindings.
abbrev pub single : Var → NominalTerm → Substitution
single x v y = if var_eq x y then v else susp [] y

pub put_applied : (x : Var) (v t : NominalTerm) → put x v t ≡ applied (single x v) t
put_applied x v unit = refl
put_applied x v (name a) = refl
put_applied x v (pair t u) = ap₂ pair (put_applied x v t) (put_applied x v u)
put_applied x v (app f t) = ap (app f) (put_applied x v t)
put_applied x v (abs a t) = ap (abs a) (put_applied x v t)
put_applied x v (susp p y) =
    elim (var_eq x y) as (λ b. (if b then act_term p v else susp p y) ≡ act_term p (if b then v else susp [] y)) [ true ↦ refl | false ↦ ap (λ q. susp q y) (sym (append-nil p)) ]

pub put_substitution : (x : Var) (v t : NominalTerm) → put x v t ≡ applied (substitution_of ((x := v) ∷ [])) t
put_substitution x v t = put_applied x v t ∙ applied_local (single x v) (substitution_of ((x := v) ∷ [])) t (λ y o.
    elim (var_eq x y) as (λ b. var_eq x y ≡ b → (if b then v else susp [] y) ≡ substitution_of ((x := v) ∷ []) y) [
      | true ↦ λ e. sym (ap (λ b. bound_or_itself y (if b then Some v else None)) (var_eq_flip y x ∙ e))
      | false ↦ λ e. sym (ap (λ b. bound_or_itself y (if b then Some v else None)) (var_eq_flip y x ∙ e))
    ] refl)

moved_applied : (p : List Swap) (x : Var) (o : Option NominalTerm) → moved p x o ≡ act_term p (bound_or_itself x o)
moved_applied p x None = ap (λ q. susp q x) (sym (append-nil p))
moved_applied p x (Some t) = refl

pub under_applied : (bs : List Binding) (t : NominalTerm) → under bs t ≡ applied (substitution_of bs) t
under_applied bs unit = refl
under_applied bs (name a) = refl
under_applied bs (pair t u) = ap₂ pair (under_applied bs t) (under_applied bs u)
under_applied bs (app f t) = ap (app f) (under_applied bs t)
under_applied bs (abs a t) = ap (abs a) (under_applied bs t)
under_applied bs (susp p x) = moved_applied p x (bound_term bs x)

pub under_act : (bs : List Binding) (p : List Swap) (t : NominalTerm) → under bs (act_term p t) ≡ act_term p (under bs t)
under_act bs p t = under_applied bs (act_term p t) ∙ applied_act (substitution_of bs) p t ∙ ap (act_term p) (sym (under_applied bs t))

pub put_act : (x : Var) (v : NominalTerm) (p : List Swap) (t : NominalTerm) → put x v (act_term p t) ≡ act_term p (put x v t)
put_act x v p t = put_applied x v (act_term p t) ∙ applied_act (single x v) p t ∙ ap (act_term p) (sym (put_applied x v t))

-- a term without the variable is left
pub put_absent : (x : Var) (v t : NominalTerm) → occurs x t ≡ false → put x v t ≡ t
put_absent x v t h =
    put_applied x v t
    ∙ applied_local (single x v) variables t (λ y o. elim (var_eq x y) as (λ b. var_eq x y ≡ b → (if b then v else susp [] y) ≡ susp [] y) [
      | true ↦ λ e. absurd (true≢false (sym o ∙ ap (λ z. occurs z t) (sym (var_same x y e)) ∙ h))
      | false ↦ λ e. refl
    ] refl)
    ∙ applied_variables t

-- a substitution after a list of bindings
pub applied_under : (s : Substitution) (bs : List Binding) (t : NominalTerm) → applied s (under bs t) ≡ applied (λ x. applied s (substitution_of bs x)) t
applied_under s bs t = ap (applied s) (under_applied bs t) ∙ applied_applied s (substitution_of bs) t

pub applied_put : (s : Substitution) (x : Var) (v t : NominalTerm) → applied s (put x v t) ≡ applied (λ y. applied s (single x v y)) t
applied_put s x v t = ap (applied s) (put_applied x v t) ∙ applied_applied s (single x v) t

-- bindings keep freshness and equality, if their terms meet what was said of the variables
module _ (d e : Context) (bs : List Binding) (m : (c : Name) (x : Var) → d c x → Fresh e c (under bs (susp [] x))) where
  bound_meets : (c : Name) (x : Var) → d c x → Fresh e c (substitution_of bs x)
  bound_meets c x k = subst (λ (z : NominalTerm). Fresh e c z) (under_applied bs (susp [] x) ∙ act_term_none (substitution_of bs x)) (m c x k)

  pub under_Fresh : (a : Name) (t : NominalTerm) → Fresh d a t → Fresh e a (under bs t)
  under_Fresh a t h = subst (λ (z : NominalTerm). Fresh e a z) (sym (under_applied bs t)) (applied_Fresh d e (substitution_of bs) bound_meets a t h)

  pub under_Equal : (t u : NominalTerm) → Equal d t u → Equal e (under bs t) (under bs u)
  under_Equal t u h =
      subst (λ (z : NominalTerm). Equal e z (under bs u)) (sym (under_applied bs t))
      (subst (λ (z : NominalTerm). Equal e (applied (substitution_of bs) t) z) (sym (under_applied bs u)) (applied_Equal d e (substitution_of bs) bound_meets t u h))
