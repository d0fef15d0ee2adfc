-- An answer sees the set of variables that its derivation brought.
use Rattle.std.proofs.Common.{subst, ◌≡◌, Bool, true, ◌||◌, List, [], ◌∷◌, ◌++◌, map, refl, sym, ap, ap₂, ◌∙◌, inl, inr, arith, true≢false}
use Rattle.std.specs.Prelude.{if◌then◌else◌, Option, Some, None, nat_lt}
use Rattle.std.proofs.lemmas.List.{map-append}
use Rattle.std.proofs.lemmas.Bool.Decides.{nat_tests}
use Rattle.ap_defs.specs.Answers.{add_var, answer_in, ascending_vars, binds_in, closed_term, typed_vars}
use Rattle.ap_defs.specs.Canonical.{canonical_term}
use Rattle.ap_defs.specs.Derivations.{DerivationOver, NominalDerivation, atom, both, equal, exists, fresh, left, map_terms, new, right, succeed, terms_in}
use Rattle.ap_defs.specs.Freshness.{var_eq}
use Rattle.ap_defs.specs.Occurrences.{vars_of_terms}
use Rattle.ap_defs.specs.Resolution.{State}
use Rattle.ap_defs.specs.Substitution.{bound_term, moved}
use Rattle.ap_defs.specs.Terms as terms
use Rattle.ap_defs.specs.Terms.{NominalTerm, act_term}
use Rattle.ap_defs.specs.Types.{NominalLocal}
use Rattle.ap_defs.specs.Unification.{has_var, vars_then}
use Rattle.ap_defs.specs.declared.terms.Swap.{Swap}
use Rattle.ap_defs.specs.declared.terms.Var.{Var}
use Rattle.ap_theory.proofs.BooleanLemmas.{or_assoc, or_cases, or_if_left, or_if_right, same_test}
use Rattle.ap_theory.proofs.OrderedLemmas.{IsAscending, IsOrder, add, ascending_add, has, member_add, same_ascending}
use Rattle.ap_theory.proofs.TermLemmas.{same_var, var_same}
use Rattle.ap_search.specs.Records.{SameVars, answer_with, closed_vars, vars_brought}

-- The variables of the terms of a derivation.
pub terms_in_map : {S T : Type 0} (f : S → T) (d : DerivationOver S) → terms_in (map_terms f d) ≡ map f (terms_in d)
terms_in_map f (atom k as' ts d) = ap (λ us. map f ts ++ us) (terms_in_map f d) ∙ sym (map-append f ts (terms_in d))
terms_in_map f equal = refl
terms_in_map f fresh = refl
terms_in_map f succeed = refl
terms_in_map f (both d e) = ap₂ ◌++◌ (terms_in_map f d) (terms_in_map f e) ∙ sym (map-append f (terms_in d) (terms_in e))
terms_in_map f (left d) = terms_in_map f d
terms_in_map f (right d) = terms_in_map f d
terms_in_map f (exists t d) = ap (λ us. f t ∷ us) (terms_in_map f d)
terms_in_map f (new a d) = terms_in_map f d

vars_then_canonical : (p : List Swap) (t : NominalTerm) (ys : List Var) → vars_then (canonical_term (act_term p t)) ys ≡ vars_then t ys
vars_then_canonical p terms.unit ys = refl
vars_then_canonical p (terms.name a) ys = refl
vars_then_canonical p (terms.pair t u) ys = ap (vars_then (canonical_term (act_term p t))) (vars_then_canonical p u ys) ∙ vars_then_canonical p t (vars_then u ys)
vars_then_canonical p (terms.app f t) ys = vars_then_canonical p t ys
vars_then_canonical p (terms.abs a t) ys = vars_then_canonical p t ys
vars_then_canonical p (terms.susp q x) ys = refl

vars_then_moved : (p q : List Swap) (x : Var) (o : Option NominalTerm) (ys : List Var)
    → vars_then (canonical_term (moved p x o)) ys ≡ vars_then (canonical_term (moved q x o)) ys
vars_then_moved p q x None ys = refl
vars_then_moved p q x (Some t) ys = vars_then_canonical p t ys ∙ sym (vars_then_canonical q t ys)

module _ (s : State) where
  vars_then_closed : (t : NominalTerm) (xs : List Var) → vars_then (closed_term s t) (vars_of_terms (closed_vars s xs)) ≡ vars_of_terms (closed_vars s (vars_then t xs))
  vars_then_closed terms.unit xs = refl
  vars_then_closed (terms.name a) xs = refl
  vars_then_closed (terms.pair t u) xs = ap (vars_then (closed_term s t)) (vars_then_closed u xs) ∙ vars_then_closed t (vars_then u xs)
  vars_then_closed (terms.app f t) xs = vars_then_closed t xs
  vars_then_closed (terms.abs a t) xs = vars_then_closed t xs
  vars_then_closed (terms.susp p x) xs = vars_then_moved p [] x (bound_term s.bindings x) (vars_of_terms (closed_vars s xs))

  -- the variables of closed terms are those of what stands for their variables
  pub vars_of_closed : (ts : List NominalTerm) → vars_of_terms (map (closed_term s) ts) ≡ vars_of_terms (closed_vars s (vars_of_terms ts))
  vars_of_closed [] = refl
  vars_of_closed (t ∷ ts) = ap (vars_then (closed_term s t)) (vars_of_closed ts) ∙ vars_then_closed t (vars_of_terms ts)

pub answer_by_vars : (locals : List NominalLocal) (s : State) (d : NominalDerivation) → answer_in locals s d ≡ answer_with locals s (vars_brought d)
answer_by_vars locals s d =
    ap (λ vs. record { binds = binds_in locals s; conds = s.conditions; vars = typed_vars s.kinds (ascending_vars (vars_of_terms (binds_in locals s) ++ map (λ c. c.var) s.conditions ++ vs)) })
    (ap vars_of_terms (terms_in_map (closed_term s) d) ∙ vars_of_closed s (terms_in d))

-- Sets of variables.
pub has_var-append : (x : Var) (xs ys : List Var) → has_var x (xs ++ ys) ≡ (has_var x xs || has_var x ys)
has_var-append x [] ys = refl
has_var-append x (y ∷ xs) ys = ap (λ b. var_eq x y || b) (has_var-append x xs ys) ∙ sym (or_assoc (var_eq x y) (has_var x xs) (has_var x ys))

pub vars_then-append : (t : NominalTerm) (xs ys : List Var) → vars_then t (xs ++ ys) ≡ vars_then t xs ++ ys
vars_then-append terms.unit xs ys = refl
vars_then-append (terms.name a) xs ys = refl
vars_then-append (terms.pair t u) xs ys = ap (vars_then t) (vars_then-append u xs ys) ∙ vars_then-append t (vars_then u xs) ys
vars_then-append (terms.app f t) xs ys = vars_then-append t xs ys
vars_then-append (terms.abs a t) xs ys = vars_then-append t xs ys
vars_then-append (terms.susp p x) xs ys = refl

pub vars_of_terms-append : (ts us : List NominalTerm) → vars_of_terms (ts ++ us) ≡ vars_of_terms ts ++ vars_of_terms us
vars_of_terms-append [] us = refl
vars_of_terms-append (t ∷ ts) us = ap (vars_then t) (vars_of_terms-append ts us) ∙ vars_then-append t (vars_of_terms ts) (vars_of_terms us)

abbrev before : Var → Var → Bool
before x y = nat_lt x.num y.num

vars_ordered : IsOrder var_eq before
vars_ordered = record {
  tells = var_same;
  itself = λ x. same_var x x refl;
  trans = λ a b c h k. grind (arith, nat_tests);
  irreflexive = λ a h. grind (arith, nat_tests);
  total = λ a b h k. grind (arith, nat_tests);
}

add_var_add : (x : Var) (ys : List Var) → add_var x ys ≡ add var_eq before x ys
add_var_add x [] = refl
add_var_add x (y ∷ ys) = ap (λ zs. if var_eq x y then (y ∷ ys) else (if nat_lt x.num y.num then (x ∷ y ∷ ys) else (y ∷ zs))) (add_var_add x ys)

has_var_has : (x : Var) (ys : List Var) → has_var x ys ≡ has var_eq before x ys
has_var_has x [] = refl
has_var_has x (y ∷ ys) = ap (λ b. var_eq x y || b) (has_var_has x ys)

ascending_ascends : (xs : List Var) → IsAscending var_eq before (ascending_vars xs)
ascending_ascends [] = tt
ascending_ascends (x ∷ xs) =
    subst (IsAscending var_eq before) (sym (add_var_add x (ascending_vars xs))) (ascending_add var_eq before vars_ordered x (ascending_vars xs) (ascending_ascends xs))

has_var_ascending : (y : Var) (xs : List Var) → has_var y (ascending_vars xs) ≡ has_var y xs
has_var_ascending y [] = refl
has_var_ascending y (x ∷ xs) =
    has_var_has y (add_var x (ascending_vars xs)) ∙ ap (has var_eq before y) (add_var_add x (ascending_vars xs)) ∙ member_add var_eq before vars_ordered y x (ascending_vars xs)
    ∙ ap (λ b. var_eq y x || b) (sym (has_var_has y (ascending_vars xs)) ∙ has_var_ascending y xs)

-- lists with the same members make one ascending list
pub ascending_same : (xs ys : List Var) → SameVars xs ys → ascending_vars xs ≡ ascending_vars ys
ascending_same xs ys h =
    same_ascending var_eq before vars_ordered (ascending_vars xs) (ascending_vars ys) (ascending_ascends xs) (ascending_ascends ys)
    (λ x. sym (has_var_has x (ascending_vars xs)) ∙ has_var_ascending x xs ∙ h x ∙ sym (has_var_ascending x ys) ∙ has_var_has x (ascending_vars ys))

pub append_same_vars : (xs ys zs ws : List Var) → SameVars xs ys → SameVars zs ws → SameVars (xs ++ zs) (ys ++ ws)
append_same_vars xs ys zs ws h k x = has_var-append x xs zs ∙ ap₂ ◌||◌ (h x) (k x) ∙ sym (has_var-append x ys ws)

module _ (s : State) where
  -- what stands for a variable has its variables among those of all
  pub has_closed : (y x : Var) (xs : List Var) → has_var x xs ≡ true → has_var y (vars_then (closed_term s (terms.susp [] x)) []) ≡ true
      → has_var y (vars_of_terms (closed_vars s xs)) ≡ true
  has_closed y x [] h k = absurd (true≢false (sym h))
  has_closed y x (z ∷ xs) h k =
      let t = closed_term s (terms.susp [] z) in
      let e = vars_then-append t [] (vars_of_terms (closed_vars s xs)) in
      let f = ap (has_var y) e ∙ has_var-append y (vars_then t []) (vars_of_terms (closed_vars s xs)) in
      elim (or_cases (var_eq x z) (has_var x xs) h) [
        | inl i ↦ f ∙ or_if_left _ _ (subst (λ (v : Var). has_var y (vars_then (closed_term s (terms.susp [] v)) []) ≡ true) (var_same x z i) k)
        | inr i ↦ f ∙ or_if_right _ _ (has_closed y x xs i k)
      ]

  pub closed_has : (y : Var) (xs ys : List Var) → ((x : Var) → has_var x xs ≡ true → has_var x ys ≡ true) → has_var y (vars_of_terms (closed_vars s xs)) ≡ true
      → has_var y (vars_of_terms (closed_vars s ys)) ≡ true
  closed_has y [] ys h k = absurd (true≢false (sym k))
  closed_has y (x ∷ xs) ys h k =
      let t = closed_term s (terms.susp [] x) in
      let e = vars_then-append t [] (vars_of_terms (closed_vars s xs)) in
      let f = ap (has_var y) e ∙ has_var-append y (vars_then t []) (vars_of_terms (closed_vars s xs)) in
      elim (or_cases (has_var y (vars_then t [])) (has_var y (vars_of_terms (closed_vars s xs))) (sym f ∙ k)) [
        | inl i ↦ has_closed y x ys (h x (or_if_left (var_eq x x) (has_var x xs) (same_var x x refl))) i
        | inr i ↦ closed_has y xs ys (λ z m. h z (or_if_right (var_eq z x) (has_var z xs) m)) i
      ]

  -- what stands for the same variables has the same variables
  pub closed_same : (xs ys : List Var) → SameVars xs ys → SameVars (vars_of_terms (closed_vars s xs)) (vars_of_terms (closed_vars s ys))
  closed_same xs ys h y = same_test _ _ (closed_has y xs ys (λ x m. sym (h x) ∙ m)) (closed_has y ys xs (λ x m. h x ∙ m))

pub answer_by_set : (locals : List NominalLocal) (s : State) (xs ys : List Var) → SameVars xs ys → answer_with locals s xs ≡ answer_with locals s ys
answer_by_set locals s xs ys h =
    let front = vars_of_terms (binds_in locals s) ++ map (λ c. c.var) s.conditions in
    ap (λ vs. record { binds = binds_in locals s; conds = s.conditions; vars = typed_vars s.kinds vs })
    (ascending_same _ _ (append_same_vars front front _ _ (λ x. refl) (closed_same s xs ys h)))
