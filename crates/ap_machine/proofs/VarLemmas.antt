-- Steps of the loops over lists of variables.
use Rattle.std.proofs.Common.{◌≡◌, ◌<◌, ◌≤◌, ◌+◌, ℕ, suc, List, [], ◌∷◌, ◌++◌, length, get_or, drop, refl, sym, ap, ◌∙◌, add-one, append_assoc, map, subst, arith}
use Rattle.std.proofs.Math.Seq.{drop-cons}
use Rattle.ap_defs.specs.Occurrences.{vars_of_terms}
use Rattle.ap_defs.specs.Renaming.{AreBelow, IsBelow, rename_term}
use Rattle.ap_defs.specs.Terms.{NominalTerm, unit, name, pair, app, abs, susp, term_of}
use Rattle.ap_defs.specs.Unification.{size, vars_then}
use Rattle.ap_defs.specs.declared.terms.Name.{Name}
use Rattle.ap_defs.specs.declared.terms.Term.{Term}
use Rattle.ap_defs.specs.declared.terms.Var.{Var}

-- the variables of a term stand in front of the others
pub vars_in_front : (t : NominalTerm) (xs : List Var) → vars_then t xs ≡ vars_then t [] ++ xs
vars_in_front unit xs = refl
vars_in_front (name a) xs = refl
vars_in_front (pair t u) xs =
    vars_in_front t (vars_then u xs)
    ∙ ap (λ ys. vars_then t [] ++ ys) (vars_in_front u xs)
    ∙ sym (append_assoc (vars_then t []) (vars_then u []) xs)
    ∙ ap (λ ys. ys ++ xs) (sym (vars_in_front t (vars_then u [])))
vars_in_front (app f t) xs = vars_in_front t xs
vars_in_front (abs a t) xs = vars_in_front t xs
vars_in_front (susp p x) xs = refl

-- once the variables of the left part of a pair are added, those of the right part are left
pub pair_left : (t u : NominalTerm) (vs ws xs : List Var) → ws ≡ vs ++ vars_then t [] → vs ++ vars_then (pair t u) [] ≡ xs → ws ++ vars_then u [] ≡ xs
pair_left t u vs ws xs h k = ap (λ ys. ys ++ vars_then u []) h ∙ append_assoc vs (vars_then t []) (vars_then u []) ∙ ap (λ ys. vs ++ ys) (sym (vars_in_front t (vars_then u []))) ∙ k

pub right_smaller : (w t u : NominalTerm) (n : ℕ) → w ≡ pair t u → size w ≤ n → size u ≤ n
right_smaller w t u n e h = let h' : size (pair t u) ≤ n = rw e at h in omega arith

pub argument_smaller : (w : NominalTerm) (f : ℕ) (t : NominalTerm) (n : ℕ) → w ≡ app f t → size w ≤ n → size t ≤ n
argument_smaller w f t n e h = let h' : size (app f t) ≤ n = rw e at h in omega arith

pub body_smaller : (w : NominalTerm) (a : Name) (t : NominalTerm) (n : ℕ) → w ≡ abs a t → size w ≤ n → size t ≤ n
body_smaller w a t n e h = let h' : size (abs a t) ≤ n = rw e at h in omega arith

from_here : {X : Type 0} (ts : List X) (i : ℕ) (t : X) → i < length ts → t ≡ get_or ts i t → t ∷ drop (suc i) ts ≡ drop i ts
from_here ts i t h e = ap (λ u. u ∷ drop (suc i) ts) e ∙ sym (drop-cons ts i t h)

-- the variables of one more term are read
pub read_step : (f : Term → NominalTerm) (ts : List Term) (i : ℕ) (t : Term) (vs ws : List Var) → i < length ts → t ≡ get_or ts i t
    → ws ≡ vs ++ vars_then (f t) []
    → ws ++ vars_of_terms (map f (drop (i + 1) ts)) ≡ vs ++ vars_of_terms (map f (drop i ts))
read_step f ts i t vs ws h e k =
    rw (add-one i)
    (ap (λ xs. xs ++ vars_of_terms (map f (drop (suc i) ts))) k
    ∙ append_assoc vs (vars_then (f t) []) (vars_of_terms (map f (drop (suc i) ts)))
    ∙ ap (λ xs. vs ++ xs) (sym (vars_in_front (f t) (vars_of_terms (map f (drop (suc i) ts)))) ∙ ap (λ us. vars_of_terms (map f us)) (from_here ts i t h e)))

pub pushed_step : (base : ℕ) (ts : List Term) (i : ℕ) (t : Term) (vs ws : List Var) → i < length ts → t ≡ get_or ts i t
    → ws ≡ vs ++ vars_then (rename_term base (term_of t)) []
    → ws ++ vars_of_terms (map (rename_term base) (map term_of (drop (i + 1) ts))) ≡ vs ++ vars_of_terms (map (rename_term base) (map term_of (drop i ts)))
pushed_step base ts i t vs ws h e k =
    rw (add-one i)
    (ap (λ xs. xs ++ vars_of_terms (map (rename_term base) (map term_of (drop (suc i) ts)))) k
    ∙ append_assoc vs (vars_then (rename_term base (term_of t)) []) (vars_of_terms (map (rename_term base) (map term_of (drop (suc i) ts))))
    ∙ ap (λ xs. vs ++ xs)
    (sym (vars_in_front (rename_term base (term_of t)) (vars_of_terms (map (rename_term base) (map term_of (drop (suc i) ts)))))
    ∙ ap (λ us. vars_of_terms (map (rename_term base) (map term_of us))) (from_here ts i t h e)))

pub fits_step : (base : ℕ) (n : ℕ) (ts : List Term) (i : ℕ) (t : Term) → i < length ts → t ≡ get_or ts i t
    → AreBelow n (map (rename_term base) (map term_of (drop i ts)))
    → IsBelow n (rename_term base (term_of t)) × AreBelow n (map (rename_term base) (map term_of (drop (i + 1) ts)))
fits_step base n ts i t h e k =
    rw (add-one i) (subst (λ (us : List Term). AreBelow n (map (rename_term base) (map term_of us))) (sym (from_here ts i t h e)) k)
