-- The names and variables of terms, one after another.
use Rattle.std.proofs.Common.{◌≡◌, ◌<◌, ◌+◌, ℕ, List, [], ◌∷◌, ◌++◌, length, map, get_or, drop, take, refl, sym, ap, ◌∙◌, append_assoc, add-one}
use Rattle.std.proofs.Math.Seq.{drop-cons, take-suc}
use Rattle.ap_defs.specs.declared.terms.Name.{Name}
use Rattle.ap_defs.specs.declared.terms.Swap.{Swap}
use Rattle.ap_defs.specs.declared.terms.Term.{Term}
use Rattle.ap_defs.specs.declared.terms.Var.{Var}
use Rattle.ap_defs.specs.Occurrences.{names_of_terms, names_then, vars_of_terms}
use Rattle.ap_defs.specs.Permutations.{left_name, names_of, right_name}
use Rattle.ap_defs.specs.Terms.{NominalTerm, abs, app, name, pair, susp, term_of, unit}
use Rattle.ap_defs.specs.Unification.{vars_then}

names-append : (p q : List Swap) → names_of (p ++ q) ≡ names_of p ++ names_of q
names-append [] q = refl
names-append (s ∷ p) q = ap (λ as'. left_name s ∷ right_name s ∷ as') (names-append p q)

pub swaps_next : (p : List Swap) (i : ℕ) (d : Swap) (as' bs cs : List Name) → i < length p → cs ≡ as' ++ names_of (take i p) → bs ≡ cs ++ names_of (get_or p i d ∷ []) → bs ≡ as' ++ names_of (take (i + 1) p)
swaps_next p i d as' bs cs h k e =
    e ∙ ap (λ z. z ++ names_of (get_or p i d ∷ [])) k ∙ append_assoc as' (names_of (take i p)) (names_of (get_or p i d ∷ []))
    ∙ ap (λ z. as' ++ z) (sym (names-append (take i p) (get_or p i d ∷ [])) ∙ ap names_of (sym (take-suc p i d h) ∙ ap (λ n. take n p) (sym (add-one i))))

then_names : (t : NominalTerm) (as' : List Name) → names_then t as' ≡ names_then t [] ++ as'
then_names unit as' = refl
then_names (name a) as' = refl
then_names (pair t u) as' =
    then_names t (names_then u as') ∙ ap (λ z. names_then t [] ++ z) (then_names u as') ∙ sym (append_assoc (names_then t []) (names_then u []) as')
    ∙ ap (λ z. z ++ as') (sym (then_names t (names_then u [])))
then_names (app f t) as' = then_names t as'
then_names (abs a t) as' = ap (λ z. a ∷ z) (then_names t as')
then_names (susp p x) as' = ap (λ z. z ++ as') (sym (nothing_more (names_of p)))
  where
    nothing_more : (bs : List Name) → bs ++ [] ≡ bs
    nothing_more [] = refl
    nothing_more (b ∷ bs) = ap (λ z. b ∷ z) (nothing_more bs)

then_vars : (t : NominalTerm) (xs : List Var) → vars_then t xs ≡ vars_then t [] ++ xs
then_vars unit xs = refl
then_vars (name a) xs = refl
then_vars (pair t u) xs =
    then_vars t (vars_then u xs) ∙ ap (λ z. vars_then t [] ++ z) (then_vars u xs) ∙ sym (append_assoc (vars_then t []) (vars_then u []) xs)
    ∙ ap (λ z. z ++ xs) (sym (then_vars t (vars_then u [])))
then_vars (app f t) xs = then_vars t xs
then_vars (abs a t) xs = then_vars t xs
then_vars (susp p x) xs = refl

pub two_names : (t u : NominalTerm) (bs cs : List Name) → bs ≡ [] ++ names_then t [] → cs ≡ bs ++ names_then u [] → cs ≡ names_then t (names_then u [])
two_names t u bs cs h k = k ∙ ap (λ z. z ++ names_then u []) h ∙ sym (then_names t (names_then u []))

pub two_vars : (t u : NominalTerm) (ys zs : List Var) → ys ≡ [] ++ vars_then t [] → zs ≡ ys ++ vars_then u [] → zs ≡ vars_then t (vars_then u [])
two_vars t u ys zs h k = k ∙ ap (λ z. z ++ vars_then u []) h ∙ sym (then_vars t (vars_then u []))

-- one more term
pub each_names : (ts : List Term) (i : ℕ) (d : Term) (as' bs : List Name) → i < length ts → bs ≡ as' ++ names_then (term_of (get_or ts i d)) []
    → bs ++ names_of_terms (map term_of (drop (i + 1) ts)) ≡ as' ++ names_of_terms (map term_of (drop i ts))
each_names ts i d as' bs h e =
    let t = term_of (get_or ts i d) in
    let rest = names_of_terms (map term_of (drop (i + 1) ts)) in
    ap (λ z. z ++ rest) e ∙ append_assoc as' (names_then t []) rest ∙ ap (λ z. as' ++ z) (sym (then_names t rest)
    ∙ sym (ap (λ us. names_of_terms (map term_of us)) (drop-cons ts i d h ∙ ap (λ n. get_or ts i d ∷ drop n ts) (sym (add-one i)))))

pub each_vars : (ts : List Term) (i : ℕ) (d : Term) (xs ys : List Var) → i < length ts → ys ≡ xs ++ vars_then (term_of (get_or ts i d)) []
    → ys ++ vars_of_terms (map term_of (drop (i + 1) ts)) ≡ xs ++ vars_of_terms (map term_of (drop i ts))
each_vars ts i d xs ys h e =
    let t = term_of (get_or ts i d) in
    let rest = vars_of_terms (map term_of (drop (i + 1) ts)) in
    ap (λ z. z ++ rest) e ∙ append_assoc xs (vars_then t []) rest ∙ ap (λ z. xs ++ z) (sym (then_vars t rest)
    ∙ sym (ap (λ us. vars_of_terms (map term_of us)) (drop-cons ts i d h ∙ ap (λ n. get_or ts i d ∷ drop n ts) (sym (add-one i)))))
