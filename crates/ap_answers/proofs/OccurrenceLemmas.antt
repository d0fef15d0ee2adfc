-- Names and variables without doubles.
use Rattle.std.proofs.Common.{◌≡◌, ℕ, suc, ◌+◌, ◌<◌, Bool, true, false, ◌||◌, List, [], ◌∷◌, ◌++◌, if◌then◌else◌, refl, sym, ap, ap₂, ◌∙◌, append_assoc, drop, length, get_or, add-one, drop-cons}
use Rattle.std.specs.List.{list_any}
use Rattle.std.proofs.lemmas.List.{append-nil}
use Rattle.ap_defs.specs.declared.terms.Name.{Name}
use Rattle.ap_defs.specs.declared.terms.Var.{Var}
use Rattle.ap_defs.specs.declared.terms.Swap.{Swap}
use Rattle.ap_defs.specs.Permutations.{name_eq, has_name, names_of, left_name, right_name}
use Rattle.ap_defs.specs.Freshness.{var_eq}
use Rattle.ap_defs.specs.Unification.{has_var, vars_then}
use Rattle.ap_defs.specs.Terms.{NominalTerm, unit, name, pair, app, abs, susp}
use Rattle.ap_defs.specs.Occurrences.{names_then, names_of_terms, vars_of_terms}
use Rattle.ap_defs.specs.Printing.{first_names, first_vars}
use Rattle.ap_answers.specs.Occurring.{more_names, more_vars}

any_name : (a : Name) (as' : List Name) → list_any (name_eq a) as' ≡ has_name a as'
any_name a [] = refl
any_name a (b ∷ bs) = ap (λ r. name_eq a b || r) (any_name a bs)

any_var : (x : Var) (xs : List Var) → list_any (var_eq x) xs ≡ has_var x xs
any_var x [] = refl
any_var x (y ∷ ys) = ap (λ r. var_eq x y || r) (any_var x ys)

chosen : {A : Type 0} (b : Bool) (xs : List A) (x : A) → (if b then xs else xs ++ x ∷ []) ≡ xs ++ (if b then [] else x ∷ [])
chosen true xs x = sym (append-nil xs)
chosen false xs x = refl

-- one name more, unless it is there
pub inserted : (a : Name) (as' : List Name) → (if list_any (name_eq a) as' then as' else as' ++ a ∷ []) ≡ more_names as' (a ∷ [])
inserted a as' = rw (any_name a as') (chosen (has_name a as') as' a)

pub inserted_var : (x : Var) (xs : List Var) → (if list_any (var_eq x) xs then xs else xs ++ x ∷ []) ≡ more_vars xs (x ∷ [])
inserted_var x xs = rw (any_var x xs) (chosen (has_var x xs) xs x)

exchanged : (p q r : Bool) → (p || (q || r)) ≡ (q || (p || r))
exchanged true true r = refl
exchanged true false r = refl
exchanged false true r = refl
exchanged false false r = refl

pub name_moved : (b x : Name) (as' cs : List Name) → has_name b (x ∷ (as' ++ cs)) ≡ has_name b (as' ++ x ∷ cs)
name_moved b x [] cs = refl
name_moved b x (a ∷ as') cs =
    exchanged (name_eq b x) (name_eq b a) (has_name b (as' ++ cs)) ∙ ap (λ r. name_eq b a || r) (name_moved b x as' cs)

-- only what has been seen matters, not in which order
first_names_same : (ks ls : List Name) (xs : List Name) → ((b : Name) → has_name b ks ≡ has_name b ls) → first_names ks xs ≡ first_names ls xs
first_names_same ks ls [] h = refl
first_names_same ks ls (x ∷ xs) h =
    rw (h x) (ap₂ (λ (as' bs : List Name). if has_name x ls then as' else (x ∷ bs)) (first_names_same ks ls xs h) (first_names_same (x ∷ ks) (x ∷ ls) xs (λ b. ap (λ r. name_eq b x || r) (h b))))

first_names_seen : (ks : List Name) (x : Name) (xs ys : List Name) → first_names ks (xs ++ ys) ≡ first_names ks xs ++ first_names (ks ++ first_names ks xs) ys
    → first_names (x ∷ ks) (xs ++ ys) ≡ first_names (x ∷ ks) xs ++ first_names (x ∷ (ks ++ first_names (x ∷ ks) xs)) ys → (seen : Bool)
    → (if seen then first_names ks (xs ++ ys) else (x ∷ first_names (x ∷ ks) (xs ++ ys)))
    ≡ (if seen then first_names ks xs else (x ∷ first_names (x ∷ ks) xs)) ++ first_names (ks ++ (if seen then first_names ks xs else (x ∷ first_names (x ∷ ks) xs))) ys
first_names_seen ks x xs ys e d true = e
first_names_seen ks x xs ys e d false =
    ap (λ (as' : List Name). x ∷ as') (d ∙ ap (λ as'. first_names (x ∷ ks) xs ++ as') (first_names_same (x ∷ (ks ++ first_names (x ∷ ks) xs)) (ks ++ x ∷ first_names (x ∷ ks) xs) ys (λ b. name_moved b x ks (first_names (x ∷ ks) xs))))

first_names_append : (ks xs ys : List Name) → first_names ks (xs ++ ys) ≡ first_names ks xs ++ first_names (ks ++ first_names ks xs) ys
first_names_append ks [] ys = ap (λ as'. first_names as' ys) (sym (append-nil ks))
first_names_append ks (x ∷ xs) ys = first_names_seen ks x xs ys (first_names_append ks xs ys) (first_names_append (x ∷ ks) xs ys) (has_name x ks)

-- those of two lists, one after the other
pub more_names_append : (ks xs ys : List Name) → more_names ks (xs ++ ys) ≡ more_names (more_names ks xs) ys
more_names_append ks xs ys = ap (λ as'. ks ++ as') (first_names_append ks xs ys) ∙ sym (append_assoc ks (first_names ks xs) (first_names (ks ++ first_names ks xs) ys))

pub more_names_none : (ks : List Name) → more_names ks [] ≡ ks
more_names_none ks = append-nil ks

pub names_then_front : (t : NominalTerm) (xs : List Name) → names_then t xs ≡ names_then t [] ++ xs
names_then_front unit xs = refl
names_then_front (name a) xs = refl
names_then_front (pair t u) xs = names_then_front t (names_then u xs) ∙ ap (λ as'. names_then t [] ++ as') (names_then_front u xs) ∙ sym (append_assoc (names_then t []) (names_then u []) xs) ∙ ap (λ as'. as' ++ xs) (sym (names_then_front t (names_then u [])))
names_then_front (app f t) xs = names_then_front t xs
names_then_front (abs a t) xs = ap (λ (as' : List Name). a ∷ as') (names_then_front t xs)
names_then_front (susp p x) xs = ap (λ as'. as' ++ xs) (sym (append-nil (names_of p)))

-- the steps of a walk through a term, and then through further terms
pub names_of_pair : (ks : List Name) (w t u : NominalTerm) → w ≡ pair t u → more_names (more_names ks (names_then t [])) (names_then u []) ≡ more_names ks (names_then w [])
names_of_pair ks w t u e = rw e (sym (more_names_append ks (names_then t []) (names_then u [])) ∙ ap (more_names ks) (sym (names_then_front t (names_then u []))))

pub names_of_next : (ks : List Name) (t : NominalTerm) (ts : List NominalTerm) → more_names (more_names ks (names_then t [])) (names_of_terms ts) ≡ more_names ks (names_of_terms (t ∷ ts))
names_of_next ks t ts = sym (more_names_append ks (names_then t []) (names_of_terms ts)) ∙ ap (more_names ks) (sym (names_then_front t (names_of_terms ts)))

pub var_moved : (b x : Var) (as' cs : List Var) → has_var b (x ∷ (as' ++ cs)) ≡ has_var b (as' ++ x ∷ cs)
var_moved b x [] cs = refl
var_moved b x (a ∷ as') cs =
    exchanged (var_eq b x) (var_eq b a) (has_var b (as' ++ cs)) ∙ ap (λ r. var_eq b a || r) (var_moved b x as' cs)

-- only what has been seen matters, not in which order
first_vars_same : (ks ls : List Var) (xs : List Var) → ((b : Var) → has_var b ks ≡ has_var b ls) → first_vars ks xs ≡ first_vars ls xs
first_vars_same ks ls [] h = refl
first_vars_same ks ls (x ∷ xs) h =
    rw (h x) (ap₂ (λ (as' bs : List Var). if has_var x ls then as' else (x ∷ bs)) (first_vars_same ks ls xs h) (first_vars_same (x ∷ ks) (x ∷ ls) xs (λ b. ap (λ r. var_eq b x || r) (h b))))

first_vars_seen : (ks : List Var) (x : Var) (xs ys : List Var) → first_vars ks (xs ++ ys) ≡ first_vars ks xs ++ first_vars (ks ++ first_vars ks xs) ys
    → first_vars (x ∷ ks) (xs ++ ys) ≡ first_vars (x ∷ ks) xs ++ first_vars (x ∷ (ks ++ first_vars (x ∷ ks) xs)) ys → (seen : Bool)
    → (if seen then first_vars ks (xs ++ ys) else (x ∷ first_vars (x ∷ ks) (xs ++ ys)))
    ≡ (if seen then first_vars ks xs else (x ∷ first_vars (x ∷ ks) xs)) ++ first_vars (ks ++ (if seen then first_vars ks xs else (x ∷ first_vars (x ∷ ks) xs))) ys
first_vars_seen ks x xs ys e d true = e
first_vars_seen ks x xs ys e d false =
    ap (λ (as' : List Var). x ∷ as') (d ∙ ap (λ as'. first_vars (x ∷ ks) xs ++ as') (first_vars_same (x ∷ (ks ++ first_vars (x ∷ ks) xs)) (ks ++ x ∷ first_vars (x ∷ ks) xs) ys (λ b. var_moved b x ks (first_vars (x ∷ ks) xs))))

first_vars_append : (ks xs ys : List Var) → first_vars ks (xs ++ ys) ≡ first_vars ks xs ++ first_vars (ks ++ first_vars ks xs) ys
first_vars_append ks [] ys = ap (λ as'. first_vars as' ys) (sym (append-nil ks))
first_vars_append ks (x ∷ xs) ys = first_vars_seen ks x xs ys (first_vars_append ks xs ys) (first_vars_append (x ∷ ks) xs ys) (has_var x ks)

-- those of two lists, one after the other
pub more_vars_append : (ks xs ys : List Var) → more_vars ks (xs ++ ys) ≡ more_vars (more_vars ks xs) ys
more_vars_append ks xs ys = ap (λ as'. ks ++ as') (first_vars_append ks xs ys) ∙ sym (append_assoc ks (first_vars ks xs) (first_vars (ks ++ first_vars ks xs) ys))

pub more_vars_none : (ks : List Var) → more_vars ks [] ≡ ks
more_vars_none ks = append-nil ks

pub vars_then_front : (t : NominalTerm) (xs : List Var) → vars_then t xs ≡ vars_then t [] ++ xs
vars_then_front unit xs = refl
vars_then_front (name a) xs = refl
vars_then_front (pair t u) xs = vars_then_front t (vars_then u xs) ∙ ap (λ as'. vars_then t [] ++ as') (vars_then_front u xs) ∙ sym (append_assoc (vars_then t []) (vars_then u []) xs) ∙ ap (λ as'. as' ++ xs) (sym (vars_then_front t (vars_then u [])))
vars_then_front (app f t) xs = vars_then_front t xs
vars_then_front (abs a t) xs = vars_then_front t xs
vars_then_front (susp p x) xs = refl

-- the steps of a walk through a term, and then through further terms
pub vars_of_pair : (ks : List Var) (w t u : NominalTerm) → w ≡ pair t u → more_vars (more_vars ks (vars_then t [])) (vars_then u []) ≡ more_vars ks (vars_then w [])
vars_of_pair ks w t u e = rw e (sym (more_vars_append ks (vars_then t []) (vars_then u [])) ∙ ap (more_vars ks) (sym (vars_then_front t (vars_then u []))))

pub vars_of_next : (ks : List Var) (t : NominalTerm) (ts : List NominalTerm) → more_vars (more_vars ks (vars_then t [])) (vars_of_terms ts) ≡ more_vars ks (vars_of_terms (t ∷ ts))
vars_of_next ks t ts = sym (more_vars_append ks (vars_then t []) (vars_of_terms ts)) ∙ ap (more_vars ks) (sym (vars_then_front t (vars_of_terms ts)))

pub names_of_abs : (ks : List Name) (w : NominalTerm) (a : Name) (t : NominalTerm) → w ≡ abs a t → more_names (more_names ks (a ∷ [])) (names_then t []) ≡ more_names ks (names_then w [])
names_of_abs ks w a t e = rw e (sym (more_names_append ks (a ∷ []) (names_then t [])))

pub names_of_swapping : (ks : List Name) (s : Swap) → more_names (more_names ks (left_name s ∷ [])) (right_name s ∷ []) ≡ more_names ks (names_of (s ∷ []))
names_of_swapping ks s = sym (more_names_append ks (left_name s ∷ []) (right_name s ∷ []))

pub names_of_swap : (ks : List Name) (ps : List Swap) (s : Swap) (i : ℕ) → i < length ps → s ≡ get_or ps i s
    → more_names (more_names ks (names_of (s ∷ []))) (names_of (drop (i + 1) ps)) ≡ more_names ks (names_of (drop i ps))
names_of_swap ks ps s i l e =
    let front : drop i ps ≡ s ∷ drop (suc i) ps = drop-cons ps i s l ∙ ap (λ (x : Swap). x ∷ drop (suc i) ps) (sym e) in
    ap (λ n. more_names (more_names ks (names_of (s ∷ []))) (names_of (drop n ps))) (add-one i)
    ∙ sym (more_names_append ks (names_of (s ∷ [])) (names_of (drop (suc i) ps))) ∙ ap (λ (qs : List Swap). more_names ks (names_of qs)) (sym front)

pub names_of_susp : (ks : List Name) (w : NominalTerm) (p : List Swap) (x : Var) → w ≡ susp p x → more_names ks (names_of p) ≡ more_names ks (names_then w [])
names_of_susp ks w p x e = rw e (ap (more_names ks) (sym (append-nil (names_of p))))

pub names_of_swap_next : (ks ks1 all : List Name) (ps : List Swap) (s : Swap) (i : ℕ) → i < length ps → s ≡ get_or ps i s → ks1 ≡ more_names ks (names_of (s ∷ []))
    → more_names ks (names_of (drop i ps)) ≡ all → more_names ks1 (names_of (drop (i + 1) ps)) ≡ all
names_of_swap_next ks ks1 all ps s i l e d h = ap (λ as'. more_names as' (names_of (drop (i + 1) ps))) d ∙ names_of_swap ks ps s i l e ∙ h
