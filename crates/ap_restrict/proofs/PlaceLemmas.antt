-- The first variable of lists that are joined.
use Rattle.std.proofs.Common.{◌≡◌, ◌≤◌, ◌+◌, ℕ, List, [], ◌∷◌, ◌++◌, refl, ap, sym, append_assoc, ◌∙◌, arith}
use Rattle.std.specs.Prelude.{Option, Some, None}
use Rattle.ap_defs.specs.declared.terms.Var.{Var}
use Rattle.ap_defs.specs.RawTerms as raw
use Rattle.ap_defs.specs.RawTerms.{RawTerm}
use Rattle.ap_defs.specs.Goals.{GoalOver, succeed, atom, equal, fresh, both, either, exists, new}
use Rattle.ap_program.specs.NameRestriction.{in_each, terms_of_goal, variable_of, variable_binders, variable_places}
use Rattle.ap_restrict.specs.Places.{first_var, misplaced, variables_at}
use Rattle.ap_restrict.specs.declared.places.NamePlace.{NamePlace}

abbrev pub otherwise : Option Var → Option Var → Option Var
otherwise None y = y
otherwise (Some x) y = Some x

pub first_append : (xs ys : List Var) → first_var (xs ++ ys) ≡ otherwise (first_var xs) (first_var ys)
first_append [] ys = refl
first_append (x ∷ xs) ys = refl

pub in_each_append : (f : RawTerm → List Var) (ts us : List RawTerm) → in_each f (ts ++ us) ≡ in_each f ts ++ in_each f us
in_each_append f [] us = refl
in_each_append f (t ∷ ts) us = ap (λ xs. f t ++ xs) (in_each_append f ts us) ∙ sym (append_assoc (f t) (in_each f ts) (in_each f us))

pub append_none : (xs : List Var) → xs ++ [] ≡ xs
append_none [] = refl
append_none (x ∷ xs) = ap (λ ys. x ∷ ys) (append_none xs)

-- where the first goal has none, it is that of the second one
pub first_right : (place : NamePlace) (g h : GoalOver RawTerm) → first_var (in_each (variables_at place) (terms_of_goal g)) ≡ None
    → first_var (in_each (variables_at place) (terms_of_goal h)) ≡ first_var (in_each (variables_at place) (terms_of_goal (both g h)))
first_right place g h e =
    let f = variables_at place in
    sym (ap first_var (in_each_append f (terms_of_goal g) (terms_of_goal h)) ∙ first_append (in_each f (terms_of_goal g)) (in_each f (terms_of_goal h)) ∙ ap (λ o. otherwise o (first_var (in_each f (terms_of_goal h)))) e)

-- how many goals there are
abbrev pub goal_size : GoalOver RawTerm → ℕ
goal_size succeed = 1
goal_size (atom p ts) = 1
goal_size (equal t u) = 1
goal_size (fresh t u) = 1
goal_size (both g h) = 1 + goal_size g + goal_size h
goal_size (either g h) = 1 + goal_size g + goal_size h
goal_size (exists x g) = 1 + goal_size g
goal_size (new a g) = 1 + goal_size g

pub both_right : (w g h : GoalOver RawTerm) (n : ℕ) → w ≡ both g h → goal_size w ≤ n → goal_size h ≤ n
both_right w g h n e k = let k' : goal_size (both g h) ≤ n = rw e at k in omega arith

pub either_right : (w g h : GoalOver RawTerm) (n : ℕ) → w ≡ either g h → goal_size w ≤ n → goal_size h ≤ n
either_right w g h n e k = let k' : goal_size (either g h) ≤ n = rw e at k in omega arith

-- two lists that joined are none are none
both_none : (xs ys : List Var) → xs ++ ys ≡ [] → (xs ≡ []) × (ys ≡ [])
both_none [] ys e = (refl, e)
both_none (x ∷ xs) ys e = cc

join_none : (xs ys : List Var) → xs ≡ [] → ys ≡ [] → xs ++ ys ≡ []
join_none xs ys e d = ap (λ zs. zs ++ ys) e ∙ d

-- where no variable stands in place of a name, none is a binder and none in a swapping
none_misplaced : (t : RawTerm) → misplaced t ≡ [] → (variable_binders t ≡ []) × (variable_places t ≡ [])
none_misplaced raw.unit e = (refl, refl)
none_misplaced (raw.name a) e = (refl, refl)
none_misplaced (raw.var x) e = (refl, refl)
none_misplaced (raw.pair t u) e =
    let p = both_none (misplaced t) (misplaced u) e in
    let l = none_misplaced t p.0 in
    let r = none_misplaced u p.1 in
    (join_none (variable_binders t) (variable_binders u) l.0 r.0, join_none (variable_places t) (variable_places u) l.1 r.1)
none_misplaced (raw.app f t) e = none_misplaced t e
none_misplaced (raw.abs i t) e =
    let p = both_none (variable_of i) (misplaced t) e in
    let r = none_misplaced t p.1 in
    (join_none (variable_of i) (variable_binders t) p.0 r.0, r.1)
none_misplaced (raw.swapped i j t) e =
    let p = both_none (variable_of i ++ variable_of j) (misplaced t) e in
    let r = none_misplaced t p.1 in
    (r.0, join_none (variable_of i ++ variable_of j) (variable_places t) p.0 r.1)

pub none_in_each : (ts : List RawTerm) → in_each misplaced ts ≡ [] → (in_each variable_binders ts ≡ []) × (in_each variable_places ts ≡ [])
none_in_each [] e = (refl, refl)
none_in_each (t ∷ ts) e =
    let p = both_none (misplaced t) (in_each misplaced ts) e in
    let l = none_misplaced t p.0 in
    let r = none_in_each ts p.1 in
    (join_none (variable_binders t) (in_each variable_binders ts) l.0 r.0, join_none (variable_places t) (in_each variable_places ts) l.1 r.1)
