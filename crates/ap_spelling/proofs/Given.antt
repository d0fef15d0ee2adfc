-- What is given is spelled.
use Rattle.std.proofs.Common.{◌≡◌, ℕ, Bool, true, false, ◌||◌, List, [], ◌∷◌, ◌++◌, refl, sym, subst, true≢false}
use Rattle.std.specs.Prelude.{if◌then◌else◌}
use Rattle.ap_defs.specs.declared.terms.Name.{Name}
use Rattle.ap_defs.specs.declared.terms.Var.{Var}
use Rattle.ap_defs.specs.Freshness.{var_eq}
use Rattle.ap_defs.specs.Permutations.{has_name, name_eq}
use Rattle.ap_defs.specs.Unification.{has_var}
use Rattle.ap_spelling.specs.Differing.{GivenNamesAreSpelled, GivenVarsAreSpelled, gives_name, gives_var}
use Rattle.ap_spelling.specs.Words as given
use Rattle.ap_spelling.specs.Words.{NominalGiven, NominalSpelt, give, give_each, spelt_with_name, with_var}
use Rattle.ap_spelling.proofs.Telling.{same_name, same_var}

pub or_left : (b c : Bool) → b ≡ true → (b || c) ≡ true
or_left true c h = refl
or_left false c h = absurd (true≢false (sym h))

pub or_right : (b c : Bool) → c ≡ true → (b || c) ≡ true
or_right true c h = refl
or_right false c h = h

or_more : (b c d : Bool) → (c ≡ true → d ≡ true) → (b || c) ≡ true → (b || d) ≡ true
or_more true c d more h = refl
or_more false c d more h = more h

name_front : (a b : Name) (as' : List Name) → has_name a as' ≡ true → has_name a (as' ++ b ∷ []) ≡ true
name_front a b [] h = absurd (true≢false (sym h))
name_front a b (c ∷ cs) h = or_more (name_eq a c) (has_name a cs) (has_name a (cs ++ b ∷ [])) (name_front a b cs) h

var_front : (x y : Var) (xs : List Var) → has_var x xs ≡ true → has_var x (xs ++ y ∷ []) ≡ true
var_front x y [] h = absurd (true≢false (sym h))
var_front x y (z ∷ zs) h = or_more (var_eq x z) (has_var x zs) (has_var x (zs ++ y ∷ [])) (var_front x y zs) h

name_back : (a b : Name) (as' : List Name) → name_eq a b ≡ true → has_name a (as' ++ b ∷ []) ≡ true
name_back a b [] h = or_left (name_eq a b) false h
name_back a b (c ∷ cs) h = or_right (name_eq a c) (has_name a (cs ++ b ∷ [])) (name_back a b cs h)

var_back : (x y : Var) (xs : List Var) → var_eq x y ≡ true → has_var x (xs ++ y ∷ []) ≡ true
var_back x y [] h = or_left (var_eq x y) false h
var_back x y (z ∷ zs) h = or_right (var_eq x z) (has_var x (zs ++ y ∷ [])) (var_back x y zs h)

-- what is spelled stays so
name_by : (words : List (List ℕ)) (b : Name) (w : List ℕ) (s : NominalSpelt) (a : Name) (there : Bool) → has_name a s.names ≡ true → has_name a (if there then s else spelt_with_name words b w s).names ≡ true
name_by words b w s a true h = h
name_by words b w s a false h = name_front a b s.names h

var_by : (words : List (List ℕ)) (y : Var) (w : List ℕ) (s : NominalSpelt) (x : Var) (there : Bool) → has_var x s.vars ≡ true → has_var x (if there then s else with_var words y w s).vars ≡ true
var_by words y w s x true h = h
var_by words y w s x false h = var_front x y s.vars h

same_names_by : (words : List (List ℕ)) (y : Var) (w : List ℕ) (s : NominalSpelt) (a : Name) (there : Bool) → has_name a s.names ≡ true → has_name a (if there then s else with_var words y w s).names ≡ true
same_names_by words y w s a true h = h
same_names_by words y w s a false h = h

same_vars_by : (words : List (List ℕ)) (b : Name) (w : List ℕ) (s : NominalSpelt) (x : Var) (there : Bool) → has_var x s.vars ≡ true → has_var x (if there then s else spelt_with_name words b w s).vars ≡ true
same_vars_by words b w s x true h = h
same_vars_by words b w s x false h = h

name_stays : (words : List (List ℕ)) (g : NominalGiven) (s : NominalSpelt) (a : Name) → has_name a s.names ≡ true → has_name a (give words g s).names ≡ true
name_stays words (given.name b w) s a = name_by words b w s a (has_name b s.names)
name_stays words (given.var y w) s a = same_names_by words y w s a (has_var y s.vars)

var_stays : (words : List (List ℕ)) (g : NominalGiven) (s : NominalSpelt) (x : Var) → has_var x s.vars ≡ true → has_var x (give words g s).vars ≡ true
var_stays words (given.name b w) s x = same_vars_by words b w s x (has_name b s.names)
var_stays words (given.var y w) s x = var_by words y w s x (has_var y s.vars)

names_stay : (words : List (List ℕ)) (gs : List NominalGiven) (s : NominalSpelt) (a : Name) → has_name a s.names ≡ true → has_name a (give_each words gs s).names ≡ true
names_stay words [] s a h = h
names_stay words (g ∷ gs) s a h = names_stay words gs (give words g s) a (name_stays words g s a h)

vars_stay : (words : List (List ℕ)) (gs : List NominalGiven) (s : NominalSpelt) (x : Var) → has_var x s.vars ≡ true → has_var x (give_each words gs s).vars ≡ true
vars_stay words [] s x h = h
vars_stay words (g ∷ gs) s x h = vars_stay words gs (give words g s) x (var_stays words g s x h)

-- what is given now is spelled
name_now : (words : List (List ℕ)) (b : Name) (w : List ℕ) (s : NominalSpelt) (a : Name) (there : Bool) → has_name b s.names ≡ there → name_eq a b ≡ true
    → has_name a (if there then s else spelt_with_name words b w s).names ≡ true
name_now words b w s a true e h = subst (λ c. has_name c s.names ≡ true) (sym (same_name a b h)) e
name_now words b w s a false e h = name_back a b s.names h

var_now : (words : List (List ℕ)) (y : Var) (w : List ℕ) (s : NominalSpelt) (x : Var) (there : Bool) → has_var y s.vars ≡ there → var_eq x y ≡ true
    → has_var x (if there then s else with_var words y w s).vars ≡ true
var_now words y w s x true e h = subst (λ z. has_var z s.vars ≡ true) (sym (same_var x y h)) e
var_now words y w s x false e h = var_back x y s.vars h

now_or_later : {P : Type 0} (b c : Bool) → (b ≡ true → P) → (c ≡ true → P) → (b || c) ≡ true → P
now_or_later true c now later h = now refl
now_or_later false c now later h = later h

pub given_names : GivenNamesAreSpelled
given_names words [] s a h = absurd (true≢false (sym h))
given_names words (given.name b w ∷ gs) s a h =
    now_or_later (name_eq a b) (gives_name a gs) (λ e. names_stay words gs (give words (given.name b w) s) a (name_now words b w s a (has_name b s.names) refl e))
    (given_names words gs (give words (given.name b w) s) a) h
given_names words (given.var y w ∷ gs) s a h = given_names words gs (give words (given.var y w) s) a h

pub given_vars : GivenVarsAreSpelled
given_vars words [] s x h = absurd (true≢false (sym h))
given_vars words (given.name b w ∷ gs) s x h = given_vars words gs (give words (given.name b w) s) x h
given_vars words (given.var y w ∷ gs) s x h =
    now_or_later (var_eq x y) (gives_var x gs) (λ e. vars_stay words gs (give words (given.var y w) s) x (var_now words y w s x (has_var y s.vars) refl e))
    (given_vars words gs (give words (given.var y w) s) x) h
