-- Steps of the loops over what is brought, and over names and variables.
use Rattle.std.proofs.Common.{◌≡◌, ◌<◌, ◌+◌, ℕ, Bool, true, false, ◌&&◌, ◌||◌, not, List, length, get_or, drop, refl, sym, ap, ap₂, ◌∙◌, add-one}
use Rattle.std.proofs.Math.Seq.{drop-cons}
use Rattle.std.specs.List.{list_all, list_any}
use Rattle.ap_defs.specs.declared.terms.Id.{Id}
use Rattle.ap_defs.specs.declared.terms.Name.{Name}
use Rattle.ap_defs.specs.declared.terms.Var.{Var}
use Rattle.ap_defs.specs.Freshness.{Conds, fresh_under}
use Rattle.ap_defs.specs.Permutations.{name_eq}
use Rattle.ap_checks.specs.OpenEnvironments.{OpenEnvironment}
use Rattle.ap_sides.specs.Brought.{are_apart, are_fresh, is_id_of_name, is_id_of_var}

module _ {A : Type 0} (f : A → Bool) (xs : List A) (i : ℕ) (d : A) (h : i < length xs) where
  any_split : list_any f (drop i xs) ≡ (f (get_or xs i d) || list_any f (drop (i + 1) xs))
  any_split = ap (list_any f) (drop-cons xs i d h) ∙ ap (λ n. f (get_or xs i d) || list_any f (drop n xs)) (sym (add-one i))

  pub any_here : f (get_or xs i d) ≡ true → list_any f (drop i xs) ≡ true
  any_here k = any_split ∙ ap (λ v. v || list_any f (drop (i + 1) xs)) k

  pub any_later : f (get_or xs i d) ≡ false → list_any f (drop (i + 1) xs) ≡ list_any f (drop i xs)
  any_later k = sym (any_split ∙ ap (λ v. v || list_any f (drop (i + 1) xs)) k)

  all_split : list_all f (drop i xs) ≡ (f (get_or xs i d) && list_all f (drop (i + 1) xs))
  all_split = ap (list_all f) (drop-cons xs i d h) ∙ ap (λ n. f (get_or xs i d) && list_all f (drop n xs)) (sym (add-one i))

  pub all_not : f (get_or xs i d) ≡ false → list_all f (drop i xs) ≡ false
  all_not k = all_split ∙ ap (λ v. v && list_all f (drop (i + 1) xs)) k

  pub all_later : f (get_or xs i d) ≡ true → list_all f (drop (i + 1) xs) ≡ list_all f (drop i xs)
  all_later k = sym (all_split ∙ ap (λ v. v && list_all f (drop (i + 1) xs)) k)

pub or_true : (x : Bool) → (x || true) ≡ true
or_true true = refl
or_true false = refl

-- one of the names or variables
module _ (e : OpenEnvironment) (c : Name) (bs : List Id) (names : List Name) (i : ℕ) (d : Name) (h : i < length names) where
  abbrev apart : Name → Bool
  apart b = list_any (is_id_of_name b) bs || not (name_eq (e.names b) c)

  pub name_stands : name_eq (e.names (get_or names i d)) c ≡ true → list_any (is_id_of_name (get_or names i d)) bs ≡ false → are_apart c e bs (drop i names) ≡ false
  name_stands k l = all_not apart names i d h (ap₂ (λ v w. v || not w) l k)

  pub name_brought : list_any (is_id_of_name (get_or names i d)) bs ≡ true → are_apart c e bs (drop (i + 1) names) ≡ are_apart c e bs (drop i names)
  name_brought k = all_later apart names i d h (ap (λ v. v || not (name_eq (e.names (get_or names i d)) c)) k)

  pub name_apart : name_eq (e.names (get_or names i d)) c ≡ false → are_apart c e bs (drop (i + 1) names) ≡ are_apart c e bs (drop i names)
  name_apart k = all_later apart names i d h (ap (λ v. list_any (is_id_of_name (get_or names i d)) bs || not v) k ∙ or_true (list_any (is_id_of_name (get_or names i d)) bs))

module _ (ds : Conds) (e : OpenEnvironment) (c : Name) (bs : List Id) (vars : List Var) (i : ℕ) (d : Var) (h : i < length vars) where
  abbrev fresh : Var → Bool
  fresh x = list_any (is_id_of_var x) bs || fresh_under ds c (e.terms x)

  pub var_not : list_any (is_id_of_var (get_or vars i d)) bs ≡ false → fresh_under ds c (e.terms (get_or vars i d)) ≡ false → are_fresh ds c e bs (drop i vars) ≡ false
  var_not k l = all_not fresh vars i d h (ap₂ ◌||◌ k l)

  pub var_brought : list_any (is_id_of_var (get_or vars i d)) bs ≡ true → are_fresh ds c e bs (drop (i + 1) vars) ≡ are_fresh ds c e bs (drop i vars)
  var_brought k = all_later fresh vars i d h (ap (λ v. v || fresh_under ds c (e.terms (get_or vars i d))) k)

  pub var_fresh : fresh_under ds c (e.terms (get_or vars i d)) ≡ true → are_fresh ds c e bs (drop (i + 1) vars) ≡ are_fresh ds c e bs (drop i vars)
  var_fresh k = all_later fresh vars i d h (ap (λ v. list_any (is_id_of_var (get_or vars i d)) bs || v) k ∙ or_true (list_any (is_id_of_var (get_or vars i d)) bs))
