-- Names and variables of the parts of a goal, and of what is inside a `new` or an `exists`.
use Rattle.std.proofs.Common.{◌≡◌, Bool, true, false, ◌&&◌, ◌||◌, not, if◌then◌else◌, List, [], ◌∷◌, ◌++◌, refl, sym, ap, ap₂, ◌∙◌}
use Rattle.std.proofs.lemmas.List.Folds.{list_all-append, list_any-append}
use Rattle.std.specs.List.{list_all, list_any}
use Rattle.ap_defs.specs.declared.terms.Id.{Id}
use Rattle.ap_defs.specs.declared.terms.Id.TheVariants as ids
use Rattle.ap_defs.specs.declared.terms.Name.{Name}
use Rattle.ap_defs.specs.declared.terms.Var.{Var}
use Rattle.ap_defs.specs.Freshness.{Conds, fresh_under, var_eq}
use Rattle.ap_defs.specs.Occurrences.{without_name, without_var}
use Rattle.ap_defs.specs.Permutations.{name_eq}
use Rattle.ap_checks.specs.OpenEnvironments.{OpenEnvironment}
use Rattle.ap_sides.specs.Brought.{are_apart, are_fresh, is_id_of_name, is_id_of_var}
use Rattle.ap_sides.proofs.BroughtLemmas.{or_true}

or_false : (x : Bool) → (x || false) ≡ x
or_false true = refl
or_false false = refl

all_same : {A : Type 0} (f g : A → Bool) → ((x : A) → f x ≡ g x) → (xs : List A) → list_all f xs ≡ list_all g xs
all_same f g h [] = refl
all_same f g h (x ∷ xs) = ap₂ ◌&&◌ (h x) (all_same f g h xs)

-- what is inside a `new` or an `exists`
module _ (bs : List Id) where
  name_more : (a b : Name) → list_any (is_id_of_name b) (bs ++ ids.Name a ∷ []) ≡ (list_any (is_id_of_name b) bs || name_eq a b)
  name_more a b = list_any-append (is_id_of_name b) bs (ids.Name a ∷ []) ∙ ap (λ v. list_any (is_id_of_name b) bs || v) (or_false (name_eq a b))

  name_still : (x : Var) (b : Name) → list_any (is_id_of_name b) (bs ++ ids.Var x ∷ []) ≡ list_any (is_id_of_name b) bs
  name_still x b = list_any-append (is_id_of_name b) bs (ids.Var x ∷ []) ∙ or_false (list_any (is_id_of_name b) bs)

  var_more : (x y : Var) → list_any (is_id_of_var y) (bs ++ ids.Var x ∷ []) ≡ (list_any (is_id_of_var y) bs || var_eq x y)
  var_more x y = list_any-append (is_id_of_var y) bs (ids.Var x ∷ []) ∙ ap (λ v. list_any (is_id_of_var y) bs || v) (or_false (var_eq x y))

  var_still : (a : Name) (y : Var) → list_any (is_id_of_var y) (bs ++ ids.Name a ∷ []) ≡ list_any (is_id_of_var y) bs
  var_still a y = list_any-append (is_id_of_var y) bs (ids.Name a ∷ []) ∙ or_false (list_any (is_id_of_var y) bs)

  module _ (f : Name → Bool) (a : Name) where
    abbrev name_before : Name → Bool
    name_before b = list_any (is_id_of_name b) bs || f b

    abbrev name_after : Name → Bool
    name_after b = list_any (is_id_of_name b) (bs ++ ids.Name a ∷ []) || f b

    names_inside : (xs : List Name) → list_all name_before (without_name a xs) ≡ list_all name_after xs
    names_inside [] = refl
    names_inside (b ∷ xs) =
        elim (name_eq a b) as (λ v. name_eq a b ≡ v → list_all name_before (if v then without_name a xs else (b ∷ without_name a xs)) ≡ (name_after b && list_all name_after xs)) [
          | true ↦ λ k.
              names_inside xs
              ∙ sym (ap (λ v. v && list_all name_after xs) (ap (λ v. v || f b) (name_more a b ∙ ap (λ v. list_any (is_id_of_name b) bs || v) k ∙ or_true (list_any (is_id_of_name b) bs))))
          | false ↦ λ k.
              ap₂ ◌&&◌ (sym (ap (λ v. v || f b) (name_more a b ∙ ap (λ v. list_any (is_id_of_name b) bs || v) k ∙ or_false (list_any (is_id_of_name b) bs)))) (names_inside xs)
        ] refl

  module _ (f : Var → Bool) (x : Var) where
    abbrev var_before : Var → Bool
    var_before y = list_any (is_id_of_var y) bs || f y

    abbrev var_after : Var → Bool
    var_after y = list_any (is_id_of_var y) (bs ++ ids.Var x ∷ []) || f y

    vars_inside : (ys : List Var) → list_all var_before (without_var x ys) ≡ list_all var_after ys
    vars_inside [] = refl
    vars_inside (y ∷ ys) =
        elim (var_eq x y) as (λ v. var_eq x y ≡ v → list_all var_before (if v then without_var x ys else (y ∷ without_var x ys)) ≡ (var_after y && list_all var_after ys)) [
          | true ↦ λ k.
              vars_inside ys
              ∙ sym (ap (λ v. v && list_all var_after ys) (ap (λ v. v || f y) (var_more x y ∙ ap (λ v. list_any (is_id_of_var y) bs || v) k ∙ or_true (list_any (is_id_of_var y) bs))))
          | false ↦ λ k.
              ap₂ ◌&&◌ (sym (ap (λ v. v || f y) (var_more x y ∙ ap (λ v. list_any (is_id_of_var y) bs || v) k ∙ or_false (list_any (is_id_of_var y) bs)))) (vars_inside ys)
        ] refl

and_pairs : (a b c d : Bool) → ((a && b) && (c && d)) ≡ ((a && c) && (b && d))
and_pairs true true c d = refl
and_pairs true false true d = refl
and_pairs true false false d = refl
and_pairs false b c d = refl

module _ (ds : Conds) (c : Name) (e : OpenEnvironment) (bs : List Id) where
  -- the names and variables of two parts
  pub two_parts : (as' cs : List Name) (xs ys : List Var) → (are_apart c e bs (as' ++ cs) && are_fresh ds c e bs (xs ++ ys))
      ≡ ((are_apart c e bs as' && are_fresh ds c e bs xs) && (are_apart c e bs cs && are_fresh ds c e bs ys))
  two_parts as' cs xs ys =
      ap₂ ◌&&◌ (list_all-append (λ b. list_any (is_id_of_name b) bs || not (name_eq (e.names b) c)) as' cs) (list_all-append (λ x. list_any (is_id_of_var x) bs || fresh_under ds c (e.terms x)) xs ys)
      ∙ and_pairs (are_apart c e bs as') (are_apart c e bs cs) (are_fresh ds c e bs xs) (are_fresh ds c e bs ys)

  pub inside_new : (a : Name) (names : List Name) (vars : List Var) → (are_apart c e bs (without_name a names) && are_fresh ds c e bs vars)
      ≡ (are_apart c e (bs ++ ids.Name a ∷ []) names && are_fresh ds c e (bs ++ ids.Name a ∷ []) vars)
  inside_new a names vars =
      ap₂ ◌&&◌ (names_inside bs (λ b. not (name_eq (e.names b) c)) a names)
      (all_same (λ x. list_any (is_id_of_var x) bs || fresh_under ds c (e.terms x)) (λ x. list_any (is_id_of_var x) (bs ++ ids.Name a ∷ []) || fresh_under ds c (e.terms x))
      (λ x. ap (λ v. v || fresh_under ds c (e.terms x)) (sym (var_still bs a x))) vars)

  pub inside_exists : (x : Var) (names : List Name) (vars : List Var) → (are_apart c e bs names && are_fresh ds c e bs (without_var x vars))
      ≡ (are_apart c e (bs ++ ids.Var x ∷ []) names && are_fresh ds c e (bs ++ ids.Var x ∷ []) vars)
  inside_exists x names vars =
      ap₂ ◌&&◌
      (all_same (λ b. list_any (is_id_of_name b) bs || not (name_eq (e.names b) c)) (λ b. list_any (is_id_of_name b) (bs ++ ids.Var x ∷ []) || not (name_eq (e.names b) c))
      (λ b. ap (λ v. v || not (name_eq (e.names b) c)) (sym (name_still bs x b))) names)
      (vars_inside bs (λ y. fresh_under ds c (e.terms y)) x vars)
