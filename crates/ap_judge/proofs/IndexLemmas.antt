-- Steps of the loops that make the index of an answer, and what is found by it.
use Rattle.std.proofs.Common.{◌≡◌, ◌<◌, ◌≤◌, ◌-◌, ℕ, zero, suc, Bool, true, false, ◌==◌, ◌&&◌, ◌||◌, not, if◌then◌else◌, List, [], ◌∷◌, map, length, get_or, drop, refl, sym, ap, ap₂, ◌∙◌, arith}
use Rattle.std.proofs.Math.Seq.{drop-cons}
use Rattle.std.proofs.lemmas.Bool.Decides.{nat_tests}
use Rattle.std.specs.Map.{lookup}
use Rattle.std.specs.Ordering.{is_eq, nat_cmp, ordering_then}
use Rattle.std.specs.declared.cmp.Ordering.{Ordering}
use Rattle.std.specs.declared.cmp.Ordering.TheVariants.{Less, Equal, Greater}
use Rattle.std.specs.Prelude.{Option, Some, None, is_some}
use Rattle.ap_defs.specs.declared.terms.Cond.{Cond}
use Rattle.ap_defs.specs.declared.terms.Name.{Name}
use Rattle.ap_defs.specs.declared.terms.Ty.{Ty}
use Rattle.ap_defs.specs.declared.terms.Var.{Var}
use Rattle.ap_defs.specs.Answers.{typed_var_of}
use Rattle.ap_defs.specs.Freshness.{Conds, cond_eq, has_cond}
use Rattle.ap_defs.specs.Permutations.{has_name, name_eq}
use Rattle.ap_defs.specs.Types.{type_of}
use Rattle.ap_defs.specs.Unification.{has_var}
use Rattle.ap_checks.specs.Checks.{are_different, each_once}
use Rattle.ap_checks.specs.TypeTests.{type_beside}
use Rattle.ap_judge.specs.Indexes.{place_from, sought, sought_cmp, sought_name, sought_name_cmp}

abbrev firsts : List (Var × Ty) → List Var
firsts vs = map (λ v. v.0) (map typed_var_of vs)

pub at_number : (k x : ℕ) → is_eq (nat_cmp k x) ≡ (k == x)
at_number k x = grind (arith, nat_tests)

turned : (a b : ℕ) → (a == b) ≡ (b == a)
turned a b = grind (arith, nat_tests)

pub eq_then : (a b : Ordering) → is_eq (ordering_then a b) ≡ (is_eq a && is_eq b)
eq_then Less b = refl
eq_then Equal b = refl
eq_then Greater b = refl

and_false : (b : Bool) → (b && false) ≡ false
and_false true = refl
and_false false = refl

drop_all : {A : Type 0} (xs : List A) → drop (length xs) xs ≡ []
drop_all [] = refl
drop_all (x ∷ xs) = drop_all xs

-- A PLACE IS FOUND

found_or : (b : Bool) (n : ℕ) (o : Option ℕ) (h : Bool) → is_some o ≡ h → is_some (if b then Some n else o) ≡ (b || h)
found_or true n o h e = refl
found_or false n o h e = e

-- a place is found just for a variable that stands there
pub found_typed : (n : ℕ) (vs : List (Var × Ty)) (x : Var) → is_some (place_from n vs x.num) ≡ has_var x (map (λ v. v.0) (map typed_var_of vs))
found_typed n [] x = refl
found_typed n (v ∷ vs) x =
    found_or (v.0.num == x.num) n (place_from (suc n) vs x.num) (has_var x (firsts vs)) (found_typed (suc n) vs x) ∙ ap (λ b. b || has_var x (firsts vs)) (turned v.0.num x.num)

-- the type that stands at the place
pub none_beside : (n : ℕ) (vs : List (Var × Ty)) (x : Var) → place_from n vs x.num ≡ None → type_beside (map typed_var_of vs) x ≡ None
none_beside n [] x h = refl
none_beside n (v ∷ vs) x h =
    elim (v.0.num == x.num) as (λ b. (if b then Some n else place_from (suc n) vs x.num) ≡ None → (if b then Some (type_of v.1) else type_beside (map typed_var_of vs) x) ≡ None)
    [ true ↦ λ e. absurd (cc) | false ↦ λ e. none_beside (suc n) vs x e ] h

pub some_beside : (n i : ℕ) (vs : List (Var × Ty)) (x : Var) → place_from n vs x.num ≡ Some i
    → (n ≤ i) × (i - n < length vs) × ((d : Var × Ty) → type_beside (map typed_var_of vs) x ≡ Some (type_of (get_or vs (i - n) d).1))
some_beside n i [] x h = absurd (cc)
some_beside n i (v ∷ vs) x h =
    elim (v.0.num == x.num) as (λ b. (if b then Some n else place_from (suc n) vs x.num) ≡ Some i
    → (n ≤ i) × (i - n < suc (length vs)) × ((d : Var × Ty) → (if b then Some (type_of v.1) else type_beside (map typed_var_of vs) x) ≡ Some (type_of (get_or (v ∷ vs) (i - n) d).1))) [
      | true ↦ λ e.
          let same : n ≡ i = cc in
          let none : i - n ≡ zero = omega arith in
          (omega arith, omega arith, λ d. ap (λ k. Some (type_of (get_or (v ∷ vs) k d).1)) (sym none))
      | false ↦ λ e.
          let later = some_beside (suc n) i vs x e in
          let low : suc n ≤ i = later.0 in
          let high : i - suc n < length vs = later.1 in
          let next : i - n ≡ suc (i - suc n) = omega arith in
          (omega arith, omega arith, λ d. later.2 d ∙ ap (λ k. Some (type_of (get_or (v ∷ vs) k d).1)) (sym next))
    ] h

-- as a look-up meets it
pub beside_at : (vs : List (Var × Ty)) (x : Var) (i : ℕ) (d : Var × Ty) → place_from 0 vs x.num ≡ Some i → type_beside (map typed_var_of vs) x ≡ Some (type_of (get_or vs i d).1)
beside_at vs x i d h =
    let there = some_beside 0 i vs x h in
    let same : i - 0 ≡ i = omega arith in
    there.2 d ∙ ap (λ k. Some (type_of (get_or vs k d).1)) same

pub place_within : (vs : List (Var × Ty)) (x i : ℕ) → place_from 0 vs x ≡ Some i → i < length vs
place_within vs x i h =
    let there = some_beside 0 i vs (record { num = x }) h in
    let low : i - 0 < length vs = there.1 in
    omega arith

-- ONE MORE VARIABLE, FROM THE BACK

pub no_places : (vs : List (Var × Ty)) (n : ℕ) (es : List (ℕ × ℕ)) → n ≡ length vs → es ≡ [] → (x : ℕ) → lookup (λ k. is_eq (nat_cmp x k)) es ≡ place_from n (drop n vs) x
no_places vs n es l e x = ap (lookup (λ k. is_eq (nat_cmp x k))) e ∙ sym (ap (λ ws. place_from n ws x) (ap (λ m. drop m vs) l ∙ drop_all vs))

pub none_twice : (vs : List (Var × Ty)) (n : ℕ) → n ≡ length vs → each_once (map typed_var_of (drop n vs)) ≡ true
none_twice vs n l = ap (λ ws. each_once (map typed_var_of ws)) (ap (λ m. drop m vs) l ∙ drop_all vs)

once_further : (vs : List (Var × Ty)) (i : ℕ) → each_once (map typed_var_of (drop i vs)) ≡ false → each_once (map typed_var_of vs) ≡ false
once_further vs zero h = h
once_further [] (suc i) h = h
once_further (v ∷ vs) (suc i) h = ap (λ b. not (has_var v.0 (firsts vs)) && b) (once_further vs i h) ∙ and_false (not (has_var v.0 (firsts vs)))

module _ (vs : List (Var × Ty)) (i j : ℕ) (d : Var × Ty) (s : i ≡ suc j) (h : j < length vs) where
  abbrev v : Var × Ty
  v = get_or vs j d

  dropped : drop j vs ≡ v ∷ drop i vs
  dropped = drop-cons vs j d h ∙ ap (λ k. v ∷ drop k vs) (sym s)

  once_split : each_once (map typed_var_of (drop j vs)) ≡ (not (has_var v.0 (firsts (drop i vs))) && each_once (map typed_var_of (drop i vs)))
  once_split = ap (λ ws. each_once (map typed_var_of ws)) dropped

  -- what stood there of the variable
  module _ (old : Option ℕ) (place : ℕ → Option ℕ) (was : old ≡ place v.0.num) (inv : (x : ℕ) → place x ≡ place_from i (drop i vs) x) where
    stood : is_some old ≡ has_var v.0 (firsts (drop i vs))
    stood = ap is_some (was ∙ inv v.0.num) ∙ found_typed i (drop i vs) v.0

    pub twice_here : is_some old ≡ true → each_once (map typed_var_of vs) ≡ false
    twice_here k = once_further vs j (once_split ∙ ap (λ b. not b && each_once (map typed_var_of (drop i vs))) (sym stood ∙ k))

    pub once_more : is_some old ≡ false → each_once (map typed_var_of (drop i vs)) ≡ true → each_once (map typed_var_of (drop j vs)) ≡ true
    once_more k once = once_split ∙ ap₂ (λ b c. not b && c) (sym stood ∙ k) once

  pub place_more : (x : ℕ) (place new : ℕ → Option ℕ) → new x ≡ (if is_eq (nat_cmp v.0.num x) then Some j else place x) → place x ≡ place_from i (drop i vs) x → new x ≡ place_from j (drop j vs) x
  place_more x place new put inv =
      put ∙ ap₂ (λ b o. if b then Some j else o) (at_number v.0.num x) (inv ∙ ap (λ k. place_from k (drop i vs) x) s) ∙ sym (ap (λ ws. place_from j ws x) dropped)

-- CONDITIONS

pub sought_eq : (c d : Cond) → is_eq (sought_cmp (sought d) (sought c)) ≡ cond_eq c d
unfolding name_eq
sought_eq c d =
    eq_then (nat_cmp d.var.num c.var.num) (ordering_then (nat_cmp d.name.sort c.name.sort) (nat_cmp d.name.num c.name.num))
    ∙ ap₂ ◌&&◌ (at_number d.var.num c.var.num ∙ turned d.var.num c.var.num)
    (eq_then (nat_cmp d.name.sort c.name.sort) (nat_cmp d.name.num c.name.num)
    ∙ ap₂ ◌&&◌ (at_number d.name.sort c.name.sort ∙ turned d.name.sort c.name.sort) (at_number d.name.num c.name.num ∙ turned d.name.num c.name.num))

pub no_conds : (ds : Conds) (n : ℕ) (ks : List (ℕ × (ℕ × ℕ))) (holds : ℕ × (ℕ × ℕ) → Bool) → n ≡ length ds → ((k : ℕ × (ℕ × ℕ)) → holds k ≡ false) → (c : Cond) → holds (sought c) ≡ has_cond c (drop n ds)
no_conds ds n ks holds l none c = none (sought c) ∙ sym (ap (has_cond c) (ap (λ m. drop m ds) l ∙ drop_all ds))

or_of : (b c : Bool) → (if b then true else c) ≡ (b || c)
or_of true c = refl
or_of false c = refl

pub cond_more : (ds : Conds) (i j : ℕ) (d : Cond) → i ≡ suc j → j < length ds → (c : Cond) (holds new : ℕ × (ℕ × ℕ) → Bool)
    → new (sought c) ≡ (if is_eq (sought_cmp (sought (get_or ds j d)) (sought c)) then true else holds (sought c)) → holds (sought c) ≡ has_cond c (drop i ds) → new (sought c) ≡ has_cond c (drop j ds)
cond_more ds i j d s h c holds new put inv =
    let e = get_or ds j d in
    let dropped : drop j ds ≡ e ∷ drop i ds = drop-cons ds j d h ∙ ap (λ k. e ∷ drop k ds) (sym s) in
    put ∙ or_of (is_eq (sought_cmp (sought e) (sought c))) (holds (sought c)) ∙ ap₂ ◌||◌ (sought_eq c e) inv ∙ sym (ap (has_cond c) dropped)

-- NAMES THAT ARE TO DIFFER

pub sought_name_eq : (a b : Name) → is_eq (sought_name_cmp (sought_name b) (sought_name a)) ≡ name_eq a b
unfolding name_eq
sought_name_eq a b =
    eq_then (nat_cmp b.sort a.sort) (nat_cmp b.num a.num)
    ∙ ap₂ ◌&&◌ (at_number b.sort a.sort ∙ turned b.sort a.sort) (at_number b.num a.num ∙ turned b.num a.num)

pub no_names : (names : List Name) (n : ℕ) (holds : ℕ × ℕ → Bool) → n ≡ length names → ((k : ℕ × ℕ) → holds k ≡ false) → (a : Name) → holds (sought_name a) ≡ has_name a (drop n names)
no_names names n holds l none a = none (sought_name a) ∙ sym (ap (has_name a) (ap (λ m. drop m names) l ∙ drop_all names))

pub none_equal : (names : List Name) (n : ℕ) → n ≡ length names → are_different (drop n names) ≡ true
none_equal names n l = ap are_different (ap (λ m. drop m names) l ∙ drop_all names)

equal_further : (names : List Name) (i : ℕ) → are_different (drop i names) ≡ false → are_different names ≡ false
equal_further names zero h = h
equal_further [] (suc i) h = h
equal_further (a ∷ names) (suc i) h = ap (λ b. not (has_name a names) && b) (equal_further names i h) ∙ and_false (not (has_name a names))

module _ (names : List Name) (i j : ℕ) (d : Name) (s : i ≡ suc j) (h : j < length names) where
  abbrev a : Name
  a = get_or names j d

  names_dropped : drop j names ≡ a ∷ drop i names
  names_dropped = drop-cons names j d h ∙ ap (λ k. a ∷ drop k names) (sym s)

  module _ (new stood : Bool) (is : new ≡ not stood) (was : stood ≡ has_name a (drop i names)) where
    pub equal_here : new ≡ false → are_different names ≡ false
    equal_here k = equal_further names j (ap are_different names_dropped ∙ ap (λ b. not b && are_different (drop i names)) (sym was) ∙ ap (λ b. b && are_different (drop i names)) (sym is ∙ k))

    pub different_more : new ≡ true → are_different (drop i names) ≡ true → are_different (drop j names) ≡ true
    different_more k differ = ap are_different names_dropped ∙ ap (λ b. not b && are_different (drop i names)) (sym was) ∙ ap₂ ◌&&◌ (sym is ∙ k) differ

  pub name_more : (b : Name) (holds new : ℕ × ℕ → Bool) → new (sought_name b) ≡ (if is_eq (sought_name_cmp (sought_name a) (sought_name b)) then true else holds (sought_name b))
      → holds (sought_name b) ≡ has_name b (drop i names) → new (sought_name b) ≡ has_name b (drop j names)
  name_more b holds new put inv =
      put ∙ or_of (is_eq (sought_name_cmp (sought_name a) (sought_name b))) (holds (sought_name b)) ∙ ap₂ ◌||◌ (sought_name_eq b a) inv ∙ sym (ap (has_name b) names_dropped)
