-- Conditions under their places: they are sorted as they are kept.
use Rattle.std.proofs.Common.{◌≡◌, ◌≢◌, ℕ, ◌+◌, ◌-◌, ◌<◌, ◌≤◌, nat_lt, Bool, true, false, not, cond, List, [], ◌∷◌, map, length, drop, get_or, refl, sym, ap, ap₂, subst, ◌∙◌, arith, add-one, drop-cons}
use Rattle.std.specs.Prelude.{Some, None, if◌then◌else◌, filter, position, ◌==◌}
use Rattle.std.specs.List.{position_or_len}
use Rattle.std.specs.Prelude.{◌⊎◌}
use Rattle.std.proofs.lemmas.List.Quantifiers.{position-Some}
use Rattle.std.proofs.lemmas.List.{get_or_default}
use Rattle.std.proofs.Common.{inl, inr}
use Rattle.std.proofs.lemmas.Bool.Decides.{nat_tests}
use Rattle.std.specs.Ordering.{match_ordering, ordering_then}
use Rattle.std.specs.BTreeMap.{insert_entry}
use Rattle.ap_defs.specs.declared.terms.Name.{Name}
use Rattle.ap_defs.specs.declared.terms.Var.{Var}
use Rattle.ap_defs.specs.declared.terms.Cond.{Cond}
use Rattle.ap_defs.specs.Permutations.{name_eq}
use Rattle.ap_defs.specs.Freshness.{var_eq}
use Rattle.ap_defs.specs.Lines.{comes_first, var_comes_first, printed_before, insert_cond, sort_conds}
use Rattle.ap_answers.specs.Conditions.{occurs_in, Occurs, placed_cmp}
use Rattle.std.specs.declared.cmp.Ordering.TheVariants.{Less, Equal, Greater}
use Rattle.ap_theory.proofs.PermutationLemmas.{name_tells}

-- Places in a list of things that a test tells apart.
module _ {A : Type 0} (eq : A → A → Bool) (tells : (a b : A) → ((eq a b ≡ true) × (a ≡ b)) ⊎ ((eq a b ≡ false) × (a ≢ b))) where
  flips : (a b : A) → eq a b ≡ eq b a
  flips a b = elim (tells a b) [
    | inl h ↦ ap (λ x. eq x b) h.1 ∙ ap (λ x. eq b x) (sym h.1)
    | inr h ↦ elim (tells b a) [ inl k ↦ absurd (h.1 (sym k.1)) | inr k ↦ h.0 ∙ sym k.0 ]
  ]

  before_in : List A → A → A → Bool
  before_in [] a b = false
  before_in (c ∷ cs) a b = if eq c a then not (eq c b) else (if eq c b then false else before_in cs a b)

  first_place : (p q : Bool) (m n : ℕ) (r : Bool) → r ≡ nat_lt m n → (if p then not q else (if q then false else r)) ≡ nat_lt (cond (not p) (1 + m) 0) (cond (not q) (1 + n) 0)
  first_place true true m n r h = refl
  first_place true false m n r h = grind (arith, nat_tests)
  first_place false true m n r h = grind (arith, nat_tests)
  first_place false false m n r h = grind (arith, nat_tests, h)

  before_by_place : (cs : List A) (a b : A) → before_in cs a b ≡ nat_lt (position_or_len (eq a) cs) (position_or_len (eq b) cs)
  unfolding before_in
  before_by_place [] a b = refl
  before_by_place (c ∷ cs) a b = rw (flips a c, flips b c) (first_place (eq c a) (eq c b) (position_or_len (eq a) cs) (position_or_len (eq b) cs) (before_in cs a b) (before_by_place cs a b))

  at_place : (cs : List A) (a : A) (i : ℕ) → position (eq a) cs ≡ Some i → a ≡ get_or cs i a
  at_place cs a i h = elim (tells a (get_or cs i a)) [
    | inl e ↦ e.1
    | inr e ↦ let two : true ≡ false = sym (position-Some (eq a) cs i a h).1 ∙ e.0 in cc
  ]

  same_place : (cs : List A) (a b : A) (i j : ℕ) → position (eq a) cs ≡ Some i → position (eq b) cs ≡ Some j → eq a b ≡ (i == j)
  same_place cs a b i j h k = elim (tells a b) [
    | inl e ↦
        let one : Some i ≡ Some j = sym h ∙ ap (λ x. position (eq x) cs) e.1 ∙ k in
        let same : i ≡ j = cc in rw (e.0, same) (grind (arith, nat_tests))
    | inr e ↦
        let apart : i ≢ j = λ same. e.1 (at_place cs a i h ∙ ap (λ n. get_or cs n a) same ∙ get_or_default cs j a b (position-Some (eq b) cs j b k).0 ∙ sym (at_place cs b j k)) in
        rw e.0 (grind (arith, nat_tests))
  ]

names_before : (cs : List Name) (a b : Name) → comes_first cs a b ≡ before_in name_eq name_tells cs a b
unfolding before_in
names_before [] a b = refl
names_before (c ∷ cs) a b = ap (λ r. if name_eq c a then not (name_eq c b) else (if name_eq c b then false else r)) (names_before cs a b)

same_num : (m n : ℕ) → (m == n) ≡ true → m ≡ n
same_num m n h = grind (arith, nat_tests)

num_itself : (m : ℕ) → (m == m) ≡ true
num_itself m = grind (arith, nat_tests)

nat_tells : (m n : ℕ) → (((m == n) ≡ true) × (m ≡ n)) ⊎ (((m == n) ≡ false) × (m ≢ n))
nat_tells m n =
    elim (m == n) as (λ v. (m == n) ≡ v → (((m == n) ≡ true) × (m ≡ n)) ⊎ (((m == n) ≡ false) × (m ≢ n))) [
      | true ↦ λ e. inl (e, same_num m n e)
      | false ↦ λ e. inr (e, λ h. let two : true ≡ false = sym (num_itself m) ∙ ap (λ k. m == k) h ∙ e in cc)
    ] refl

apart : (m n : ℕ) → nat_lt m n ≡ true → (m == n) ≡ false
apart m n h = grind (arith, nat_tests)

pub var_tells : (x y : Var) → ((var_eq x y ≡ true) × (x ≡ y)) ⊎ ((var_eq x y ≡ false) × (x ≢ y))
var_tells x y = elim (nat_tells x.num y.num) [
  | inl h ↦ inl (h.0, ap (λ n. let v : Var = record { num = n } in v) h.1)
  | inr h ↦ inr (h.0, λ e. h.1 (ap (λ (v : Var). v.num) e))
]

vars_before : (cs : List Var) (x y : Var) → var_comes_first cs x y ≡ before_in var_eq var_tells cs x y
unfolding before_in
vars_before [] x y = refl
vars_before (c ∷ cs) x y = ap (λ r. if var_eq c x then not (var_eq c y) else (if var_eq c y then false else r)) (vars_before cs x y)

place_when : (b : Bool) (m i : ℕ) → cond b (Some m) None ≡ Some i → m ≡ i
place_when true m i h = cc
place_when false m i h = cc

place_is : {A : Type 0} (p : A → Bool) (cs : List A) (i : ℕ) → position p cs ≡ Some i → position_or_len p cs ≡ i
place_is p cs i h = place_when (nat_lt (position_or_len p cs) (length cs)) (position_or_len p cs) i h

-- the order of conditions is that of their places
before_places : (names : List Name) (vars : List Var) (c d : Cond) (i j k l : ℕ) → Occurs names vars c i j → Occurs names vars d k l
    → printed_before names vars c d ≡ (if i == k then nat_lt j l else nat_lt i k)
before_places names vars c d i j k l h m =
    rw (
      same_place var_eq var_tells vars c.var d.var i k h.var m.var,
      names_before names c.name d.name,
      before_by_place name_eq name_tells names c.name d.name,
      place_is (name_eq c.name) names j h.name,
      place_is (name_eq d.name) names l m.name,
      vars_before vars c.var d.var,
      before_by_place var_eq var_tells vars c.var d.var,
      place_is (var_eq c.var) vars i h.var,
      place_is (var_eq d.var) vars k m.var,
    ) refl

chosen_by : {X : Type 0} (p e q f r g : Bool) (x y z : X) → r ≡ false → g ≡ false → (p ≡ true → e ≡ false) → (q ≡ true → f ≡ false)
    → match_ordering (ordering_then (cond p Less (cond e Equal Greater)) (ordering_then (cond q Less (cond f Equal Greater)) (cond r Less (cond g Equal Greater)))) x y z
    ≡ (if (if e then q else p) then x else z)
chosen_by true true q f r g x y z rf gf a b = let no : true ≡ false = a refl in cc
chosen_by true false q f r g x y z rf gf a b = refl
chosen_by false false q f r g x y z rf gf a b = refl
chosen_by false true true f r g x y z rf gf a b = refl
chosen_by false true false true r g x y z rf gf a b = rw (rf, gf) refl
chosen_by false true false false r g x y z rf gf a b = refl

ordered : {X : Type 0} (i j m k l n : ℕ) (x y z : X) → n < m
    → match_ordering (placed_cmp (i, j, m) (k, l, n)) x y z ≡ (if (if i == k then nat_lt j l else nat_lt i k) then x else z)
ordered i j m k l n x y z h =
    chosen_by (nat_lt i k) (i == k) (nat_lt j l) (j == l) (nat_lt m n) (m == n) x y z (grind (arith, nat_tests)) (grind (arith, nat_tests)) (apart i k) (apart j l)

-- Conditions under their places and numbers up to n.
abbrev pub Keyed : List Name → List Var → ℕ → List ((ℕ × ℕ × ℕ) × Cond) → Type 0
Keyed names vars n [] = Unit {0}
Keyed names vars n (e ∷ es) = Occurs names vars e.1 e.0.0 e.0.1 × (e.0.2 ≤ n) × Keyed names vars n es

abbrev pub kept_conds : List ((ℕ × ℕ × ℕ) × Cond) → List Cond
kept_conds = map (λ e. e.1)

inserted_if : (b : Bool) (before : Cond → Cond → Bool) (c : Cond) (k : ℕ × ℕ × ℕ) (e : (ℕ × ℕ × ℕ) × Cond) (es ds : List ((ℕ × ℕ × ℕ) × Cond)) → before c e.1 ≡ b → kept_conds ds ≡ insert_cond before c (kept_conds es)
    → kept_conds (if b then ((k, c) ∷ e ∷ es) else (e ∷ ds)) ≡ insert_cond before c (kept_conds (e ∷ es))
inserted_if true before c k e es ds h i = rw h refl
inserted_if false before c k e es ds h i = rw (h, i) refl

pub kept_in_order : (names : List Name) (vars : List Var) (n m i j : ℕ) (c : Cond) (es : List ((ℕ × ℕ × ℕ) × Cond)) → n < m → Occurs names vars c i j → Keyed names vars n es
    → kept_conds (insert_entry placed_cmp es (i, j, m) c) ≡ insert_cond (printed_before names vars) c (kept_conds es)
kept_in_order names vars n m i j c [] h o keyed = refl
kept_in_order names vars n m i j c (e ∷ es) h o keyed =
    ap kept_conds (ordered i j m e.0.0 e.0.1 e.0.2 (((i, j, m), c) ∷ e ∷ es) ((e.0, c) ∷ es) (e ∷ insert_entry placed_cmp es (i, j, m) c) (omega (arith, keyed.1)))
    ∙ inserted_if (if i == e.0.0 then nat_lt j e.0.1 else nat_lt i e.0.0) (printed_before names vars) c (i, j, m) e es (insert_entry placed_cmp es (i, j, m) c)
    (before_places names vars c e.1 i j e.0.0 e.0.1 o keyed.0) (kept_in_order names vars n m i j c es h o keyed.2)

keyed_more : (names : List Name) (vars : List Var) (n m : ℕ) (es : List ((ℕ × ℕ × ℕ) × Cond)) → n ≤ m → Keyed names vars n es → Keyed names vars m es
keyed_more names vars n m [] h k = tt
keyed_more names vars n m (e ∷ es) h k = (k.0, omega (arith, k.1), keyed_more names vars n m es h k.2)

keyed_if : (names : List Name) (vars : List Var) (m : ℕ) (b : Bool) (d e : (ℕ × ℕ × ℕ) × Cond) (es ds : List ((ℕ × ℕ × ℕ) × Cond)) → Keyed names vars m (d ∷ e ∷ es) → Keyed names vars m ds → Keyed names vars m (if b then (d ∷ e ∷ es) else (e ∷ ds))
keyed_if names vars m true d e es ds h k = h
keyed_if names vars m false d e es ds h k = (h.2.0, h.2.1, k)

pub kept_keyed : (names : List Name) (vars : List Var) (n m i j : ℕ) (c : Cond) (es : List ((ℕ × ℕ × ℕ) × Cond)) → n < m → Occurs names vars c i j → Keyed names vars n es
    → Keyed names vars m (insert_entry placed_cmp es (i, j, m) c)
kept_keyed names vars n m i j c [] h o keyed = (o, omega arith, tt)
kept_keyed names vars n m i j c (e ∷ es) h o keyed =
    subst (Keyed names vars m) (sym (ordered i j m e.0.0 e.0.1 e.0.2 (((i, j, m), c) ∷ e ∷ es) ((e.0, c) ∷ es) (e ∷ insert_entry placed_cmp es (i, j, m) c) (omega (arith, keyed.1))))
    (keyed_if names vars m (if i == e.0.0 then nat_lt j e.0.1 else nat_lt i e.0.0) ((i, j, m), c) e es (insert_entry placed_cmp es (i, j, m) c)
    (o, omega arith, keyed_more names vars n m (e ∷ es) (omega arith) keyed) (kept_keyed names vars n m i j c es h o keyed.2))

filter_keeps : (p : Cond → Bool) (c : Cond) (cs : List Cond) → p c ≡ true → filter p (c ∷ cs) ≡ c ∷ filter p cs
filter_keeps p c cs e = rw e refl

filter_drops : (p : Cond → Bool) (c : Cond) (cs : List Cond) → p c ≡ false → filter p (c ∷ cs) ≡ filter p cs
filter_drops p c cs e = rw e refl

front_at : (cs : List Cond) (c : Cond) (left next : ℕ) → next + 1 ≡ left → left ≤ length cs → c ≡ get_or cs next c → drop next cs ≡ c ∷ drop left cs
front_at cs c left next s h e =
    let within : next < length cs = omega arith in
    drop-cons cs next c within ∙ ap₂ (λ (x : Cond) n. x ∷ drop n cs) (sym e) (sym (add-one next) ∙ s)

-- one condition more, from the end on
pub kept_next : (names : List Name) (vars : List Var) (cs : List Cond) (c : Cond) (left next i j : ℕ) (es fs : List ((ℕ × ℕ × ℕ) × Cond)) → next + 1 ≡ left → left ≤ length cs → c ≡ get_or cs next c
    → kept_conds es ≡ sort_conds (printed_before names vars) (filter (occurs_in names vars) (drop left cs)) → Keyed names vars (length cs - left) es → Occurs names vars c i j
    → fs ≡ insert_entry placed_cmp es (i, j, length cs - next) c
    → (kept_conds fs ≡ sort_conds (printed_before names vars) (filter (occurs_in names vars) (drop next cs))) × Keyed names vars (length cs - next) fs
kept_next names vars cs c left next i j es fs s h e k keyed o f =
    let more : length cs - left < length cs - next = omega arith in
    let front : filter (occurs_in names vars) (drop next cs) ≡ c ∷ filter (occurs_in names vars) (drop left cs) =
    ap (filter (occurs_in names vars)) (front_at cs c left next s h e) ∙ filter_keeps (occurs_in names vars) c (drop left cs) o.there
    in (
      ap kept_conds f ∙ kept_in_order names vars (length cs - left) (length cs - next) i j c es more o keyed ∙ ap (insert_cond (printed_before names vars) c) k ∙ ap (sort_conds (printed_before names vars)) (sym front),
      subst (Keyed names vars (length cs - next)) (sym f) (kept_keyed names vars (length cs - left) (length cs - next) i j c es more o keyed),
    )

pub passed_next : (names : List Name) (vars : List Var) (cs : List Cond) (c : Cond) (left next : ℕ) (es : List ((ℕ × ℕ × ℕ) × Cond)) → next + 1 ≡ left → left ≤ length cs → c ≡ get_or cs next c
    → kept_conds es ≡ sort_conds (printed_before names vars) (filter (occurs_in names vars) (drop left cs)) → Keyed names vars (length cs - left) es → occurs_in names vars c ≡ false
    → (kept_conds es ≡ sort_conds (printed_before names vars) (filter (occurs_in names vars) (drop next cs))) × Keyed names vars (length cs - next) es
passed_next names vars cs c left next es s h e k keyed o = (
  k ∙ ap (sort_conds (printed_before names vars)) (sym (ap (filter (occurs_in names vars)) (front_at cs c left next s h e) ∙ filter_drops (occurs_in names vars) c (drop left cs) o)),
  keyed_more names vars (length cs - left) (length cs - next) es (omega arith) keyed,
)

pub name_flips : (a b : Name) → name_eq a b ≡ name_eq b a
name_flips a b = flips name_eq name_tells a b

pub var_flips : (x y : Var) → var_eq x y ≡ var_eq y x
var_flips x y = flips var_eq var_tells x y
