-- A ground proof whose names are exchanged for those of a search.
use Rattle.std.proofs.Common.{◌≡◌, ◌+◌, ◌<◌, ◌≤◌, ℕ, zero, suc, Bool, true, false, List, [], ◌∷◌, ◌++◌, map, length, refl, sym, ap, ap₂, ◌∙◌, inl, inr, arith, true≢false}
use Rattle.std.specs.Prelude.{◌==◌, not, if◌then◌else◌}
use Rattle.std.proofs.lemmas.Bool.Decides.{nat_tests}
use Rattle.ap_defs.specs.Alpha.{alpha, fresh}
use Rattle.ap_defs.specs.Derivations as nodes
use Rattle.ap_defs.specs.Derivations.{GroundProof, height, path}
use Rattle.ap_defs.specs.Freshness.{var_eq}
use Rattle.ap_defs.specs.Goals.{NominalGoal}
use Rattle.ap_defs.specs.GroundProofs.{AlphaEach, Environment, instance, swap_under, term_for}
use Rattle.ap_defs.specs.Occurrences.{names_of_terms, names_then, vars_of_terms}
use Rattle.ap_defs.specs.Permutations.{act_name, has_name, left_name, name_eq, names_of, right_name, swap_name}
use Rattle.ap_defs.specs.Renaming.{local_names, name_unless}
use Rattle.ap_defs.specs.Terms as terms
use Rattle.ap_defs.specs.Terms.{GroundTerm, NominalTerm, act_ground}
use Rattle.ap_defs.specs.Types as types
use Rattle.ap_defs.specs.Types.{NominalConstructor, NominalKind, NominalLocal}
use Rattle.ap_defs.specs.Unification.{has_var, vars_then}
use Rattle.ap_defs.specs.declared.terms.Name.{Name}
use Rattle.ap_defs.specs.declared.terms.Swap.{Swap}
use Rattle.ap_defs.specs.declared.terms.Var.{Var}
use Rattle.ap_complete.specs.RenamedProofs.{in_range, is_brought, is_taken}
use Rattle.ap_program.specs.Typed.{AreMarked, EachOnce, brought, has_number, is_marked}
use Rattle.ap_theory.proofs.BooleanLemmas.{and_both, false_if_not, or_cases, or_if_left, or_if_right}
use Rattle.ap_theory.proofs.DisagreementLemmas.{has_front}
use Rattle.ap_theory.proofs.GroundLemmas.{act_ground-append, alpha_trans, fresh_act}
use Rattle.ap_theory.proofs.PermutationLemmas.{act-append, name_eq_same, swap_name_fixes}
use Rattle.ap_theory.proofs.TermLemmas.{number_same, same_number, same_var, var_same}
use Rattle.ap_ground.specs.Environments.{KeepsSorts, act_proof}
use Rattle.ap_ground.proofs.ListLemmas.{has_names_then, has_vars_then}
use Rattle.ap_complete.specs.NumberedProofs.{IsAmong}
use Rattle.ap_complete.specs.StatementsOnFreshness.{FreshForTerms}

-- THE NUMBERS THAT A SEARCH TAKES

pub range_true : (m k i : ℕ) → m ≤ i → i < m + k → in_range m k i ≡ true
range_true m k i h l = grind (arith, nat_tests)

pub range_is : (m k i : ℕ) → in_range m k i ≡ true → (m ≤ i) × (i < m + k)
range_is m k i h = (range_from m k i h, range_to m k i h)
  where
    range_from : (m k i : ℕ) → in_range m k i ≡ true → m ≤ i
    range_from m k i h = grind (arith, nat_tests)

    range_to : (m k i : ℕ) → in_range m k i ≡ true → i < m + k
    range_to m k i h = grind (arith, nat_tests)

pub brought_is : (n : ℕ) (js : List ℕ) (i : ℕ) → is_brought n js i ≡ true → (j : ℕ) × (has_number j js ≡ true) × (i ≡ n + j)
brought_is n [] i h = absurd (true≢false (sym h))
brought_is n (j ∷ js) i h =
    elim (or_cases (i == n + j) (is_brought n js i) h) [
      | inl e ↦ (j, or_if_left (j == j) (has_number j js) (same_number j j refl), number_same i (n + j) e)
      | inr e ↦ let r = brought_is n js i e in (r.0, or_if_right (r.0 == j) (has_number r.0 js) r.1, r.2)
    ]

pub is_brought_true : (n : ℕ) (js : List ℕ) (j : ℕ) → has_number j js ≡ true → is_brought n js (n + j) ≡ true
is_brought_true n [] j h = h
is_brought_true n (i ∷ js) j h =
    elim (or_cases (j == i) (has_number j js) h) [
      | inl e ↦ or_if_left (n + j == n + i) (is_brought n js (n + j)) (same_number (n + j) (n + i) (ap (λ l. n + l) (number_same j i e)))
      | inr e ↦ or_if_right (n + j == n + i) (is_brought n js (n + j)) (is_brought_true n js j e)
    ]

pub has_number-append : (i : ℕ) (js ks : List ℕ) → has_number i (js ++ ks) ≡ true → (has_number i js ≡ true → ⊥) → has_number i ks ≡ true
has_number-append i [] ks h n = h
has_number-append i (j ∷ js) ks h n =
    elim (or_cases (i == j) (has_number i (js ++ ks)) h) [
      | inl e ↦ absurd (n (or_if_left (i == j) (has_number i js) e))
      | inr e ↦ has_number-append i js ks e (λ k. n (or_if_right (i == j) (has_number i js) k))
    ]

pub number_left : (i : ℕ) (js ks : List ℕ) → has_number i js ≡ true → has_number i (js ++ ks) ≡ true
number_left i [] ks h = absurd (true≢false (sym h))
number_left i (j ∷ js) ks h = elim (or_cases (i == j) (has_number i js) h) [
  | inl e ↦ or_if_left (i == j) (has_number i (js ++ ks)) e
  | inr e ↦ or_if_right (i == j) (has_number i (js ++ ks)) (number_left i js ks e)
]

pub number_right : (i : ℕ) (js ks : List ℕ) → has_number i ks ≡ true → has_number i (js ++ ks) ≡ true
number_right i [] ks h = h
number_right i (j ∷ js) ks h = or_if_right (i == j) (has_number i (js ++ ks)) (number_right i js ks h)

pub once_left : (js ks : List ℕ) → EachOnce (js ++ ks) → EachOnce js
once_left [] ks h = tt
once_left (j ∷ js) ks h = (false_if_not (has_number j js) (λ e. true≢false (sym (number_left j js ks e) ∙ h.0)), once_left js ks h.1)

pub once_right : (js ks : List ℕ) → EachOnce (js ++ ks) → EachOnce ks
once_right [] ks h = h
once_right (j ∷ js) ks h = once_right js ks h.1

-- a goal within another, for which a part of the numbers is taken
pub taken_within : (n m k m' k' : ℕ) (g h : NominalGoal) → m ≤ m' → m' + k' ≤ m + k → ((i : ℕ) → has_number i (brought g) ≡ true → has_number i (brought h) ≡ true)
    → (i : ℕ) → is_taken n m' k' g i ≡ true → is_taken n m k h i ≡ true
taken_within n m k m' k' g h a b c i t =
    elim (or_cases (in_range m' k' i) (is_brought n (brought g) i) t) [
      | inl e ↦ let r = range_is m' k' i e in let low = r.0 in let high = r.1 in or_if_left (in_range m k i) (is_brought n (brought h) i) (range_true m k i (omega arith) (omega arith))
      | inr e ↦
          let r = brought_is n (brought g) i e in
          or_if_right (in_range m k i) (is_brought n (brought h) i) (ap (is_brought n (brought h)) r.2 ∙ is_brought_true n (brought h) r.0 (c r.0 r.1))
    ]

-- AN ITEM'S OWN NAMES

pub record LocalPlace (m : ℕ) (ls : List NominalLocal) (i : ℕ) : Type 0 where
  pub place : ℕ
  pub number : i ≡ m + place
  pub below : place < length ls
  pub unmarked : is_marked ls place ≡ false

pub local_place : (m : ℕ) (ls : List NominalLocal) (a : Name) → has_name a (local_names m ls) ≡ true → LocalPlace m ls a.num
local_place m [] a h = absurd (true≢false (sym h))
local_place m (l ∷ ls) a h = first l.bound l.kind refl h (λ k. next (local_place (suc m) ls a k))
  where
    next : LocalPlace (suc m) ls a.num → LocalPlace m (l ∷ ls) a.num
    next r = let e = r.number in let b = r.below in record { place = suc r.place; number = omega arith; below = omega arith; unmarked = r.unmarked }

    first : (b : Bool) (k : NominalKind) → l.bound ≡ b → has_name a (name_unless b k m (local_names (suc m) ls)) ≡ true
        → (has_name a (local_names (suc m) ls) ≡ true → LocalPlace m (l ∷ ls) a.num) → LocalPlace m (l ∷ ls) a.num
    first true k e i later = later i
    first false (types.var t) e i later = later i
    first false (types.name s) e i later =
        elim (or_cases (name_eq a (record { sort = s; num = m })) (has_name a (local_names (suc m) ls)) i) [
          | inl j ↦
              let same : a.num ≡ m = ap (λ (x : Name). x.num) (name_eq_same a (record { sort = s; num = m }) j) in
              record { place = zero; number = omega arith; below = omega arith; unmarked = e }
          | inr j ↦ later j
        ]

pub marked_below : (ls : List NominalLocal) (i : ℕ) → is_marked ls i ≡ true → i < length ls
marked_below [] i h = absurd (true≢false (sym h))
marked_below (l ∷ ls) zero h = omega arith
marked_below (l ∷ ls) (suc i) h = let k = marked_below ls i h in omega arith

pub one_marked : (ls : List NominalLocal) (js : List ℕ) → AreMarked ls js → (j : ℕ) → has_number j js ≡ true → is_marked ls j ≡ true
one_marked ls [] h j i = absurd (true≢false (sym i))
one_marked ls (k ∷ js) h j i =
    elim (or_cases (j == k) (has_number j js) i) [ inl e ↦ ap (is_marked ls) (number_same j k e) ∙ h.0 | inr e ↦ one_marked ls js h.1 j e ]

-- TERMS

pub fresh_term_for : (a : Name) (xs : List Var) (gs : List GroundTerm) → FreshForTerms a gs → (x : Var) → fresh a (term_for xs gs x) ≡ true
fresh_term_for a [] gs h x = refl
fresh_term_for a (y ∷ ys) [] h x = refl
fresh_term_for a (y ∷ ys) (g ∷ gs) h x =
    elim (var_eq y x) as (λ v. fresh a (if v then g else term_for ys gs x) ≡ true) [ true ↦ h.0 | false ↦ fresh_term_for a ys gs h.1 x ]

pub names_among : (b : Name) (t : NominalTerm) (ts : List NominalTerm) → IsAmong t ts → has_name b (names_then t []) ≡ true → has_name b (names_of_terms ts) ≡ true
names_among b t [] i h = absurd i
names_among b t (u ∷ us) (inl e) h =
    has_names_then b u (names_of_terms us) ∙ or_if_left (has_name b (names_then u [])) (has_name b (names_of_terms us)) (ap (λ z. has_name b (names_then z [])) e ∙ h)
names_among b t (u ∷ us) (inr i) h =
    has_names_then b u (names_of_terms us) ∙ or_if_right (has_name b (names_then u [])) (has_name b (names_of_terms us)) (names_among b t us i h)

pub vars_among : (x : Var) (t : NominalTerm) (ts : List NominalTerm) → IsAmong t ts → has_var x (vars_then t []) ≡ true → has_var x (vars_of_terms ts) ≡ true
vars_among x t [] i h = absurd i
vars_among x t (u ∷ us) (inl e) h =
    has_vars_then x u (vars_of_terms us) ∙ or_if_left (has_var x (vars_then u [])) (has_var x (vars_of_terms us)) (ap (λ z. has_var x (vars_then z [])) e ∙ h)
vars_among x t (u ∷ us) (inr i) h =
    has_vars_then x u (vars_of_terms us) ∙ or_if_right (has_var x (vars_then u [])) (has_var x (vars_of_terms us)) (vars_among x t us i h)

pub among_vars : (f : Var → GroundTerm) (x : Var) (xs : List Var) → has_var x xs ≡ true → IsAmong (f x) (map f xs)
among_vars f x [] h = absurd (true≢false (sym h))
among_vars f x (y ∷ ys) h = elim (or_cases (var_eq x y) (has_var x ys) h) [ inl e ↦ inl (ap f (sym (var_same x y e))) | inr e ↦ inr (among_vars f x ys e) ]

-- a name that is none of those of a term and fresh for what stands for its variables
module _ (e : Environment) (keeps : KeepsSorts e) (a : Name) where
  abbrev NoneOf : List Name → Type 0
  NoneOf as' = (b : Name) → has_name b as' ≡ true → name_eq a (e.names b) ≡ false

  none_first : (b : Name) (as' : List Name) → NoneOf (b ∷ as') → name_eq a (e.names b) ≡ false
  none_first b as' h = h b (has_front b as')

  none_rest : (b : Name) (as' : List Name) → NoneOf (b ∷ as') → NoneOf as'
  none_rest b as' h c i = h c (or_if_right (name_eq c b) (has_name c as') i)

  left_under : (s : Swap) → left_name (swap_under e s) ≡ e.names (left_name s)
  left_under s = ap (λ n. record { sort = n; num = (e.names (left_name s)).num }) (sym (keeps (left_name s)))

  right_under : (s : Swap) → right_name (swap_under e s) ≡ e.names (right_name s)
  right_under s = ap (λ n. record { sort = n; num = (e.names (right_name s)).num }) (sym (keeps (right_name s)))

  unmoved : (p : List Swap) (as' : List Name) → NoneOf (names_of p ++ as') → (act_name (map (swap_under e) p) a ≡ a) × NoneOf as'
  unmoved [] as' h = (refl, h)
  unmoved (s ∷ p) as' h =
      let later = none_rest (left_name s) (right_name s ∷ names_of p ++ as') h in
      let k = unmoved p as' (none_rest (right_name s) (names_of p ++ as') later) in (
        ap (swap_name (swap_under e s)) k.0
            ∙ swap_name_fixes (swap_under e s) a (ap (name_eq a) (left_under s) ∙ none_first (left_name s) (right_name s ∷ names_of p ++ as') h)
            (ap (name_eq a) (right_under s) ∙ none_first (right_name s) (names_of p ++ as') later),
        k.1,
      )

  abbrev FreshVars : List Var → Type 0
  FreshVars xs = (x : Var) → has_var x xs ≡ true → fresh a (e.terms x) ≡ true

  fresh_parts_then : (t : NominalTerm) (as' : List Name) (xs : List Var) → NoneOf (names_then t as') → FreshVars (vars_then t xs) → (fresh a (instance e t) ≡ true) × NoneOf as' × FreshVars xs
  fresh_parts_then terms.unit as' xs h k = (refl, h, k)
  fresh_parts_then (terms.name b) as' xs h k = (ap not (none_first b as' h), none_rest b as' h, k)
  fresh_parts_then (terms.pair t u) as' xs h k =
      let l = fresh_parts_then t (names_then u as') (vars_then u xs) h k in
      let r = fresh_parts_then u as' xs l.1 l.2 in
      (and_both (fresh a (instance e t)) (fresh a (instance e u)) l.0 r.0, r.1, r.2)
  fresh_parts_then (terms.app f t) as' xs h k = fresh_parts_then t as' xs h k
  fresh_parts_then (terms.abs b t) as' xs h k =
      let l = fresh_parts_then t as' xs (none_rest b (names_then t as') h) k in
      (or_if_right (name_eq a (e.names b)) (fresh a (instance e t)) l.0, l.1, l.2)
  fresh_parts_then (terms.susp p x) as' xs h k =
      let q = map (swap_under e) p in
      let l = unmoved p as' h in
      (ap (λ b. fresh b (act_ground q (e.terms x))) (sym l.0) ∙ fresh_act q a (e.terms x) ∙ k x (or_if_left (var_eq x x) (has_var x xs) (same_var x x refl)), l.1, λ y i. k y (or_if_right (var_eq y x) (has_var y xs) i))

  pub fresh_parts : (t : NominalTerm) → NoneOf (names_then t []) → FreshVars (vars_then t []) → fresh a (instance e t) ≡ true
  fresh_parts t h k = (fresh_parts_then t [] [] h k).0

-- instances in place of instances
pub each_replaced : (ts : List NominalTerm) (us : List GroundTerm) (f g : NominalTerm → GroundTerm) → ((t : NominalTerm) → IsAmong t ts → alpha (g t) (f t) ≡ true)
    → AlphaEach (map f ts) us → AlphaEach (map g ts) us
each_replaced [] us f g h k = k
each_replaced (t ∷ ts) [] f g h k = absurd k
each_replaced (t ∷ ts) (u ∷ us) f g h k = (alpha_trans (g t) (f t) u (h t (inl refl)) k.0, each_replaced ts us f g (λ v i. h v (inr i)) k.1)

-- PERMUTATIONS OF PROOFS

terms_act-append : (s t : List Swap) (gs : List GroundTerm) → map (act_ground s) (map (act_ground t) gs) ≡ map (act_ground (s ++ t)) gs
terms_act-append s t [] = refl
terms_act-append s t (g ∷ gs) = ap₂ ◌∷◌ (sym (act_ground-append s t g)) (terms_act-append s t gs)

pub names_act-append : (s t : List Swap) (as' : List Name) → map (act_name s) (map (act_name t) as') ≡ map (act_name (s ++ t)) as'
names_act-append s t [] = refl
names_act-append s t (a ∷ as') = ap₂ ◌∷◌ (sym (act-append s t a)) (names_act-append s t as')

pub act_proof-append : (s t : List Swap) (d : GroundProof) → act_proof s (act_proof t d) ≡ act_proof (s ++ t) d
act_proof-append s t (nodes.atom k as' gs d) =
    ap₂ (λ (x : List Name × List GroundTerm) (y : GroundProof). nodes.atom k x.0 x.1 y) (ap₂ (λ (x : List Name) (y : List GroundTerm). (x, y)) (names_act-append s t as') (terms_act-append s t gs))
    (act_proof-append s t d)
act_proof-append s t nodes.equal = refl
act_proof-append s t nodes.fresh = refl
act_proof-append s t nodes.succeed = refl
act_proof-append s t (nodes.both d e) = ap₂ nodes.both (act_proof-append s t d) (act_proof-append s t e)
act_proof-append s t (nodes.left d) = ap nodes.left (act_proof-append s t d)
act_proof-append s t (nodes.right d) = ap nodes.right (act_proof-append s t d)
act_proof-append s t (nodes.exists g d) = ap₂ nodes.exists (sym (act_ground-append s t g)) (act_proof-append s t d)
act_proof-append s t (nodes.new c d) = ap₂ nodes.new (sym (act-append s t c)) (act_proof-append s t d)
