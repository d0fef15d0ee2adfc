-- What names mean within pairs of binders, the outermost first.
use Rattle.std.proofs.Common.{◌≡◌, ◌≤◌, ℕ, suc, Bool, true, false, ◌==◌, ◌&&◌, ◌||◌, not, List, [], ◌∷◌, refl, sym, ap, ◌∙◌, arith, true≢false, inl, inr}
use Rattle.std.proofs.lemmas.Bool.Decides.{nat_tests}
use Rattle.std.specs.Prelude.{Option, Some, None, is_some, if◌then◌else◌}
use Rattle.ap_defs.specs.declared.terms.Name.{Name}
use Rattle.ap_defs.specs.declared.terms.Swap.{Swap}
use Rattle.ap_defs.specs.Permutations.{act_name, inverse, left_name, name_eq, right_name, swap_name, swap_of}
use Rattle.ap_theory.proofs.PermutationLemmas.{act_injective, act_inverse, act_sort, name_eq_act, name_eq_itself, name_eq_moved, name_eq_same, name_tells, not_name, swap_other, swap_right}
use Rattle.ap_judge.specs.Binders.{left_place, means, right_place}
use Rattle.ap_judge.specs.Latest.{last_from, or_here}

-- a place that is found is not below that at which the list begins
abbrev IsFrom : ℕ → Option ℕ → Type 0
IsFrom n None = Unit {0}
IsFrom n (Some i) = n ≤ i

from_here : (o : Option ℕ) (b : Bool) (n : ℕ) → IsFrom (suc n) o → IsFrom n (or_here o b n)
from_here (Some i) b n h = omega (arith, h)
from_here None true n h = omega arith
from_here None false n h = tt

pub places_from : {A : Type 0} (test : A → Bool) (n : ℕ) (xs : List A) → IsFrom n (last_from test n xs)
places_from test n [] = tt
places_from test n (x ∷ xs) = from_here (last_from test (suc n) xs) (test x) n (places_from test (suc n) xs)

differ_later : (i n : ℕ) → suc n ≤ i → (i == n) ≡ false
differ_later i n h = grind (arith, nat_tests)

differ_sooner : (i n : ℕ) → suc n ≤ i → (n == i) ≡ false
differ_sooner i n h = grind (arith, nat_tests)

itself : (n : ℕ) → (n == n) ≡ true
itself n = grind (arith, nat_tests)

-- THE OUTERMOST BINDERS ARE OF ONE NAME

same_free : (n : ℕ) (al br ab : Bool) → (al ≡ true → ab ≡ br) → (al ≡ false → br ≡ true → ab ≡ false)
    → means (if al then Some n else None) (if br then Some n else None) ab ≡ ab
same_free n true true ab h k = itself n ∙ sym (h refl)
same_free n true false ab h k = sym (h refl)
same_free n false true ab h k = sym (k refl refl)
same_free n false false ab h k = refl

one_name : (la lb : Option ℕ) (n : ℕ) (al br ab : Bool) → IsFrom (suc n) la → IsFrom (suc n) lb → (al ≡ true → ab ≡ br) → (al ≡ false → br ≡ true → ab ≡ false)
    → means (or_here la al n) (or_here lb br n) ab ≡ means la lb ab
one_name (Some i) (Some j) n al br ab f g h k = refl
one_name (Some i) None n al true ab f g h k = differ_later i n f
one_name (Some i) None n al false ab f g h k = refl
one_name None (Some j) n true br ab f g h k = differ_sooner j n g
one_name None (Some j) n false br ab f g h k = refl
one_name None None n al br ab f g h k = same_free n al br ab h k

-- THEY ARE OF TWO NAMES

or_true : (h : Bool) → (h || true) ≡ true
or_true true = refl
or_true false = refl

free_else : (n : ℕ) (al br ab moved : Bool) → (br ≡ true → moved ≡ al) → (br ≡ false → moved ≡ ab) → (al ≡ true → br ≡ false → ab ≡ false)
    → means (if al then Some n else None) (if br then Some n else None) ab ≡ moved
free_else n true true ab moved f g h = itself n ∙ sym (f refl)
free_else n false true ab moved f g h = sym (f refl)
free_else n true false ab moved f g h = sym (g refl ∙ h refl refl)
free_else n false false ab moved f g h = sym (g refl)

two_free : (n : ℕ) (h al br cb ab moved : Bool) → (cb ≡ true → h ≡ false) → (cb ≡ true → br ≡ false) → (cb ≡ true → ab ≡ al) → (cb ≡ false → br ≡ true → moved ≡ al)
    → (cb ≡ false → br ≡ false → moved ≡ ab) → (cb ≡ false → al ≡ true → br ≡ false → ab ≡ false)
    → means (if al then Some n else None) (if br then Some n else None) ab ≡ ((h || not cb) && moved)
two_free n true al br true ab moved d e f g j k = absurd (true≢false (d refl))
two_free n false al true true ab moved d e f g j k = absurd (true≢false (e refl))
two_free n false true false true ab moved d e f g j k = refl
two_free n false false false true ab moved d e f g j k = f refl
two_free n h al br false ab moved d e f g j k = free_else n al br ab moved (g refl) (j refl) (k refl) ∙ sym (ap (λ v. v && moved) (or_true h))

and_false : (b : Bool) → (b && false) ≡ false
and_false true = refl
and_false false = refl

some_bound : (h cb m : Bool) → (cb ≡ true → h ≡ true) → m ≡ ((h || not cb) && m)
some_bound h true m e = sym (ap (λ v. (v || false) && m) (e refl))
some_bound h false m e = sym (ap (λ v. v && m) (or_true h))

two_names : (la lb : Option ℕ) (n : ℕ) (h al br cb ab moved : Bool) → IsFrom (suc n) la → IsFrom (suc n) lb → (cb ≡ true → h ≡ is_some lb) → (cb ≡ true → br ≡ false) → (cb ≡ true → ab ≡ al)
    → (cb ≡ false → br ≡ true → moved ≡ al) → (cb ≡ false → br ≡ false → moved ≡ ab) → (cb ≡ false → al ≡ true → br ≡ false → ab ≡ false)
    → means (or_here la al n) (or_here lb br n) ab ≡ ((h || not cb) && means la lb moved)
two_names (Some i) (Some j) n h al br cb ab moved f g c d e k l m = some_bound h cb (i == j) c
two_names (Some i) None n h al true cb ab moved f g c d e k l m = differ_later i n f ∙ sym (and_false (h || not cb))
two_names (Some i) None n h al false cb ab moved f g c d e k l m = sym (and_false (h || not cb))
two_names None (Some j) n h true br cb ab moved f g c d e k l m = differ_sooner j n g ∙ sym (and_false (h || not cb))
two_names None (Some j) n h false br cb ab moved f g c d e k l m = sym (and_false (h || not cb))
two_names None None n h al br cb ab moved f g c d e k l m = two_free n h al br cb ab moved c d e k l m

flipped : (a b : Name) → name_eq a b ≡ name_eq b a
flipped a b =
    elim (name_tells a b) [
      | inl e ↦ e.0 ∙ sym (ap (name_eq b) e.1 ∙ name_eq_itself b)
      | inr e ↦ e.0 ∙ sym (not_name b a (λ h. e.1 (sym h)))
    ]

-- WHAT TWO NAMES MEAN

-- where the permutation acts on the right binders and names
abbrev pub mean_from : ℕ → List Swap → List Swap → Name → Name → Bool
mean_from n ss p a b = means (left_place n ss a) (right_place n ss b) (name_eq a (act_name p b))

module _ (n : ℕ) (s : Swap) (ss p : List Swap) (a b : Name) where
  abbrev l : Name
  l = left_name s

  abbrev r : Name
  r = right_name s

  abbrev c : Name
  c = act_name (inverse p) l

  abbrev swapping : Swap
  swapping = swap_of l (act_name p r)

  sorts : l.sort ≡ (act_name p r).sort
  sorts = sym (act_sort p r)

  pub met_one : name_eq l (act_name p r) ≡ true → mean_from n (s ∷ ss) p a b ≡ mean_from (suc n) ss p a b
  met_one h =
      let same : l ≡ act_name p r = name_eq_same l (act_name p r) h in
      one_name (left_place (suc n) ss a) (right_place (suc n) ss b) n (name_eq a l) (name_eq b r) (name_eq a (act_name p b))
      (places_from (λ (s : Swap). name_eq a (left_name s)) (suc n) ss) (places_from (λ (s : Swap). name_eq b (right_name s)) (suc n) ss)
      (λ e. ap (λ z. name_eq z (act_name p b)) (name_eq_same a l e ∙ same) ∙ name_eq_act p r b ∙ flipped r b)
      (λ e f. ap (λ z. name_eq a (act_name p z)) (name_eq_same b r f) ∙ ap (name_eq a) (sym same) ∙ e)

  module _ (differ : name_eq l (act_name p r) ≡ false) where
    met : name_eq c b ≡ true → act_name p b ≡ l
    met e = ap (act_name p) (sym (name_eq_same c b e)) ∙ act_inverse p l

    other_than_right : name_eq c b ≡ true → name_eq b r ≡ false
    other_than_right e =
        elim (name_tells b r) [
          | inl f ↦ absurd (true≢false (sym (ap (name_eq l) (ap (act_name p) (sym f.1) ∙ met e) ∙ name_eq_itself l) ∙ differ))
          | inr f ↦ f.0
        ]

    unmoved : name_eq c b ≡ false → name_eq b r ≡ false → swap_name swapping (act_name p b) ≡ act_name p b
    unmoved e f =
        swap_other l (act_name p r) (act_name p b) sorts
        (λ h. true≢false (sym (ap (name_eq l) h ∙ name_eq_itself l) ∙ (name_eq_moved p l b ∙ e)))
        (λ h. true≢false (sym (ap (λ z. name_eq z r) (act_injective p b r h) ∙ name_eq_itself r) ∙ f))

    pub met_two : mean_from n (s ∷ ss) p a b ≡ ((is_some (right_place (suc n) ss c) || not (name_eq c b)) && mean_from (suc n) ss (swapping ∷ p) a b)
    met_two =
        two_names (left_place (suc n) ss a) (right_place (suc n) ss b) n (is_some (right_place (suc n) ss c)) (name_eq a l) (name_eq b r) (name_eq c b) (name_eq a (act_name p b))
        (name_eq a (swap_name swapping (act_name p b)))
        (places_from (λ (s : Swap). name_eq a (left_name s)) (suc n) ss) (places_from (λ (s : Swap). name_eq b (right_name s)) (suc n) ss)
        (λ e. ap (λ z. is_some (right_place (suc n) ss z)) (name_eq_same c b e))
        other_than_right
        (λ e. ap (name_eq a) (met e))
        (λ e f. ap (λ z. name_eq a (swap_name swapping (act_name p z))) (name_eq_same b r f) ∙ ap (name_eq a) (swap_right l (act_name p r) sorts))
        (λ e f. ap (name_eq a) (unmoved e f))
        (λ e f g. ap (λ z. name_eq z (act_name p b)) (name_eq_same a l f) ∙ name_eq_moved p l b ∙ e)
