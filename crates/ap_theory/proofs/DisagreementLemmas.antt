-- The names on which two permutations differ, as the ascending list of them.
use Rattle.std.proofs.Common.{subst, ◌≡◌, ◌≢◌, Bool, true, false, ◌&&◌, ◌||◌, not, List, [], ◌∷◌, ◌++◌, refl, sym, ap, ap₂, ◌∙◌, inl, inr, arith, true≢false}
use Rattle.std.specs.Prelude.{if◌then◌else◌}
use Rattle.std.proofs.lemmas.Bool.Decides.{nat_tests}
use Rattle.std.specs.List.{list_all}
use Rattle.ap_defs.specs.Permutations.{IsSamePerm, act_name, add_name, differing, disagreement, has_name, left_name, name_before, name_eq, names_of, right_name, swap_name}
use Rattle.ap_defs.specs.declared.terms.Name.{Name}
use Rattle.ap_defs.specs.declared.terms.Swap.{Swap}
use Rattle.ap_theory.proofs.BooleanLemmas.{and_both, and_false, and_left, and_right, or_and_absorb, or_and_distribute, or_cases, or_false, or_if_right}
use Rattle.ap_theory.proofs.OrderedLemmas.{IsAscending, IsOrder, add, ascending_add, has, member_add, same_ascending}
use Rattle.ap_theory.proofs.PermutationLemmas.{name_decided, name_eq_itself, name_eq_same, name_tells, not_name, swap_name_fixes}

-- a permutation fixes what it doesn't mention
pub act_unnamed : (p : List Swap) (c : Name) → has_name c (names_of p) ≡ false → act_name p c ≡ c
act_unnamed [] c h = refl
act_unnamed (s ∷ p) c h =
    let k = or_false (name_eq c (left_name s)) (name_eq c (right_name s) || has_name c (names_of p)) h in
    let l = or_false (name_eq c (right_name s)) (has_name c (names_of p)) k.1 in
    ap (swap_name s) (act_unnamed p c l.1) ∙ swap_name_fixes s c k.0 l.0

pub has_name-append : (c : Name) (as' bs : List Name) → has_name c (as' ++ bs) ≡ (has_name c as' || has_name c bs)
has_name-append c [] bs = refl
has_name-append c (a ∷ as') bs = elim (name_eq c a) as (λ v. (v || has_name c (as' ++ bs)) ≡ ((v || has_name c as') || has_name c bs)) [ true ↦ refl | false ↦ has_name-append c as' bs ]

pub differing_named : (p q : List Swap) (c : Name) → act_name p c ≢ act_name q c → has_name c (names_of p ++ names_of q) ≡ true
differing_named p q c n =
    elim (has_name c (names_of p ++ names_of q)) as (λ v. has_name c (names_of p ++ names_of q) ≡ v → v ≡ true) [
      | true ↦ λ e. refl
      | false ↦ λ e. let k = or_false (has_name c (names_of p)) (has_name c (names_of q)) (sym (has_name-append c (names_of p) (names_of q)) ∙ e) in absurd (n (act_unnamed p c k.0 ∙ sym (act_unnamed q c k.1)))
    ] refl

-- Names by sort and number.
names_ordered : IsOrder name_eq name_before
unfolding name_before name_eq
names_ordered = record {
  tells = name_eq_same;
  itself = name_eq_itself;
  trans = λ a b c h k. grind (arith, nat_tests);
  irreflexive = λ a h. grind (arith, nat_tests);
  total = λ a b h k. grind (arith, nat_tests);
}

pub has_name_has : (c : Name) (bs : List Name) → has_name c bs ≡ has name_eq name_before c bs
has_name_has c [] = refl
has_name_has c (b ∷ bs) = ap (λ x. name_eq c b || x) (has_name_has c bs)

add_name_add : (a : Name) (bs : List Name) → add_name a bs ≡ add name_eq name_before a bs
add_name_add a [] = refl
add_name_add a (b ∷ bs) = ap (λ cs. if name_eq a b then (b ∷ bs) else (if name_before a b then (a ∷ b ∷ bs) else (b ∷ cs))) (add_name_add a bs)

abbrev AreAscending : List Name → Type 0
AreAscending as' = IsAscending name_eq name_before as'

pub has_add : (c a : Name) (bs : List Name) → has_name c (add_name a bs) ≡ (name_eq c a || has_name c bs)
has_add c a bs =
    has_name_has c (add_name a bs) ∙ ap (has name_eq name_before c) (add_name_add a bs) ∙ member_add name_eq name_before names_ordered c a bs
    ∙ ap (λ x. name_eq c a || x) (sym (has_name_has c bs))

ascending_add_name : (a : Name) (bs : List Name) → AreAscending bs → AreAscending (add_name a bs)
ascending_add_name a bs h = subst AreAscending (sym (add_name_add a bs)) (ascending_add name_eq name_before names_ordered a bs h)

pub has_front : (a : Name) (bs : List Name) → has_name a (a ∷ bs) ≡ true
has_front a bs = ap (λ x. x || has_name a bs) (name_eq_itself a)

-- ascending lists of names with the same members are equal
pub same_names : (as' bs : List Name) → AreAscending as' → AreAscending bs → ((c : Name) → has_name c as' ≡ has_name c bs) → as' ≡ bs
same_names as' bs h k m = same_ascending name_eq name_before names_ordered as' bs h k (λ c. sym (has_name_has c as') ∙ m c ∙ has_name_has c bs)

ascending_differing : (p q : List Swap) (cs : List Name) → AreAscending (differing p q cs)
ascending_differing p q [] = tt
ascending_differing p q (c ∷ cs) =
    elim (name_eq (act_name p c) (act_name q c)) as (λ v. AreAscending (if v then differing p q cs else add_name c (differing p q cs))) [
      | true ↦ ascending_differing p q cs
      | false ↦ ascending_add_name c (differing p q cs) (ascending_differing p q cs)
    ]

abbrev differs : List Swap → List Swap → Name → Bool
differs p q c = not (name_eq (act_name p c) (act_name q c))

-- the members are the names on which the two differ
has_differing : (p q : List Swap) (c : Name) (cs : List Name) → has_name c (differing p q cs) ≡ (has_name c cs && differs p q c)
has_differing p q c [] = refl
has_differing p q c (d ∷ ds) =
    elim (name_tells (act_name p d) (act_name q d)) [
      | inl w ↦ rw w.0 (has_differing p q c ds ∙ or_and_absorb (name_eq c d) (has_name c ds) (differs p q c) (λ e.
          let k = name_eq_same c d e in
          ap not (ap (name_eq (act_name p c)) (ap (act_name q) k ∙ sym w.1 ∙ sym (ap (act_name p) k)) ∙ name_eq_itself (act_name p c))))
      | inr w ↦ rw w.0 (has_add c d (differing p q ds) ∙ ap (λ x. name_eq c d || x) (has_differing p q c ds) ∙ or_and_distribute (name_eq c d) (has_name c ds) (differs p q c) (λ e.
          ap (λ x. differs p q x) (name_eq_same c d e) ∙ ap not w.0))
    ]

pub has_disagreement : (p q : List Swap) (c : Name) → has_name c (disagreement p q) ≡ differs p q c
has_disagreement p q c =
    has_differing p q c (names_of p ++ names_of q)
    ∙ elim (name_tells (act_name p c) (act_name q c)) [
      | inl w ↦ rw w.0 (and_false (has_name c (names_of p ++ names_of q)))
      | inr w ↦ ap (λ x. x && differs p q c) (differing_named p q c w.1)
    ]

-- equal permutations differ on the same names, in one order
pub disagreement_same : (p q r s : List Swap) → IsSamePerm p r → IsSamePerm q s → disagreement p q ≡ disagreement r s
disagreement_same p q r s h k =
    same_names (disagreement p q) (disagreement r s)
    (ascending_differing p q (names_of p ++ names_of q)) (ascending_differing r s (names_of r ++ names_of s))
    (λ c. has_disagreement p q c ∙ ap₂ (λ x y. not (name_eq x y)) (h c) (k c) ∙ sym (has_disagreement r s c))

pub differing_disagree : (p q : List Swap) (c : Name) → act_name p c ≢ act_name q c → has_name c (disagreement p q) ≡ true
differing_disagree p q c n = has_disagreement p q c ∙ ap not (not_name (act_name p c) (act_name q c) n)

pub disagree_differing : (p q : List Swap) (c : Name) → has_name c (disagreement p q) ≡ true → act_name p c ≢ act_name q c
disagree_differing p q c h e = true≢false (sym h ∙ has_disagreement p q c ∙ ap not (ap (λ x. name_eq x (act_name q c)) e ∙ name_eq_itself (act_name q c)))

-- equal permutations differ on no name, and those that differ on none are equal
pub disagreement_none : (p q : List Swap) → IsSamePerm p q → disagreement p q ≡ []
disagreement_none p q h =
    same_names (disagreement p q) [] (ascending_differing p q (names_of p ++ names_of q)) tt
    (λ c. has_disagreement p q c ∙ ap not (ap (λ x. name_eq x (act_name q c)) (h c) ∙ name_eq_itself (act_name q c)))

pub disagreement_empty : (p q : List Swap) → disagreement p q ≡ [] → IsSamePerm p q
disagreement_empty p q h c =
    elim (name_decided (act_name p c) (act_name q c)) [
      | inl e ↦ e
      | inr n ↦ absurd (true≢false (sym (differing_disagree p q c n) ∙ ap (has_name c) h))
    ]

-- a test of each member of a list
pub list_all_each : (f : Name → Bool) (cs : List Name) → list_all f cs ≡ true → (c : Name) → has_name c cs ≡ true → f c ≡ true
list_all_each f [] h c m = cc
list_all_each f (b ∷ bs) h c m =
    elim (or_cases (name_eq c b) (has_name c bs) m) [
      | inl e ↦ ap f (name_eq_same c b e) ∙ and_left (f b) (list_all f bs) h
      | inr k ↦ list_all_each f bs (and_right (f b) (list_all f bs) h) c k
    ]

pub each_list_all : (f : Name → Bool) (cs : List Name) → ((c : Name) → has_name c cs ≡ true → f c ≡ true) → list_all f cs ≡ true
each_list_all f [] h = refl
each_list_all f (b ∷ bs) h = and_both (f b) (list_all f bs) (h b (has_front b bs)) (each_list_all f bs (λ c m. h c (or_if_right (name_eq c b) (has_name c bs) m)))
