-- Names that stand beside names, and names and terms of an item's identifiers.
use Rattle.std.proofs.Common.{◌≡◌, ◌≢◌, true, false, List, [], ◌∷◌, subst, refl, sym, ap, ◌∙◌, inl, inr, true≢false}
use Rattle.std.specs.Prelude.{if◌then◌else◌, Option, Some}
use Rattle.ap_defs.specs.declared.terms.Name.{Name}
use Rattle.ap_defs.specs.declared.terms.Var.{Var}
use Rattle.ap_defs.specs.Alpha.{fresh}
use Rattle.ap_defs.specs.Answers.{kind_at}
use Rattle.ap_defs.specs.Freshness.{var_eq}
use Rattle.ap_defs.specs.GroundProofs.{AreDifferent, AreOfSorts, AreOfTypes, HasTypeOf, name_for, term_for}
use Rattle.ap_defs.specs.Permutations.{has_name, name_eq}
use Rattle.ap_defs.specs.Terms.{GroundTerm}
use Rattle.ap_defs.specs.Types as types
use Rattle.ap_defs.specs.Types.{NominalConstructor, NominalKind, NominalLocal, NominalType}
use Rattle.ap_defs.specs.Typing.{IsOfType}
use Rattle.ap_theory.proofs.BooleanLemmas.{or_cases, or_if_right}
use Rattle.ap_theory.proofs.DisagreementLemmas.{has_front}
use Rattle.ap_theory.proofs.PermutationLemmas.{name_eq_itself, name_eq_same, name_tells, not_name}
use Rattle.ap_theory.proofs.TermLemmas.{var_same}

-- what stands beside a member is a member
name_for_in : (as' cs : List Name) (b : Name) → AreOfSorts as' cs → has_name b as' ≡ true → has_name (name_for as' cs b) cs ≡ true
name_for_in [] [] b s h = cc
name_for_in (a ∷ as') (c ∷ cs) b s h =
    elim (name_eq a b) as (λ v. name_eq a b ≡ v → has_name (if v then c else name_for as' cs b) (c ∷ cs) ≡ true) [
      | true ↦ λ e. has_front c cs
      | false ↦ λ e. or_if_right (name_eq (name_for as' cs b) c) (has_name (name_for as' cs b) cs) (name_for_in as' cs b s.1 (later as' e h))
    ] refl
  where
    later : (as' : List Name) → name_eq a b ≡ false → has_name b (a ∷ as') ≡ true → has_name b as' ≡ true
    later as' e h = elim (or_cases (name_eq b a) (has_name b as') h) [
      | inl i ↦ absurd (true≢false (sym (name_eq_itself a) ∙ ap (name_eq a) (sym (name_eq_same b a i)) ∙ e))
      | inr i ↦ i
    ]
name_for_in _ _ b s h = absurd s

later_member : (a b : Name) (as' : List Name) → a ≢ b → has_name b (a ∷ as') ≡ true → has_name b as' ≡ true
later_member a b as' n h = elim (or_cases (name_eq b a) (has_name b as') h) [ inl i ↦ absurd (n (sym (name_eq_same b a i))) | inr i ↦ i ]

-- different names stand beside different ones
pub name_for_apart : (as' cs : List Name) → AreOfSorts as' cs → AreDifferent cs → (a b : Name) → has_name a as' ≡ true → has_name b as' ≡ true
    → name_for as' cs a ≡ name_for as' cs b → a ≡ b
name_for_apart [] [] s d a b h k e = cc
name_for_apart (x ∷ xs) (c ∷ cs) s d a b h k e =
    elim (name_tells x a) [
      | inl v ↦ elim (name_tells x b) [
        | inl w ↦ sym v.1 ∙ w.1
        | inr w ↦
            let here : name_for (x ∷ xs) (c ∷ cs) a ≡ c = rw v.0 refl in
            let there : name_for (x ∷ xs) (c ∷ cs) b ≡ name_for xs cs b = rw w.0 refl in
            absurd (true≢false (sym (ap (λ (y : Name). has_name y cs) (sym here ∙ e ∙ there) ∙ name_for_in xs cs b s.1 (later_member x b xs w.1 k)) ∙ d.0))
      ]
      | inr v ↦ elim (name_tells x b) [
        | inl w ↦
            let here : name_for (x ∷ xs) (c ∷ cs) b ≡ c = rw w.0 refl in
            let there : name_for (x ∷ xs) (c ∷ cs) a ≡ name_for xs cs a = rw v.0 refl in
            absurd (true≢false (sym (ap (λ (y : Name). has_name y cs) (sym here ∙ sym e ∙ there) ∙ name_for_in xs cs a s.1 (later_member x a xs v.1 h)) ∙ d.0))
        | inr w ↦
            let one : name_for (x ∷ xs) (c ∷ cs) a ≡ name_for xs cs a = rw v.0 refl in
            let two : name_for (x ∷ xs) (c ∷ cs) b ≡ name_for xs cs b = rw w.0 refl in
            name_for_apart xs cs s.1 d.1 a b (later_member x a xs v.1 h) (later_member x b xs w.1 k) (sym one ∙ e ∙ two)
      ]
    ]
name_for_apart _ _ s d a b h k e = absurd s

-- each member of the second list stands beside one of the first
pub name_image : (as' cs : List Name) → AreDifferent as' → AreOfSorts as' cs → (c : Name) → has_name c cs ≡ true → (b : Name) × (has_name b as' ≡ true) × (name_for as' cs b ≡ c)
name_image [] [] d s c h = cc
name_image (a ∷ as') (x ∷ cs) d s c h =
    elim (or_cases (name_eq c x) (has_name c cs) h) [
      | inl i ↦ (a, has_front a as', ap (λ v. if v then x else name_for as' cs a) (name_eq_itself a) ∙ sym (name_eq_same c x i))
      | inr i ↦
          let r = name_image as' cs d.1 s.1 c i in
          let n : name_eq a r.0 ≡ false = not_name a r.0 (λ e. true≢false (sym (ap (λ (y : Name). has_name y as') e ∙ r.1) ∙ d.0)) in
          (r.0, or_if_right (name_eq r.0 a) (has_name r.0 as') r.1, ap (λ v. if v then x else name_for as' cs r.0) n ∙ r.2)
    ]
name_image _ _ d s c h = absurd s

-- a name that is fresh for each term of a type is fresh for what stands for a variable of that type
pub term_for_fresh : (cs : List NominalConstructor) (kinds : List NominalKind) (xs : List Var) (gs : List GroundTerm) → AreOfTypes cs kinds xs gs
    → (x : Var) (t : NominalType) → kind_at kinds x.num ≡ Some (types.var t) → (a : Name) → ((g : GroundTerm) → IsOfType cs g t → fresh a g ≡ true)
    → fresh a (term_for xs gs x) ≡ true
term_for_fresh cs kinds [] [] h x t e a k = refl
term_for_fresh cs kinds (y ∷ ys) (g ∷ gs) h x t e a k =
    elim (var_eq y x) as (λ v. var_eq y x ≡ v → fresh a (if v then g else term_for ys gs x) ≡ true) [
      | true ↦ λ i.
          let o : kind_at kinds y.num ≡ Some (types.var t) = ap (λ (z : Var). kind_at kinds z.num) (var_same y x i) ∙ e in
          k g (subst (λ (p : Option NominalKind). HasTypeOf cs p g) o h.0)
      | false ↦ λ i. term_for_fresh cs kinds ys gs h.1 x t e a k
    ] refl
term_for_fresh cs kinds _ _ h x t e a k = absurd h
