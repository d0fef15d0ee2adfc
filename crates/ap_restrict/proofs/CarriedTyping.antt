-- Carrying out swappings keeps types.
use Rattle.std.proofs.Common.{◌≡◌, ℕ, zero, suc, List, [], ◌∷◌, ◌++◌, refl, sym, ap, ◌∙◌, subst, inl, inr}
use Rattle.std.specs.Prelude.{Option, Some, None}
use Rattle.ap_defs.specs.declared.terms.Name.{Name}
use Rattle.ap_defs.specs.declared.terms.Swap.{Swap}
use Rattle.ap_defs.specs.declared.terms.Var.{Var}
use Rattle.ap_defs.specs.declared.terms.Id.TheVariants as ids
use Rattle.ap_defs.specs.Permutations.{swap_of, swap_name, act_name}
use Rattle.ap_defs.specs.RawTerms as raw
use Rattle.ap_defs.specs.RawTerms.{RawTerm}
use Rattle.ap_defs.specs.Terms as terms
use Rattle.ap_defs.specs.Terms.{NominalTerm, act_term}
use Rattle.ap_defs.specs.Types as types
use Rattle.ap_defs.specs.Types.{NominalKind, NominalConstructor}
use Rattle.ap_defs.specs.Typing.{Want, nothing, one, more, arguments, IsApplication}
use Rattle.ap_defs.specs.Printing.{constructor_in}
use Rattle.ap_defs.specs.Answers.{kind_at}
use Rattle.ap_theory.proofs.PermutationLemmas.{name_tells, swap_left, swap_right, swap_other}
use Rattle.ap_program.specs.RawTyping.{IsNameOf, IsTypedRaw, AreSwapsOf, IsTypedTerm}
use Rattle.ap_program.specs.CarryingOut.{carried_out}
use Rattle.ap_program.specs.NameRestriction.{variable_of, variable_binders, variable_places}

-- what is typed of one argument is typed of another
application : (P Q : Want → Type 0) → ((w : Want) → P w → Q w) → (o : Option NominalConstructor) (d : ℕ) → IsApplication P o d → IsApplication Q o d
application P Q f None d h = h
application P Q f (Some c) d h = (h.0, f (arguments c.args) h.1)

pub nothing_left : {A : Type 0} (xs ys : List A) → xs ++ ys ≡ [] → xs ≡ []
nothing_left [] ys e = refl
nothing_left (x ∷ xs) ys e = cc

pub nothing_right : {A : Type 0} (xs ys : List A) → xs ++ ys ≡ [] → ys ≡ []
nothing_right [] ys e = e
nothing_right (x ∷ xs) ys e = cc

-- a swapping of two names of one sort
module _ (cs : List NominalConstructor) (kinds : List NominalKind) (a b : Name) (s : ℕ) (ha : IsNameOf kinds a s) (hb : IsNameOf kinds b s) where
  abbrev swapping : List Swap
  swapping = swap_of a b ∷ []

  sorts : a.sort ≡ b.sort
  sorts = ha.0 ∙ sym hb.0

  becomes : (c d e : Name) (r : ℕ) → c ≡ d → IsNameOf kinds d s → IsNameOf kinds e s → swap_name (swap_of a b) d ≡ e → IsNameOf kinds c r
      → IsNameOf kinds (swap_name (swap_of a b) c) r
  becomes c d e r same hd he image h =
      let sort : s ≡ r = sym hd.0 ∙ ap (λ x. x.sort) (sym same) ∙ h.0 in
      subst (λ x. IsNameOf kinds x r) (sym (ap (swap_name (swap_of a b)) same ∙ image)) (subst (IsNameOf kinds e) sort he)

  swapped_name : (c : Name) (r : ℕ) → IsNameOf kinds c r → IsNameOf kinds (act_name swapping c) r
  swapped_name c r h =
      elim (name_tells c a) [
        | inl e ↦ becomes c a b r e.1 ha hb (swap_left a b sorts) h
        | inr n ↦ elim (name_tells c b) [
          | inl e ↦ becomes c b a r e.1 hb ha (swap_right a b sorts) h
          | inr m ↦ subst (λ x. IsNameOf kinds x r) (sym (swap_other a b c sorts n.1 m.1)) h
        ]
      ]

  swap_itself : AreSwapsOf kinds swapping
  swap_itself = (
    (refl, subst (λ t. kind_at kinds a.num ≡ Some (types.name t)) (sym ha.0) ha.1),
    (refl, subst (λ t. kind_at kinds b.num ≡ Some (types.name t)) (sym ha.0) hb.1),
    tt,
  )

  swapped_typed : (t : NominalTerm) (w : Want) → IsTypedTerm cs kinds t w → IsTypedTerm cs kinds (act_term swapping t) w
  swapped_typed terms.unit nothing h = h
  swapped_typed terms.unit (one types.unit) h = h
  swapped_typed (terms.name c) (one (types.names r)) h = swapped_name c r h
  swapped_typed (terms.pair t u) (one (types.pair x y)) h = (swapped_typed t (one x) h.0, swapped_typed u (one y) h.1)
  swapped_typed (terms.pair t u) (more x w) h = (swapped_typed t (one x) h.0, swapped_typed u w h.1)
  swapped_typed (terms.app zero t) (one (types.list x)) h = swapped_typed t nothing h
  swapped_typed (terms.app zero t) (one (types.base d)) h = application _ _ (swapped_typed t) (constructor_in cs zero) d h
  swapped_typed (terms.app (suc zero) t) (one (types.list x)) h = swapped_typed t (more x (one (types.list x))) h
  swapped_typed (terms.app (suc zero) t) (one (types.base d)) h = application _ _ (swapped_typed t) (constructor_in cs (suc zero)) d h
  swapped_typed (terms.app (suc (suc f)) t) (one (types.base d)) h = application _ _ (swapped_typed t) (constructor_in cs (suc (suc f))) d h
  swapped_typed (terms.abs c t) (one (types.abs r x)) h = (swapped_name c r h.0, swapped_typed t (one x) h.1)
  swapped_typed (terms.susp p x) (one y) h = ((swap_itself.0, swap_itself.1, h.0), h.1)
  swapped_typed _ _ h = absurd h

-- binders and places of swappings are names
abbrev pub HasNames : RawTerm → Type 0
HasNames t = (variable_binders t ≡ []) × (variable_places t ≡ [])

no_variable : (x : Var) (xs : List Var) → x ∷ xs ≡ [] → ⊥
no_variable x xs e = cc

module _ (cs : List NominalConstructor) (kinds : List NominalKind) where
  pub carried_typed : (t : RawTerm) (w : Want) → HasNames t → IsTypedRaw cs kinds t w → IsTypedTerm cs kinds (carried_out t) w
  carried_typed raw.unit nothing n h = h
  carried_typed raw.unit (one types.unit) n h = h
  carried_typed (raw.name c) (one (types.names r)) n h = h
  carried_typed (raw.var x) (one y) n h = (tt, h)
  carried_typed (raw.pair t u) (one (types.pair x y)) n h = (
    carried_typed t (one x) (nothing_left _ (variable_binders u) n.0, nothing_left _ (variable_places u) n.1) h.0,
    carried_typed u (one y) (nothing_right (variable_binders t) _ n.0, nothing_right (variable_places t) _ n.1) h.1,
  )
  carried_typed (raw.pair t u) (more x w) n h = (
    carried_typed t (one x) (nothing_left _ (variable_binders u) n.0, nothing_left _ (variable_places u) n.1) h.0,
    carried_typed u w (nothing_right (variable_binders t) _ n.0, nothing_right (variable_places t) _ n.1) h.1,
  )
  carried_typed (raw.app zero t) (one (types.list x)) n h = carried_typed t nothing n h
  carried_typed (raw.app zero t) (one (types.base d)) n h = application _ _ (λ w. carried_typed t w n) (constructor_in cs zero) d h
  carried_typed (raw.app (suc zero) t) (one (types.list x)) n h = carried_typed t (more x (one (types.list x))) n h
  carried_typed (raw.app (suc zero) t) (one (types.base d)) n h = application _ _ (λ w. carried_typed t w n) (constructor_in cs (suc zero)) d h
  carried_typed (raw.app (suc (suc f)) t) (one (types.base d)) n h = application _ _ (λ w. carried_typed t w n) (constructor_in cs (suc (suc f))) d h
  carried_typed (raw.abs (ids.Name c) t) (one (types.abs r x)) n h = (h.0, carried_typed t (one x) n h.1)
  carried_typed (raw.abs (ids.Var y) t) (one (types.abs r x)) n h = absurd (no_variable y (variable_binders t) n.0)
  carried_typed (raw.swapped (ids.Name a) (ids.Name b) t) (one x) n h = swapped_typed cs kinds a b h.0.0 h.0.1 h.0.2 (carried_out t) (one x) (carried_typed t (one x) n h.1)
  carried_typed (raw.swapped (ids.Var y) j t) (one x) n h = absurd (no_variable y (variable_of j ++ variable_places t) n.1)
  carried_typed (raw.swapped (ids.Name a) (ids.Var y) t) (one x) n h = absurd (no_variable y (variable_places t) n.1)
  carried_typed _ _ n h = absurd h
