-- An open place that gets the entry of a shape.
use Rattle.std.proofs.Common.{◌≡◌, ◌<◌, ◌∙◌, ℕ, List, length, set, sym, ap, inl, inr, subst}
use Rattle.ap_defs.specs.Types.{TypeShape, hole}
use Rattle.ap_types.specs.Equations.{Filling, filled}
use Rattle.ap_types.specs.Solving.{shape_at}
use Rattle.ap_types.specs.Triangular.{Fits}
use Rattle.ap_types.proofs.TableLemmas.{at_set_same, at_set_other}
use Rattle.ap_types.proofs.LinkLemmas.{equal_or_not}

module _ (ts : List TypeShape) (x : ℕ) (t : TypeShape) (below : x < length ts) (opened : shape_at ts x ≡ hole x) where
  pub fits_without : (f : Filling) → Fits f (set ts x t) → Fits f ts
  fits_without f h y = elim (equal_or_not y x) [
    | inl i ↦ subst (λ z. f z ≡ filled f (shape_at ts z)) (sym i) (sym (ap (filled f) opened))
    | inr o ↦ h y ∙ ap (filled f) (at_set_other ts x y t o)
  ]

  pub fits_with : (f : Filling) → f x ≡ filled f t → Fits f ts → Fits f (set ts x t)
  fits_with f e h y = elim (equal_or_not y x) [
    | inl i ↦ subst (λ z. f z ≡ filled f (shape_at (set ts x t) z)) (sym i) (e ∙ sym (ap (filled f) (at_set_same ts x t below)))
    | inr o ↦ h y ∙ sym (ap (filled f) (at_set_other ts x y t o))
  ]
