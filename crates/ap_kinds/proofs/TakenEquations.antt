-- What a system with one more equation says, by whether its table took the equation in.
use Rattle.std.proofs.Common.{◌≡◌, ◌<◌, ◌≤◌, ◌⊎◌, ◌↔◌, ◌∙◌, inl, inr, ℕ, List, length, refl, sym, ap, subst, arith, Option, Some, None}
use Rattle.ap_defs.specs.Types.{TypeShape, hole, unit, names, base, pair, list, abs}
use Rattle.ap_types.specs.Equations.{ShapeEquation, ◌≐◌, Filling, filled, FillingSolves, bound_of, equations_bound}
use Rattle.ap_types.specs.Solving.{shape_at}
use Rattle.ap_types.specs.Triangular.{Fits, AreFormed}
use Rattle.ap_types.specs.Growing.{so_far, with_equation}
use Rattle.ap_types.proofs.TableLemmas.{at_past, formed_bound}
use Rattle.ap_types.proofs.GrowLemmas.{takes_in}
use Rattle.ap_kinds.specs.Systems.{table_by, besides_by}
use Rattle.ap_kinds.proofs.Assignments.{IsProper, AreProper, SameBelow, filled_same, solves_snoc, snoc_solves, proper_snoc, bound_snoc}

abbrev pub IsProperTable : Filling → List TypeShape → Type 0
IsProperTable f ts = (x : ℕ) → IsProper f (shape_at ts x)

below_or_past : (i j : ℕ) → (i < j) ⊎ (j ≤ i)
below_or_past i j = grind arith

-- what fits a table fits by what is the same on its places
pub fits_below : (k : ℕ) (f g : Filling) → SameBelow k f g → (ts : List TypeShape) → AreFormed ts → length ts ≤ k → Fits f ts → Fits g ts
fits_below k f g h ts formed l fit x =
    elim (below_or_past x (length ts)) [
      | inl b ↦
          let bound = formed_bound (length ts) x (shape_at ts x) b (formed x) in
          sym (h x (omega (arith, b, l))) ∙ fit x ∙ filled_same k f g h (shape_at ts x) (omega (arith, bound, l))
      | inr b ↦ sym (ap (filled g) (at_past ts x b))
    ]

module _ (ts : List TypeShape) (t u : TypeShape) (formed : AreFormed ts) where
  pub taken_formed : (o : Option (List TypeShape)) → with_equation ts t u ≡ o → AreFormed (table_by o ts)
  taken_formed None e = formed
  taken_formed (Some us) e = (takes_in ts us t u formed e).formed

  pub taken_length : (o : Option (List TypeShape)) → with_equation ts t u ≡ o → length (table_by o ts) ≡ length ts
  taken_length None e = refl
  taken_length (Some us) e = (takes_in ts us t u formed e).as_long

  pub taken_bound : (k : ℕ) (es : List ShapeEquation) (o : Option (List TypeShape)) → equations_bound es ≤ k → bound_of t ≤ k → bound_of u ≤ k → equations_bound (besides_by o (t ≐ u) es) ≤ k
  taken_bound k es None l m n = bound_snoc k es t u l m n
  taken_bound k es (Some us) l m n = l

  far_proper : (f : Filling) (v : TypeShape) → IsProperTable f ts → IsProper f v → IsProper f (so_far ts v)
  far_proper f (hole x) p q = p x
  far_proper f unit p q = q
  far_proper f (names s) p q = q
  far_proper f (base d) p q = q
  far_proper f (pair v w) p q = q
  far_proper f (list v) p q = q
  far_proper f (abs v w) p q = q

  pub taken_proper : (f : Filling) (es : List ShapeEquation) (o : Option (List TypeShape)) → with_equation ts t u ≡ o → IsProperTable f ts → AreProper f es → IsProper f t → IsProper f u
      → IsProperTable f (table_by o ts) × AreProper f (besides_by o (t ≐ u) es)
  taken_proper f es None e p q a b = (p, proper_snoc f es t u q a b)
  taken_proper f es (Some us) e p q a b = (
    (λ x. elim ((takes_in ts us t u formed e).each x) [
      | inl i ↦ subst (IsProper f) (sym i) (p x)
      | inr o ↦ elim o [ inl i ↦ subst (IsProper f) (sym i) b | inr i ↦ subst (IsProper f) (sym i) (far_proper f t p a) ]
    ]),
    q,
  )

  pub taken_solves : (f : Filling) (es : List ShapeEquation) (o : Option (List TypeShape)) → with_equation ts t u ≡ o
      → (Fits f (table_by o ts) × FillingSolves f (besides_by o (t ≐ u) es)) ↔ ((Fits f ts × FillingSolves f es) × (filled f t ≡ filled f u))
  taken_solves f es None e = (
    (λ s. let r = solves_snoc f es t u s.1 in ((s.0, r.0), r.1)),
    (λ s. (s.0.0, snoc_solves f es t u s.0.1 s.1)),
  )
  taken_solves f es (Some us) e =
      let k = (takes_in ts us t u formed e).solved f in
      ((λ s. let r = k.0 s.0 in ((r.0, s.1), r.1)), (λ s. (k.1 (s.0.0, s.1), s.0.1)))
