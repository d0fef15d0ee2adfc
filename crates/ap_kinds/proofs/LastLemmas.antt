-- The last equation of a system.
use Rattle.std.proofs.Common.{◌≡◌, ◌∙◌, List, [], ◌∷◌, ◌++◌, true, false, map, length, refl, ap, arith}
use Rattle.std.specs.Prelude.{Bool, ◌&&◌}
use Rattle.std.specs.List.{IsLastAndRest}
use Rattle.ap_defs.specs.declared.terms.Shape.{Shape}
use Rattle.ap_defs.specs.Types.{TypeShape, hole, unit, names, base, pair, list, abs}
use Rattle.ap_types.specs.Equations.{ShapeEquation, ◌≐◌, equation_of}
use Rattle.ap_types.specs.Growing.{is_same}
use Rattle.ap_kinds.specs.Systems.{EquationSystem, equate}
use Rattle.ap_kinds.specs.Gathering.{is_between, ends_between, equate_others}

pub ends_in_none : (t u : TypeShape) (es : List (Shape × Shape)) → length es ≡ 0 → ends_between t u (map equation_of es) ≡ false
ends_in_none t u [] e = refl
ends_in_none t u (x ∷ es) e = absurd (omega arith)

ends_snoc : (t u : TypeShape) (rest : List (Shape × Shape)) (e : Shape × Shape) → ends_between t u (map equation_of (rest ++ e ∷ [])) ≡ is_between t u (equation_of e)
ends_snoc t u [] e = refl
ends_snoc t u (x ∷ []) e = refl
ends_snoc t u (x ∷ y ∷ rest) e = ends_snoc t u (y ∷ rest) e

pub ends_in_last : (t u : TypeShape) (es rest : List (Shape × Shape)) (e : Shape × Shape) → IsLastAndRest es e rest → ends_between t u (map equation_of es) ≡ is_between t u (equation_of e)
ends_in_last t u es rest e h = ap (λ (fs : List (Shape × Shape)). ends_between t u (map equation_of fs)) h.0 ∙ ends_snoc t u rest e

-- a list is the same as no shape without parts
same_list : (t v : TypeShape) → is_same t (list v) ≡ false
same_list (hole x) v = refl
same_list unit v = refl
same_list (names s) v = refl
same_list (base d) v = refl
same_list (pair t u) v = refl
same_list (list t) v = refl
same_list (abs t u) v = refl

and_false : (b c : Bool) → c ≡ false → (b && c) ≡ false
and_false true c e = e
and_false false c e = refl

between_list : (t v : TypeShape) (e : ShapeEquation) → is_between t (list v) e ≡ false
between_list t v (a ≐ b) = and_false (is_same a t) (is_same b (list v)) (same_list b v)

ends_list : (t v : TypeShape) (es : List ShapeEquation) → ends_between t (list v) es ≡ false
ends_list t v [] = refl
ends_list t v (e ∷ []) = between_list t v e
ends_list t v (e ∷ f ∷ es) = ends_list t v (f ∷ es)

-- a list has parts: so it is not looked at whether the last equation says it
pub list_others : (t v : TypeShape) (s : EquationSystem) → equate t (list v) s ≡ equate_others t (list v) s
list_others t v s = rw (same_list t v, ends_list t v s.equations) refl
