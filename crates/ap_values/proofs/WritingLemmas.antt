-- Shapes that are written out of a table.
use Rattle.std.proofs.Common.{◌≡◌, ◌<◌, ◌+◌, ◌*◌, ◌∙◌, ℕ, List, [], ◌∷◌, ◌++◌, refl, sym, ap, arith}
use Rattle.ap_defs.specs.declared.terms.Shape.{Shape}
use Rattle.ap_defs.specs.Types.{TypeShape, shape_of, hole, unit, names, base, pair, list, abs}
use Rattle.ap_types.specs.declared.nodes.Node.TheVariants as nodes
use Rattle.ap_values.specs.declared.writing.Layer.{Layer}
use Rattle.ap_values.specs.declared.writing.Layer.TheVariants as layers
use Rattle.ap_values.specs.declared.writing.Next.TheVariants as nexts
use Rattle.ap_types.specs.Equations.{Filling}
use Rattle.ap_types.specs.Solving.{size}
use Rattle.ap_types.specs.Entries.{IsEntryOf}
use Rattle.ap_values.specs.Writing.{shape_in, shape_within, work_in, work_within, GoesOn}

within_last : (f : Filling) (ls : List Layer) (l : Layer) (t : TypeShape) → shape_within f (ls ++ l ∷ []) t ≡ shape_within f ls (shape_in f l t)
within_last f [] l t = refl
within_last f (k ∷ ls) l t = ap (λ u. shape_in f k u) (within_last f ls l t)

work_last : (f : Filling) (ls : List Layer) (l : Layer) → work_within f (ls ++ l ∷ []) ≡ work_within f ls + work_in f l
work_last f [] l = omega arith
work_last f (k ∷ ls) l = let h = work_last f ls l in omega arith

some_size : (t : TypeShape) → 0 < size t
some_size (hole x) = omega arith
some_size unit = omega arith
some_size (names s) = omega arith
some_size (base d) = omega arith
some_size (pair t u) = omega arith
some_size (list t) = omega arith
some_size (abs t u) = omega arith

-- A shape without parts is made.
made_leaf : (f : Filling) (ls : List Layer) (x : ℕ) (t : Shape) → f x ≡ shape_of t → GoesOn f ls (nexts.Place x) ls (nexts.Made t)
made_leaf f ls x t e = record { same = ap (shape_within f ls) (sym e); less = let h = some_size (f x) in omega arith }

pub made_open : (f : Filling) (ls : List Layer) (x y : ℕ) (t : Shape) → shape_of t ≡ hole y → IsEntryOf f x (nodes.Place y) → GoesOn f ls (nexts.Place x) ls (nexts.Made t)
made_open f ls x y t e h = made_leaf f ls x t (h.stands ∙ h.open_place y refl ∙ sym e)

pub made_unit : (f : Filling) (ls : List Layer) (x : ℕ) (t : Shape) → shape_of t ≡ unit → IsEntryOf f x nodes.Unit → GoesOn f ls (nexts.Place x) ls (nexts.Made t)
made_unit f ls x t e h = made_leaf f ls x t (h.stands ∙ sym e)

pub made_names : (f : Filling) (ls : List Layer) (x s : ℕ) (t : Shape) → shape_of t ≡ names s → IsEntryOf f x (nodes.Names s) → GoesOn f ls (nexts.Place x) ls (nexts.Made t)
made_names f ls x s t e h = made_leaf f ls x t (h.stands ∙ sym e)

pub made_base : (f : Filling) (ls : List Layer) (x d : ℕ) (t : Shape) → shape_of t ≡ base d → IsEntryOf f x (nodes.Base d) → GoesOn f ls (nexts.Place x) ls (nexts.Made t)
made_base f ls x d t e h = made_leaf f ls x t (h.stands ∙ sym e)

-- The first part comes next, within one more layer.
went_down : (f : Filling) (old new : List Layer) (l : Layer) (x y : ℕ) → new ≡ old ++ l ∷ [] → f x ≡ shape_in f l (f y) → 2 * size (f y) + work_in f l < 2 * size (f x) → GoesOn f old (nexts.Place x) new (nexts.Place y)
went_down f old new l x y e h w = record {
  same = ap (λ (ls : List Layer). shape_within f ls (f y)) e ∙ within_last f old l (f y) ∙ ap (shape_within f old) (sym h);
  less = let k : work_within f new ≡ work_within f (old ++ l ∷ []) = ap (work_within f) e in let m = work_last f old l in omega arith;
}

pub down_pair : (f : Filling) (old new : List Layer) (x y z : ℕ) → new ≡ old ++ layers.FirstOfPair z ∷ [] → IsEntryOf f x (nodes.Pair y z) → GoesOn f old (nexts.Place x) new (nexts.Place y)
down_pair f old new x y z e h = let s : size (f x) ≡ size (pair (f y) (f z)) = ap size h.stands in went_down f old new (layers.FirstOfPair z) x y e h.stands (omega arith)

pub down_abs : (f : Filling) (old new : List Layer) (x y z : ℕ) → new ≡ old ++ layers.FirstOfAbs z ∷ [] → IsEntryOf f x (nodes.Abs y z) → GoesOn f old (nexts.Place x) new (nexts.Place y)
down_abs f old new x y z e h = let s : size (f x) ≡ size (abs (f y) (f z)) = ap size h.stands in went_down f old new (layers.FirstOfAbs z) x y e h.stands (omega arith)

pub down_list : (f : Filling) (old new : List Layer) (x y : ℕ) → new ≡ old ++ layers.List ∷ [] → IsEntryOf f x (nodes.List y) → GoesOn f old (nexts.Place x) new (nexts.Place y)
down_list f old new x y e h = let s : size (f x) ≡ size (list (f y)) = ap size h.stands in went_down f old new layers.List x y e h.stands (omega arith)

-- A shape that was made goes into the innermost layer.
put_behind : (f : Filling) (ls : List Layer) (l : Layer) (t u : Shape) → work_in f l ≡ 1 → shape_of u ≡ shape_in f l (shape_of t) → GoesOn f (ls ++ l ∷ []) (nexts.Made t) ls (nexts.Made u)
put_behind f ls l t u w e = record {
  same = ap (shape_within f ls) e ∙ sym (within_last f ls l (shape_of t));
  less = let m = work_last f ls l in omega arith;
}

pub put_pair : (f : Filling) (ls : List Layer) (left t u : Shape) → shape_of u ≡ pair (shape_of left) (shape_of t) → GoesOn f (ls ++ layers.SecondOfPair left ∷ []) (nexts.Made t) ls (nexts.Made u)
put_pair f ls left t u e = put_behind f ls (layers.SecondOfPair left) t u refl e

pub put_abs : (f : Filling) (ls : List Layer) (left t u : Shape) → shape_of u ≡ abs (shape_of left) (shape_of t) → GoesOn f (ls ++ layers.SecondOfAbs left ∷ []) (nexts.Made t) ls (nexts.Made u)
put_abs f ls left t u e = put_behind f ls (layers.SecondOfAbs left) t u refl e

pub put_list : (f : Filling) (ls : List Layer) (t u : Shape) → shape_of u ≡ list (shape_of t) → GoesOn f (ls ++ layers.List ∷ []) (nexts.Made t) ls (nexts.Made u)
put_list f ls t u e = put_behind f ls layers.List t u refl e

-- The second part comes next, behind the first.
goes_across : (f : Filling) (ls new : List Layer) (l m : Layer) (t : Shape) (z : ℕ) → new ≡ ls ++ m ∷ [] → shape_in f m (f z) ≡ shape_in f l (shape_of t) → work_in f m ≡ 1 → work_in f l ≡ 2 * size (f z) + 1
    → GoesOn f (ls ++ l ∷ []) (nexts.Made t) new (nexts.Place z)
goes_across f ls new l m t z e h v w = record {
  same = ap (λ (ks : List Layer). shape_within f ks (f z)) e ∙ within_last f ls m (f z) ∙ ap (shape_within f ls) h ∙ sym (within_last f ls l (shape_of t));
  less =
      let k : work_within f new ≡ work_within f (ls ++ m ∷ []) = ap (work_within f) e in
      let a = work_last f ls m in
      let b = work_last f ls l in
      omega arith;
}

pub across_pair : (f : Filling) (ls new : List Layer) (t : Shape) (z : ℕ) → new ≡ ls ++ layers.SecondOfPair t ∷ [] → GoesOn f (ls ++ layers.FirstOfPair z ∷ []) (nexts.Made t) new (nexts.Place z)
across_pair f ls new t z e = goes_across f ls new (layers.FirstOfPair z) (layers.SecondOfPair t) t z e refl refl refl

pub across_abs : (f : Filling) (ls new : List Layer) (t : Shape) (z : ℕ) → new ≡ ls ++ layers.SecondOfAbs t ∷ [] → GoesOn f (ls ++ layers.FirstOfAbs z ∷ []) (nexts.Made t) new (nexts.Place z)
across_abs f ls new t z e = goes_across f ls new (layers.FirstOfAbs z) (layers.SecondOfAbs t) t z e refl refl refl
