-- A system with one more equation, as the program has it.
use Rattle.std.proofs.Common.{◌≡◌, ◌∙◌, ℕ, List, [], ◌∷◌, ◌++◌, map, refl, sym, ap, subst, Option, Some, None}
use Rattle.std.proofs.lemmas.List.{map-append}
use Rattle.ap_defs.specs.declared.terms.Shape.{Shape}
use Rattle.ap_defs.specs.Types.{TypeShape, shape_of}
use Rattle.ap_types.specs.declared.nodes.Node.{Node}
use Rattle.ap_types.specs.Equations.{ShapeEquation, ◌≐◌, equation_of}
use Rattle.ap_types.specs.Triangular.{shapes_of_nodes}
use Rattle.ap_types.specs.Growing.{with_equation}
use Rattle.ap_kinds.specs.Systems.{EquationSystem, equate}

abbrev system_with : List TypeShape → List ShapeEquation → List ℕ → ℕ → EquationSystem
system_with ts es xs n = record { table = ts; equations = es; names = xs; next = n }

-- the table took it in
pub equated_in : (ns ms : List Node) (es : List (Shape × Shape)) (xs : List ℕ) (n : ℕ) (t u : TypeShape) → with_equation (shapes_of_nodes ns) t u ≡ Some (shapes_of_nodes ms)
    → system_with (shapes_of_nodes ms) (map equation_of es) xs n ≡ equate t u (system_with (shapes_of_nodes ns) (map equation_of es) xs n)
equated_in ns ms es xs n t u e = rw e refl

besides : (ts : List TypeShape) (es : List ShapeEquation) (xs : List ℕ) (n : ℕ) (t u : TypeShape) → with_equation ts t u ≡ None
    → system_with ts (es ++ (t ≐ u) ∷ []) xs n ≡ equate t u (system_with ts es xs n)
besides ts es xs n t u e = rw e refl

-- it stands besides
pub equated_besides : (ns ms : List Node) (es fs : List (Shape × Shape)) (xs : List ℕ) (n : ℕ) (l r : Shape) → with_equation (shapes_of_nodes ns) (shape_of l) (shape_of r) ≡ None
    → ms ≡ ns → fs ≡ es ++ (l, r) ∷ [] → system_with (shapes_of_nodes ms) (map equation_of fs) xs n ≡ equate (shape_of l) (shape_of r) (system_with (shapes_of_nodes ns) (map equation_of es) xs n)
equated_besides ns ms es fs xs n l r e i j =
    ap (λ (ks : List Node). system_with (shapes_of_nodes ks) (map equation_of fs) xs n) i
    ∙ ap (λ (gs : List ShapeEquation). system_with (shapes_of_nodes ns) gs xs n) (ap (map equation_of) j ∙ map-append equation_of es ((l, r) ∷ []))
    ∙ besides (shapes_of_nodes ns) (map equation_of es) xs n (shape_of l) (shape_of r) e
