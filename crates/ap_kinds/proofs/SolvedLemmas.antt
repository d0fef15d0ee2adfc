-- What solving gives, at equal names and counts.
use Rattle.std.proofs.Common.{◌≡◌, ◌↔◌, ℕ, List, subst, Result, Ok, Err}
use Rattle.std.specs.Prelude.{IfOk, IfErr}
use Rattle.ap_defs.specs.Types.{TypeShape}
use Rattle.ap_types.specs.declared.errors.TypesError.{TypesError}
use Rattle.ap_types.specs.declared.errors.TypesError.TheVariants.{Clash}
use Rattle.ap_types.specs.declared.solved.Solved.{Solved}
use Rattle.ap_types.specs.Triangular.{assignment_of}
use Rattle.ap_types.specs.Equations.{ShapeEquation, Filling, GivesNames, IsShapeInstance}
use Rattle.ap_types.specs.Growing.{IsTableSolution, IsTableUnsolvable}
use Rattle.ap_types.specs.Assignments.{AreNames}
use Rattle.ap_kinds.specs.Systems.{EquationSystem}
use Rattle.ap_kinds.specs.Reading.{IsSystemSolved}

unsolvable_as : (ts : List TypeShape) (es : List ShapeEquation) (xs ys : List ℕ) (n m : ℕ) → xs ≡ ys → n ≡ m → IsTableUnsolvable ts es xs n → IsTableUnsolvable ts es ys m
unsolvable_as ts es xs ys n m d c h = subst (λ (zs : List ℕ). IsTableUnsolvable ts es zs m) d (subst (λ k. IsTableUnsolvable ts es xs k) c h)

solved_here : (ts : List TypeShape) (es : List ShapeEquation) (xs : List ℕ) (n next : ℕ) (us : List TypeShape)
    → ((f : Filling) → IsTableSolution ts es xs n f ↔ (IsShapeInstance us f × GivesNames n f xs)) → AreNames n us xs
    → IsSystemSolved n (record { table = ts; equations = es; names = xs; next = next }) us
solved_here ts es xs n next us h k = record { most_general = h; constrained = k }

solved_as : (ts : List TypeShape) (es : List ShapeEquation) (xs ys : List ℕ) (n m next : ℕ) (us : List TypeShape) → xs ≡ ys → n ≡ m
    → ((f : Filling) → IsTableSolution ts es xs n f ↔ (IsShapeInstance us f × GivesNames n f xs)) → AreNames n us xs
    → IsSystemSolved m (record { table = ts; equations = es; names = ys; next = next }) us
solved_as ts es xs ys n m next us d c h k =
    subst (λ (zs : List ℕ). IsSystemSolved m (record { table = ts; equations = es; names = zs; next = next }) us) d
    (subst (λ j. IsSystemSolved j (record { table = ts; equations = es; names = xs; next = next }) us) c
    (solved_here ts es xs n next us h k))

-- The same for what the program returns.
pub solved_table : (r : Result Solved TypesError) (ts : List TypeShape) (es : List ShapeEquation) (xs ys : List ℕ) (n m next : ℕ) → xs ≡ ys → n ≡ m
    → IfOk r (λ s. (f : Filling) → IsTableSolution ts es xs n f ↔ (IsShapeInstance (assignment_of s) f × GivesNames n f xs)) → IfOk r (λ s. AreNames n (assignment_of s) xs)
    → IfOk r (λ s. IsSystemSolved m (record { table = ts; equations = es; names = ys; next = next }) (assignment_of s))
solved_table (Ok s) ts es xs ys n m next d c h k = solved_as ts es xs ys n m next (assignment_of s) d c h k
solved_table (Err x) ts es xs ys n m next d c h k = tt

pub unsolvable_table : (r : Result Solved TypesError) (ts : List TypeShape) (es : List ShapeEquation) (xs ys : List ℕ) (n m : ℕ) → xs ≡ ys → n ≡ m
    → IfErr r (λ e. e ≡ Clash → IsTableUnsolvable ts es xs n) → IfErr r (λ e. e ≡ Clash → IsTableUnsolvable ts es ys m)
unsolvable_table (Ok s) ts es xs ys n m d c h = tt
unsolvable_table (Err x) ts es xs ys n m d c h = λ i. unsolvable_as ts es xs ys n m d c (h i)
