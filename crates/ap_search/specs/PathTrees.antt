-- Trees of paths: what a search has, with no paths written out.
use Rattle.std.specs.Prelude.{◌≡◌, ℕ, suc, Bool, true, false, ◌==◌, nat_lt, if◌then◌else◌, List, [], ◌∷◌, ◌++◌, map, Option, Some, None, option_map}
use Rattle.ap_defs.specs.Answers as answers
use Rattle.ap_defs.specs.Answers.{NominalAnswer, NominalOut, out_path}
use Rattle.ap_defs.specs.Goals.{Clauses, NominalQuery}
use Rattle.ap_defs.specs.Paths.{Choice, marked_query}
use Rattle.ap_paths.specs.Trees.{Ascends, AreAtMost, times}
use Rattle.ap_search.specs.Marks.{NominalMark, out, choice, mark_in, widths_at}

-- an output without its path
pub data Leaf : Type 0 where
  answer : NominalAnswer → Leaf
  cut : Leaf
  stuck : Leaf

abbrev pub at_path : List ℕ → Leaf → NominalOut
at_path p (answer a) = answers.found p a
at_path p cut = answers.cut p
at_path p stuck = answers.stuck p

mutual
  -- no output, an output, or a choice among trees, of which the ways with these numbers are kept
  pub data PathTree : Type 0 where
    nothing : PathTree
    leaf : Leaf → PathTree
    node : List ℕ → Forest → PathTree

  pub data Forest : Type 0 where
    none : Forest
    grow : PathTree → Forest → Forest

abbrev pub width : Forest → ℕ
width none = 0
width (grow t f) = suc (width f)

abbrev mutual
  -- the marks of a tree that stands at a path
  pub flat : List ℕ → PathTree → List NominalMark
  flat p nothing = []
  flat p (leaf l) = out (at_path p l) ∷ []
  flat p (node ks f) = choice p (record { width = width f; kept = ks }) ∷ flat_from p 1 f

  -- of trees that stand at the ways of a path, from the i-th on
  pub flat_from : List ℕ → ℕ → Forest → List NominalMark
  flat_from p i none = []
  flat_from p i (grow t f) = flat (p ++ i ∷ []) t ++ flat_from p (suc i) f

-- Each choice keeps some of its ways, in order, and has nothing below the others.
abbrev mutual
  pub IsPruned : PathTree → Type 0
  IsPruned nothing = Unit {0}
  IsPruned (leaf l) = Unit {0}
  IsPruned (node ks f) = Ascends 1 ks × AreAtMost (width f) ks × HasKept ks 1 f

  -- ways that are numbered from i on
  pub HasKept : List ℕ → ℕ → Forest → Type 0
  HasKept ks i none = Unit {0}
  HasKept ks i (grow t f) = (times i ks ≡ 0 → t ≡ nothing) × IsPruned t × HasKept ks (suc i) f

-- the first of some
abbrev pub first_of : {A : Type 0} → List A → Option A
first_of [] = None
first_of (x ∷ xs) = Some x

-- the choice at a path, where there is one
abbrev pub choice_at : List ℕ → List NominalMark → Option Choice
choice_at p ms = first_of (widths_at p ms)

-- the choice of a query at a depth and a path
abbrev pub query_choice : Clauses → ℕ → NominalQuery → List ℕ → Option Choice
query_choice program d q p = choice_at p (map (mark_in q.locals) (marked_query program d q))

-- among how many it chooses
abbrev pub query_choices : Clauses → ℕ → NominalQuery → List ℕ → Option ℕ
query_choices program d q p = option_map (λ c. c.width) (query_choice program d q p)

-- which of its ways are kept
abbrev pub query_kept : Clauses → ℕ → NominalQuery → List ℕ → Option (List ℕ)
query_kept program d q p = option_map (λ c. c.kept) (query_choice program d q p)

-- the first path comes before the second, and neither begins with the other
abbrev pub is_before : List ℕ → List ℕ → Bool
is_before [] q = false
is_before (i ∷ p) [] = false
is_before (i ∷ p) (j ∷ q) = if i == j then is_before p q else nat_lt i j

abbrev pub AllOutsAfter : List ℕ → List NominalOut → Type 0
AllOutsAfter p [] = Unit {0}
AllOutsAfter p (o ∷ os) = (is_before p (out_path o) ≡ true) × AllOutsAfter p os

-- each comes before all that follow it
abbrev pub AreInPathOrder : List NominalOut → Type 0
AreInPathOrder [] = Unit {0}
AreInPathOrder (o ∷ os) = AllOutsAfter (out_path o) os × AreInPathOrder os
