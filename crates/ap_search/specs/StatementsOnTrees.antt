-- What is proved of the tree of paths of a query.
use Rattle.std.specs.Prelude.{◌≡◌, ℕ, ◌≤◌, ◌&&◌, List, [], ◌∷◌, ◌++◌, Some, length, filter, map, ◌↔◌}
use Rattle.ap_defs.specs.Answers.{outs_at, query_outs}
use Rattle.ap_defs.specs.Goals.{Clauses, NominalQuery}
use Rattle.ap_defs.specs.PathOrder.{has_prefix}
use Rattle.ap_defs.specs.Paths.{Choice, HasChoice, InTree, marked_query}
use Rattle.ap_paths.specs.Trees as trees
use Rattle.ap_paths.specs.Trees.{AreKids, joined_below, times}
use Rattle.ap_search.specs.Marks.{NominalMark, mark_in, mark_path}
use Rattle.ap_search.specs.PathTrees.{AreInPathOrder, query_choice, query_choices, query_kept}
use Rattle.ap_search.specs.Prefixes.{beginning}

-- what is below a choice is what is below each of its ways, in order
abbrev pub ChoicesAreATree : Type 0
ChoicesAreATree = (program : Clauses) (d : ℕ) (q : NominalQuery) (p : List ℕ) (w : ℕ) → query_choices program d q p ≡ Some w
    → outs_at program d q p ≡ joined_below (outs_at program d q) p 1 w

-- of a choice the ways that are kept ascend, and below the others there is no mark, and so no output
abbrev pub LeftOutHasNothing : Type 0
LeftOutHasNothing = (program : Clauses) (d : ℕ) (q : NominalQuery) (p ks : List ℕ) → query_kept program d q p ≡ Some ks → (k : ℕ) → times k ks ≡ 0
    → beginning mark_path (p ++ k ∷ []) (map (mark_in q.locals) (marked_query program d q)) ≡ []

abbrev pub KeptAreKids : Type 0
KeptAreKids = (program : Clauses) (d : ℕ) (q : NominalQuery) (p ks : List ℕ) → query_kept program d q p ≡ Some ks
    → AreKids (query_choices program d q) (outs_at program d q) p ks

-- the choices are those among the marks
abbrev pub MarksHaveChoices : Type 0
MarksHaveChoices = (program : Clauses) (d : ℕ) (q : NominalQuery) (p : List ℕ) (c : Choice) → HasChoice (marked_query program d q) p c ↔ (query_choice program d q p ≡ Some c)

-- outputs stand in path order, and no path begins with another
abbrev pub OutputsAreInPathOrder : Type 0
OutputsAreInPathOrder = (program : Clauses) (d : ℕ) (q : NominalQuery) → AreInPathOrder (query_outs program d q)

-- the marks at just this path
abbrev pub marks_at : List ℕ → List NominalMark → List NominalMark
marks_at p ms = filter (λ m. has_prefix p (mark_path m) && has_prefix (mark_path m) p) ms

-- an output or a choice, and no two of them, stand at one path
abbrev pub OneMarkAtAPath : Type 0
OneMarkAtAPath = (program : Clauses) (d : ℕ) (q : NominalQuery) (p : List ℕ) → length (marks_at p (map (mark_in q.locals) (marked_query program d q))) ≤ 1

-- a path stands in the tree of the marks just where each of its entries is a choice
abbrev pub TreeOfChoices : Type 0
TreeOfChoices = (program : Clauses) (d : ℕ) (q : NominalQuery) (p : List ℕ) → InTree (marked_query program d q) p ↔ trees.InChoiceTree (query_choices program d q) p
