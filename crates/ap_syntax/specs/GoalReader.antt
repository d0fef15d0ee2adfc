-- Reading a goal.
use Rattle.std.specs.Prelude.{ℕ, zero, suc, ◌+◌, List, [], ◌∷◌, length, Option, None, Some}
use Rattle.ap_trees.specs.Symbols.{Sym}
use Rattle.ap_trees.specs.Terms.{Term, Apply, argument_terms}
use Rattle.ap_trees.specs.Goals.{Goal, Atom, Equation, Freshness, Both, Either, Some_variable, New_name, joined_goals}
use Rattle.ap_trees.specs.Readers.{SymbolReader, ◌>>=◌, separated, after_comma, after_open, after_close, at_end}
use Rattle.ap_trees.specs.TermReader.{read_term}
use Rattle.ap_syntax.specs.Marks.{after_semicolon, after_equal, after_fresh, after_new, after_exists, read_ident, opened_ident, opened_variable}
use Rattle.ap_syntax.specs.Matching.{after_group}

-- a term, as deep as there are symbols
abbrev pub first_term : SymbolReader Term
first_term ts = read_term (length ts) ts

-- terms up to the `)` that closes them
unfoldable pub terms_inside : SymbolReader (List Term)
terms_inside ts = do
  parts ← separated after_comma (read_term (length ts)) (length ts) ts
  rest ← after_close parts.1
  Some (parts.0, rest)

abbrev pub arguments_by : List Sym → Option (List Sym) → Option (List Term × List Sym)
arguments_by ts None = Some ([], ts)
arguments_by ts (Some us) = terms_inside us

-- the arguments of an atom, if there are any
unfoldable pub atom_arguments : SymbolReader (List Term)
atom_arguments ts = arguments_by ts (after_open ts)

-- the word and the arguments of an atom
unfoldable pub read_atom : SymbolReader (List ℕ × List Term)
read_atom ts = do
  word ← read_ident ts
  args ← atom_arguments word.1
  Some ((word.0, args.0), args.1)

-- a relation, behind its mark
unfoldable pub right_side : (Term → Term → Goal) → Term → SymbolReader Goal
right_side relation left ts = do
  right ← first_term ts
  Some (relation left right.0, right.1)

unfoldable pub atom_goal : SymbolReader Goal
atom_goal ts = do
  atom ← read_atom ts
  Some (Atom atom.0.0 atom.0.1, atom.1)

abbrev pub relation_or_atom : List Sym → Term → Option (List Sym) → Option (List Sym) → Option (Goal × List Sym)
relation_or_atom ts left (Some us) other = right_side Equation left us
relation_or_atom ts left None (Some us) = right_side Freshness left us
relation_or_atom ts left None None = atom_goal ts

-- an equation, a freshness goal or an atom
unfoldable pub read_flat : SymbolReader Goal
read_flat ts = do
  left ← first_term ts
  relation_or_atom ts left.0 (after_equal left.1) (after_fresh left.1)

-- terms up to the `)` that closes them, as deep as the term that they are parts of may be
unfoldable pub parts_inside : SymbolReader (List Term)
parts_inside ts = do
  parts ← separated after_comma (read_term (length ts + 1)) (length ts) ts
  rest ← after_close parts.1
  Some (parts.0, rest)

abbrev pub applied_by : List ℕ → List Term → List Sym → Option (List Sym) → Option (List Sym) → Option (Goal × List Sym)
applied_by w parts ts (Some us) other = right_side Equation (Apply w (argument_terms parts)) us
applied_by w parts ts None (Some us) = right_side Freshness (Apply w (argument_terms parts)) us
applied_by w parts ts None None = Some (Atom w parts, ts)

-- an equation, a freshness goal or an atom that begins with a word and `(`, behind these
unfoldable pub applied_goal : List ℕ → SymbolReader Goal
applied_goal w ts = do
  parts ← parts_inside ts
  applied_by w parts.0 parts.1 (after_equal parts.1) (after_fresh parts.1)

-- a goal up to the `)` that closes it
unfoldable pub goal_inside : SymbolReader Goal → SymbolReader Goal
goal_inside read ts = do
  goal ← read ts
  rest ← after_close goal.1
  Some (goal.0, rest)

-- a goal of a new name, behind `new`
unfoldable pub new_goal : SymbolReader Goal → SymbolReader Goal
new_goal read ts = do
  word ← opened_ident ts
  goal ← goal_inside read word.1
  Some (New_name word.0 goal.0, goal.1)

-- a goal of some variable, behind `exists`
unfoldable pub exists_goal : SymbolReader Goal → SymbolReader Goal
exists_goal read ts = do
  word ← opened_variable ts
  goal ← goal_inside read word.1
  Some (Some_variable word.0 goal.0, goal.1)

abbrev pub simple_by : SymbolReader Goal → List Sym → Option (List Sym) → Option (List Sym) → Option (List Sym) → Option (Goal × List Sym)
simple_by read ts (Some us) exists group = new_goal read us
simple_by read ts None (Some us) group = exists_goal read us
simple_by read ts None None (Some us) = goal_inside read us
simple_by read ts None None None = read_flat ts

-- a simple goal
unfoldable pub read_simple : SymbolReader Goal → SymbolReader Goal
read_simple read ts = simple_by read ts (after_new ts) (after_exists ts) (after_group ts)

-- one goal of one or more
abbrev pub joined_by : (Goal → Goal → Goal) → List Goal → Option Goal
joined_by join [] = None
joined_by join (g ∷ gs) = Some (joined_goals join g gs)

unfoldable pub read_conj : SymbolReader Goal → SymbolReader Goal
read_conj read ts = do
  parts ← separated after_comma (read_simple read) (length ts) ts
  whole ← joined_by Both parts.0
  Some (whole, parts.1)

unfoldable pub read_disj : SymbolReader Goal → SymbolReader Goal
read_disj read ts = do
  parts ← separated after_semicolon (read_conj read) (length ts) ts
  whole ← joined_by Either parts.0
  Some (whole, parts.1)

-- a goal; the number falls at each level
unfoldable pub read_goal : ℕ → SymbolReader Goal
read_goal zero ts = None
read_goal (suc n) ts = read_disj (read_goal n) ts

-- the goal that all the symbols spell
unfoldable pub all_goal : List Sym → Option Goal
all_goal ts = do
  whole ← read_goal (length ts) ts
  at_end whole.0 whole.1
