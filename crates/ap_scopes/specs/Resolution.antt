-- Terms and goals with numbers for their words. Names have the sort 0 until they are typed.
use Rattle.std.specs.Prelude.{ℕ, ◌+◌, List, [], ◌∷◌, ◌++◌, Option, None, Some, length}
use Rattle.ap_defs.specs.declared.terms.Name as code_names
use Rattle.ap_defs.specs.declared.terms.Var as code_vars
use Rattle.ap_defs.specs.declared.terms.Id.{Id}
use Rattle.ap_defs.specs.declared.terms.Id.TheVariants as ids
use Rattle.ap_defs.specs.RawTerms.{RawTerm, unit, name, var, pair, app, abs, swapped}
use Rattle.ap_defs.specs.Goals.{GoalOver, succeed, atom, equal, fresh, both, either, exists, new}
use Rattle.ap_trees.specs.Terms as terms
use Rattle.ap_trees.specs.Terms.{Name, OfWord, OfVar, Term, Terms}
use Rattle.ap_trees.specs.Goals as goals
use Rattle.ap_trees.specs.Goals.{Goal}
use Rattle.ap_scopes.specs.Declarations.{Declared, constructor_place, predicate_place}
use Rattle.ap_scopes.specs.Identifiers.{Found, Scope, numbered_in, bound_one}

-- What is made of a part of the text, in the order of the text: it depends on the identifiers found before, and may find more.
abbrev pub Resolver : Type 0 → Type 0
Resolver A = Found → A × Found

abbrev pub made : {A B : Type 0} → (A → B) → A × Found → B × Found
made make a = (make a.0, a.1)

-- first the one, then the other
abbrev pub in_order : {A B C : Type 0} → (A → B → C) → Resolver A → Resolver B → Resolver C
in_order make first second found = made (make (first found).0) (second (first found).1)

abbrev pub numbered_name : ℕ → code_names.Name
numbered_name n = record { sort = 0; num = n }

abbrev pub numbered_var : ℕ → code_vars.Var
numbered_var n = record { num = n }

-- a name or variable of this number, by how it is spelled
abbrev pub id_of : Name → ℕ → Id
id_of (OfWord w) n = ids.Name (numbered_name n)
id_of (OfVar w) n = ids.Var (numbered_var n)

abbrev pub term_of_id : Name → ℕ → RawTerm
term_of_id (OfWord w) n = name (numbered_name n)
term_of_id (OfVar w) n = var (numbered_var n)

abbrev pub two_ids : Id → Id → Id × Id
two_ids i j = (i, j)

abbrev pub raw_swapped_by : Id × Id → RawTerm → RawTerm
raw_swapped_by ends t = swapped ends.0 ends.1 t

abbrev pub identifier : Scope → Name → Resolver RawTerm
identifier scope spelling found = made (term_of_id spelling) (numbered_in scope spelling found)

abbrev pub binder : Scope → Name → Resolver Id
binder scope spelling found = made (id_of spelling) (numbered_in scope spelling found)

-- the number of the constructor at a place; one that is not declared is a fault, and its number never counts
abbrev pub constructor_number : Option ℕ → ℕ
constructor_number (Some i) = i + 2
constructor_number None = 0

abbrev pub predicate_number : Option ℕ → ℕ
predicate_number (Some i) = i
predicate_number None = 0

-- A word without parentheses is a declared constructor without arguments, or a name.
abbrev pub word_alone : Scope → List ℕ → Option ℕ → Resolver RawTerm
word_alone scope w (Some i) found = (app (i + 2) unit, found)
word_alone scope w None found = identifier scope (OfWord w) found

abbrev mutual
  pub resolved_term : Declared → Scope → Term → Resolver RawTerm
  resolved_term d s terms.Unit found = (unit, found)
  resolved_term d s (terms.Variable w) found = identifier s (OfVar w) found
  resolved_term d s (terms.Word w) found = word_alone s w (constructor_place d w) found
  resolved_term d s (terms.Apply w ts) found = made (app (constructor_number (constructor_place d w))) (resolved_arguments d s ts found)
  resolved_term d s (terms.Pair t u) found = in_order pair (resolved_term d s t) (resolved_term d s u) found
  resolved_term d s terms.Nil found = (app 0 unit, found)
  resolved_term d s (terms.Cell t u) found = made (app 1) (in_order pair (resolved_term d s t) (resolved_term d s u) found)
  resolved_term d s (terms.Abs a t) found = in_order abs (binder s a) (resolved_term d s t) found
  resolved_term d s (terms.Swapped a b t) found = in_order raw_swapped_by (in_order two_ids (binder s a) (binder s b)) (resolved_term d s t) found

  -- one argument is itself, and more are their tuple, written out as pairs
  pub resolved_arguments : Declared → Scope → Terms → Resolver RawTerm
  resolved_arguments d s (terms.Last t) found = resolved_term d s t found
  resolved_arguments d s (terms.More t ts) found = in_order pair (resolved_term d s t) (resolved_arguments d s ts) found

abbrev pub put_first : RawTerm → List RawTerm → List RawTerm
put_first t ts = t ∷ ts

abbrev pub resolved_terms : Declared → Scope → List Term → Resolver (List RawTerm)
resolved_terms d s [] found = ([], found)
resolved_terms d s (t ∷ ts) found = in_order put_first (resolved_term d s t) (resolved_terms d s ts) found

-- `new` and `exists` bring a new identifier to their goal.
abbrev pub resolved_goal : Declared → Scope → Goal → Resolver (GoalOver RawTerm)
resolved_goal d s (goals.Atom w ts) found = made (atom (predicate_number (predicate_place d w))) (resolved_terms d s ts found)
resolved_goal d s (goals.Equation t u) found = in_order equal (resolved_term d s t) (resolved_term d s u) found
resolved_goal d s (goals.Freshness t u) found = in_order fresh (resolved_term d s t) (resolved_term d s u) found
resolved_goal d s (goals.Both g h) found = in_order both (resolved_goal d s g) (resolved_goal d s h) found
resolved_goal d s (goals.Either g h) found = in_order either (resolved_goal d s g) (resolved_goal d s h) found
resolved_goal d s (goals.Some_variable w g) found = made (exists (numbered_var (length found))) (resolved_goal d ((OfVar w, length found) ∷ s) g (found ++ bound_one (OfVar w) ∷ []))
resolved_goal d s (goals.New_name w g) found = made (new (numbered_name (length found))) (resolved_goal d ((OfWord w, length found) ∷ s) g (found ++ bound_one (OfWord w) ∷ []))

-- the body of a clause; a fact has none
abbrev pub resolved_body : Declared → Option Goal → Resolver (GoalOver RawTerm)
resolved_body d None found = (succeed, found)
resolved_body d (Some g) found = resolved_goal d [] g found

abbrev pub head_and_body : List RawTerm → GoalOver RawTerm → List RawTerm × GoalOver RawTerm
head_and_body ts g = (ts, g)

-- a clause: first its head's arguments, then its body
abbrev pub resolved_clause : Declared → List Term → Option Goal → (List RawTerm × GoalOver RawTerm) × Found
resolved_clause d args body = in_order head_and_body (resolved_terms d [] args) (resolved_body d body) []

abbrev pub resolved_query : Declared → Goal → GoalOver RawTerm × Found
resolved_query d g = resolved_goal d [] g []
