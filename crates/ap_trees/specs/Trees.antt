-- The views of trees, without where their parts lie in memory.
use Rattle.std.specs.Prelude.{List, map}
use Rattle.std.specs.Option.{option_map}
use Rattle.ap_trees.specs.declared.trees.Binder.{Binder}
use Rattle.ap_trees.specs.declared.trees.Binder.TheVariants as binders
use Rattle.ap_trees.specs.declared.trees.Tree.{Tree}
use Rattle.ap_trees.specs.declared.trees.Tree as code
use Rattle.ap_trees.specs.declared.trees.Application as application
use Rattle.ap_trees.specs.declared.trees.Args as args
use Rattle.ap_trees.specs.declared.trees.TypeTree.{TypeTree}
use Rattle.ap_trees.specs.declared.trees.TypeTree as code_types
use Rattle.ap_trees.specs.declared.trees.GoalTree.{GoalTree}
use Rattle.ap_trees.specs.declared.trees.GoalTree as code_goals
use Rattle.ap_trees.specs.declared.trees.Form.{Form}
use Rattle.ap_trees.specs.declared.trees.Form.TheVariants as code_forms
use Rattle.ap_trees.specs.declared.trees.Item.{Item}
use Rattle.ap_trees.specs.Types as types
use Rattle.ap_trees.specs.Types.{Ty}
use Rattle.ap_trees.specs.Terms as terms
use Rattle.ap_trees.specs.Terms.{Name, Term, Terms}
use Rattle.ap_trees.specs.Goals as goals
use Rattle.ap_trees.specs.Goals.{Goal}
use Rattle.ap_trees.specs.Items as items
use Rattle.ap_trees.specs.Items.{Saying, ItemOf}

abbrev pub type_of_tree : TypeTree → Ty
type_of_tree code_types.Unit = types.Unit
type_of_tree (code_types.Word word) = types.Word word.now
type_of_tree (code_types.Pair' p left q right) = types.Pair (type_of_tree left) (type_of_tree right)
type_of_tree (code_types.List' p element) = types.Array (type_of_tree element)
type_of_tree (code_types.Abs' word p body) = types.Abs word.now (type_of_tree body)

abbrev pub types_of : List TypeTree → List Ty
types_of ts = map type_of_tree ts

abbrev pub name_of_binder : Binder → Name
name_of_binder (binders.Word w) = terms.OfWord w.now
name_of_binder (binders.Var w) = terms.OfVar w.now

abbrev mutual
  pub term_of : Tree → Term
  term_of code.Unit = terms.Unit
  term_of (code.Var w) = terms.Variable w.now
  term_of (code.Word w) = terms.Word w.now
  term_of (code.Apply' p applied) = term_applied applied
  term_of (code.Pair' p left q right) = terms.Pair (term_of left) (term_of right)
  term_of code.Nil = terms.Nil
  term_of (code.Cell' p head q tail) = terms.Cell (term_of head) (term_of tail)
  term_of (code.Abs' binder p body) = terms.Abs (name_of_binder binder.value) (term_of body)
  term_of (code.Swapped' sides p body) = terms.Swapped (name_of_binder sides.value.left) (name_of_binder sides.value.right) (term_of body)

  pub term_applied : application.Application → Term
  term_applied (application.To word rest) = terms.Apply word.now (terms_of rest)

  pub terms_of : args.Args → Terms
  terms_of (args.Last t) = terms.Last (term_of t)
  terms_of (args.More' t p rest) = terms.More (term_of t) (terms_of rest)

abbrev pub trees_of : List Tree → List Term
trees_of ts = map term_of ts

abbrev pub goal_of_tree : GoalTree → Goal
goal_of_tree (code_goals.Atom w args) = goals.Atom w.now (trees_of args)
goal_of_tree (code_goals.Equal t u) = goals.Equation (term_of t) (term_of u)
goal_of_tree (code_goals.Fresh t u) = goals.Freshness (term_of t) (term_of u)
goal_of_tree (code_goals.Both' p g q h) = goals.Both (goal_of_tree g) (goal_of_tree h)
goal_of_tree (code_goals.Either' p g q h) = goals.Either (goal_of_tree g) (goal_of_tree h)
goal_of_tree (code_goals.Exists' w p g) = goals.Some_variable w.now (goal_of_tree g)
goal_of_tree (code_goals.New' w p g) = goals.New_name w.now (goal_of_tree g)

abbrev pub goals_of : List GoalTree → List Goal
goals_of gs = map goal_of_tree gs

abbrev pub form_of : Form → Saying
form_of (code_forms.NameType w) = items.ANameType w.now
form_of (code_forms.DataType w) = items.ADataType w.now
form_of (code_forms.Constructor w args result) = items.AConstructor w.now (types_of args) result.now
form_of (code_forms.Predicate w args) = items.APredicate w.now (types_of args)
form_of (code_forms.Clause w args body) = items.AClause w.now (trees_of args) (option_map goal_of_tree body)
form_of (code_forms.Query goal) = items.AQuery (goal_of_tree goal)

abbrev pub item_of : Item → ItemOf
item_of i = record { line = i.line; form = form_of i.form }

abbrev pub items_of_text : List Item → List ItemOf
items_of_text is = map item_of is
