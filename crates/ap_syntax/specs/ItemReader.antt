-- Reading an item.
use Rattle.std.specs.Prelude.{ℕ, List, [], ◌∷◌, length, Option, None, Some}
use Rattle.ap_trees.specs.Symbols.{Sym, Ident, NameType, DataType}
use Rattle.ap_trees.specs.Readers.{SymbolReader, ◌>>=◌, separated, after_comma, after_open, after_close, at_end}
use Rattle.ap_trees.specs.Types.{Ty, Unit}
use Rattle.ap_trees.specs.TypeReader.{read_type}
use Rattle.ap_trees.specs.Goals.{Goal}
use Rattle.ap_trees.specs.Items.{Saying, ANameType, ADataType, AConstructor, APredicate, AClause, AQuery}
use Rattle.ap_syntax.specs.GoalReader.{read_atom, all_goal}
use Rattle.ap_syntax.specs.Marks.{after_arrow, after_ask, after_if, after_pred, read_ident, read_declared, sole_ident}

-- types up to the `)` that closes them
unfoldable pub types_inside : SymbolReader (List Ty)
types_inside ts = do
  parts ← separated after_comma (read_type (length ts)) (length ts) ts
  rest ← after_close parts.1
  Some (parts.0, rest)

-- one type as an argument
unfoldable pub sole_argument : SymbolReader (List Ty)
sole_argument ts = do
  t ← read_type (length ts) ts
  Some (t.0 ∷ [], t.1)

abbrev pub unit_or_list : List Sym → Option (List Sym) → Option (List Ty × List Sym)
unit_or_list ts (Some us) = Some (Unit ∷ [], us)
unit_or_list ts None = types_inside ts

-- what stands in parentheses as arguments
unfoldable pub listed_arguments : SymbolReader (List Ty)
listed_arguments ts = unit_or_list ts (after_close ts)

abbrev pub type_arguments_by : List Sym → Option (List Sym) → Option (List Ty × List Sym)
type_arguments_by ts (Some us) = listed_arguments us
type_arguments_by ts None = sole_argument ts

unfoldable pub read_arguments : SymbolReader (List Ty)
read_arguments ts = type_arguments_by ts (after_open ts)

-- a constructor with arguments, behind its colon
unfoldable pub constructor_of : List ℕ → List Sym → Option Saying
constructor_of w ts = do
  args ← read_arguments ts
  rest ← after_arrow args.1
  result ← sole_ident rest
  Some (AConstructor w args.0 result)

-- a declaration by one symbol, behind its colon
abbrev pub short_form : List ℕ → List Sym → Option Saying
short_form w (NameType ∷ []) = Some (ANameType w)
short_form w (DataType ∷ []) = Some (ADataType w)
short_form w (Ident d ∷ []) = Some (AConstructor w [] d)
short_form w ts = None

abbrev pub short_or_constructor : List ℕ → List Sym → Option Saying → Option Saying
short_or_constructor w ts (Some form) = Some form
short_or_constructor w ts None = constructor_of w ts

-- a declaration, behind its colon
unfoldable pub declaration : List ℕ → List Sym → Option Saying
declaration w ts = short_or_constructor w ts (short_form w ts)

abbrev pub types_by : List Sym → Option (List Sym) → Option (List Ty × List Sym)
types_by ts None = Some ([], ts)
types_by ts (Some us) = types_inside us

-- the types of a predicate, if it has any
unfoldable pub declared_types : SymbolReader (List Ty)
declared_types ts = types_by ts (after_open ts)

-- a predicate, behind `pred`
unfoldable pub predicate_of : List Sym → Option Saying
predicate_of ts = do
  word ← read_ident ts
  args ← declared_types word.1
  at_end (APredicate word.0 args.0) args.1

abbrev pub body_by : List Sym → Option (List Sym) → Option (Option Goal)
body_by ts None = at_end None ts
body_by ts (Some us) = do
  goal ← all_goal us
  Some (Some goal)

-- the body of a clause, if it has one, to the end
unfoldable pub body_of : List Sym → Option (Option Goal)
body_of ts = body_by ts (after_if ts)

-- a fact or a rule
unfoldable pub clause_of : List Sym → Option Saying
clause_of ts = do
  head ← read_atom ts
  body ← body_of head.1
  Some (AClause head.0.0 head.0.1 body)

-- a query, behind `?-`
unfoldable pub query_of : List Sym → Option Saying
query_of ts = do
  goal ← all_goal ts
  Some (AQuery goal)

abbrev pub item_by : List Sym → Option (List Sym) → Option (List Sym) → Option (List ℕ × List Sym) → Option Saying
item_by ts (Some us) query declared = predicate_of us
item_by ts None (Some us) declared = query_of us
item_by ts None None (Some d) = declaration d.0 d.1
item_by ts None None None = clause_of ts

-- what the item says that all the symbols spell
unfoldable pub read_item : List Sym → Option Saying
read_item ts = item_by ts (after_pred ts) (after_ask ts) (read_declared ts)
