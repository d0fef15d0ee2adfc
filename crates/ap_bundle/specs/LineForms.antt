-- The forms of lines.
use Rattle.std.specs.Prelude.{ℕ, ◌^◌, nat_lt, if◌then◌else◌, List, [], ◌∷◌, Option, None, Some, option_map}
use Rattle.std.specs.Str.{bytes_eq}
use Rattle.ap_defs.specs.declared.terms.Name.{Name}
use Rattle.ap_defs.specs.declared.terms.Var.{Var}
use Rattle.ap_defs.specs.declared.terms.Cond.{Cond}
use Rattle.ap_defs.specs.Terms.{NominalTerm}
use Rattle.ap_defs.specs.Types.{NominalType}
use Rattle.ap_bundle.specs.declared.words.NodeWord.{NodeWord}
use Rattle.ap_bundle.specs.declared.words.NodeWord.TheVariants as word
use Rattle.ap_bundle.specs.declared.words.Head.{Head}
use Rattle.ap_bundle.specs.declared.words.Head.TheVariants as head
use Rattle.ap_bundle.specs.declared.words.Word.{Word}
use Rattle.ap_bundle.specs.declared.words.Word.TheVariants as words
use Rattle.ap_bundle.specs.declared.version.Version.{Version}
use Rattle.ap_bundle.specs.declared.version.Version.TheVariants.{One, Two}
use Rattle.ap_bundle.specs.Versions.{version_line}
use Rattle.ap_bundle.specs.Words.{head_text}
use Rattle.ap_bundle.specs.Forms.{◌>>=◌, form, term_onto, type_onto}
use Rattle.ap_bundle.specs.Nodes as nodes
use Rattle.ap_bundle.specs.Nodes.{Node}

-- the words behind this one, if it comes first
unfoldable pub after_head : Head → List Word → Option (List Word)
after_head h (words.Head k ∷ ws) = if bytes_eq (head_text k) (head_text h) then Some ws else None
after_head h ws = None

abbrev pub number : List Word → Option (ℕ × List Word)
number (words.Number n ∷ ws) = Some (n, ws)
number ws = None

abbrev pub if_small_word : ℕ × List Word → Option (ℕ × List Word)
if_small_word n = if nat_lt n.0 (2 ^ 32) then Some n else None

-- a number below 2 ^ 32
unfoldable pub small_number : List Word → Option (ℕ × List Word)
small_number ws = do
  n ← number ws
  if_small_word n

unfoldable pub name : List Word → Option (Name × List Word)
name ws = do
  sort ← small_number ws
  num ← number sort.1
  Some (record { sort = sort.0; num = num.0 }, num.1)

-- where no word is left
abbrev pub if_no_word : {A : Type 0} → A → List Word → Option A
if_no_word x [] = Some x
if_no_word x (w ∷ ws) = None

-- a count behind this word
unfoldable pub count_form : Head → List Word → Option ℕ
count_form h ws = do
  rest ← after_head h ws
  n ← number rest
  if_no_word n.0 n.1

-- `derivation Q`
unfoldable pub query_form : List Word → Option ℕ
query_form ws = do
  rest ← after_head head.Derivation ws
  q ← small_number rest
  if_no_word q.0 q.1

-- `v NUM TYPE`
unfoldable pub var_form : List Word → Option (Var × NominalType)
var_form ws = do
  rest ← after_head head.V ws
  x ← number rest
  t ← form type_onto x.1
  Some (record { num = x.0 }, t)

-- `c SORT NUM VAR`
unfoldable pub cond_form : List Word → Option Cond
cond_form ws = do
  rest ← after_head head.C ws
  a ← name rest
  x ← number a.1
  if_no_word (record { name = a.0; var = record { num = x.0 } }) x.1

-- `m SORT NUM`
unfoldable pub name_form : List Word → Option Name
name_form ws = do
  rest ← after_head head.M ws
  a ← name rest
  if_no_word a.0 a.1

-- `t TERM`
unfoldable pub term_form : List Word → Option NominalTerm
term_form ws = do
  rest ← after_head head.T ws
  form term_onto rest

-- What the line of a node says: the clause and the counts of what follows an atom, that a term follows, or all.
pub data NodeLine (T : Type 0) : Type 0 where
  atom : ℕ → ℕ → ℕ → NodeLine T
  exists : NodeLine T
  whole : Node T → NodeLine T

-- `atom C N V`
unfoldable pub atom_line : {T : Type 0} → List Word → Option (NodeLine T)
atom_line ws = do
  k ← small_number ws
  names ← number k.1
  terms ← number names.1
  if_no_word (atom k.0 names.0 terms.0) terms.1

-- `new SORT NUM`
unfoldable pub new_line : {T : Type 0} → List Word → Option (NodeLine T)
new_line ws = do
  a ← name ws
  if_no_word (whole (nodes.new a.0)) a.1

abbrev pub node_behind : {T : Type 0} → NodeWord → List Word → Option (NodeLine T)
node_behind word.Atom ws = atom_line ws
node_behind word.Eq ws = if_no_word (whole nodes.equal) ws
node_behind word.Fresh ws = if_no_word (whole nodes.fresh) ws
node_behind word.True ws = if_no_word (whole nodes.succeed) ws
node_behind word.And ws = if_no_word (whole nodes.both) ws
node_behind word.Left ws = if_no_word (whole nodes.left) ws
node_behind word.Right ws = if_no_word (whole nodes.right) ws
node_behind word.Exists ws = if_no_word exists ws
node_behind word.New ws = new_line ws

abbrev pub node_form : {T : Type 0} → List Word → Option (NodeLine T)
node_form (words.Node k ∷ ws) = node_behind k ws
node_form ws = None

-- the last line
unfoldable pub end_form : List Word → Option (List Word)
end_form ws = do
  rest ← after_head head.End ws
  if_no_word [] rest

-- the first line, by the version that it tells
unfoldable pub first_form : List ℕ → Option Version
first_form bytes = if bytes_eq bytes (version_line One) then Some One else (if bytes_eq bytes (version_line Two) then Some Two else None)
