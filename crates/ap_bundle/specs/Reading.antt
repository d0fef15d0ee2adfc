-- What bytes stand for: a bundle, or the first fault. Lines and the text are read in order.
use Rattle.std.specs.Prelude.{ℕ, zero, suc, ◌+◌, ◌==◌, ◌&&◌, nat_lt, nat_le, if◌then◌else◌, List, [], ◌∷◌, ◌++◌, length, take, drop, slice_index, Option, None, Some, Result, Ok, Err}
use Rattle.ap_defs.specs.declared.terms.Name.{Name}
use Rattle.ap_defs.specs.Terms.{NominalTerm}
use Rattle.ap_defs.specs.Types.{NominalType}
use Rattle.ap_defs.specs.Answers.{NominalAnswer}
use Rattle.ap_defs.specs.Derivations.{NominalDerivation}
use Rattle.ap_bundle.specs.declared.faults.BundleKind.{BundleKind}
use Rattle.ap_bundle.specs.declared.faults.BundleKind.TheVariants.{Header, Node, Term}
use Rattle.ap_bundle.specs.declared.faults.BundleFault.{BundleFault}
use Rattle.ap_bundle.specs.declared.words.Head.{Head}
use Rattle.ap_bundle.specs.declared.words.Head.TheVariants as head
use Rattle.ap_bundle.specs.declared.words.Word.{Word}
use Rattle.ap_bundle.specs.Readers.{Unread, Wrong, Reader, ◌>>=◌, unended, wrong, found, is_lf, read_line, read_form, with_front, repeated, fault_in}
use Rattle.ap_bundle.specs.declared.version.Version.{Version}
use Rattle.ap_bundle.specs.declared.version.Version.TheVariants.{One, Two}
pub use Rattle.ap_bundle.specs.TableForms.{room_at_first}
use Rattle.ap_bundle.specs.TableForms.{read_cited, read_entries, read_shared}
use Rattle.ap_bundle.specs.LineForms as forms
use Rattle.ap_bundle.specs.LineForms.{NodeLine}
use Rattle.ap_bundle.specs.Nodes as nodes
use Rattle.ap_bundle.specs.Nodes.{children, derivation_from}
use Rattle.ap_bundle.specs.Bundles.{NominalProved, NominalBundle}

abbrev pub read_count : Head → Reader ℕ
read_count h = read_form Header (forms.count_form h)

-- how many there are, and then each
unfoldable pub read_listed : {A : Type 0} → Head → Reader A → Reader (List A)
read_listed h read p = do
  n ← read_count h p
  repeated read n.0 n.1

abbrev pub read_name : Reader Name
read_name = read_form Term forms.name_form

-- a term in full
abbrev pub read_term : Reader NominalTerm
read_term = read_form Term forms.term_form

-- the names and terms of an atom
unfoldable pub read_atom : Reader NominalTerm → ℕ → ℕ → ℕ → Reader (nodes.Node NominalTerm)
read_atom term k names terms p = do
  as' ← repeated read_name names p
  ts ← repeated term terms as'.1
  Ok (nodes.atom k as'.0 ts.0, ts.1)

unfoldable pub read_exists : Reader NominalTerm → Reader (nodes.Node NominalTerm)
read_exists term p = do
  t ← term p
  Ok (nodes.exists t.0, t.1)

-- what follows the line of a node
abbrev pub read_behind : Reader NominalTerm → NodeLine NominalTerm → Reader (nodes.Node NominalTerm)
read_behind term (forms.atom k names terms) p = read_atom term k names terms p
read_behind term forms.exists p = read_exists term p
read_behind term (forms.whole n) p = Ok (n, p)

unfoldable pub read_node : Reader NominalTerm → Reader (nodes.Node NominalTerm)
read_node term p = do
  line ← read_form Node forms.node_form p
  read_behind term line.0 line.1

-- Nodes in preorder, until no derivation is wanted any more. The first number only bounds how many there
-- may be: each takes a byte at least.
unfoldable pub read_nodes : Reader NominalTerm → ℕ → ℕ → Reader (List (nodes.Node NominalTerm))
read_nodes term bound zero p = Ok ([], p)
read_nodes term zero (suc wanted) p = Err unended
read_nodes term (suc bound) (suc wanted) p = read_node term p >>= λ n. with_front (n.0 ∷ []) (read_nodes term bound (wanted + children n.0) n.1)

unfoldable pub read_derivation : Reader NominalTerm → Reader NominalDerivation
read_derivation term p = do
  ns ← read_nodes term (length p.rest) 1 p
  d ← found Node p (derivation_from ns.0)
  Ok (d, ns.1)

unfoldable pub read_answer : Reader NominalTerm → Reader NominalAnswer
read_answer term p = do
  vars ← read_listed head.Vars (read_form Term forms.var_form) p
  conds ← read_listed head.Conds (read_form Term forms.cond_form) vars.1
  binds ← read_listed head.Binds term conds.1
  Ok (record { binds = binds.0; conds = conds.0; vars = vars.0 }, binds.1)

-- an answer with its derivation
unfoldable pub read_proved : Reader NominalTerm → Reader NominalProved
read_proved term p = do
  query ← read_form Header forms.query_form p
  answer ← read_answer term query.1
  d ← read_derivation term answer.1
  Ok (record { query = query.0; answer = answer.0; derivation = d.0 }, d.1)

-- A text of this length, and an LF. Where the byte behind the text is another, that is wrong.
unfoldable pub read_text : ℕ → Reader (List ℕ)
read_text n p =
    if nat_le (length p.rest) n then Err unended
    else (if is_lf (slice_index p.rest n) then Ok (take n p.rest, record p { rest = drop (n + 1) p.rest })
    else Err (wrong Header (record p { rest = drop n p.rest })))

-- nothing stands after the last line
abbrev pub ends : Unread → Result (List Word) Wrong
ends p = if length p.rest == 0 then Ok [] else Err (wrong Header p)

-- the last line, after which nothing stands
unfoldable pub read_last : Unread → Result (List Word) Wrong
read_last p = do
  end ← read_form Header forms.end_form p
  ends end.1

unfoldable pub read_rest : Reader NominalTerm → Unread → Result (List NominalProved) Wrong
read_rest term p = do
  all ← read_listed head.Derivations (read_proved term) p
  end ← read_last all.1
  Ok all.0

-- how terms are read by the lines of a table
abbrev pub TableReader : Type 0
TableReader = List NominalTerm → Reader NominalTerm

-- the table, and what follows it
unfoldable pub read_shared_rest : TableReader → Unread → Result (List NominalProved) Wrong
read_shared_rest shared p = do
  n ← read_count head.Terms p
  table ← read_entries n.0 [] n.1
  read_rest (shared table.0) table.1

-- what follows the text in this version
abbrev pub read_version : TableReader → Version → Unread → Result (List NominalProved) Wrong
read_version shared One p = read_rest read_term p
read_version shared Two p = read_shared_rest shared p

unfoldable pub read_at : TableReader → Unread → Result NominalBundle Wrong
read_at shared p = do
  version ← read_line Header forms.first_form p
  n ← read_count head.Text version.1
  text ← read_text n.0 n.1
  proved ← read_version shared version.0 text.1
  Ok (record { text = text.0; proved = proved })

-- the beginning of the bytes
abbrev pub start : List ℕ → Unread
start bytes = record { rest = bytes; room = room_at_first }

abbrev pub at_line : {A : Type 0} → List ℕ → Result A Wrong → Result A BundleFault
at_line bytes (Ok x) = Ok x
at_line bytes (Err w) = Err (fault_in bytes w)

-- the bundle of either version that the bytes are, or their first fault
abbrev pub reading_by : TableReader → List ℕ → Result NominalBundle BundleFault
reading_by shared bytes = at_line bytes (read_at shared (start bytes))

-- its shared terms together, each written in full, are no larger than there is room
abbrev pub reading : List ℕ → Result NominalBundle BundleFault
reading bytes = reading_by read_shared bytes

-- each of them is no larger than that
abbrev pub cited_reading : List ℕ → Result NominalBundle BundleFault
cited_reading bytes = reading_by read_cited bytes
