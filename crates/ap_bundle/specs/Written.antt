-- What is written for a bundle.
use Rattle.std.specs.Prelude.{ℕ, List, [], ◌∷◌, ◌++◌, length, map, flat_map, codes}
use Rattle.ap_defs.specs.declared.terms.Name.{Name}
use Rattle.ap_defs.specs.declared.terms.Var.{Var}
use Rattle.ap_defs.specs.declared.terms.Cond.{Cond}
use Rattle.ap_defs.specs.Terms.{NominalTerm}
use Rattle.ap_defs.specs.Types.{NominalType}
use Rattle.ap_defs.specs.Answers.{NominalAnswer}
use Rattle.ap_bundle.specs.declared.words.NodeWord.{NodeWord}
use Rattle.ap_bundle.specs.declared.words.NodeWord.TheVariants as word
use Rattle.ap_bundle.specs.declared.words.Head.{Head}
use Rattle.ap_bundle.specs.declared.words.Head.TheVariants as head
use Rattle.ap_bundle.specs.declared.words.Word.{Word}
use Rattle.ap_bundle.specs.declared.words.Word.TheVariants as words
use Rattle.ap_bundle.specs.declared.version.Version.{Version}
use Rattle.ap_bundle.specs.declared.version.Version.TheVariants.{One, Two}
use Rattle.ap_bundle.specs.Words.{line}
use Rattle.ap_bundle.specs.Forms.{name_words, term_words, type_words}
use Rattle.ap_bundle.specs.Nodes.{Node, atom, equal, fresh, succeed, both, left, right, exists, new, preorder}
use Rattle.ap_bundle.specs.Bundles.{NominalProved, NominalBundle}
use Rattle.ap_bundle.specs.Tables.{entry_words, line_of, table_of}

-- a line that begins with this word
abbrev pub head_line : Head → List Word → List ℕ
head_line h ws = line (words.Head h ∷ ws)

abbrev pub node_line : NodeWord → List Word → List ℕ
node_line k ws = line (words.Node k ∷ ws)

abbrev pub counted_line : Head → ℕ → List ℕ
counted_line h n = head_line h (words.Number n ∷ [])

-- how many there are, and then each
abbrev pub listed : {A : Type 0} → Head → (A → List ℕ) → List A → List ℕ
listed h text xs = counted_line h (length xs) ++ flat_map text xs

abbrev pub var_line : Var × NominalType → List ℕ
var_line v = head_line head.V (words.Number v.0.num ∷ type_words v.1)

abbrev pub cond_line : Cond → List ℕ
cond_line c = head_line head.C (name_words c.name ++ words.Number c.var.num ∷ [])

abbrev pub name_line : Name → List ℕ
name_line a = head_line head.M (name_words a)

-- the line of a term that is written in full
abbrev pub term_line : NominalTerm → List ℕ
term_line t = head_line head.T (term_words t)

-- a node, by the line of a term
abbrev pub node_lines : {T : Type 0} → (T → List ℕ) → Node T → List ℕ
node_lines text (atom k names ts) =
    node_line word.Atom (words.Number k ∷ words.Number (length names) ∷ words.Number (length ts) ∷ []) ++ (flat_map name_line names ++ flat_map text ts)
node_lines text equal = node_line word.Eq []
node_lines text fresh = node_line word.Fresh []
node_lines text succeed = node_line word.True []
node_lines text both = node_line word.And []
node_lines text left = node_line word.Left []
node_lines text right = node_line word.Right []
node_lines text (exists t) = node_line word.Exists [] ++ text t
node_lines text (new a) = node_line word.New (name_words a)

abbrev pub answer_lines : (NominalTerm → List ℕ) → NominalAnswer → List ℕ
answer_lines text a = listed head.Vars var_line a.vars ++ (listed head.Conds cond_line a.conds ++ listed head.Binds text a.binds)

-- an answer with its derivation
abbrev pub proved_lines : (NominalTerm → List ℕ) → NominalProved → List ℕ
proved_lines text p = counted_line head.Derivation p.query ++ (answer_lines text p.answer ++ flat_map (node_lines text) (preorder p.derivation))

-- a text, with its length before it and an LF behind it
abbrev pub text_lines : List ℕ → List ℕ
text_lines text = counted_line head.Text (length text) ++ (text ++ 10 ∷ [])

-- what follows the text, and the table of terms if there is one
abbrev pub proved_part : (NominalTerm → List ℕ) → List NominalProved → List ℕ
proved_part text ps = listed head.Derivations (proved_lines text) ps ++ head_line head.End []

-- a bundle of version 1
abbrev pub written : NominalBundle → List ℕ
written b = codes "alphaprolog bundle 1\n" ++ (text_lines b.text ++ proved_part term_line b.proved)

-- a line of the table
abbrev pub entry_line : List NominalTerm → NominalTerm → List ℕ
entry_line table t = head_line head.T (entry_words table t)

-- the line of a term that stands in the table
abbrev pub shared_line : List NominalTerm → NominalTerm → List ℕ
shared_line table t = counted_line head.R (line_of table t)

-- how a term is written, beside this table
abbrev pub written_line_as : Version → List NominalTerm → NominalTerm → List ℕ
written_line_as One table t = term_line t
written_line_as Two table t = shared_line table t

-- a table, and what follows it
abbrev pub shared_part : List NominalTerm → List NominalProved → List ℕ
shared_part table ps = listed head.Terms (entry_line table) table ++ proved_part (shared_line table) ps

-- a bundle of version 2
abbrev pub written_shared : NominalBundle → List ℕ
written_shared b = codes "alphaprolog bundle 2\n" ++ (text_lines b.text ++ shared_part (table_of b.proved) b.proved)

-- a bundle of either version
abbrev pub written_as : Version → NominalBundle → List ℕ
written_as One b = written b
written_as Two b = written_shared b
