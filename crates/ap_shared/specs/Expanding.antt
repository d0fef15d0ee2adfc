-- Tasks that make the term of a line in full.
use Rattle.std.specs.Prelude.{ℕ, ◌+◌, List, [], ◌∷◌, ◌++◌, map, reverse, Option, Some}
use Rattle.ap_defs.specs.Terms as terms
use Rattle.ap_defs.specs.Terms.{NominalTerm}
use Rattle.ap_bundle.specs.Forms.{◌>>=◌, first}
use Rattle.ap_bundle.specs.Tables.{expanded_size}
use Rattle.ap_shared.specs.declared.lines.Entry.{Entry}
use Rattle.ap_shared.specs.declared.lines.Entry.TheVariants as entry
use Rattle.ap_shared.specs.declared.expanding.Layer.{Layer}
use Rattle.ap_shared.specs.declared.expanding.Layer.TheVariants as layer
use Rattle.ap_shared.specs.declared.expanding.Task.{Task}
use Rattle.ap_shared.specs.declared.expanding.Task.TheVariants as task
use Rattle.ap_shared.specs.Shared.{shared_at}

-- a vector as a stack: the last element is the first
abbrev pub stacked : {A B : Type 0} → (A → B) → List A → List B
stacked view xs = reverse (map view xs)

-- a layer round the first of these terms, or the first two
abbrev pub layer_closed : Layer → List NominalTerm → Option (List NominalTerm)
layer_closed layer.Pair ts = first ts >>= λ left. first left.1 >>= λ right. Some (terms.pair left.0 right.0 ∷ right.1)
layer_closed (layer.App f) ts = first ts >>= λ part. Some (terms.app f part.0 ∷ part.1)
layer_closed (layer.Abs a) ts = first ts >>= λ part. Some (terms.abs a part.0 ∷ part.1)

-- the terms that tasks, the next one first, make on top of others
abbrev pub made_by : List NominalTerm → List Task → List NominalTerm → Option (List NominalTerm)
made_by lines [] ts = Some ts
made_by lines (task.Line i ∷ ks) ts = made_by lines ks (shared_at lines i ∷ ts)
made_by lines (task.Close l ∷ ks) ts = layer_closed l ts >>= made_by lines ks

-- how much the tasks have to do
abbrev pub weigh_tasks : List NominalTerm → List Task → ℕ
weigh_tasks lines [] = 0
weigh_tasks lines (task.Line i ∷ ks) = expanded_size (shared_at lines i) + expanded_size (shared_at lines i) + weigh_tasks lines ks
weigh_tasks lines (task.Close l ∷ ks) = 1 + weigh_tasks lines ks

-- what is to be done for the term of an entry, and what is made of it at once
abbrev pub begun : Entry → List Task
begun entry.Unit = []
begun (entry.Name a) = []
begun (entry.Pair i j) = task.Line j ∷ task.Line i ∷ task.Close layer.Pair ∷ []
begun (entry.App f i) = task.Line i ∷ task.Close (layer.App f) ∷ []
begun (entry.Abs s n i) = task.Line i ∷ task.Close (layer.Abs (record { sort = s; num = n })) ∷ []
begun (entry.Susp p x) = []

abbrev pub ready : Entry → List NominalTerm
ready entry.Unit = terms.unit ∷ []
ready (entry.Name a) = terms.name a ∷ []
ready (entry.Pair i j) = []
ready (entry.App f i) = []
ready (entry.Abs s n i) = []
ready (entry.Susp p x) = terms.susp p x ∷ []
