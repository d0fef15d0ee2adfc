-- The table of the code, and what writing does to it.
use Rattle.std.specs.Prelude.{◌≡◌, ◌⊎◌, ℕ, List, [], ◌∷◌, ◌++◌, map, reverse, Option, Some}
use Rattle.std.specs.BTreeMap.{get}
use Rattle.std.specs.List.{AllByRecursion}
use Rattle.std.specs.Ordering.{nat_cmp}
use Rattle.ap_defs.specs.Terms as terms
use Rattle.ap_defs.specs.Terms.{NominalTerm}
use Rattle.ap_bundle.specs.declared.version.Version.{Version}
use Rattle.ap_bundle.specs.declared.version.Version.TheVariants.{One, Two}
use Rattle.ap_bundle.specs.declared.words.Letter.TheVariants as letter
use Rattle.ap_bundle.specs.declared.words.Word.{Word}
use Rattle.ap_bundle.specs.declared.words.Word.TheVariants.{Number, Letter as ALetter}
use Rattle.ap_bundle.specs.Forms.{◌>>=◌, first, name_words, term_words}
use Rattle.ap_bundle.specs.Tables.{grown, entry_words, line_of, Has, HasParts}
use Rattle.ap_bundle.specs.Written.{written_line_as}
use Rattle.ap_shared.specs.Shared.{shared_at}
use Rattle.ap_shared.specs.SharedPlaces.{shared_term}
use Rattle.ap_bundle_write.specs.declared.table.Table.{Table}
use Rattle.ap_bundle_write.specs.declared.table.Task.{Task}
use Rattle.ap_bundle_write.specs.declared.table.Task.TheVariants as tasks

-- the terms of the table
abbrev pub held_terms : Table → List NominalTerm
held_terms t = map shared_term t.terms.items

-- the words of its lines
abbrev pub words_of_lines : Table → List (List Word)
words_of_lines t = map (λ v. v.items) t.lines.keys

-- each line has the words of its term, and each term stands with its parts
pub record IsWrittenTable (t : Table) : Type 0 where
  pub lines : words_of_lines t ≡ map (entry_words (held_terms t)) (held_terms t)
  pub parts : AllByRecursion (HasParts (held_terms t)) (held_terms t)

-- numbers of lines of these terms: the terms of the lines are held there
abbrev pub AreEntered : List NominalTerm → List NominalTerm → (ℕ → Option ℕ) → Type 0
AreEntered ts held numbers = (i n : ℕ) → numbers i ≡ Some n → Has held (shared_at ts i) × (n ≡ line_of held (shared_at ts i))

-- a table while these terms are written
pub record IsEntering (ts : List NominalTerm) (t : Table) : Type 0 where
  pub table : IsWrittenTable t
  pub entered : AreEntered ts (held_terms t) (get nat_cmp t.entered)

-- the table once these terms came; a bundle of version 1 has none
abbrev pub grown_as : Version → List NominalTerm → List NominalTerm → List NominalTerm
grown_as One table ts = table
grown_as Two table ts = grown table ts

-- The table grew by the terms, and this text was written behind what stood there: each term in the way that
-- fits the table, whatever comes later.
pub record WritesLines (v : Version) (old new : List NominalTerm) (out more : List ℕ) (ts : List NominalTerm)
    (lines : (NominalTerm → List ℕ) → List ℕ) : Type 0 where
  pub table : new ≡ grown_as v old ts
  pub text : (rest : List NominalTerm) → more ≡ out ++ lines (written_line_as v (grown_as v new rest))

-- the words of a term's line by the numbers of its parts, the last of them first, and the other numbers
abbrev pub words_by : NominalTerm → List ℕ → Option (List Word × List ℕ)
words_by terms.unit ns = Some (term_words terms.unit, ns)
words_by (terms.name a) ns = Some (term_words (terms.name a), ns)
words_by (terms.pair t u) ns =
    first ns >>= λ right. first right.1 >>= λ left. Some (ALetter letter.P ∷ Number left.0 ∷ Number right.0 ∷ [], left.1)
words_by (terms.app f t) ns = first ns >>= λ part. Some (ALetter letter.A ∷ Number f ∷ Number part.0 ∷ [], part.1)
words_by (terms.abs a t) ns = first ns >>= λ part. Some (ALetter letter.L ∷ (name_words a ++ Number part.0 ∷ []), part.1)
words_by (terms.susp p x) ns = Some (term_words (terms.susp p x), ns)

-- a step of a walk: to a term, or behind its parts
pub data Step : Type 0 where
  enter : NominalTerm → Step
  leave : NominalTerm → Step

-- of a line of these terms
abbrev pub task_step : List NominalTerm → Task → Step
task_step ts (tasks.Enter i) = enter (shared_at ts i)
task_step ts (tasks.Leave i) = leave (shared_at ts i)

-- the steps that are left, the next one first
abbrev pub steps_of : List NominalTerm → List Task → List Step
steps_of ts ks = reverse (map (task_step ts) ks)

-- the steps to the parts of a term
abbrev pub parts_in : NominalTerm → List Step
parts_in terms.unit = []
parts_in (terms.name a) = []
parts_in (terms.pair t u) = enter t ∷ enter u ∷ []
parts_in (terms.app f t) = enter t ∷ []
parts_in (terms.abs a t) = enter t ∷ []
parts_in (terms.susp p x) = []

-- the steps of a term
abbrev pub steps_in : NominalTerm → List Step
steps_in t = parts_in t ++ leave t ∷ []

-- The step to a term is taken: the number of one that is held comes before the others, or its steps before those that are left.
abbrev pub IsBegun : List NominalTerm → NominalTerm → List ℕ → List ℕ → List Step → List Step → Type 0
IsBegun held t ns ms ks js = (Has held t × (ms ≡ line_of held t ∷ ns) × (js ≡ ks)) ⊎ ((ms ≡ ns) × (js ≡ steps_in t ++ ks))
