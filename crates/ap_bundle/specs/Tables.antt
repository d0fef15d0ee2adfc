-- The table of the terms that a bundle of version 2 shares: each different term once, behind its parts.
use Rattle.std.specs.Prelude.{◌≡◌, ℕ, Bool, true, false, ◌==◌, ◌&&◌, ◌+◌, if◌then◌else◌, List, [], ◌∷◌, ◌++◌, length, flat_map}
use Rattle.std.specs.List.{list_any, position_or_len}
use Rattle.std.specs.Cmp.Lexicographic.{pointwise}
use Rattle.ap_defs.specs.declared.terms.Name.{Name}
use Rattle.ap_defs.specs.declared.terms.Swap.{Swap}
use Rattle.ap_defs.specs.Terms as terms
use Rattle.ap_defs.specs.Terms.{NominalTerm}
use Rattle.ap_defs.specs.Derivations.{terms_in}
use Rattle.ap_bundle.specs.declared.words.Letter.TheVariants as letter
use Rattle.ap_bundle.specs.declared.words.Word.{Word}
use Rattle.ap_bundle.specs.declared.words.Word.TheVariants.{Number, Letter as ALetter}
use Rattle.ap_bundle.specs.Forms.{name_words, term_words}
use Rattle.ap_bundle.specs.Bundles.{NominalProved}

-- how large a term is that is written in full; a suspension has one more for each swapping
abbrev pub expanded_size : NominalTerm → ℕ
expanded_size terms.unit = 1
expanded_size (terms.name a) = 1
expanded_size (terms.pair t u) = 1 + (expanded_size t + expanded_size u)
expanded_size (terms.app f t) = 1 + expanded_size t
expanded_size (terms.abs a t) = 1 + expanded_size t
expanded_size (terms.susp swaps x) = 1 + length swaps

-- the sizes of terms, together
abbrev pub size_of_all : List NominalTerm → ℕ
size_of_all [] = 0
size_of_all (t ∷ ts) = expanded_size t + size_of_all ts

abbrev pub same_name : Name → Name → Bool
same_name a b = (a.sort == b.sort) && (a.num == b.num)

abbrev pub same_swap : Swap → Swap → Bool
same_swap s r = (s.sort == r.sort) && ((s.left == r.left) && (s.right == r.right))

-- whether two terms are the same, sign by sign
abbrev pub same : NominalTerm → NominalTerm → Bool
same terms.unit terms.unit = true
same (terms.name a) (terms.name b) = same_name a b
same (terms.pair t u) (terms.pair v w) = same t v && same u w
same (terms.app f t) (terms.app g u) = (f == g) && same t u
same (terms.abs a t) (terms.abs b u) = same_name a b && same t u
same (terms.susp p x) (terms.susp q y) = pointwise same_swap p q && (x.num == y.num)
same t u = false

-- a term behind its parts, and each of them behind its own, the left one first
abbrev pub with_parts : NominalTerm → List NominalTerm
with_parts terms.unit = terms.unit ∷ []
with_parts (terms.name a) = terms.name a ∷ []
with_parts (terms.pair t u) = with_parts t ++ (with_parts u ++ terms.pair t u ∷ [])
with_parts (terms.app f t) = with_parts t ++ terms.app f t ∷ []
with_parts (terms.abs a t) = with_parts t ++ terms.abs a t ∷ []
with_parts (terms.susp p x) = terms.susp p x ∷ []

-- one term more at the end, unless it is there
abbrev pub with_table_term : List NominalTerm → NominalTerm → List NominalTerm
with_table_term table t = if list_any (same t) table then table else (table ++ t ∷ [])

-- terms more, in turn
abbrev pub with_table_terms : List NominalTerm → List NominalTerm → List NominalTerm
with_table_terms table [] = table
with_table_terms table (t ∷ ts) = with_table_terms (with_table_term table t) ts

-- terms with their parts more
abbrev pub grown : List NominalTerm → List NominalTerm → List NominalTerm
grown table ts = with_table_terms table (flat_map with_parts ts)

-- the line of a term, from 0: how many stand before the first that is the same
abbrev pub line_of : List NominalTerm → NominalTerm → ℕ
line_of table t = position_or_len (same t) table

abbrev pub Has : List NominalTerm → NominalTerm → Type 0
Has table t = list_any (same t) table ≡ true

-- the parts of the term stand in the table
abbrev pub HasParts : List NominalTerm → NominalTerm → Type 0
HasParts table terms.unit = Unit {0}
HasParts table (terms.name a) = Unit {0}
HasParts table (terms.pair t u) = Has table t × Has table u
HasParts table (terms.app f t) = Has table t
HasParts table (terms.abs a t) = Has table t
HasParts table (terms.susp p x) = Unit {0}

-- a term by the lines of its parts
abbrev pub entry_words : List NominalTerm → NominalTerm → List Word
entry_words table terms.unit = term_words terms.unit
entry_words table (terms.name a) = term_words (terms.name a)
entry_words table (terms.pair t u) = ALetter letter.P ∷ Number (line_of table t) ∷ Number (line_of table u) ∷ []
entry_words table (terms.app f t) = ALetter letter.A ∷ Number f ∷ Number (line_of table t) ∷ []
entry_words table (terms.abs a t) = ALetter letter.L ∷ (name_words a ++ Number (line_of table t) ∷ [])
entry_words table (terms.susp p x) = term_words (terms.susp p x)

-- the terms that an answer with its derivation has lines for, in the order of those lines
abbrev pub terms_of : NominalProved → List NominalTerm
terms_of p = p.answer.binds ++ terms_in p.derivation

-- the table of a bundle
abbrev pub table_of : List NominalProved → List NominalTerm
table_of ps = grown [] (flat_map terms_of ps)
