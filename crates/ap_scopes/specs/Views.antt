-- The tables and states of the code, without where their words lie in memory.
use Rattle.std.specs.Prelude.{◌≡◌, ◌+◌, ◌≤◌, ℕ, false, List, [], ◌∷◌, map, length, Option, None, if◌then◌else◌, codes}
use Rattle.std.specs.Str.{bytes_eq}
use Rattle.indexmap.specs.IndexMap.{get_by}
use Rattle.ap_defs.specs.Types.{NominalSignature, signature_of}
use Rattle.ap_defs.specs.Limits.{size_limit}
use Rattle.ap_trees.specs.Trees.{name_of_binder}
use Rattle.ap_trees.specs.Terms.{OfWord, OfVar}
use Rattle.ap_scopes.specs.declared.words.Words.{Words}
use Rattle.ap_scopes.specs.declared.numbers.Numbers.{Numbers}
use Rattle.ap_scopes.specs.declared.declarations.Declarations.{Declarations}
use Rattle.ap_scopes.specs.declared.identifiers.Identifier as code
use Rattle.ap_scopes.specs.declared.identifiers.Identifiers.{Identifiers}
use Rattle.ap_scopes.specs.declared.identifiers.Brought as brought
use Rattle.ap_scopes.specs.Declarations.{Declared, constructor_words}
use Rattle.ap_scopes.specs.Identifiers.{Identifier, Found, Scope, free_place}

-- the words of a table, in order
abbrev pub words_in : Words → List (List ℕ)
words_in t = map (λ k. k.now) t.words.keys

-- the number of a word
abbrev pub number_at : Numbers → List ℕ → Option ℕ
number_at t w = get_by (λ k. bytes_eq w k.now) t.places

abbrev pub declared_of : Declarations → Declared
declared_of d = record { signature = signature_of d.signature; predicates = words_in d.predicates }

-- The tables have the words of the signature.
pub record IsIndexed (d : Declarations) : Type 0 where
  pub name_types : words_in d.name_types ≡ d.signature.name_types
  pub data_types : words_in d.data_types ≡ d.signature.data_types
  pub constructors : words_in d.constructors ≡ constructor_words (signature_of d.signature)
  pub predicates : length (words_in d.predicates) ≡ length d.signature.predicates

-- how many things are declared
abbrev pub declared_count : NominalSignature → ℕ
declared_count s = length s.name_types + length s.data_types + length s.constructors + length s.predicates

abbrev pub IsSmall : Declarations → Type 0
IsSmall d = declared_count (signature_of d.signature) ≤ size_limit

abbrev pub identifier_of : code.Identifier → Identifier
identifier_of i = record { spelling = name_of_binder i.spelling; bound = i.bound }

abbrev pub found_of : Identifiers → Found
found_of f = map identifier_of f.found.items

abbrev pub scope_of : brought.Brought → Scope
scope_of brought.Nothing = []
scope_of (brought.Inner' name n p outer) = (name_of_binder name, n) ∷ scope_of outer

-- The tables have the numbers of the identifiers that belong to the whole clause or query, or there are none yet.
pub record IsNumbered (f : Identifiers) : Type 0 where
  pub names : (w : List ℕ) → number_at f.names w ≡ (if f.has_tables then free_place (found_of f) (OfWord w) else None)
  pub variables : (w : List ℕ) → bytes_eq w (codes "_") ≡ false → number_at f.variables w ≡ (if f.has_tables then free_place (found_of f) (OfVar w) else None)
