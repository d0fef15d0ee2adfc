-- What the items of a text make, one after the other.
use Rattle.std.specs.Prelude.{ℕ, zero, suc, List, [], ◌∷◌, ◌++◌, Option, Some}
use Rattle.ap_defs.specs.RawTerms.{RawTerm}
use Rattle.ap_defs.specs.Goals.{ClauseOver, QueryOver, ProgramOver}
use Rattle.ap_defs.specs.Types.{NominalType, NominalKind, NominalLocal, NominalSignature, base}
use Rattle.ap_trees.specs.Types.{Ty}
use Rattle.ap_scopes.specs.Declarations.{Declared, nothing_declared, type_named}
use Rattle.ap_scopes.specs.Types.{resolved_types}
use Rattle.ap_scopes.specs.Identifiers.{Identifier, Found}
use Rattle.ap_scopes.specs.Words.{spelled_name}

-- What is declared, the clauses of each predicate, and the queries.
pub record Made : Type 0 where
  pub declared : Declared
  pub clauses : List (List (ClauseOver RawTerm))
  pub queries : List (QueryOver RawTerm)

abbrev pub nothing_made : Made
nothing_made = record { declared = nothing_declared; clauses = []; queries = [] }

-- Declarations.
abbrev pub with_signature : NominalSignature → Made → Made
with_signature s m = record { declared = record { signature = s; predicates = m.declared.predicates }; clauses = m.clauses; queries = m.queries }

abbrev pub with_name_type : List ℕ → Made → Made
with_name_type w m = let s = m.declared.signature in
    with_signature (record { name_types = s.name_types ++ w ∷ []; data_types = s.data_types; constructors = s.constructors; predicates = s.predicates }) m

abbrev pub with_data_type : List ℕ → Made → Made
with_data_type w m = let s = m.declared.signature in
    with_signature (record { name_types = s.name_types; data_types = s.data_types ++ w ∷ []; constructors = s.constructors; predicates = s.predicates }) m

-- the number of the data type that a word stands for; anything else is a fault, and its number never counts
abbrev pub data_number : Option NominalType → ℕ
data_number (Some (base d)) = d
data_number _ = 0

abbrev pub with_constructor : List ℕ → List Ty → List ℕ → Made → Made
with_constructor w args result m = let s = m.declared.signature in
    with_signature (record {
      name_types = s.name_types;
      data_types = s.data_types;
      constructors = s.constructors ++ record { text = w; args = resolved_types s args; result = data_number (type_named s result) } ∷ [];
      predicates = s.predicates;
    }) m

-- a predicate has no clauses yet
abbrev pub with_predicate : List ℕ → List Ty → Made → Made
with_predicate w args m = let s = m.declared.signature in record {
  declared = record {
    signature = record { name_types = s.name_types; data_types = s.data_types; constructors = s.constructors; predicates = s.predicates ++ resolved_types s args ∷ [] };
    predicates = m.declared.predicates ++ w ∷ [];
  };
  clauses = m.clauses ++ [] ∷ [];
  queries = m.queries;
}

-- the last clause of a predicate
abbrev pub put_clause : ClauseOver RawTerm → ℕ → List (List (ClauseOver RawTerm)) → List (List (ClauseOver RawTerm))
put_clause c p [] = []
put_clause c zero (cs ∷ css) = (cs ++ c ∷ []) ∷ css
put_clause c (suc p) (cs ∷ css) = cs ∷ put_clause c p css

abbrev pub with_clause_made : ClauseOver RawTerm → Made → Made
with_clause_made c m = record { declared = m.declared; clauses = put_clause c c.pred m.clauses; queries = m.queries }

abbrev pub with_query : QueryOver RawTerm → Made → Made
with_query q m = record { declared = m.declared; clauses = m.clauses; queries = m.queries ++ q ∷ [] }

-- the identifiers of an item with their kinds
abbrev pub with_kind : Identifier → NominalKind → NominalLocal
with_kind i k = record { kind = k; bound = i.bound; text = spelled_name i.spelling }

abbrev pub with_kinds : Found → List NominalKind → List NominalLocal
with_kinds (i ∷ is) (k ∷ ks) = with_kind i k ∷ with_kinds is ks
with_kinds _ _ = []

abbrev pub program_made : List (List ℕ) → Made → ProgramOver RawTerm
program_made words m = record { signature = m.declared.signature; clauses = m.clauses; queries = m.queries; words = words }
