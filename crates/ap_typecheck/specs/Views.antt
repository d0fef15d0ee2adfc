-- The state of the code, without where it lies in memory.
use Rattle.std.specs.Prelude.{◌≡◌, ℕ, List, [], map, length}
use Rattle.ap_defs.specs.RawTerms.{RawTerm, raw_of}
use Rattle.ap_defs.specs.Goals.{GoalOver, goal_over, clause_over, query_over}
use Rattle.ap_scopes.specs.Views.{declared_of, identifier_of, IsIndexed}
use Rattle.ap_scopes.specs.Identifiers.{Found}
use Rattle.ap_typecheck.specs.declared.typing.ClauseParts.{ClauseParts}
use Rattle.ap_typecheck.specs.declared.typing.QueryParts.{QueryParts}
use Rattle.ap_types.specs.Tables.{AreInhabitants}
use Rattle.ap_program.specs.NameRestriction.{item_count}
use Rattle.ap_typecheck.specs.declared.state.State.{State}
use Rattle.ap_typecheck.specs.Declaring.{Made, program_made}
use Rattle.ap_defs.specs.Types.{NominalKind}
use Rattle.ap_defs.specs.declared.faults.Place.{Place}
use Rattle.ap_defs.specs.declared.faults.TypeKind.TheVariants as types
use Rattle.ap_trees.specs.Items.{Saying, ItemOf}
use Rattle.ap_scopes.specs.Declarations.{Declared}
use Rattle.ap_kinds.specs.declared.errors.KindsError.{KindsError}
use Rattle.ap_kinds.specs.declared.errors.KindsError.TheVariants as kinds
use Rattle.ap_typecheck.specs.declared.error.Refusal.{Refusal}
use Rattle.ap_typecheck.specs.declared.error.Refusal.TheVariants as refusals
use Rattle.ap_typecheck.specs.declared.error.TypeError.{TypeError}
use Rattle.ap_typecheck.specs.declared.error.TypeError.TheVariants as errors
use Rattle.ap_typecheck.specs.Checking.{IsMistyped, IsTypeFaultOf, IsFirstTypeFault}

abbrev pub made_of : State → Made
made_of s = record {
  declared = declared_of s.declared;
  clauses = map (λ cs. map (clause_over raw_of) cs.items) s.clauses.items;
  queries = map (query_over raw_of) s.queries.items;
}

-- how many things were declared, stated and asked
abbrev pub made_count : Made → ℕ
made_count m = item_count (program_made [] m)

-- the tables have the words that are declared and the data types that are inhabited, and each predicate has a list of clauses
pub record AreTablesKept (s : State) : Type 0 where
  pub indexed : IsIndexed s.declared
  pub inhabited : AreInhabitants (declared_of s.declared).signature.constructors s.inhabitants
  pub listed : length s.clauses.items ≡ length s.declared.signature.predicates

abbrev pub clause_parts_of : ClauseParts → (List RawTerm × GoalOver RawTerm) × Found
clause_parts_of r = ((map raw_of r.args, goal_over raw_of r.body), map identifier_of r.found.items)

abbrev pub query_parts_of : QueryParts → GoalOver RawTerm × Found
query_parts_of r = (goal_over raw_of r.goal, map identifier_of r.found.items)

abbrev pub type_refusal_of : KindsError → Refusal
type_refusal_of kinds.Clash = refusals.Kind types.Clash
type_refusal_of kinds.Ambiguous = refusals.Kind types.Ambiguous
type_refusal_of kinds.Empty = refusals.Kind types.Empty
type_refusal_of kinds.Memory = refusals.Memory

-- what typing refuses is right
abbrev pub IsRefusedBy : Refusal → Declared → (List NominalKind → Type 0) → Type 0
IsRefusedBy (refusals.Kind k) d P = IsMistyped k d P
IsRefusedBy refusals.Memory d P = Unit {0}

-- what an item refuses is right
abbrev pub IsRefusedItem : Refusal → Declared → Saying → Type 0
IsRefusedItem (refusals.Kind k) d saying = IsTypeFaultOf k d saying
IsRefusedItem refusals.Memory d saying = Unit {0}

-- what a text refuses is right
abbrev pub IsRefusedByTypes : TypeError → List ItemOf → Type 0
IsRefusedByTypes (errors.Fault f) is = IsFirstTypeFault is f
IsRefusedByTypes errors.Memory is = Unit {0}

abbrev pub text_error : Refusal → Place → TypeError
text_error (refusals.Kind k) place = errors.Fault (record { place = place; kind = k })
text_error refusals.Memory place = errors.Memory
