-- The test of a clause's head.
use Rattle.std.specs.Prelude.{ℕ, Bool, true, false, ◌&&◌, ◌||◌, not, List, [], ◌∷◌, Option, Some, None}
use Rattle.ap_defs.specs.declared.terms.Name.{Name}
use Rattle.ap_defs.specs.declared.terms.Var.{Var}
use Rattle.ap_defs.specs.Permutations.{name_eq, act_name, inverse}
use Rattle.ap_defs.specs.Terms.{NominalTerm, unit, name, pair, app, abs, susp}
use Rattle.ap_defs.specs.Types as types
use Rattle.ap_defs.specs.Types.{NominalConstructor, NominalKind, NominalLocal}
use Rattle.ap_defs.specs.Goals.{NominalClause, NominalGoal}
use Rattle.ap_defs.specs.Answers.{kind_at}
use Rattle.ap_types.specs.declared.holding.Holding.{Holding}
use Rattle.ap_types.specs.Holding.{holds_if}
use Rattle.ap_types.specs.Tables.{IsHoldingTable}
use Rattle.ap_program.specs.NameRestriction.{AreFreshForHead, IsFirstNotFresh}
use Rattle.ap_facts.specs.declared.facts.Fact.{Fact}
use Rattle.ap_facts.specs.Facts.{has_fact}

-- the variable's type, by its kind, can't hold names of the sort
abbrev pub bars : ℕ → (ℕ → Bool) → Option NominalKind → Bool
bars sort found (Some (types.var t)) = not (holds_if sort found t)
bars sort found _ = false

-- whether a condition is known where a clause is used with the free name a
abbrev pub is_known : List Fact → ℕ → (ℕ → Bool) → List NominalKind → Name → Name → Var → Bool
is_known facts sort found kinds a b x = has_fact (record { left = a; name = b; var = x }) facts || bars sort found (kind_at kinds x.num)

-- whether the name is fresh for the term, where it is for each variable as the test says
abbrev pub fresh_by : (Name → Var → Bool) → Name → NominalTerm → Bool
fresh_by test a unit = true
fresh_by test a (name b) = not (name_eq a b)
fresh_by test a (pair t u) = fresh_by test a t && fresh_by test a u
fresh_by test a (app f t) = fresh_by test a t
fresh_by test a (abs b t) = name_eq a b || fresh_by test a t
fresh_by test a (susp p x) = test (act_name (inverse p) a) x

abbrev pub fresh_by_each : (Name → Var → Bool) → Name → List NominalTerm → Bool
fresh_by_each test a [] = true
fresh_by_each test a (t ∷ ts) = fresh_by test a t && fresh_by_each test a ts

-- each table is that of its sort
abbrev pub AreTables : List NominalConstructor → List Holding → Type 0
AreTables cs [] = Unit {0}
AreTables cs (h ∷ hs) = IsHoldingTable cs h.sort h × AreTables cs hs

abbrev pub name_when : Bool → NominalKind → Bool
name_when false (types.name s) = true
name_when _ _ = false

abbrev pub is_free_name : NominalLocal → Bool
is_free_name l = name_when l.bound l.kind

-- a clause of which only the head, the body and the identifiers are looked at
abbrev pub clause_of_head : List NominalTerm → NominalGoal → List NominalLocal → NominalClause
clause_of_head args body locals = record { item = 0; line = 0; pred = 0; args = args; body = body; locals = locals }

-- the first of the names that is not fresh for the head, or that each one is
abbrev pub IsFirstUnfresh : List NominalConstructor → NominalClause → List Name → Option Name → Type 0
IsFirstUnfresh cs c names None = AreFreshForHead cs c names
IsFirstUnfresh cs c names (Some a) = IsFirstNotFresh cs c names a
