-- Ground proofs: what is derivable in nominal logic, after Cheney and Urban. Code never searches them.
use Rattle.std.specs.Prelude.{◌≡◌, ◌≢◌, ◌≤◌, ℕ, zero, suc, true, false, if◌then◌else◌, List, [], ◌∷◌, map, Option, Some, None}
use Rattle.ap_defs.specs.declared.terms.Name.{Name}
use Rattle.ap_defs.specs.declared.terms.Var.{Var}
use Rattle.ap_defs.specs.declared.terms.Swap.{Swap}
use Rattle.ap_defs.specs.Permutations.{name_eq, has_name}
use Rattle.ap_defs.specs.Terms as terms
use Rattle.ap_defs.specs.Terms.{NominalTerm, GroundTerm, act_ground}
use Rattle.ap_defs.specs.Alpha.{alpha}
use Rattle.ap_defs.specs.Alpha as ground
use Rattle.ap_defs.specs.Freshness.{var_eq}
use Rattle.ap_defs.specs.Unification.{has_var}
use Rattle.ap_defs.specs.Types as types
use Rattle.ap_defs.specs.Types.{NominalKind, NominalLocal, NominalConstructor}
use Rattle.ap_defs.specs.Goals as goals
use Rattle.ap_defs.specs.Goals.{NominalGoal, NominalClause, NominalQuery, NominalProgram, clauses_of}
use Rattle.ap_defs.specs.Occurrences.{free_names, free_vars}
use Rattle.ap_defs.specs.Renaming.{local_names, local_vars}
use Rattle.ap_defs.specs.Derivations.{GroundProof, atom, equal, fresh, succeed, both, left, right, exists, new, height}
use Rattle.ap_defs.specs.Answers.{kind_at}
use Rattle.ap_defs.specs.Resolution.{kinds_of}
use Rattle.ap_defs.specs.Typing.{IsOfType}

-- A name for each name, and a ground term for each variable. Only what an item has of them matters.
pub record Environment : Type 0 where
  pub names : Name → Name
  pub terms : Var → GroundTerm

abbrev pub swap_under : Environment → Swap → Swap
swap_under e s = record {
  sort = s.sort;
  left = (e.names (record { sort = s.sort; num = s.left })).num;
  right = (e.names (record { sort = s.sort; num = s.right })).num;
}

-- a term under an environment; a binder may capture
abbrev pub instance : Environment → NominalTerm → GroundTerm
instance e terms.unit = terms.unit
instance e (terms.name a) = terms.name (e.names a)
instance e (terms.pair t u) = terms.pair (instance e t) (instance e u)
instance e (terms.app f t) = terms.app f (instance e t)
instance e (terms.abs a t) = terms.abs (e.names a) (instance e t)
instance e (terms.susp p x) = act_ground (map (swap_under e) p) (e.terms x)

abbrev pub with_term : Environment → Var → GroundTerm → Environment
with_term e x g = record e { terms = λ y. if var_eq x y then g else e.terms y }

abbrev pub with_name : Environment → Name → Name → Environment
with_name e a c = record e { names = λ b. if name_eq a b then c else e.names b }

-- what stands beside a name in two lists, and the name itself where it isn't there
abbrev pub name_for : List Name → List Name → Name → Name
name_for (a ∷ as') (c ∷ cs) b = if name_eq a b then c else name_for as' cs b
name_for _ _ b = b

abbrev pub term_for : List Var → List GroundTerm → Var → GroundTerm
term_for (x ∷ xs) (g ∷ gs) y = if var_eq x y then g else term_for xs gs y
term_for _ _ y = terms.unit

-- the environment that gives an item's free names and variables these names and terms, in order
abbrev pub environment : List NominalLocal → List Name → List GroundTerm → Environment
environment locals names gs = record { names = name_for (local_names 0 locals) names; terms = term_for (local_vars 0 locals) gs }

-- as many names, each of the sort at its place
abbrev pub AreOfSorts : List Name → List Name → Type 0
AreOfSorts [] [] = Unit {0}
AreOfSorts (a ∷ as') (c ∷ cs) = (c.sort ≡ a.sort) × AreOfSorts as' cs
AreOfSorts _ _ = ⊥

abbrev pub AreDifferent : List Name → Type 0
AreDifferent [] = Unit {0}
AreDifferent (a ∷ as') = (has_name a as' ≡ false) × AreDifferent as'

-- the ground term is of the variable's type, by the kinds of an item's identifiers
abbrev pub HasTypeOf : List NominalConstructor → Option NominalKind → GroundTerm → Type 0
HasTypeOf cs (Some (types.var t)) g = IsOfType cs g t
HasTypeOf cs _ g = ⊥

-- as many ground terms, each of the type at its place
abbrev pub AreOfTypes : List NominalConstructor → List NominalKind → List Var → List GroundTerm → Type 0
AreOfTypes cs kinds [] [] = Unit {0}
AreOfTypes cs kinds (x ∷ xs) (g ∷ gs) = HasTypeOf cs (kind_at kinds x.num) g × AreOfTypes cs kinds xs gs
AreOfTypes cs kinds _ _ = ⊥

-- the names and the terms make an environment for an item's free identifiers, and the names are different
pub record Instantiates (cs : List NominalConstructor) (locals : List NominalLocal) (names : List Name) (gs : List GroundTerm) : Type 0 where
  pub sorts : AreOfSorts (local_names 0 locals) names
  pub different : AreDifferent names
  pub types : AreOfTypes cs (kinds_of locals) (local_vars 0 locals) gs

abbrev pub AlphaEach : List GroundTerm → List GroundTerm → Type 0
AlphaEach [] [] = Unit {0}
AlphaEach (g ∷ gs) (h ∷ hs) = (alpha g h ≡ true) × AlphaEach gs hs
AlphaEach _ _ = ⊥

-- the name is no free name of the goal under the environment, and is fresh for each of its free variables
pub record IsNew (c : Name) (g : NominalGoal) (e : Environment) : Type 0 where
  pub apart : (b : Name) → has_name b (free_names g) ≡ true → e.names b ≢ c
  pub fresh_for : (x : Var) → has_var x (free_vars g) ≡ true → ground.fresh c (e.terms x) ≡ true

-- the left side is a name that is fresh for the right side
abbrev pub IsFresh : GroundTerm → GroundTerm → Type 0
IsFresh (terms.name a) g = ground.fresh a g ≡ true
IsFresh _ g = ⊥

-- the clause with this number, from 1
abbrev pub clause_at : List NominalClause → ℕ → Option NominalClause
clause_at [] k = None
clause_at (c ∷ cs) zero = None
clause_at (c ∷ cs) (suc zero) = Some c
clause_at (c ∷ cs) (suc (suc k)) = clause_at cs (suc k)

-- the proof is a valid ground proof of a goal under an environment, in an item whose identifiers have these kinds
abbrev pub IsValid : NominalProgram → List NominalKind → GroundProof → NominalGoal → Environment → Type 0
IsValid p kinds (atom k names gs d) (goals.atom q ts) e =
    (c : NominalClause) × (clause_at (clauses_of p.clauses q) k ≡ Some c) × Instantiates p.signature.constructors c.locals names gs
    × AlphaEach (map (instance e) ts) (map (instance (environment c.locals names gs)) c.args)
    × IsValid p (kinds_of c.locals) d c.body (environment c.locals names gs)
IsValid p kinds equal (goals.equal t u) e = alpha (instance e t) (instance e u) ≡ true
IsValid p kinds fresh (goals.fresh t u) e = IsFresh (instance e t) (instance e u)
IsValid p kinds succeed goals.succeed e = Unit {0}
IsValid p kinds (both d f) (goals.both g h) e = IsValid p kinds d g e × IsValid p kinds f h e
IsValid p kinds (left d) (goals.either g h) e = IsValid p kinds d g e
IsValid p kinds (right d) (goals.either g h) e = IsValid p kinds d h e
IsValid p kinds (exists g d) (goals.exists x goal) e = HasTypeOf p.signature.constructors (kind_at kinds x.num) g × IsValid p kinds d goal (with_term e x g)
IsValid p kinds (new c d) (goals.new a goal) e = (c.sort ≡ a.sort) × IsNew c (goals.new a goal) e × IsValid p kinds d goal (with_name e a c)
IsValid p kinds _ _ e = ⊥

-- a ground proof of a query of at most this height exists; each free name of a query stands for itself
abbrev pub IsDerivable : NominalProgram → NominalQuery → List GroundTerm → ℕ → Type 0
IsDerivable p q gs d =
    (proof : GroundProof) × IsValid p (kinds_of q.locals) proof q.goal (environment q.locals (local_names 0 q.locals) gs) × (height proof ≤ d)
