-- Ground proofs in which the names of nodes are exchanged for those that a search takes.
use Rattle.std.specs.Prelude.{◌≡◌, ◌+◌, ◌<◌, ℕ, Bool, true, false, ◌==◌, ◌&&◌, ◌||◌, not, nat_lt, List, [], ◌∷◌}
use Rattle.ap_defs.specs.declared.terms.Name.{Name}
use Rattle.ap_defs.specs.declared.terms.Var.{Var}
use Rattle.ap_defs.specs.Alpha.{fresh}
use Rattle.ap_defs.specs.Derivations.{GroundProof, height, path}
use Rattle.ap_defs.specs.Goals.{NominalGoal, NominalProgram}
use Rattle.ap_defs.specs.GroundProofs.{Environment, IsValid}
use Rattle.ap_defs.specs.Occurrences.{free_names, free_vars}
use Rattle.ap_defs.specs.Permutations.{has_name}
use Rattle.ap_defs.specs.Renaming.{rename_name}
use Rattle.ap_defs.specs.Types.{NominalKind}
use Rattle.ap_defs.specs.Unification.{has_var}
use Rattle.ap_ground.specs.Environments.{KeepsSorts}
use Rattle.ap_program.specs.RawTyping.{HasTermType}
use Rattle.ap_program.specs.Typed.{EachOnce, IsTypedGoal, brought, has_number, stands_free, stands_in_term}
use Rattle.ap_complete.specs.NumberedProofs.{IsNamed, kinds_in}

-- one of k numbers from m on
abbrev pub in_range : ℕ → ℕ → ℕ → Bool
in_range m k i = not (nat_lt i m) && nat_lt i (m + k)

-- the number of one of the identifiers, n higher
abbrev pub is_brought : ℕ → List ℕ → ℕ → Bool
is_brought n [] i = false
is_brought n (j ∷ js) i = (i == n + j) || is_brought n js i

-- the number is one that a search of a goal takes for a name or a variable, where the goal's identifiers are numbered from n on, the
-- next number is m, and k numbers are to be made
abbrev pub is_taken : ℕ → ℕ → ℕ → NominalGoal → ℕ → Bool
is_taken n m k g i = in_range m k i || is_brought n (brought g) i

-- A goal where a search comes to it: its free names have the search's numbers, the names that the search takes are fresh for the terms
-- of its free variables, and what it brings is below the next number, is brought once, and is not free in it.
pub record IsReady (p : NominalProgram) (kinds : List NominalKind) (n m k : ℕ) (g : NominalGoal) (e : Environment) : Type 0 where
  pub typed : IsTypedGoal (HasTermType p.signature.constructors kinds) p.signature.predicates kinds g
  pub keeps : KeepsSorts e
  pub names : (b : Name) → has_name b (free_names g) ≡ true → e.names b ≡ rename_name n b
  pub clear : (a : Name) → is_taken n m k g a.num ≡ true → (x : Var) → has_var x (free_vars g) ≡ true → fresh a (e.terms x) ≡ true
  pub low : (i : ℕ) → has_number i (brought g) ≡ true → n + i < m
  pub free_low : (b : Name) → has_name b (free_names g) ≡ true → n + b.num < m
  pub once : EachOnce (brought g)
  pub own : (i : ℕ) → has_number i (brought g) ≡ true → stands_free stands_in_term i g ≡ false

-- A ground proof with the search's names, of the same path and height, by the same clauses.
pub record IsRenamed (p : NominalProgram) (kinds : List NominalKind) (n m : ℕ) (g : NominalGoal) (e : Environment) (proof : GroundProof) : Type 0 where
  pub result : GroundProof
  pub valid : IsValid p kinds result g e
  pub named : IsNamed p n m g result
  pub same_path : path result ≡ path proof
  pub same_height : height result ≡ height proof
  pub same_kinds : kinds_in p g result ≡ kinds_in p g proof
