-- Ground proofs whose names and terms are those to which a search comes: a clause is used with its identifiers as the search numbers
-- them, and a grounding gives the terms of the variables.
use Rattle.std.specs.Prelude.{◌≡◌, ◌⊎◌, ◌+◌, ℕ, true, List, [], ◌∷◌, ◌++◌, map, length, Option, Some, None}
use Rattle.ap_defs.specs.Derivations as nodes
use Rattle.ap_defs.specs.Derivations.{GroundProof, NominalDerivation}
use Rattle.ap_defs.specs.Goals.{NominalGoal, NominalClause, NominalProgram, atom, both, either, exists, new, clauses_of}
use Rattle.ap_defs.specs.GroundProofs.{Environment, clause_at}
use Rattle.ap_defs.specs.Groundings.{Grounding}
use Rattle.ap_defs.specs.PathOrder.{has_prefix}
use Rattle.ap_defs.specs.Renaming.{local_names, local_vars, rename_name, rename_var}
use Rattle.ap_defs.specs.Resolution.{Output, State, found, kinds_of, stuck}
use Rattle.ap_defs.specs.Types.{NominalKind}
use Rattle.ap_soundness.specs.FoundStates.{Solves}

-- it stands in the list
abbrev pub IsAmong : {A : Type 0} → A → List A → Type 0
IsAmong x [] = ⊥
IsAmong x (y ∷ ys) = (y ≡ x) ⊎ IsAmong x ys

-- the environment of a goal whose identifiers are numbered from n on
abbrev pub numbered : ℕ → Grounding → Environment
numbered n f = record { names = rename_name n; terms = λ x. f (rename_var n x) }

abbrev pub kinds_of_use : (NominalGoal → List NominalKind) → Option NominalClause → List NominalKind
kinds_of_use inner None = []
kinds_of_use inner (Some c) = kinds_of c.locals ++ inner c.body

-- the kinds of the identifiers of the clauses that a proof of the goal uses, in order
abbrev pub kinds_in : NominalProgram → NominalGoal → GroundProof → List NominalKind
kinds_in p (atom q ts) (nodes.atom k names gs d) = kinds_of_use (λ g. kinds_in p g d) (clause_at (clauses_of p.clauses q) k)
kinds_in p (both g h) (nodes.both d e) = kinds_in p g d ++ kinds_in p h e
kinds_in p (either g h) (nodes.left d) = kinds_in p g d
kinds_in p (either g h) (nodes.right d) = kinds_in p h d
kinds_in p (exists x g) (nodes.exists t d) = kinds_in p g d
kinds_in p (new a g) (nodes.new c d) = kinds_in p g d
kinds_in p _ _ = []

-- The names of the nodes are those of a search in which the goal's identifiers are numbered from n on, and the next number is m.
abbrev pub IsNamed : NominalProgram → ℕ → ℕ → NominalGoal → GroundProof → Type 0
IsNamed p n m (atom q ts) (nodes.atom k names gs d) =
    (c : NominalClause) × (clause_at (clauses_of p.clauses q) k ≡ Some c) × (names ≡ local_names m c.locals) × IsNamed p m (m + length c.locals) c.body d
IsNamed p n m (both g h) (nodes.both d e) = IsNamed p n m g d × IsNamed p n (m + length (kinds_in p g d)) h e
IsNamed p n m (either g h) (nodes.left d) = IsNamed p n m g d
IsNamed p n m (either g h) (nodes.right d) = IsNamed p n m h d
IsNamed p n m (exists x g) (nodes.exists t d) = IsNamed p n m g d
IsNamed p n m (new a g) (nodes.new c d) = (c ≡ rename_name n a) × IsNamed p n m g d
IsNamed p n m _ _ = Unit {0}

-- The terms of the nodes are those that the grounding gives to the variables of such a search.
abbrev pub IsGiven : NominalProgram → Grounding → ℕ → ℕ → NominalGoal → GroundProof → Type 0
IsGiven p f n m (atom q ts) (nodes.atom k names gs d) =
    (c : NominalClause) × (clause_at (clauses_of p.clauses q) k ≡ Some c) × (gs ≡ map (λ x. f (rename_var m x)) (local_vars 0 c.locals)) × IsGiven p f m (m + length c.locals) c.body d
IsGiven p f n m (both g h) (nodes.both d e) = IsGiven p f n m g d × IsGiven p f n (m + length (kinds_in p g d)) h e
IsGiven p f n m (either g h) (nodes.left d) = IsGiven p f n m g d
IsGiven p f n m (either g h) (nodes.right d) = IsGiven p f n m h d
IsGiven p f n m (exists x g) (nodes.exists t d) = (t ≡ f (rename_var n x)) × IsGiven p f n m g d
IsGiven p f n m (new a g) (nodes.new c d) = IsGiven p f n m g d
IsGiven p f n m _ _ = Unit {0}

-- Among the outputs is a state at the path that the grounding solves, or a branch that is stuck at a beginning of the path.
pub data IsReached (f : Grounding) (path : List ℕ) (os : List Output) (kinds : List NominalKind) : Type 0 where
  answered : (r : State) (d : NominalDerivation) → IsAmong (found path r d) os → Solves f r → r.kinds ≡ kinds → IsReached f path os kinds
  is_stuck : (q : List ℕ) → IsAmong (stuck q) os → has_prefix q path ≡ true → IsReached f path os kinds
