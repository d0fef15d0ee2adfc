-- What is proved of the instances of what is shown of an answer.
use Rattle.std.specs.Prelude.{◌≡◌, ℕ, true, List, map}
use Rattle.ap_defs.specs.declared.terms.Name.{Name}
use Rattle.ap_defs.specs.declared.terms.Swap.{Swap}
use Rattle.ap_defs.specs.Answers.{NominalAnswer}
use Rattle.ap_defs.specs.Goals.{NominalProgram, NominalQuery}
use Rattle.ap_defs.specs.GroundProofs.{IsDerivable}
use Rattle.ap_defs.specs.Permutations.{act_name, has_name}
use Rattle.ap_defs.specs.Renaming.{local_names}
use Rattle.ap_defs.specs.Terms.{GroundTerm, act_ground}
use Rattle.ap_defs.specs.Types.{NominalKind}
use Rattle.ap_program.specs.RawTyping.{AreVarsOf}
use Rattle.ap_program.specs.Typed.{IsTypedProgram, IsTypedQuery, term_form}
use Rattle.ap_ground.specs.ShownInstances.{InEachInstance, InEachShownInstance, IsTypedDerivable}
use Rattle.ap_ground.specs.TypedGroundings.{HaveInhabitants}

-- a permutation that leaves the free names of a query keeps its derivability
abbrev pub DerivabilityIsEquivariant : Type 0
DerivabilityIsEquivariant = (p : NominalProgram) → IsTypedProgram p → (q : NominalQuery) → IsTypedQuery term_form p.signature q
    → (s : List Swap) → ((a : Name) → has_name a (local_names 0 q.locals) ≡ true → act_name s a ≡ a)
    → (gs : List GroundTerm) (d : ℕ) → IsDerivable p q gs d → IsDerivable p q (map (act_ground s) gs) d

-- where a query is derivable in each instance of an answer, it is in each instance of what is shown of it
abbrev pub ShownInstancesAreDerivable : Type 0
ShownInstancesAreDerivable = (p : NominalProgram) → IsTypedProgram p → (q : NominalQuery) → IsTypedQuery term_form p.signature q
    → (a : NominalAnswer) (kinds : List NominalKind) → AreVarsOf kinds a.vars → HaveInhabitants p.signature.constructors a.vars → (d : ℕ)
    → InEachInstance p.signature.constructors a (λ gs. IsDerivable p q gs d) → InEachShownInstance p.signature.constructors q.locals a (λ gs. IsDerivable p q gs d)

-- the same for terms of the types of the query's variables
abbrev pub ShownInstancesAreTyped : Type 0
ShownInstancesAreTyped = (p : NominalProgram) → IsTypedProgram p → (q : NominalQuery) → IsTypedQuery term_form p.signature q
    → (a : NominalAnswer) (kinds : List NominalKind) → AreVarsOf kinds a.vars → HaveInhabitants p.signature.constructors a.vars → (d : ℕ)
    → InEachInstance p.signature.constructors a (IsTypedDerivable p q d) → InEachShownInstance p.signature.constructors q.locals a (IsTypedDerivable p q d)
