-- What is proved of the search beside a ground proof.
use Rattle.std.specs.Prelude.{◌≤◌, ℕ, List, ◌++◌}
use Rattle.ap_defs.specs.Derivations.{GroundProof, height, path}
use Rattle.ap_defs.specs.Goals.{NominalGoal, NominalProgram}
use Rattle.ap_defs.specs.GroundProofs.{IsValid}
use Rattle.ap_defs.specs.Groundings.{Grounding}
use Rattle.ap_defs.specs.Renaming.{rename_goal}
use Rattle.ap_defs.specs.Resolution.{State, next_number, solve}
use Rattle.ap_defs.specs.Types.{NominalKind}
use Rattle.ap_program.specs.RawTyping.{HasTermType}
use Rattle.ap_program.specs.Typed.{IsTypedGoal, IsTypedProgram}
use Rattle.ap_soundness.specs.FoundStates.{Solves}
use Rattle.ap_complete.specs.NumberedProofs.{IsGiven, IsNamed, IsReached, kinds_in, numbered}

-- From a state that a grounding solves, a search comes to the path of a ground proof that has the search's names and the grounding's
-- terms: it finds a state there that the grounding solves, or is stuck before.
abbrev pub SearchFollowsProofs : Type 0
SearchFollowsProofs = (p : NominalProgram) → IsTypedProgram p → (f : Grounding) (kinds : List NominalKind) (n depth : ℕ) (g : NominalGoal) (s : State) (proof : GroundProof)
    → IsTypedGoal (HasTermType p.signature.constructors kinds) p.signature.predicates kinds g → Solves f s
    → IsValid p kinds proof g (numbered n f) → IsNamed p n (next_number s) g proof → IsGiven p f n (next_number s) g proof → height proof ≤ depth
    → IsReached f (path proof) (solve p.clauses depth (rename_goal n g) s) (s.kinds ++ kinds_in p g proof)
