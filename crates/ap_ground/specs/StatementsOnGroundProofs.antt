-- What is proved of ground proofs.
use Rattle.std.specs.Prelude.{◌≡◌, true, List, []}
use Rattle.ap_defs.specs.declared.terms.Swap.{Swap}
use Rattle.ap_defs.specs.Alpha.{alpha}
use Rattle.ap_defs.specs.Derivations.{GroundProof, height}
use Rattle.ap_defs.specs.Goals.{NominalGoal, NominalProgram}
use Rattle.ap_defs.specs.GroundProofs.{Environment, IsValid, instance}
use Rattle.ap_defs.specs.Occurrences.{names_then}
use Rattle.ap_defs.specs.Terms.{NominalTerm}
use Rattle.ap_defs.specs.Types.{NominalKind}
use Rattle.ap_defs.specs.Unification.{vars_then}
use Rattle.ap_program.specs.Typed.{IsTypedProgram}
use Rattle.ap_ground.specs.Environments.{AgreeOn, KeepsSorts, SameNames, SameTermsFor, act_environment, act_proof}

-- a term sees an environment only on its names and variables
abbrev pub InstancesSeeIdentifiers : Type 0
InstancesSeeIdentifiers = (t : NominalTerm) (e f : Environment) → SameNames e f (names_then t []) → SameTermsFor e f (vars_then t [])
    → alpha (instance e t) (instance f t) ≡ true

-- a ground proof sees an environment only on what is free in its goal
abbrev pub ProofsSeeFreeIdentifiers : Type 0
ProofsSeeFreeIdentifiers = (p : NominalProgram) (kinds : List NominalKind) (proof : GroundProof) (g : NominalGoal) (e f : Environment)
    → IsValid p kinds proof g e → AgreeOn g e f → IsValid p kinds proof g f

-- a permutation makes a ground proof of a ground proof
abbrev pub ProofsAreEquivariant : Type 0
ProofsAreEquivariant = (p : NominalProgram) → IsTypedProgram p → (s : List Swap) (kinds : List NominalKind) (proof : GroundProof) (g : NominalGoal) (e : Environment)
    → IsValid p kinds proof g e → KeepsSorts e → IsValid p kinds (act_proof s proof) g (act_environment s e)

-- of the same height
abbrev pub HeightIsEquivariant : Type 0
HeightIsEquivariant = (s : List Swap) (proof : GroundProof) → height (act_proof s proof) ≡ height proof
