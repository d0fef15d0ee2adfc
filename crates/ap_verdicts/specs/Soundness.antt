-- What is proved of derivations that check.
use Rattle.std.specs.Prelude.{◌≡◌, ◌↔◌, ℕ, List, None, Some}
use Rattle.std.specs.List.{AllByRecursion}
use Rattle.ap_defs.specs.Derivations.{height}
use Rattle.ap_defs.specs.Goals.{NominalProgram, NominalQuery}
use Rattle.ap_program.specs.Typed.{IsTypedProgram}
use Rattle.ap_ground.specs.ShownInstances.{InEachInstance, InEachShownInstance, IsTypedDerivable}
use Rattle.ap_ground.specs.TypedGroundings.{HaveInhabitants}
use Rattle.ap_paths.specs.declared.limits.Limit.{Limit}
use Rattle.ap_bundle.specs.Bundles.{NominalProved}
use Rattle.ap_checks.specs.Checks.{query_at, yes}
use Rattle.ap_verdicts.specs.Proofs.{limited_proofs, program_proofs}
use Rattle.ap_verdicts.specs.Verdicts.{first_refused, verdict_on_proved}

-- The query that is answered is derivable in nominal logic in each instance of the answer, no higher than the derivation; and so it is
-- in each instance of what is shown of the answer, where the type of each variable is inhabited.
pub record IsSoundProof (p : NominalProgram) (d : NominalProved) : Type 0 where
  pub q : NominalQuery
  pub asked : query_at p.queries d.query ≡ Some q
  pub instances : InEachInstance p.signature.constructors d.answer (IsTypedDerivable p q (height d.derivation))
  pub shown : HaveInhabitants p.signature.constructors d.answer.vars
      → InEachShownInstance p.signature.constructors q.locals d.answer (IsTypedDerivable p q (height d.derivation))

-- what checks is sound, whoever made it
abbrev pub CheckedIsSound : Type 0
CheckedIsSound = (p : NominalProgram) → IsTypedProgram p → (d : NominalProved) → verdict_on_proved p d ≡ yes → IsSoundProof p d

-- the derivation of each answer that the search finds checks
abbrev pub ProofsCheck : Type 0
ProofsCheck = (p : NominalProgram) → IsTypedProgram p → (depth : ℕ) → AllByRecursion (λ d. verdict_on_proved p d ≡ yes) (program_proofs depth p)

-- and so does that of each that is wanted
abbrev pub LimitedProofsCheck : Type 0
LimitedProofsCheck =
    (p : NominalProgram) → IsTypedProgram p → (depth : ℕ) (limit : Limit) → AllByRecursion (λ d. verdict_on_proved p d ≡ yes) (limited_proofs depth limit p)

-- none is refused just where each of them checks
abbrev pub NoneIsRefused : Type 0
NoneIsRefused = (p : NominalProgram) (n : ℕ) (ds : List NominalProved) → first_refused p n ds ≡ None ↔ AllByRecursion (λ d. verdict_on_proved p d ≡ yes) ds
