-- What is proved of ground proofs that check.
use Rattle.std.specs.Prelude.{◌≡◌, ◌≤◌, ℕ, true, Some}
use Rattle.ap_defs.specs.Derivations.{height}
use Rattle.ap_defs.specs.Goals.{NominalProgram, NominalQuery}
use Rattle.ap_bundle.specs.Bundles.{NominalProved}
use Rattle.ap_checks.specs.Checks.{Checks, query_at}
use Rattle.ap_complete.specs.Restriction.{KeepsRestriction}
use Rattle.ap_cover.specs.Covers.{IsCoveredProof}
use Rattle.ap_cover.specs.Ground.{is_ground}

-- in a program that keeps the name restriction each ground proof that checks, no higher than the depth, is covered by what is found for it
abbrev pub GroundProofsAreCovered : Type 0
GroundProofsAreCovered = (p : NominalProgram) → KeepsRestriction p → (depth : ℕ) (d : NominalProved) (q : NominalQuery) → query_at p.queries d.query ≡ Some q
    → Checks p q d.answer d.derivation → is_ground d ≡ true → height d.derivation ≤ depth → IsCoveredProof p depth d
