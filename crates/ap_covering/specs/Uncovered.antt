-- Proofs that are not to be covered: that are not ground, or are too high.
use Rattle.std.specs.Prelude.{ℕ, suc, nat_le, if◌then◌else◌, List, [], ◌∷◌, Option, None, Some}
use Rattle.ap_defs.specs.Derivations.{height}
use Rattle.ap_bundle.specs.Bundles.{NominalProved}
use Rattle.ap_cover.specs.Ground.{is_ground}
use Rattle.ap_covering.specs.declared.uncovered.Reason.{Reason}
use Rattle.ap_covering.specs.declared.uncovered.Reason.TheVariants.{NotGround, TooHigh}
use Rattle.ap_covering.specs.declared.uncovered.Uncovered.{Uncovered}

-- why a proof is not to be covered at a depth, if it isn't
abbrev pub reason_for : ℕ → NominalProved → Option Reason
reason_for depth d = if is_ground d then (if nat_le (height d.derivation) depth then None else Some TooHigh) else Some NotGround

-- the proof with this number, before what comes of those after it
abbrev pub uncovered_first : ℕ → Option Reason → Option Uncovered → Option Uncovered
uncovered_first n None rest = rest
uncovered_first n (Some why) rest = Some (record { number = n; reason = why })

-- the first that is not to be covered, of proofs that are numbered from n on
abbrev pub first_uncovered : ℕ → ℕ → List NominalProved → Option Uncovered
first_uncovered depth n [] = None
first_uncovered depth n (d ∷ ds) = uncovered_first n (reason_for depth d) (first_uncovered depth (suc n) ds)
