-- What a list of answers with their derivations comes to: the first derivation that is refused, or none.
use Rattle.std.specs.Prelude.{ℕ, suc, List, [], ◌∷◌, Option, None, Some}
use Rattle.ap_defs.specs.Goals.{NominalProgram}
use Rattle.ap_bundle.specs.Bundles.{NominalProved}
use Rattle.ap_checks.specs.Checks.{NominalVerdict, no, verdict_of, yes}

-- the verdict on a derivation, given with its query's number and its answer
abbrev pub verdict_on_proved : NominalProgram → NominalProved → NominalVerdict
verdict_on_proved p d = verdict_of p d.query d.answer d.derivation

-- A derivation that is refused: its number, from 1, the node, and the rule.
pub record RefusedProof : Type 0 where
  pub number : ℕ
  pub node : ℕ
  pub rule : ℕ

-- the verdict on the derivation with this number, before what comes of those after it
abbrev pub refused_first : ℕ → NominalVerdict → Option RefusedProof → Option RefusedProof
refused_first n yes rest = rest
refused_first n (no node rule) rest = Some (record { number = n; node = node; rule = rule })

-- the first that is refused, of derivations that are numbered from n on
abbrev pub first_refused : NominalProgram → ℕ → List NominalProved → Option RefusedProof
first_refused p n [] = None
first_refused p n (d ∷ ds) = refused_first n (verdict_on_proved p d) (first_refused p (suc n) ds)
