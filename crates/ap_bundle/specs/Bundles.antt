-- Bundles without where they lie in memory.
use Rattle.std.specs.Prelude.{ℕ, List, map}
use Rattle.ap_defs.specs.Answers.{NominalAnswer, answer_of}
use Rattle.ap_defs.specs.Derivations.{NominalDerivation, derivation_of}
use Rattle.ap_defs.specs.declared.outcomes.Proved.{Proved}
use Rattle.ap_defs.specs.declared.outcomes.Bundle.{Bundle}

-- An answer to the query of this number, with its derivation.
pub record NominalProved : Type 0 where
  pub query : ℕ
  pub answer : NominalAnswer
  pub derivation : NominalDerivation

abbrev pub proved_of : Proved → NominalProved
proved_of p = record { query = p.query; answer = answer_of p.answer; derivation = derivation_of p.derivation }

-- A text with derivations of answers to its queries.
pub record NominalBundle : Type 0 where
  pub text : List ℕ
  pub proved : List NominalProved

abbrev pub bundle_of : Bundle → NominalBundle
bundle_of b = record { text = b.text; proved = map proved_of b.proved }
