-- How a derivation is written, without where it lies in memory, and its pieces and steps likewise.
use Rattle.std.specs.Prelude.{ℕ, List, map}
use Rattle.ap_answers.specs.Spelled.{spelling_in}
use Rattle.ap_defs.specs.Derivations.{derivation_of}
use Rattle.ap_defs.specs.Goals.{program_of}
use Rattle.ap_steps.specs.declared.steps.Phrase.{Phrase}
use Rattle.ap_steps.specs.declared.steps.Step.{Step}
use Rattle.ap_steps.specs.declared.bodies.Piece.{Piece}
use Rattle.ap_steps.specs.declared.bodies.Piece.TheVariants as code
use Rattle.ap_steps.specs.declared.bodies.Premise.{Premise}
use Rattle.ap_steps.specs.declared.writers.Writer.{Writer}
use Rattle.ap_steps.specs.Steps.{NominalPiece, NominalPremise, NominalStep, DerivationWriting, premise, side}

abbrev pub writing_of : Writer → DerivationWriting
writing_of w = record { clauses = (program_of w.program.now).clauses; words = w.words.now; by = spelling_in w.by.now }

abbrev pub premise_of : Premise → NominalPremise
premise_of p = record { derivation = derivation_of p.derivation.now; pred = p.pred; judgement = p.judgement.text }

abbrev pub piece_of : Piece → NominalPiece
piece_of (code.Side s) = side s.text
piece_of (code.Premise p) = premise (premise_of p)

-- a text without the marks of its bound names
abbrev pub bare : Phrase → List ℕ
bare p = p.text

abbrev pub written_step : Step → NominalStep
written_step s = record { depth = s.depth; judgement = s.judgement.text; rule = s.rule; sides = map bare s.sides }
