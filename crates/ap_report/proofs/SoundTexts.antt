-- The program of each text is sound.
use Rattle.std.proofs.Common.{ℕ, List, [], ◌∷◌}
use Rattle.ap_defs.specs.Answers.{query_outs}
use Rattle.ap_defs.specs.Goals.{NominalProgram, NominalQuery}
use Rattle.ap_ground.specs.ShownInstances.{InEachShownInstance, IsTypedDerivable}
use Rattle.ap_paths.specs.declared.limits.Limit.{Limit}
use Rattle.ap_program.specs.Typed.{AreTypedQueries, IsTypedProgram, term_form}
use Rattle.ap_report.specs.SoundAnswers.{HaveSoundAnswers, IsSoundProgram, IsSoundText}
use Rattle.ap_report.proofs.Limiting.{each_of_part}
use Rattle.ap_restrict.proofs.KeepingLemmas.{kept_typed}
use Rattle.ap_soundness.proofs.AnswerLemmas.{shown_sound}
use Rattle.ap_text.specs.Texts.{IsProgramOfText}
use Rattle.ap_typecheck.proofs.TypedPrograms.{program_typed}

sound_queries : (p : NominalProgram) → IsTypedProgram p → (depth : ℕ) (limit : Limit) (qs : List NominalQuery) → AreTypedQueries term_form p.signature qs
    → HaveSoundAnswers p depth limit qs
sound_queries p typed depth limit [] h = tt
sound_queries p typed depth limit (q ∷ qs) h = (
  each_of_part (λ a. InEachShownInstance p.signature.constructors q.locals a (IsTypedDerivable p q depth)) limit (query_outs p.clauses depth q)
      (shown_sound p typed depth q h.0),
  sound_queries p typed depth limit qs h.1,
)

pub sound_program : (p : NominalProgram) → IsTypedProgram p → (depth : ℕ) (limit : Limit) → IsSoundProgram p depth limit
sound_program p typed depth limit = sound_queries p typed depth limit p.queries typed.1

-- the program of a text is typed
pub text_typed : (text : List ℕ) (p : NominalProgram) → IsProgramOfText text p → IsTypedProgram p
text_typed text p is = rw is.carried (kept_typed is.raw (program_typed is.items is.raw is.typed) is.kept)

pub sound_text : (depth : ℕ) (limit : Limit) (text : List ℕ) → IsSoundText depth limit text
sound_text depth limit text p is = sound_program p (text_typed text p is) depth limit
