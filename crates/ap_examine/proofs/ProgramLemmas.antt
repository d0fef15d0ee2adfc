-- Exams of the queries of a program that is asked others.
use Rattle.std.proofs.Common.{◌≡◌, ◌∙◌, ℕ, List, [], ◌∷◌, ap}
use Rattle.ap_defs.specs.Answers as answers
use Rattle.ap_defs.specs.Answers.{NominalAnswer, NominalOut, query_outs}
use Rattle.ap_defs.specs.Goals.{NominalProgram, NominalQuery}
use Rattle.ap_defs.specs.Types.{NominalSignature}
use Rattle.ap_program.specs.Typed.{IsTypedProgram, IsTypedQuery, term_form}
use Rattle.ap_property.specs.Properties.{hypothesis_query}
use Rattle.ap_property.specs.PutIn.{query_put_in}
use Rattle.ap_property.specs.Stated.{stated}
use Rattle.ap_property.specs.StatementsOnProperties.{HasTypedVars}
use Rattle.ap_property.proofs.CounterLemmas.{conclusions_typed}
use Rattle.ap_property.proofs.SpineLemmas.{parts_typed}
use Rattle.ap_property.proofs.StatedLemmas.{answers_have_types}
use Rattle.ap_soundness.specs.FoundStates.{EachAnswer}
use Rattle.ap_examine.specs.Exams.{exam}
use Rattle.ap_examine.specs.Steps.{Asks, IsExaminable}

module _ (p : NominalProgram) (q : NominalQuery) where
  abbrev IsTypedThere : NominalAnswer → Type 0
  IsTypedThere a = IsTypedQuery term_form p.signature (query_put_in q (stated p.signature.constructors q.locals a))

  both_hold : (os : List NominalOut) → EachAnswer (HasTypedVars p.signature.constructors) os → EachAnswer IsTypedThere os → EachAnswer (IsExaminable p q) os
  both_hold [] h k = tt
  both_hold (answers.found r a ∷ os) h k = (record { inhabited = h.0.inhabited; typed = k.0 }, both_hold os h.1 k.1)
  both_hold (answers.cut r ∷ os) h k = both_hold os h k
  both_hold (answers.stuck r ∷ os) h k = both_hold os h k

  -- the answers of a typed query's hypothesis can be examined
  pub outs_examinable : IsTypedProgram p → IsTypedQuery term_form p.signature q → (depth : ℕ) → EachAnswer (IsExaminable p q) (query_outs p.clauses depth (hypothesis_query q))
  outs_examinable typed t depth =
      both_hold (query_outs p.clauses depth (hypothesis_query q)) (answers_have_types p typed (hypothesis_query q) (parts_typed p q t).0 depth) (conclusions_typed p typed q t depth)

pub query_there : (p r : NominalProgram) → Asks p r → (depth : ℕ) (q : NominalQuery) → exam r depth q ≡ exam p depth q
query_there p r k depth q =
    ap (λ css. exam (record p { clauses = css; signature = r.signature }) depth q) k.clauses
    ∙ ap (λ (s : NominalSignature). exam (record p { signature = s }) depth q) k.signature
