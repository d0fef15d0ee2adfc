-- What totals without a counterexample say, and that they are no proof of the property.
use Rattle.std.specs.Prelude.{◌≡◌, ◌+◌, ℕ, true}
use Rattle.ap_defs.specs.Answers.{query_outs}
use Rattle.ap_defs.specs.Goals.{NominalProgram, NominalQuery}
use Rattle.ap_defs.specs.Lines.{count_of, is_cut, is_found, is_stuck}
use Rattle.ap_complete.specs.Restriction.{KeepsRestriction}
use Rattle.ap_program.specs.Typed.{IsTypedQuery, term_form}
use Rattle.ap_property.specs.Properties.{hypothesis_query}
use Rattle.ap_property.specs.PutIn.{query_put_in}
use Rattle.ap_property.specs.Stated.{Instance}
use Rattle.ap_soundness.specs.FoundStates.{EachAnswer}
use Rattle.ap_examine.specs.Counterexamples.{Refutes}
use Rattle.ap_examine.specs.Exams.{clear, exam, instance_of, verdict_on}
use Rattle.ap_property.specs.Verdicts.{has_answer}
use Rattle.ap_examine.specs.declared.exam.Tally.{Tally}
use Rattle.ap_property.specs.declared.verdict.Verdict.TheVariants as verdict

-- Each answer of the hypothesis is held or unsettled, and for none of them is the conclusion without outputs; where none is unsettled,
-- the conclusion has an answer for the stated instance of each.
pub record TallySays (p : NominalProgram) (depth : ℕ) (q : NominalQuery) (t : Tally) : Type 0 where
  pub answers : t.held + t.unsettled ≡ count_of is_found (query_outs p.clauses depth (hypothesis_query q))
  pub cut : t.cut ≡ count_of is_cut (query_outs p.clauses depth (hypothesis_query q))
  pub stuck : t.stuck ≡ count_of is_stuck (query_outs p.clauses depth (hypothesis_query q))
  pub none_refuted : EachAnswer (λ a. verdict_on p depth q a ≡ verdict.Refuted → ⊥) (query_outs p.clauses depth (hypothesis_query q))
  pub all_held : t.unsettled ≡ 0 → EachAnswer (λ a. has_answer (query_outs p.clauses depth (query_put_in q (instance_of p depth q a))) ≡ true)
      (query_outs p.clauses depth (hypothesis_query q))

abbrev pub ClearSays : Type 0
ClearSays = (p : NominalProgram) (depth : ℕ) (q : NominalQuery) (t : Tally) → exam p depth q ≡ clear t → TallySays p depth q t

-- It is no proof: a property may have an instance that refutes it where one answer is held, and nothing is unsettled, cut or stuck.
abbrev pub ClearIsNoProof : Type 0
ClearIsNoProof = (p : NominalProgram) × KeepsRestriction p × (q : NominalQuery) × IsTypedQuery term_form p.signature q × (i : Instance)
    × (exam p 1 q ≡ clear (record { held = 1; unsettled = 0; cut = 0; stuck = 0 })) × Refutes p 1 q i
