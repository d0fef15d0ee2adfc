-- Exams of a property: the conclusion is searched for the stated instance of each answer of the hypothesis.
use Rattle.std.specs.Prelude.{ℕ, suc, Bool, true, false, List, [], ◌∷◌, Option, None, Some}
use Rattle.ap_defs.specs.Answers.{NominalAnswer, NominalOut, cut, found, query_outs, stuck}
use Rattle.ap_defs.specs.Goals.{NominalProgram, NominalQuery}
use Rattle.ap_defs.specs.Lines.{count_of, is_cut, is_stuck}
use Rattle.ap_property.specs.Properties.{hypothesis_query}
use Rattle.ap_property.specs.PutIn.{query_put_in}
use Rattle.ap_property.specs.Stated.{Instance, stated}
use Rattle.ap_property.specs.Verdicts.{verdict_of_outs}
use Rattle.ap_property.specs.declared.verdict.Verdict.{Verdict}
use Rattle.ap_property.specs.declared.verdict.Verdict.TheVariants as verdict
use Rattle.ap_examine.specs.declared.exam.Tally.{Tally}

-- The number of an answer of the hypothesis, from 1, and its stated instance.
pub record Counterexample : Type 0 where
  pub answer : ℕ
  pub instance : Instance

-- a counterexample, or how many outputs of each kind the hypothesis has
pub data NominalExam : Type 0 where
  counter : Counterexample → NominalExam
  clear : Tally → NominalExam

abbrev pub is_held : Verdict → Bool
is_held verdict.Held = true
is_held verdict.Open = false
is_held verdict.Refuted = false

abbrev pub is_verdict_open : Verdict → Bool
is_verdict_open verdict.Held = false
is_verdict_open verdict.Open = true
is_verdict_open verdict.Refuted = false

-- a counterexample where the verdict is that the conclusion is refuted
abbrev pub counter_if : Verdict → Counterexample → Option Counterexample → Option Counterexample
counter_if verdict.Refuted c other = Some c
counter_if verdict.Held c other = other
counter_if verdict.Open c other = other

abbrev pub exam_with : Option Counterexample → Tally → NominalExam
exam_with None t = clear t
exam_with (Some c) t = counter c

-- A query, to a depth.
module _ (p : NominalProgram) (depth : ℕ) (q : NominalQuery) where
  abbrev pub instance_of : NominalAnswer → Instance
  instance_of a = stated p.signature.constructors q.locals a

  -- the verdict on an answer, by the conclusion for its stated instance
  abbrev pub verdict_on : NominalAnswer → Verdict
  verdict_on a = verdict_of_outs (query_outs p.clauses depth (query_put_in q (instance_of a)))

  abbrev pub holds : NominalOut → Bool
  holds (found r a) = is_held (verdict_on a)
  holds (cut r) = false
  holds (stuck r) = false

  abbrev pub is_unsettled : NominalOut → Bool
  is_unsettled (found r a) = is_verdict_open (verdict_on a)
  is_unsettled (cut r) = false
  is_unsettled (stuck r) = false

  -- the first answer whose conclusion has no output at all, where answers are numbered from n on
  abbrev pub counter_among : ℕ → List NominalOut → Option Counterexample
  counter_among n [] = None
  counter_among n (found r a ∷ os) = counter_if (verdict_on a) (record { answer = n; instance = instance_of a }) (counter_among (suc n) os)
  counter_among n (cut r ∷ os) = counter_among n os
  counter_among n (stuck r ∷ os) = counter_among n os

  -- how many answers are held and how many are not settled, and the cuts and stucks
  abbrev pub tally_of : List NominalOut → Tally
  tally_of os = record { held = count_of holds os; unsettled = count_of is_unsettled os; cut = count_of is_cut os; stuck = count_of is_stuck os }

  abbrev pub exam_of : List NominalOut → NominalExam
  exam_of os = exam_with (counter_among 1 os) (tally_of os)

  abbrev pub exam : NominalExam
  exam = exam_of (query_outs p.clauses depth (hypothesis_query q))
