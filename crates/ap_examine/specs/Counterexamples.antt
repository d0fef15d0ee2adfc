-- What is proved of counterexamples, and of answers whose conclusion is held.
use Rattle.std.specs.Prelude.{◌≡◌, ℕ, List, [], ◌∷◌}
use Rattle.ap_defs.specs.Answers.{query_outs}
use Rattle.ap_defs.specs.Goals.{NominalProgram, NominalQuery}
use Rattle.ap_defs.specs.GroundProofs.{IsDerivable}
use Rattle.ap_complete.specs.Restriction.{KeepsRestriction}
use Rattle.ap_ground.specs.ShownInstances.{IsTypedDerivable}
use Rattle.ap_program.specs.Typed.{IsTypedProgram, IsTypedQuery, term_form}
use Rattle.ap_property.specs.Properties.{conclusion_query, hypothesis_query}
use Rattle.ap_property.specs.Stated.{Instance}
use Rattle.ap_soundness.specs.FoundStates.{EachAnswer}
use Rattle.ap_text.specs.Texts.{IsProgramOfText}
use Rattle.ap_examine.specs.Exams.{Counterexample, counter, exam, instance_of, verdict_on}
use Rattle.ap_property.specs.declared.verdict.Verdict.TheVariants as verdict

-- For the instance the hypothesis is derivable to the depth, and the conclusion has no ground proof, of any height.
pub record Refutes (p : NominalProgram) (depth : ℕ) (q : NominalQuery) (i : Instance) : Type 0 where
  pub derivable : IsTypedDerivable p (hypothesis_query q) depth i.terms
  pub unprovable : (height : ℕ) → IsDerivable p (conclusion_query q) i.terms height → ⊥

-- each counterexample of a typed query refutes it
abbrev pub CounterexamplesRefute : Type 0
CounterexamplesRefute = (p : NominalProgram) → KeepsRestriction p → (q : NominalQuery) → IsTypedQuery term_form p.signature q → (depth : ℕ) (c : Counterexample)
    → exam p depth q ≡ counter c → Refutes p depth q c.instance

-- where an answer of the hypothesis is held, the conclusion is derivable to the depth for its stated instance
abbrev pub HeldIsDerivable : NominalProgram → ℕ → NominalQuery → Type 0
HeldIsDerivable p depth q = EachAnswer (λ a. verdict_on p depth q a ≡ verdict.Held → IsTypedDerivable p (conclusion_query q) depth (instance_of p depth q a).terms)
    (query_outs p.clauses depth (hypothesis_query q))

-- that is so of each typed query
abbrev pub HeldAnswersAreDerivable : Type 0
HeldAnswersAreDerivable = (p : NominalProgram) → IsTypedProgram p → (q : NominalQuery) → IsTypedQuery term_form p.signature q → (depth : ℕ)
    → HeldIsDerivable p depth q

-- What the exam of a query says is so: a counterexample refutes it, and what is held is derivable.
pub record IsSoundExam (p : NominalProgram) (depth : ℕ) (q : NominalQuery) : Type 0 where
  pub refuted : (c : Counterexample) → exam p depth q ≡ counter c → Refutes p depth q c.instance
  pub held : HeldIsDerivable p depth q

abbrev pub AreSoundExams : NominalProgram → ℕ → List NominalQuery → Type 0
AreSoundExams p depth [] = Unit {0}
AreSoundExams p depth (q ∷ qs) = IsSoundExam p depth q × AreSoundExams p depth qs

-- those of the program of a text
abbrev pub HasSoundExams : ℕ → List ℕ → Type 0
HasSoundExams depth text = (p : NominalProgram) → IsProgramOfText text p → AreSoundExams p depth p.queries
