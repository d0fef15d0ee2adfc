-- Exams are sound: counterexamples refute, and what is held is derivable.
use Rattle.std.proofs.Common.{◌≡◌, ℕ, suc, Bool, true, false, List, [], ◌∷◌, Option, Some, None, refl, subst}
use Rattle.std.specs.Prelude.{if◌then◌else◌}
use Rattle.ap_defs.specs.Answers.{NominalAnswer, NominalOut, cut, found, query_outs, stuck}
use Rattle.ap_defs.specs.Goals.{NominalProgram, NominalQuery}
use Rattle.ap_defs.specs.GroundProofs.{IsDerivable}
use Rattle.ap_complete.specs.Restriction.{KeepsRestriction}
use Rattle.ap_complete.proofs.KeptLemmas.{kept_restriction}
use Rattle.ap_ground.specs.ShownInstances.{IsTypedDerivable}
use Rattle.ap_program.specs.Typed.{AreTypedQueries, term_form}
use Rattle.ap_property.specs.Properties.{conclusion_query, hypothesis_query}
use Rattle.ap_property.specs.PutIn.{query_put_in}
use Rattle.ap_property.proofs.CounterLemmas.{counters_refuted}
use Rattle.ap_property.proofs.SpineLemmas.{parts_typed}
use Rattle.ap_property.proofs.StatedLemmas.{stated_instances_derivable}
use Rattle.ap_restrict.proofs.KeepingLemmas.{kept_typed}
use Rattle.ap_soundness.specs.FoundStates.{EachAnswer}
use Rattle.ap_text.specs.Texts.{IsProgramOfText}
use Rattle.ap_typecheck.proofs.TypedPrograms.{program_typed}
use Rattle.ap_examine.specs.Counterexamples.{AreSoundExams, CounterexamplesRefute, HasSoundExams, Refutes}
use Rattle.ap_examine.specs.Exams.{Counterexample, counter, counter_among, counter_if, exam_with, instance_of, tally_of, verdict_on}
use Rattle.ap_property.specs.Verdicts.{has_answer, verdict_of_outs}
use Rattle.ap_examine.specs.declared.exam.Tally.{Tally}
use Rattle.ap_property.specs.declared.verdict.Verdict.{Verdict}
use Rattle.ap_property.specs.declared.verdict.Verdict.TheVariants as verdict
use Rattle.ap_examine.proofs.HeldLemmas.{held_derivable}

-- refuted is what has no output
no_output : (os : List NominalOut) → verdict_of_outs os ≡ verdict.Refuted → os ≡ []
no_output [] e = refl
no_output (o ∷ os) e = settled (has_answer (o ∷ os)) e
  where
    settled : (b : Bool) → (if b then verdict.Held else verdict.Open) ≡ verdict.Refuted → (o ∷ os) ≡ []
    settled true k = cc
    settled false k = cc

module _ (p : NominalProgram) (depth : ℕ) (q : NominalQuery) where
  abbrev HasNoProof : NominalAnswer → Type 0
  HasNoProof a = query_outs p.clauses depth (query_put_in q (instance_of p depth q a)) ≡ [] → (height : ℕ) → IsDerivable p (conclusion_query q) (instance_of p depth q a).terms height → ⊥

  abbrev HasProof : NominalAnswer → Type 0
  HasProof a = IsTypedDerivable p (hypothesis_query q) depth (instance_of p depth q a).terms

  among_refutes : (n : ℕ) (os : List NominalOut) → EachAnswer HasNoProof os → EachAnswer HasProof os → (c : Counterexample)
      → counter_among p depth q n os ≡ Some c → Refutes p depth q c.instance
  among_refutes n [] h k c e = cc
  among_refutes n (cut r ∷ os) h k c e = among_refutes n os h k c e
  among_refutes n (stuck r ∷ os) h k c e = among_refutes n os h k c e
  among_refutes n (found r a ∷ os) h k c e = judged (λ j. among_refutes (suc n) os h.1 k.1 c j) (verdict_on p depth q a) refl e
    where
      same_instance : (d e : Counterexample) → Some d ≡ Some e → d.instance ≡ e.instance
      same_instance d e i = cc

      judged : (counter_among p depth q (suc n) os ≡ Some c → Refutes p depth q c.instance) → (v : Verdict) → verdict_on p depth q a ≡ v → counter_if v (record { answer = n; instance = instance_of p depth q a }) (counter_among p depth q (suc n) os) ≡ Some c → Refutes p depth q c.instance
      judged later verdict.Refuted i j =
          let same : instance_of p depth q a ≡ c.instance = same_instance _ c j in
          subst (Refutes p depth q) same (record { derivable = k.0; unprovable = h.0 (no_output _ i) })
      judged later verdict.Held i j = later j
      judged later verdict.Open i j = later j

with_counter : (o : Option Counterexample) (t : Tally) (c : Counterexample) → exam_with o t ≡ counter c → o ≡ Some c
with_counter None t c e = cc
with_counter (Some d) t c e = cc

pub counters_refute : CounterexamplesRefute
counters_refute p kept q t depth c e =
    let outs = query_outs p.clauses depth (hypothesis_query q) in
    let parts = parts_typed p q t in
    among_refutes p depth q 1 outs (counters_refuted p kept q t depth) (stated_instances_derivable p kept.typed (hypothesis_query q) parts.0 depth) c
    (with_counter (counter_among p depth q 1 outs) (tally_of p depth q outs) c e)

exams_sound : (p : NominalProgram) → KeepsRestriction p → (depth : ℕ) (qs : List NominalQuery) → AreTypedQueries term_form p.signature qs → AreSoundExams p depth qs
exams_sound p kept depth [] t = tt
exams_sound p kept depth (q ∷ qs) t =
    (record { refuted = counters_refute p kept q t.0 depth; held = held_derivable p kept.typed q t.0 depth }, exams_sound p kept depth qs t.1)

text_kept : (text : List ℕ) (p : NominalProgram) → IsProgramOfText text p → KeepsRestriction p
text_kept text p is = rw is.carried (kept_restriction is.raw (kept_typed is.raw (program_typed is.items is.raw is.typed) is.kept) is.kept)

pub text_sound : (depth : ℕ) (text : List ℕ) → HasSoundExams depth text
text_sound depth text p is = let kept = text_kept text p is in exams_sound p kept depth p.queries kept.typed.1
