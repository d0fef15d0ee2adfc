-- What is held is derivable.
use Rattle.std.proofs.Common.{◌≡◌, Bool, true, false, List, [], ◌∷◌, refl}
use Rattle.std.specs.Prelude.{if◌then◌else◌}
use Rattle.ap_defs.specs.Answers.{NominalAnswer, NominalOut, cut, found, query_outs, stuck}
use Rattle.ap_property.specs.Properties.{hypothesis_query}
use Rattle.ap_property.specs.PutIn.{query_put_in}
use Rattle.ap_property.specs.Stated.{stated}
use Rattle.ap_property.proofs.CounterLemmas.{each_weaker}
use Rattle.ap_property.proofs.HeldLemmas.{answered_derivable}
use Rattle.ap_soundness.specs.FoundStates.{EachAnswer}
use Rattle.ap_examine.specs.Counterexamples.{HeldAnswersAreDerivable}
use Rattle.ap_property.specs.Verdicts.{has_answer, verdict_of_outs}
use Rattle.ap_property.specs.declared.verdict.Verdict.TheVariants as verdict

-- held is what has an answer
held_answer : (os : List NominalOut) → verdict_of_outs os ≡ verdict.Held → has_answer os ≡ true
held_answer [] e = cc
held_answer (o ∷ os) e = settled (has_answer (o ∷ os)) e
  where
    settled : (b : Bool) → (if b then verdict.Held else verdict.Open) ≡ verdict.Held → b ≡ true
    settled true k = refl
    settled false k = cc

-- what each answer shows, where there is one
by_answer : (P : Type 0) (os : List NominalOut) → has_answer os ≡ true → EachAnswer (λ a. P) os → P
by_answer P [] e h = cc
by_answer P (found r a ∷ os) e h = h.0
by_answer P (cut r ∷ os) e h = by_answer P os e h
by_answer P (stuck r ∷ os) e h = by_answer P os e h

pub held_derivable : HeldAnswersAreDerivable
held_derivable p typed q t depth =
    let outs : NominalAnswer → List NominalOut = λ a. query_outs p.clauses depth (query_put_in q (stated p.signature.constructors q.locals a)) in
    each_weaker _ _ (λ a h e. by_answer _ (outs a) (held_answer (outs a) e) h) (query_outs p.clauses depth (hypothesis_query q)) (answered_derivable p typed q t depth)
