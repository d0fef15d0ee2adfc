-- What totals without a counterexample say.
use Rattle.std.proofs.Common.{◌≡◌, ◌+◌, ℕ, suc, Bool, true, false, List, [], ◌∷◌, length, Option, Some, None, refl, subst, arith}
use Rattle.std.specs.Prelude.{filter, if◌then◌else◌}
use Rattle.ap_defs.specs.Answers.{NominalAnswer, NominalOut, cut, found, query_outs, stuck}
use Rattle.ap_defs.specs.Goals.{NominalProgram, NominalQuery}
use Rattle.ap_defs.specs.Lines.{count_of, is_found}
use Rattle.ap_property.specs.Properties.{hypothesis_query}
use Rattle.ap_property.specs.PutIn.{query_put_in}
use Rattle.ap_soundness.specs.FoundStates.{EachAnswer}
use Rattle.ap_examine.specs.Clearances.{ClearSays, TallySays}
use Rattle.ap_examine.specs.Exams.{Counterexample, clear, counter_among, counter_if, exam_with, holds, instance_of, is_held, is_verdict_open, is_unsettled, tally_of, verdict_on}
use Rattle.ap_property.specs.Verdicts.{has_answer, verdict_of_outs}
use Rattle.ap_examine.specs.declared.exam.Tally.{Tally}
use Rattle.ap_property.specs.declared.verdict.Verdict.{Verdict}
use Rattle.ap_property.specs.declared.verdict.Verdict.TheVariants as verdict

-- no counterexample by a verdict and later ones
not_by : (v : Verdict) (c : Counterexample) (o : Option Counterexample) → counter_if v c o ≡ None → v ≡ verdict.Refuted → ⊥
not_by verdict.Refuted c o e r = cc
not_by verdict.Held c o e r = cc
not_by verdict.Open c o e r = cc

not_later : (v : Verdict) (c : Counterexample) (o : Option Counterexample) → counter_if v c o ≡ None → o ≡ None
not_later verdict.Refuted c o e = cc
not_later verdict.Held c o e = e
not_later verdict.Open c o e = e

-- an answer is held or unsettled
counted_by : (v : Verdict) (x : NominalOut) (hs us fs : List NominalOut) → (v ≡ verdict.Refuted → ⊥) → length hs + length us ≡ length fs
    → length (if is_held v then x ∷ hs else hs) + length (if is_verdict_open v then x ∷ us else us) ≡ suc (length fs)
counted_by verdict.Refuted x hs us fs h e = absurd (h refl)
counted_by verdict.Held x hs us fs h e = omega arith
counted_by verdict.Open x hs us fs h e = omega arith

answered_if : (os : List NominalOut) (b : Bool) → has_answer os ≡ b → (if b then verdict.Held else verdict.Open) ≡ verdict.Held → has_answer os ≡ true
answered_if os true e h = e
answered_if os false e h = cc

answered : (os : List NominalOut) → verdict_of_outs os ≡ verdict.Held → has_answer os ≡ true
answered [] h = cc
answered (o ∷ os) h = answered_if (o ∷ os) (has_answer (o ∷ os)) refl h

held_by : (v : Verdict) (x : NominalOut) (us : List NominalOut) → (v ≡ verdict.Refuted → ⊥) → length (if is_verdict_open v then x ∷ us else us) ≡ 0 → v ≡ verdict.Held
held_by verdict.Refuted x us h e = absurd (h refl)
held_by verdict.Held x us h e = refl
held_by verdict.Open x us h e = cc

none_later : (v : Verdict) (x : NominalOut) (us : List NominalOut) → length (if is_verdict_open v then x ∷ us else us) ≡ 0 → length us ≡ 0
none_later verdict.Refuted x us e = e
none_later verdict.Held x us e = e
none_later verdict.Open x us e = cc

module _ (p : NominalProgram) (depth : ℕ) (q : NominalQuery) where
  abbrev IsNotRefuted : NominalAnswer → Type 0
  IsNotRefuted a = verdict_on p depth q a ≡ verdict.Refuted → ⊥

  abbrev IsAnswered : NominalAnswer → Type 0
  IsAnswered a = has_answer (query_outs p.clauses depth (query_put_in q (instance_of p depth q a))) ≡ true

  abbrev here : ℕ → NominalAnswer → Counterexample
  here n a = record { answer = n; instance = instance_of p depth q a }

  none_refuted : (n : ℕ) (os : List NominalOut) → counter_among p depth q n os ≡ None → EachAnswer IsNotRefuted os
  none_refuted n [] e = tt
  none_refuted n (cut r ∷ os) e = none_refuted n os e
  none_refuted n (stuck r ∷ os) e = none_refuted n os e
  none_refuted n (found r a ∷ os) e =
      (not_by (verdict_on p depth q a) (here n a) _ e, none_refuted (suc n) os (not_later (verdict_on p depth q a) (here n a) _ e))

  counted : (os : List NominalOut) → EachAnswer IsNotRefuted os
      → count_of (holds p depth q) os + count_of (is_unsettled p depth q) os ≡ count_of is_found os
  counted [] h = refl
  counted (cut r ∷ os) h = counted os h
  counted (stuck r ∷ os) h = counted os h
  counted (found r a ∷ os) h =
      counted_by (verdict_on p depth q a) (found r a) (filter (holds p depth q) os) (filter (is_unsettled p depth q) os) (filter is_found os) h.0 (counted os h.1)

  all_answered : (os : List NominalOut) → EachAnswer IsNotRefuted os → count_of (is_unsettled p depth q) os ≡ 0 → EachAnswer IsAnswered os
  all_answered [] h e = tt
  all_answered (cut r ∷ os) h e = all_answered os h e
  all_answered (stuck r ∷ os) h e = all_answered os h e
  all_answered (found r a ∷ os) h e = (
    answered (query_outs p.clauses depth (query_put_in q (instance_of p depth q a))) (held_by (verdict_on p depth q a) (found r a) (filter (is_unsettled p depth q) os) h.0 e),
    all_answered os h.1 (none_later (verdict_on p depth q a) (found r a) (filter (is_unsettled p depth q) os) e),
  )

  said : (t : Tally) (o : Option Counterexample) → counter_among p depth q 1 (query_outs p.clauses depth (hypothesis_query q)) ≡ o
      → exam_with o (tally_of p depth q (query_outs p.clauses depth (hypothesis_query q))) ≡ clear t → TallySays p depth q t
  said t (Some c) i e = cc
  said t None i e =
      let os = query_outs p.clauses depth (hypothesis_query q) in
      let none = none_refuted 1 os i in
      let same : tally_of p depth q os ≡ t = cc in
      subst (TallySays p depth q) same (record {
        answers = counted os none;
        cut = refl;
        stuck = refl;
        none_refuted = none;
        all_held = λ z. all_answered os none z;
      })

pub clear_says : ClearSays
clear_says p depth q t e = said p depth q t (counter_among p depth q 1 (query_outs p.clauses depth (hypothesis_query q))) refl e
