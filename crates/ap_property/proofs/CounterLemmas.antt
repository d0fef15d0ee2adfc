-- Conclusions with the stated instances of a hypothesis's answers put in.
use Rattle.std.proofs.Common.{List, [], ◌∷◌}
use Rattle.ap_defs.specs.Answers as answers
use Rattle.ap_defs.specs.Answers.{NominalAnswer, NominalOut, query_outs}
use Rattle.ap_soundness.specs.FoundStates.{EachAnswer}
use Rattle.ap_property.specs.Properties.{hypothesis_query}
use Rattle.ap_property.specs.Stated.{stated}
use Rattle.ap_property.specs.StatementsOnProperties.{ConclusionsAreTyped, CountersHaveNoProof}
use Rattle.ap_property.proofs.NoProofLemmas.{no_proof}
use Rattle.ap_property.proofs.PutInLemmas.{put_in_typed}
use Rattle.ap_property.proofs.SpineLemmas.{parts_typed}
use Rattle.ap_property.proofs.StatedLemmas.{stated_instances_fit}

pub each_weaker : (P Q : NominalAnswer → Type 0) → ((a : NominalAnswer) → P a → Q a) → (os : List NominalOut) → EachAnswer P os → EachAnswer Q os
each_weaker P Q f [] h = tt
each_weaker P Q f (answers.found r a ∷ os) h = (f a h.0, each_weaker P Q f os h.1)
each_weaker P Q f (answers.cut r ∷ os) h = each_weaker P Q f os h
each_weaker P Q f (answers.stuck r ∷ os) h = each_weaker P Q f os h

pub conclusions_typed : ConclusionsAreTyped
conclusions_typed p typed q t depth =
    let parts = parts_typed p q t in
    each_weaker _ _ (λ a h. put_in_typed p.signature q (stated p.signature.constructors q.locals a) parts.1 h)
    (query_outs p.clauses depth (hypothesis_query q)) (stated_instances_fit p typed (hypothesis_query q) parts.0 depth)

pub counters_refuted : CountersHaveNoProof
counters_refuted p kept q t depth =
    let parts = parts_typed p q t in
    each_weaker _ _ (λ a h none. no_proof p kept q parts.1 (stated p.signature.constructors q.locals a) h depth none)
    (query_outs p.clauses depth (hypothesis_query q)) (stated_instances_fit p kept.typed (hypothesis_query q) parts.0 depth)
