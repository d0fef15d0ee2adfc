-- What checks is sound, and what the search finds checks.
use Rattle.std.proofs.Common.{◌≡◌, ℕ, zero, suc, List, [], ◌∷◌, ◌++◌, Option, None, Some, refl, ap, subst, ◌∙◌}
use Rattle.std.specs.List.{AllByRecursion}
use Rattle.ap_defs.specs.Answers.{answer_in, derivation_in}
use Rattle.ap_defs.specs.Goals.{NominalProgram, NominalQuery}
use Rattle.ap_defs.specs.Resolution.{Output, cut, found, solve_query, chose, stuck}
use Rattle.ap_defs.specs.Types.{NominalSignature}
use Rattle.ap_program.specs.Typed.{AreTypedQueries, IsTypedProgram, IsTypedQuery, term_form}
use Rattle.ap_soundness.specs.FoundStates.{EachFound}
use Rattle.ap_bundle.specs.Bundles.{NominalProved}
use Rattle.ap_checks.specs.Checks.{Checks, NominalVerdict, no, on_query, query_at, verdict_on, yes}
use Rattle.ap_checks.proofs.CheckedLemmas.{checked_derivable}
use Rattle.ap_checks.proofs.FoundCheckLemmas.{found_check}
use Rattle.ap_checks.proofs.ShownCheckedLemmas.{checked_shown}
use Rattle.ap_verdicts.specs.Proofs.{proofs_among, proofs_from, query_proofs}
use Rattle.ap_verdicts.specs.Soundness.{CheckedIsSound, IsSoundProof, NoneIsRefused, ProofsCheck}
use Rattle.ap_verdicts.specs.Verdicts.{RefusedProof, first_refused, refused_first, verdict_on_proved}

-- a query that is asked is among the typed ones
typed_query_at : (sig : NominalSignature) (qs : List NominalQuery) (k : ℕ) (q : NominalQuery) → query_at qs k ≡ Some q → AreTypedQueries term_form sig qs → IsTypedQuery term_form sig q
typed_query_at sig [] k q e h = absurd (cc)
typed_query_at sig (r ∷ qs) zero q e h = absurd (cc)
typed_query_at sig (r ∷ qs) (suc zero) q e h = let same : r ≡ q = cc in subst (λ (x : NominalQuery). IsTypedQuery term_form sig x) same h.0
typed_query_at sig (r ∷ qs) (suc (suc k)) q e h = typed_query_at sig qs (suc k) q e h.1

sound_on : (p : NominalProgram) → IsTypedProgram p → (d : NominalProved) (q : NominalQuery) → query_at p.queries d.query ≡ Some q → Checks p q d.answer d.derivation → IsSoundProof p d
sound_on p typed d q asked h = record {
  q = q;
  asked = asked;
  instances = checked_derivable p q d.answer d.derivation h;
  shown = checked_shown p typed q (typed_query_at p.signature p.queries d.query q asked typed.1) d.answer d.derivation h;
}

-- a verdict that says yes is on a query that there is
asked_on : (p : NominalProgram) (d : NominalProved) (o : Option NominalQuery) → on_query o (λ q. verdict_on p q d.answer d.derivation) ≡ yes → query_at p.queries d.query ≡ o
    → (q : NominalQuery) × (query_at p.queries d.query ≡ Some q) × Checks p q d.answer d.derivation
asked_on p d None h e = absurd (cc)
asked_on p d (Some q) h e = (q, e, h)

pub checked_sound : CheckedIsSound
checked_sound p typed d h =
    let there = asked_on p d (query_at p.queries d.query) h refl in
    sound_on p typed d there.0 there.1 there.2

-- the query at a place further on
abbrev IsFrom : List NominalQuery → ℕ → List NominalQuery → Type 0
IsFrom all k [] = Unit {0}
IsFrom all k (q ∷ qs) = (query_at all k ≡ Some q) × IsFrom all (suc k) qs

from_next : (r : NominalQuery) (all : List NominalQuery) (k : ℕ) (qs : List NominalQuery) → IsFrom all (suc k) qs → IsFrom (r ∷ all) (suc (suc k)) qs
from_next r all k [] h = tt
from_next r all k (q ∷ qs) h = (h.0, from_next r all (suc k) qs h.1)

from_first : (all : List NominalQuery) → IsFrom all 1 all
from_first [] = tt
from_first (q ∷ qs) = (refl, from_next q qs 0 qs (from_first qs))

pub all-append : {X : Type 0} (P : X → Type 0) (xs ys : List X) → AllByRecursion P xs → AllByRecursion P ys → AllByRecursion P (xs ++ ys)
all-append P [] ys h k = k
all-append P (x ∷ xs) ys h k = (h.0, all-append P xs ys h.1 k)

-- the derivations of a query's answers check
among_check : (p : NominalProgram) (k : ℕ) (q : NominalQuery) → query_at p.queries k ≡ Some q → (os : List Output)
    → EachFound (λ s d. Checks p q (answer_in q.locals s d) (derivation_in s d)) os → AllByRecursion (λ d. verdict_on_proved p d ≡ yes) (proofs_among k q.locals os)
among_check p k q asked [] h = tt
among_check p k q asked (found path s d ∷ os) h =
    (ap (λ o. on_query o (λ r. verdict_on p r (answer_in q.locals s d) (derivation_in s d))) asked ∙ h.0, among_check p k q asked os h.1)
among_check p k q asked (cut path ∷ os) h = among_check p k q asked os h
among_check p k q asked (chose path c ∷ os) h = absurd c
among_check p k q asked (stuck path ∷ os) h = among_check p k q asked os h

from_check : (p : NominalProgram) → IsTypedProgram p → (depth k : ℕ) (qs : List NominalQuery) → IsFrom p.queries k qs → AreTypedQueries term_form p.signature qs
    → AllByRecursion (λ d. verdict_on_proved p d ≡ yes) (proofs_from p.clauses depth k qs)
from_check p typed depth k [] at h = tt
from_check p typed depth k (q ∷ qs) at h =
    all-append (λ d. verdict_on_proved p d ≡ yes) (query_proofs p.clauses depth k q) (proofs_from p.clauses depth (suc k) qs)
    (among_check p k q at.0 (solve_query p.clauses depth q) (found_check p typed depth q h.0))
    (from_check p typed depth (suc k) qs at.1 h.1)

pub proofs_check : ProofsCheck
proofs_check p typed depth = from_check p typed depth 1 p.queries (from_first p.queries) typed.1

-- the first is not refused, and none of those after it is
first_passes : (n : ℕ) (v : NominalVerdict) (rest : Option RefusedProof) → refused_first n v rest ≡ None → (v ≡ yes) × (rest ≡ None)
first_passes n yes rest h = (refl, h)
first_passes n (no node rule) rest h = absurd (cc)

none_checks : (p : NominalProgram) (n : ℕ) (ds : List NominalProved) → first_refused p n ds ≡ None → AllByRecursion (λ d. verdict_on_proved p d ≡ yes) ds
none_checks p n [] h = tt
none_checks p n (d ∷ ds) h = let f = first_passes n (verdict_on_proved p d) (first_refused p (suc n) ds) h in (f.0, none_checks p (suc n) ds f.1)

checks_none : (p : NominalProgram) (n : ℕ) (ds : List NominalProved) → AllByRecursion (λ d. verdict_on_proved p d ≡ yes) ds → first_refused p n ds ≡ None
checks_none p n [] h = refl
checks_none p n (d ∷ ds) h = ap (λ v. refused_first n v (first_refused p (suc n) ds)) h.0 ∙ checks_none p (suc n) ds h.1

pub none_refused : NoneIsRefused
none_refused p n ds = (none_checks p n ds, checks_none p n ds)
