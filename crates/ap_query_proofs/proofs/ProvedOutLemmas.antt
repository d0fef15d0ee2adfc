-- The answers among a query's outputs, with the derivations to which their paths lead, are those of the states that were found.
use Rattle.std.proofs.Common.{◌≡◌, ℕ, zero, suc, List, [], ◌∷◌, ◌++◌, map, take, Some, refl, sym, ap, ◌∙◌, inl, inr}
use Rattle.std.proofs.lemmas.List.{append-nil, map-append}
use Rattle.std.specs.List.{AllByRecursion}
use Rattle.std.specs.Prelude.{flat_map}
use Rattle.ap_defs.specs.Answers as answers
use Rattle.ap_defs.specs.Answers.{NominalAnswer, NominalOut, answer_in, derivation_in, out_in, query_outs}
use Rattle.ap_defs.specs.Derivations.{NominalDerivation}
use Rattle.ap_defs.specs.Goals.{Clauses, NominalQuery}
use Rattle.ap_defs.specs.Resolution.{Output, State, cut, first_state, found, solve_query, chose, stuck}
use Rattle.ap_paths.specs.Limits.{first_part, part}
use Rattle.ap_paths.specs.declared.limits.Limit.{Limit}
use Rattle.ap_paths.specs.declared.limits.Limit.TheVariants as limits
use Rattle.ap_bundle.specs.Bundles.{NominalProved}
use Rattle.ap_shared.specs.SharedViews.{shared_proved}
use Rattle.ap_shared.specs.declared.derivations.SharedProved.{SharedProved}
use Rattle.ap_checks.specs.Traces.{Finds, Traced, traced_query}
use Rattle.ap_checks.proofs.TraceLemmas.{paths_lead}
use Rattle.ap_derive.specs.Derived.{LeadsOn}
use Rattle.ap_query_proofs.specs.ProvedPaths.{IsLed, proof_at, proof_by, with_traced}
use Rattle.ap_verdicts.specs.Proofs.{proofs_among, query_proofs, wanted_proofs}

module _ (program : Clauses) (depth : ℕ) (q : NominalQuery) where
  -- the path of a state that was found leads to it
  found_leads : (path : List ℕ) (s : State) (d : NominalDerivation) → Finds (solve_query program depth q) path s d
      → traced_query program depth q path ≡ Some (record { state = s; derivation = d; rest = [] })
  found_leads path s d there = (paths_lead program depth q.goal (first_state q) path (record { state = s; derivation = d; rest = [] })).1 (path, sym (append-nil path), there)

  leads_on : (path : List ℕ) (s : State) (d : NominalDerivation) → Finds (solve_query program depth q) path s d → LeadsOn program depth q path
  leads_on path s d there = record { traced = record { state = s; derivation = d; rest = [] }; leads = found_leads path s d there; whole = refl }

  -- each of some outputs, which are among all
  abbrev Among : List Output → Type 0
  Among os = (path : List ℕ) (s : State) (d : NominalDerivation) → Finds os path s d → Finds (solve_query program depth q) path s d

  each_led : (os : List Output) → Among os → AllByRecursion (IsLed program depth q) (map (out_in q.locals) os)
  each_led [] among = tt
  each_led (found path s d ∷ os) among = (leads_on path s d (among path s d (inl (refl, refl, refl))), each_led os (λ p r e f. among p r e (inr f)))
  each_led (cut path ∷ os) among = (tt, each_led os among)
  each_led (chose path c ∷ os) among = absurd c
  each_led (stuck path ∷ os) among = (tt, each_led os among)

  first_led : (n : ℕ) (os : List Output) → Among os → AllByRecursion (IsLed program depth q) (first_part n (map (out_in q.locals) os))
  first_led zero os among = tt
  first_led (suc n) [] among = tt
  first_led (suc n) (found path s d ∷ os) among = (leads_on path s d (among path s d (inl (refl, refl, refl))), first_led n os (λ p r e f. among p r e (inr f)))
  first_led (suc n) (cut path ∷ os) among = (tt, first_led (suc n) os among)
  first_led (suc n) (chose path c ∷ os) among = absurd c
  first_led (suc n) (stuck path ∷ os) among = (tt, first_led (suc n) os among)

  pub outs_led : (limit : Limit) → AllByRecursion (IsLed program depth q) (part limit (query_outs program depth q))
  outs_led limits.All = each_led (solve_query program depth q) (λ p r e f. f)
  outs_led (limits.First n) = first_led n (solve_query program depth q) (λ p r e f. f)

  one_proof_more : (k : ℕ) (path : List ℕ) (s : State) (d : NominalDerivation) → Finds (solve_query program depth q) path s d → (os : List NominalOut) (ds : List NominalProved)
      → flat_map (proof_at program depth k q) os ≡ ds
      → flat_map (proof_at program depth k q) (answers.found path (answer_in q.locals s d) ∷ os)
      ≡ record { query = k; answer = answer_in q.locals s d; derivation = derivation_in s d } ∷ ds
  one_proof_more k path s d there os ds e =
      ap (λ o. with_traced k (answer_in q.locals s d) o ++ flat_map (proof_at program depth k q) os) (found_leads path s d there)
      ∙ ap (λ l. record { query = k; answer = answer_in q.locals s d; derivation = derivation_in s d } ∷ l) e

  each_proof : (k : ℕ) (os : List Output) → Among os → flat_map (proof_at program depth k q) (map (out_in q.locals) os) ≡ proofs_among k q.locals os
  each_proof k [] among = refl
  each_proof k (found path s d ∷ os) among =
      one_proof_more k path s d (among path s d (inl (refl, refl, refl))) (map (out_in q.locals) os) (proofs_among k q.locals os) (each_proof k os (λ p r e f. among p r e (inr f)))
  each_proof k (cut path ∷ os) among = each_proof k os among
  each_proof k (chose path c ∷ os) among = absurd c
  each_proof k (stuck path ∷ os) among = each_proof k os among

  -- the proofs of the first n answers are the first n proofs
  first_proofs : (k n : ℕ) (os : List Output) → Among os → flat_map (proof_at program depth k q) (first_part n (map (out_in q.locals) os)) ≡ take n (proofs_among k q.locals os)
  first_proofs k zero os among = refl
  first_proofs k (suc n) [] among = refl
  first_proofs k (suc n) (found path s d ∷ os) among =
      one_proof_more k path s d (among path s d (inl (refl, refl, refl))) (first_part n (map (out_in q.locals) os)) (take n (proofs_among k q.locals os))
      (first_proofs k n os (λ p r e f. among p r e (inr f)))
  first_proofs k (suc n) (cut path ∷ os) among = first_proofs k (suc n) os among
  first_proofs k (suc n) (chose path c ∷ os) among = absurd c
  first_proofs k (suc n) (stuck path ∷ os) among = first_proofs k (suc n) os among

  pub outs_proofs : (k : ℕ) (limit : Limit) → flat_map (proof_at program depth k q) (part limit (query_outs program depth q)) ≡ wanted_proofs limit (query_proofs program depth k q)
  outs_proofs k limits.All = each_proof k (solve_query program depth q) (λ p r e f. f)
  outs_proofs k (limits.First n) = first_proofs k n (solve_query program depth q) (λ p r e f. f)

  -- one more answer, with its derivation
  pub one_proof : (k : ℕ) (path : List ℕ) (a : NominalAnswer) (p : NominalProved) → LeadsOn program depth q path
      → ((r : Traced) → traced_query program depth q path ≡ Some r → p ≡ proof_by k a r)
      → p ∷ [] ≡ proof_at program depth k q (answers.found path a)
  one_proof k path a p l is = ap (λ z. z ∷ []) (is l.traced l.leads) ∙ ap (with_traced k a) (sym l.leads)

pub added : (old new : List SharedProved) (more : SharedProved) (proof : List NominalProved) → new ≡ old ++ more ∷ [] → shared_proved more ∷ [] ≡ proof → map shared_proved new ≡ map shared_proved old ++ proof
added old new more proof grown is = ap (map shared_proved) grown ∙ map-append shared_proved old (more ∷ []) ∙ ap (λ l. map shared_proved old ++ l) is
