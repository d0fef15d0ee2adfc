-- The paths of a query's answers lead to their derivations.
use Rattle.std.proofs.Common.{◌≡◌, ◌-◌, ◌<◌, ℕ, zero, suc, List, [], ◌∷◌, map, length, Option, Some, slice_get, refl, sym, ap, ap₂, subst, ◌∙◌, inl, inr, arith}
use Rattle.std.proofs.lemmas.List.{append-nil}
use Rattle.std.specs.List.{AllByRecursion}
use Rattle.ap_defs.specs.Answers.{NominalOut, derivation_in, out_in, query_outs}
use Rattle.ap_defs.specs.Derivations.{NominalDerivation}
use Rattle.ap_defs.specs.Goals.{Clauses, NominalGoal, NominalQuery}
use Rattle.ap_defs.specs.Resolution.{Output, State, cut, first_state, found, solve_query, chose, stuck}
use Rattle.ap_backchain.specs.Problems.{HasQuery, clauses_in, queries_in}
use Rattle.ap_backchain.specs.declared.problem.Problem.{Problem}
use Rattle.ap_checks.specs.Traces.{Finds, Traced, traced_query}
use Rattle.ap_checks.proofs.TraceLemmas.{paths_lead}
use Rattle.ap_derive.specs.Uses.{use_table, uses_in_each}
use Rattle.ap_derive.specs.Derived.{LeadsOn}
use Rattle.ap_query_proofs.specs.QueryUses.{derivations_among, uses_of_query}
use Rattle.ap_query_proofs.specs.CountedPaths.{LeadsToAnswer, answer_paths, derivation_along, derivation_of_path, derivation_traced}

pub query_there : (qs : List NominalQuery) (place : ℕ) → place < length qs → (q : NominalQuery) × (slice_get qs place ≡ Some q)
query_there [] place l = absurd (omega arith)
query_there (q ∷ qs) zero l = (q, refl)
query_there (q ∷ qs) (suc place) l = query_there qs place (omega arith)

same_query : (o : Option NominalQuery) (q r : NominalQuery) → o ≡ Some q → o ≡ Some r → q ≡ r
same_query o q r h k = let e : Some q ≡ Some r = sym h ∙ k in cc

-- what a path leads to, for the query that is asked
pub leads_for : (p : Problem) (path l : List ℕ) → l ≡ path → LeadsToAnswer p path → (q : NominalQuery) → slice_get (queries_in p) (p.query - 1) ≡ Some q
    → LeadsOn (clauses_in p) p.depth q l
leads_for p path l e h q asked =
    subst (λ (r : NominalQuery). LeadsOn (clauses_in p) p.depth r l) (same_query (slice_get (queries_in p) (p.query - 1)) h.q q h.asked asked)
    (subst (λ (m : List ℕ). LeadsOn (clauses_in p) p.depth h.q m) (sym e) h.leads)

pub derivation_here : (p : Problem) (path l : List ℕ) → l ≡ path → LeadsToAnswer p path → (d : NominalDerivation)
    → ((q : NominalQuery) (r : Traced) → slice_get (queries_in p) (p.query - 1) ≡ Some q → traced_query (clauses_in p) p.depth q l ≡ Some r → d ≡ derivation_in r.state r.derivation)
    → d ≡ derivation_of_path p path
derivation_here p path l e h d is =
    is h.q h.leads.traced h.asked (ap (traced_query (clauses_in p) p.depth h.q) e ∙ h.leads.leads)
    ∙ sym (ap derivation_traced h.leads.leads) ∙ sym (ap (λ o. derivation_along (clauses_in p) p.depth o path) h.asked)

module _ (p : Problem) (has : HasQuery p) (q : NominalQuery) (asked : slice_get (queries_in p) (p.query - 1) ≡ Some q) where
  -- the path of a state that was found leads to it
  found_leads : (path : List ℕ) (s : State) (d : NominalDerivation) → Finds (solve_query (clauses_in p) p.depth q) path s d
      → traced_query (clauses_in p) p.depth q path ≡ Some (record { state = s; derivation = d; rest = [] })
  found_leads path s d there =
      (paths_lead (clauses_in p) p.depth q.goal (first_state q) path (record { state = s; derivation = d; rest = [] })).1 (path, sym (append-nil path), there)

  leads_on : (path : List ℕ) (s : State) (d : NominalDerivation) → Finds (solve_query (clauses_in p) p.depth q) path s d → LeadsToAnswer p path
  leads_on path s d there = record {
    query = has;
    q = q;
    asked = asked;
    leads = record { traced = record { state = s; derivation = d; rest = [] }; leads = found_leads path s d there; whole = refl };
  }

  each_leads : (os : List Output) → ((path : List ℕ) (s : State) (d : NominalDerivation) → Finds os path s d → Finds (solve_query (clauses_in p) p.depth q) path s d)
      → AllByRecursion (LeadsToAnswer p) (answer_paths (map (out_in q.locals) os))
  each_leads [] among = tt
  each_leads (found path s d ∷ os) among = (leads_on path s d (among path s d (inl (refl, refl, refl))), each_leads os (λ l r e f. among l r e (inr f)))
  each_leads (cut path ∷ os) among = each_leads os (λ l r e f. among l r e f)
  each_leads (chose path c ∷ os) among = absurd c
  each_leads (stuck path ∷ os) among = each_leads os (λ l r e f. among l r e f)

  here : (path : List ℕ) (s : State) (d : NominalDerivation) → Finds (solve_query (clauses_in p) p.depth q) path s d → derivation_of_path p path ≡ derivation_in s d
  here path s d there = ap (λ o. derivation_along (clauses_in p) p.depth o path) asked ∙ ap derivation_traced (found_leads path s d there)

  each_derivation : (os : List Output) → ((path : List ℕ) (s : State) (d : NominalDerivation) → Finds os path s d → Finds (solve_query (clauses_in p) p.depth q) path s d)
      → map (derivation_of_path p) (answer_paths (map (out_in q.locals) os)) ≡ derivations_among os
  each_derivation [] among = refl
  each_derivation (found path s d ∷ os) among =
      ap₂ (λ e es. e ∷ es) (here path s d (among path s d (inl (refl, refl, refl)))) (each_derivation os (λ l r e f. among l r e (inr f)))
  each_derivation (cut path ∷ os) among = each_derivation os (λ l r e f. among l r e f)
  each_derivation (chose path c ∷ os) among = absurd c
  each_derivation (stuck path ∷ os) among = each_derivation os (λ l r e f. among l r e f)

  answers_lead : AllByRecursion (LeadsToAnswer p) (answer_paths (query_outs (clauses_in p) p.depth q))
  answers_lead = each_leads (solve_query (clauses_in p) p.depth q) (λ l r e f. f)

  derivations_there : map (derivation_of_path p) (answer_paths (query_outs (clauses_in p) p.depth q)) ≡ derivations_among (solve_query (clauses_in p) p.depth q)
  derivations_there = each_derivation (solve_query (clauses_in p) p.depth q) (λ l r e f. f)

  -- the table of the uses in these derivations
  pub uses_there : (t : List (List ℕ)) (os : List NominalOut) (paths : List (List ℕ)) → os ≡ query_outs (clauses_in p) p.depth q → paths ≡ answer_paths os
      → t ≡ use_table (clauses_in p) (uses_in_each (clauses_in p) q.goal (map (derivation_of_path p) paths))
      → t ≡ use_table (clauses_in p) (uses_of_query (clauses_in p) p.depth q)
  uses_there t os paths outs is made =
      made ∙ ap (λ ds. use_table (clauses_in p) (uses_in_each (clauses_in p) q.goal ds)) (ap (map (derivation_of_path p)) (is ∙ ap answer_paths outs) ∙ derivations_there)

-- the paths of all answers lead to answers
pub all_lead : (p : Problem) → HasQuery p → (os : List NominalOut) (paths : List (List ℕ))
    → ((q : NominalQuery) → slice_get (queries_in p) (p.query - 1) ≡ Some q → os ≡ query_outs (clauses_in p) p.depth q) → paths ≡ answer_paths os
    → AllByRecursion (LeadsToAnswer p) paths
all_lead p has os paths outs is =
    let least = has.0 in let most = has.1 in
    let at = query_there (queries_in p) (p.query - 1) (omega (arith, least, most)) in
    subst (AllByRecursion (LeadsToAnswer p)) (sym (is ∙ ap answer_paths (outs at.0 at.1))) (answers_lead p has at.0 at.1)

-- a table of the program's own clauses, for the query that is asked
pub table_there : (t : List (List ℕ)) (css program : Clauses) (o : Option NominalQuery) (r q : NominalQuery) (ds : List NominalDerivation) → css ≡ program → o ≡ Some r → o ≡ Some q
    → t ≡ use_table css (uses_in_each css r.goal ds) → t ≡ use_table program (uses_in_each program q.goal ds)
table_there t css program o r q ds e h k is =
    is ∙ ap₂ (λ (cs : Clauses) (g : NominalGoal). use_table cs (uses_in_each cs g ds)) e (ap (λ (x : NominalQuery). x.goal) (same_query o r q h k))
