-- What covers a ground proof does so.
use Rattle.std.proofs.Common.{◌≡◌, ◌∙◌, ◌≤◌, ◌-◌, length, ℕ, zero, suc, true, false, ◌&&◌, List, [], ◌∷◌, Bool, Option, Some, refl, sym, ap, subst, inl, inr, arith}
use Rattle.std.specs.Prelude.{filter, if◌then◌else◌, slice_get}
use Rattle.std.specs.List.{list_all}
use Rattle.std.proofs.lemmas.List.{length-map}
use Rattle.ap_defs.specs.declared.paths.Node.{Node}
use Rattle.ap_defs.specs.declared.paths.Node.TheVariants as nodes
use Rattle.ap_defs.specs.declared.terms.Swap.{Swap}
use Rattle.ap_defs.specs.declared.terms.Term.{Term}
use Rattle.ap_defs.specs.declared.terms.Var.{Var}
use Rattle.ap_defs.specs.Answers as answers
use Rattle.ap_defs.specs.Answers.{NominalAnswer, NominalOut, out_path, outs_at, query_outs}
use Rattle.ap_defs.specs.Derivations.{height, path}
use Rattle.ap_defs.specs.declared.goals.Program.{Program}
use Rattle.ap_defs.specs.Goals.{NominalProgram, NominalQuery, program_of}
use Rattle.ap_defs.specs.Limits.{size_limit}
use Rattle.ap_defs.specs.PathOrder.{has_prefix}
use Rattle.ap_defs.specs.Terms as terms
use Rattle.ap_defs.specs.Types.{constructor_of}
use Rattle.ap_theory.proofs.BooleanLemmas.{and_right}
use Rattle.ap_backchain.specs.Branches.{IsNodeAt}
use Rattle.ap_backchain.specs.Problems.{HasQuery, clauses_in, program_of_problem, queries_in}
use Rattle.ap_backchain.specs.declared.problem.Problem.{Problem}
use Rattle.ap_bundle.specs.Bundles.{NominalProved}
use Rattle.ap_checks.specs.Checks.{Checks, on_query, query_at, verdict_of, verdict_on, yes}
use Rattle.ap_complete.specs.Coverings as coverings
use Rattle.ap_complete.specs.Coverings.{IsCovered}
use Rattle.ap_complete.specs.NumberedProofs.{IsAmong}
use Rattle.ap_complete.specs.Restriction.{KeepsRestriction}
use Rattle.ap_cover.specs.Ground.{ground_terms, is_empty, is_ground, is_ground_answer, is_ground_derivation, is_ground_term}
use Rattle.ap_cover.proofs.CoverLemmas.{found, low_ground, path_mapped, typed, types, valid}
use Rattle.ap_cover.specs.StatementsOnMatching.{matched_with}
use Rattle.ap_cover.proofs.MatchedLemmas.{matched_cover}
use Rattle.ap_defs.specs.Groundings.{Grounding, grounded}
use Rattle.ap_coverer.specs.Followed.{Covers, CoversPath, IsEnd, by_answer, by_stuck}
use Rattle.ap_clearing.specs.Clearing.{Clears, in_the_way, used_names}
use Rattle.ap_coverer.specs.Covering.{AreMatched}
use Rattle.ap_clearing.proofs.ClearsLemmas.{clears_apart}
use Rattle.ap_program.specs.NameRestriction.{IsRestricted}
use Rattle.ap_property.specs.StatementsOnProperties.{HasTypedVars}
use Rattle.ap_property.proofs.StatedLemmas.{answers_have_types}
use Rattle.ap_soundness.specs.FoundStates.{EachAnswer}
use Rattle.ap_soundness.proofs.StepLemmas.{ground_proof}
use Rattle.ap_coverer.specs.Coverer.{ChecksFor, IsAnswerAt, IsCoveredBy, IsStuckBefore}

-- OUTPUTS

each_among : (P : NominalAnswer → Type 0) (os : List NominalOut) → EachAnswer P os → (l : List ℕ) (a : NominalAnswer) → IsAmong (answers.found l a) os → P a
each_among P [] h l a i = absurd i
each_among P (answers.found m b ∷ os) h l a (inl e) = subst P (let same : b ≡ a = cc in same) h.0
each_among P (answers.found m b ∷ os) h l a (inr i) = each_among P os h.1 l a i
each_among P (answers.cut m ∷ os) h l a (inl e) = absurd (let no : answers.cut m ≡ answers.found l a = e in cc)
each_among P (answers.cut m ∷ os) h l a (inr i) = each_among P os h l a i
each_among P (answers.stuck m ∷ os) h l a (inl e) = absurd (let no : answers.stuck m ≡ answers.found l a = e in cc)
each_among P (answers.stuck m ∷ os) h l a (inr i) = each_among P os h l a i

among_kept : (keep : NominalOut → Bool) (o : NominalOut) (os : List NominalOut) → IsAmong o (filter keep os) → IsAmong o os
among_kept keep o [] i = absurd i
among_kept keep o (w ∷ os) i =
    elim (keep w) as (λ b. IsAmong o (if b then (w ∷ filter keep os) else filter keep os) → IsAmong o (w ∷ os)) [
      | true ↦ λ j. elim j [ inl e ↦ inl e | inr k ↦ inr (among_kept keep o os k) ]
      | false ↦ λ j. inr (among_kept keep o os j)
    ] i

pub among_at : (p : NominalProgram) (depth : ℕ) (q : NominalQuery) (l : List ℕ) (o : NominalOut) → outs_at p.clauses depth q l ≡ o ∷ [] → IsAmong o (query_outs p.clauses depth q)
among_at p depth q l o e = among_kept (λ w. has_prefix l (out_path w)) o (query_outs p.clauses depth q) (subst (IsAmong o) (sym e) (inl refl))

-- A PROOF OF A QUERY

module _ (p : NominalProgram) (keeps : KeepsRestriction p) (depth : ℕ) (d : NominalProved) (q : NominalQuery) (asked : query_at p.queries d.query ≡ Some q)
    (checks : Checks p q d.answer d.derivation) (closed : is_ground d ≡ true) (low : height d.derivation ≤ depth) where
  covered_path : IsCovered p q depth (ground_terms d.answer.binds) (path d.derivation) → Covers p.clauses depth q (path d.derivation)
  covered_path (coverings.answered a i w) = by_answer a i
  covered_path (coverings.is_stuck l i b) = by_stuck l i b

  path_covered : Covers p.clauses depth q (path d.derivation)
  path_covered = covered_path (found p keeps depth d q asked checks closed low)

  answer_typed : (a : NominalAnswer) (l : List ℕ) → IsAmong (answers.found l a) (query_outs p.clauses depth q) → HasTypedVars p.signature.constructors a
  answer_typed a l i =
      each_among (HasTypedVars p.signature.constructors) (query_outs p.clauses depth q) (answers_have_types p keeps.typed q (typed p keeps depth d q asked checks closed low) depth) l a i

  covered_so : (a : NominalAnswer) → IsAmong (answers.found (path d.derivation) a) (query_outs p.clauses depth q) → (swaps : List Swap) (ps : List (Var × Term))
      → Clears (used_names q.locals a d.answer.binds) (in_the_way q.locals a d.answer.binds) swaps
      → AreMatched p.signature.constructors a (ground_terms d.answer.binds) swaps ps → IsCoveredBy p q depth d (path d.derivation) swaps ps
  covered_so a i swaps ps clears m =
      let gs = ground_terms d.answer.binds in
      let none : Grounding = λ x. terms.unit in
      let takes = clears_apart q.locals a d.answer.binds swaps clears in
      let there = subst (λ (l : List ℕ). IsAmong (answers.found l a) (query_outs p.clauses depth q)) (sym (path_mapped (grounded none) d.derivation)) i in
      record {
        path = refl;
        answer = a;
        found = i;
        leaves = takes.leaves;
        brings = clears;
        grounding = matched_with a gs swaps m.other;
        given = m.given;
        covers =
            matched_cover p keeps q (typed p keeps depth d q asked checks closed low) depth gs (types p keeps depth d q asked checks closed low)
            (ground_proof none d.derivation) (valid p keeps depth d q asked checks closed low) (low_ground p keeps depth d q asked checks closed low)
            a there swaps takes m.other m.types m.conditions;
      }

pub terms_ground : (d : NominalProved) → is_ground d ≡ true → list_all is_ground_term d.answer.binds ≡ true
terms_ground d h =
    and_right (is_empty d.answer.conds) (list_all is_ground_term d.answer.binds)
    (and_right (is_empty d.answer.vars) (is_empty d.answer.conds && list_all is_ground_term d.answer.binds) (left_part (is_ground_answer d.answer) (is_ground_derivation d.derivation) h))
  where
    left_part : (b c : Bool) → (b && c) ≡ true → b ≡ true
    left_part true c e = refl
    left_part false c e = e

-- A PROBLEM'S QUERY

query_place : (qs : List NominalQuery) (place : ℕ) → query_at qs (suc place) ≡ slice_get qs place
query_place [] place = refl
query_place (q ∷ qs) zero = refl
query_place (q ∷ qs) (suc place) = query_place qs place

query_checks : (p : NominalProgram) (place : ℕ) (d : NominalProved) → verdict_of p place d.answer d.derivation ≡ yes → (q : NominalQuery) → query_at p.queries place ≡ Some q → Checks p q d.answer d.derivation
query_checks p place d h q asked = ap (λ (o : Option NominalQuery). on_query o (λ (r : NominalQuery). verdict_on p r d.answer d.derivation)) (sym asked) ∙ h

kept : (p : NominalProgram) → IsRestricted p → KeepsRestriction p
kept p h = record { typed = h.typed; names = h.names }

pub few_constructors : (p : Program Term) → IsRestricted (program_of p) → length p.signature.constructors ≤ size_limit
few_constructors p h = let few = h.bounded in let same = length-map p.signature.constructors constructor_of in omega (arith, few, same)

-- a node that is this one ends as it does
pub end_at : (m b n : Node) (l there : List ℕ) → m ≡ b → m ≡ n → IsEnd b l there → IsEnd n l there
end_at m b n l there is named h = subst (λ (x : Node). IsEnd x l there) (sym is ∙ named) h

module _ (p : Problem) (has : HasQuery p) (restricted : IsRestricted (program_of_problem p)) (d : NominalProved) (checks : ChecksFor p d) (closed : is_ground d ≡ true) (low : height d.derivation ≤ p.depth) where
  -- with the number of the problem's query
  abbrev numbered : NominalProved
  numbered = record { query = p.query; answer = d.answer; derivation = d.derivation }

  keeps : KeepsRestriction (program_of_problem p)
  keeps = kept (program_of_problem p) restricted

  module _ (q : NominalQuery) (asked : slice_get (queries_in p) (p.query - 1) ≡ Some q) where
    asked_at : query_at (queries_in p) p.query ≡ Some q
    asked_at =
        let one = has.0 in
        let next : p.query ≡ suc (p.query - 1) = omega (arith, one) in
        ap (query_at (queries_in p)) next ∙ query_place (queries_in p) (p.query - 1) ∙ asked

    checked : Checks (program_of_problem p) q d.answer d.derivation
    checked = query_checks (program_of_problem p) p.query d checks q asked_at

    path_there : Covers (clauses_in p) p.depth q (path d.derivation)
    path_there = path_covered (program_of_problem p) keeps p.depth numbered q asked_at checked closed low

    typed_at : (a : NominalAnswer) (l : List ℕ) → outs_at (clauses_in p) p.depth q l ≡ answers.found l a ∷ [] → HasTypedVars (program_of_problem p).signature.constructors a
    typed_at a l e = answer_typed (program_of_problem p) keeps p.depth numbered q asked_at checked closed low a l (among_at (program_of_problem p) p.depth q l (answers.found l a) e)

    covered_at : (a : NominalAnswer) (l : List ℕ) → l ≡ path d.derivation → outs_at (clauses_in p) p.depth q l ≡ answers.found l a ∷ [] → (swaps : List Swap) (ps : List (Var × Term))
        → Clears (used_names q.locals a d.answer.binds) (in_the_way q.locals a d.answer.binds) swaps
        → AreMatched (program_of_problem p).signature.constructors a (ground_terms d.answer.binds) swaps ps → IsCoveredBy (program_of_problem p) q p.depth d (path d.derivation) swaps ps
    covered_at a l same e swaps ps clears m =
        let i = subst (λ (k : List ℕ). IsAmong (answers.found k a) (query_outs (clauses_in p) p.depth q)) same (among_at (program_of_problem p) p.depth q l (answers.found l a) e) in
        let r = covered_so (program_of_problem p) keeps p.depth numbered q asked_at checked closed low a i swaps ps clears m in
        record { path = r.path; answer = r.answer; found = r.found; leaves = r.leaves; brings = r.brings; grounding = r.grounding; given = r.given; covers = r.covers }

    stuck_at : (l : List ℕ) → IsNodeAt (clauses_in p) p.depth q l nodes.Stuck → has_prefix l (path d.derivation) ≡ true → IsStuckBefore (program_of_problem p) q p.depth d l
    stuck_at l at begins = record { stuck = among_at (program_of_problem p) p.depth q l (answers.stuck l) at.1; begins = begins }

  pub proof_covers_path : CoversPath p (path d.derivation)
  proof_covers_path q asked = path_there q asked

  -- an answer that the search has at a path has typed variables
  pub typed_there : (q : NominalQuery) → slice_get (queries_in p) (p.query - 1) ≡ Some q → (a : NominalAnswer) (l : List ℕ) → IsAnswerAt p l a → HasTypedVars (program_of_problem p).signature.constructors a
  typed_there q asked a l at = typed_at q asked a l (at q asked)

  pub covered_there : (r : NominalQuery) → slice_get (queries_in p) (p.query - 1) ≡ Some r → (a : NominalAnswer) (l : List ℕ) → l ≡ path d.derivation → IsAnswerAt p l a
      → (swaps : List Swap) (ps : List (Var × Term))
      → Clears (used_names r.locals a d.answer.binds) (in_the_way r.locals a d.answer.binds) swaps
      → AreMatched (program_of_problem p).signature.constructors a (ground_terms d.answer.binds) swaps ps
      → (q : NominalQuery) → slice_get (queries_in p) (p.query - 1) ≡ Some q → IsCoveredBy (program_of_problem p) q p.depth d (path d.derivation) swaps ps
  covered_there r asked a l same at swaps ps clears m q there =
      let one : Some r ≡ Some q = sym asked ∙ there in
      let is : r ≡ q = cc in
      subst (λ (x : NominalQuery). IsCoveredBy (program_of_problem p) x p.depth d (path d.derivation) swaps ps) is (covered_at r asked a l same (at r asked) swaps ps clears m)

  pub stuck_there : (q : NominalQuery) → slice_get (queries_in p) (p.query - 1) ≡ Some q → (l : List ℕ) → IsNodeAt (clauses_in p) p.depth q l nodes.Stuck
      → has_prefix l (path d.derivation) ≡ true → IsStuckBefore (program_of_problem p) q p.depth d l
  stuck_there q asked l at begins = stuck_at q asked l at begins
