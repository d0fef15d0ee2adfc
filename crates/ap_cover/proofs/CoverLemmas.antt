-- A ground proof that checks is covered by what is found for it.
use Rattle.std.proofs.Common.{◌≡◌, ◌≤◌, ◌+◌, ℕ, zero, suc, true, false, ◌&&◌, List, [], ◌∷◌, ◌++◌, Option, None, Some, map, refl, sym, ap, ap₂, ◌∙◌, arith, subst, true≢false}
use Rattle.std.specs.Prelude.{if◌then◌else◌}
use Rattle.std.specs.List.{list_all}
use Rattle.ap_defs.specs.declared.terms.Name.{Name}
use Rattle.ap_defs.specs.declared.terms.Var.{Var}
use Rattle.ap_defs.specs.Answers.{NominalAnswer, query_outs}
use Rattle.ap_defs.specs.Derivations as nodes
use Rattle.ap_defs.specs.Derivations.{DerivationOver, NominalDerivation, height, map_terms, path}
use Rattle.ap_defs.specs.Freshness.{var_eq}
use Rattle.ap_defs.specs.Goals.{NominalProgram, NominalQuery}
use Rattle.ap_defs.specs.GroundProofs.{AreOfTypes, IsValid, environment, term_for}
use Rattle.ap_defs.specs.Groundings.{Grounding, grounded, meets}
use Rattle.ap_defs.specs.Renaming.{local_names, local_vars}
use Rattle.ap_defs.specs.Resolution.{kinds_of}
use Rattle.ap_defs.specs.Terms as terms
use Rattle.ap_defs.specs.Terms.{NominalTerm}
use Rattle.ap_defs.specs.Types.{NominalLocal, NominalSignature, NominalType}
use Rattle.ap_bundle.specs.Bundles.{NominalProved}
use Rattle.ap_program.specs.Typed.{AreTypedQueries, IsTypedQuery, term_form}
use Rattle.ap_search.proofs.QueryTreeLemmas.{query_in_order}
use Rattle.ap_theory.proofs.BooleanLemmas.{and_left, and_right}
use Rattle.ap_ground.specs.ShownInstances.{IsInstanceOf}
use Rattle.ap_ground.specs.TypedGroundings.{GivesTypes}
use Rattle.ap_soundness.proofs.QueryLemmas.{height_mapped}
use Rattle.ap_soundness.proofs.StepLemmas.{ground_proof}
use Rattle.ap_checks.specs.Checks.{Checks, is_answer, query_at, refusal}
use Rattle.ap_checks.specs.OpenEnvironments.{open_environment, open_term_for}
use Rattle.ap_checks.specs.TypeTests.{have_kinds, type_beside}
use Rattle.ap_checks.proofs.CheckedLemmas.{checked_valid, checks_both, closed_environment}
use Rattle.ap_checks.proofs.TypeTestLemmas.{given_beside, kinds_instance}
use Rattle.ap_complete.specs.Coverings as coverings
use Rattle.ap_complete.specs.Coverings.{IsCovered}
use Rattle.ap_complete.specs.Restriction.{KeepsRestriction}
use Rattle.ap_complete.proofs.CoveringLemmas.{proofs_covered}
use Rattle.ap_cover.specs.Covers.{IsCover, IsCoveredProof, answer, by_answer, by_stuck, cover_of, outs_of_query, stuck}
use Rattle.ap_cover.specs.Ground.{ground_terms, is_empty, is_ground, is_ground_answer, is_ground_derivation, is_ground_term}
use Rattle.ap_cover.specs.Laws.{GroundProofsAreCovered}
use Rattle.ap_cover.proofs.OrderLemmas.{answer_found, stuck_found}

empty_is : {A : Type 0} (xs : List A) → is_empty xs ≡ true → xs ≡ []
empty_is [] h = refl
empty_is (x ∷ xs) h = absurd (true≢false (sym h))

typed_query_at : (sig : NominalSignature) (qs : List NominalQuery) (k : ℕ) (q : NominalQuery) → query_at qs k ≡ Some q → AreTypedQueries term_form sig qs → IsTypedQuery term_form sig q
typed_query_at sig [] k q e h = absurd (let n : None ≡ Some q = e in cc)
typed_query_at sig (r ∷ qs) zero q e h = absurd (let n : None ≡ Some q = e in cc)
typed_query_at sig (r ∷ qs) (suc zero) q e h = let same : r ≡ q = cc in subst (λ (x : NominalQuery). IsTypedQuery term_form sig x) same h.0
typed_query_at sig (r ∷ qs) (suc (suc k)) q e h = typed_query_at sig qs (suc k) q e h.1

pub path_mapped : {S T : Type 0} (f : S → T) (d : DerivationOver S) → path (map_terms f d) ≡ path d
path_mapped f (nodes.atom k as' ts d) = ap (λ l. k ∷ l) (path_mapped f d)
path_mapped f nodes.equal = refl
path_mapped f nodes.fresh = refl
path_mapped f nodes.succeed = refl
path_mapped f (nodes.both d e) = ap₂ ◌++◌ (path_mapped f d) (path_mapped f e)
path_mapped f (nodes.left d) = ap (λ l. 1 ∷ l) (path_mapped f d)
path_mapped f (nodes.right d) = ap (λ l. 2 ∷ l) (path_mapped f d)
path_mapped f (nodes.exists t d) = path_mapped f d
path_mapped f (nodes.new a d) = path_mapped f d

-- terms without variables in place of an item's variables
closed_beside : (g : Grounding) (xs : List Var) (ts : List NominalTerm) (y : Var) → grounded g (open_term_for xs ts y) ≡ term_for xs (map (grounded g) ts) y
closed_beside g [] ts y = refl
closed_beside g (x ∷ xs) [] y = refl
closed_beside g (x ∷ xs) (t ∷ ts) y =
    elim (var_eq x y) as (λ b. grounded g (if b then t else open_term_for xs ts y) ≡ (if b then grounded g t else term_for xs (map (grounded g) ts) y)) [
      | true ↦ refl
      | false ↦ closed_beside g xs ts y
    ]

closed_item : (g : Grounding) (locals : List NominalLocal) (names : List Name) (ts : List NominalTerm)
    → closed_environment g (open_environment locals names ts) ≡ environment locals names (map (grounded g) ts)
closed_item g locals names ts = λ i. record { names = (environment locals names (map (grounded g) ts)).names; terms = λ y. closed_beside g (local_vars 0 locals) ts y i }

module _ (p : NominalProgram) (keeps : KeepsRestriction p) (depth : ℕ) (d : NominalProved) (q : NominalQuery) (asked : query_at p.queries d.query ≡ Some q)
    (checks : Checks p q d.answer d.derivation) (closed : is_ground d ≡ true) (low : height d.derivation ≤ depth) where
  abbrev a : NominalAnswer
  a = d.answer

  abbrev e : NominalDerivation
  e = d.derivation

  abbrev none : Grounding
  none = λ x. terms.unit

  pub ground_answer : is_ground_answer a ≡ true
  ground_answer = and_left (is_ground_answer a) (is_ground_derivation e) closed

  no_vars : a.vars ≡ []
  no_vars = empty_is a.vars (and_left (is_empty a.vars) (is_empty a.conds && list_all is_ground_term a.binds) ground_answer)

  no_conds : a.conds ≡ []
  no_conds = empty_is a.conds (and_left (is_empty a.conds) (list_all is_ground_term a.binds) (and_right (is_empty a.vars) (is_empty a.conds && list_all is_ground_term a.binds) ground_answer))

  instance_there : IsInstanceOf p.signature.constructors a none
  instance_there = record {
    types = subst (λ (vs : List (Var × NominalType)). GivesTypes p.signature.constructors vs none) (sym no_vars) tt;
    conditions = ap (meets none) no_conds;
  }

  parts : (is_answer p q a ≡ true) × (refusal p a (kinds_of q.locals) 1 e q.goal (open_environment q.locals (local_names 0 q.locals) a.binds) ≡ None)
  parts = checks_both p q a e checks

  pub typed : IsTypedQuery term_form p.signature q
  typed = typed_query_at p.signature p.queries d.query q asked keeps.typed.1

  pub types : AreOfTypes p.signature.constructors (kinds_of q.locals) (local_vars 0 q.locals) (ground_terms a.binds)
  types =
      kinds_instance p.signature.constructors (type_beside a.vars) none (given_beside p.signature.constructors none a.vars instance_there.types) (kinds_of q.locals) (local_vars 0 q.locals) a.binds
      (and_left (have_kinds p.signature.constructors (type_beside a.vars) (kinds_of q.locals) (local_vars 0 q.locals) a.binds) _ parts.0)

  pub valid : IsValid p (kinds_of q.locals) (ground_proof none e) q.goal (environment q.locals (local_names 0 q.locals) (ground_terms a.binds))
  valid =
      subst (λ v. IsValid p (kinds_of q.locals) (ground_proof none e) q.goal v) (closed_item none q.locals (local_names 0 q.locals) a.binds)
      (checked_valid p a none instance_there (kinds_of q.locals) 1 e q.goal (open_environment q.locals (local_names 0 q.locals) a.binds) parts.1)

  pub low_ground : height (ground_proof none e) ≤ depth
  low_ground = let same = height_mapped (grounded none) e in omega arith

  pub found : IsCovered p q depth (ground_terms a.binds) (path e)
  found = subst (IsCovered p q depth (ground_terms a.binds)) (path_mapped (grounded none) e) (proofs_covered p keeps q typed depth (ground_terms a.binds) types (ground_proof none e) valid low_ground)

  from_zero : (n : ℕ) → 0 + suc n ≡ suc n
  from_zero n = omega arith

  by_output : IsCovered p q depth (ground_terms a.binds) (path e) → IsCover p q depth (ground_terms a.binds) (path e) (cover_of (path e) (query_outs p.clauses depth q))
  by_output (coverings.answered b i w) =
      let r = answer_found 0 0 (path e) b (query_outs p.clauses depth q) (query_in_order p.clauses depth q) i in
      subst (IsCover p q depth (ground_terms a.binds) (path e)) (sym (r.cover ∙ ap (λ k. Some (answer k (path e))) (from_zero r.place))) (by_answer r.place b r.there w)
  by_output (coverings.is_stuck l i b) =
      let r = stuck_found 0 0 (path e) l (query_outs p.clauses depth q) (query_in_order p.clauses depth q) i b in
      subst (IsCover p q depth (ground_terms a.binds) (path e)) (sym (r.cover ∙ ap (λ k. Some (stuck k l)) (from_zero r.place))) (by_stuck r.place l r.there b)

  pub covered_on : IsCoveredProof p depth d
  covered_on = record {
    q = q;
    asked = asked;
    covered =
        subst (λ (o : Option NominalQuery). IsCover p q depth (ground_terms a.binds) (path e) (cover_of (path e) (outs_of_query o p depth))) (sym asked) (by_output found);
  }

pub ground_covered : GroundProofsAreCovered
ground_covered p keeps depth d q asked checks closed low = covered_on p keeps depth d q asked checks closed low
