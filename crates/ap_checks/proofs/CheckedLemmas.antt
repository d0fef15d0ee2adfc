-- A derivation that checks has a ground proof in each instance of its answer.
use Rattle.std.proofs.Common.{subst, ◌≡◌, ◌≤◌, ℕ, suc, Bool, true, false, ◌&&◌, not, List, [], ◌∷◌, map, refl, sym, ap, ap₂, ◌∙◌, inl, inr, true≢false, arith}
use Rattle.std.specs.Prelude.{if◌then◌else◌, ◌==◌, ◌+◌, Option, Some, None}
use Rattle.std.specs.List.{list_all}
use Rattle.ap_defs.specs.declared.terms.Name.{Name}
use Rattle.ap_defs.specs.declared.terms.Var.{Var}
use Rattle.ap_defs.specs.Alpha.{alpha}
use Rattle.ap_defs.specs.Answers.{NominalAnswer, kind_at}
use Rattle.ap_defs.specs.Derivations as nodes
use Rattle.ap_defs.specs.Derivations.{NominalDerivation, height}
use Rattle.ap_defs.specs.Freshness.{Conds, alpha_under, fresh_under, var_eq}
use Rattle.ap_defs.specs.Goals as goals
use Rattle.ap_defs.specs.Goals.{NominalClause, NominalGoal, NominalProgram, NominalQuery, clauses_of}
use Rattle.ap_defs.specs.GroundProofs.{AlphaEach, AreDifferent, Environment, IsFresh, IsNew, IsValid, clause_at, environment, instance, swap_under, term_for, with_term}
use Rattle.ap_defs.specs.Groundings.{Grounding, grounded, meets}
use Rattle.ap_defs.specs.Occurrences.{free_names, free_vars}
use Rattle.ap_defs.specs.Permutations.{has_name, name_eq}
use Rattle.ap_defs.specs.Renaming.{local_names, local_vars}
use Rattle.ap_defs.specs.Resolution.{kinds_of}
use Rattle.ap_defs.specs.Terms as terms
use Rattle.ap_defs.specs.Terms.{GroundTerm, NominalTerm}
use Rattle.ap_defs.specs.Types.{NominalConstructor, NominalKind, NominalLocal, NominalType}
use Rattle.ap_defs.specs.Typing.{IsOfType}
use Rattle.ap_defs.specs.Unification.{has_var}
use Rattle.ap_theory.proofs.BooleanLemmas.{and_left, and_right, or_cases}
use Rattle.ap_theory.proofs.GroundingLemmas.{alpha_under_sound, fresh_under_sound, grounded_act}
use Rattle.ap_theory.proofs.PermutationLemmas.{name_eq_itself, name_eq_same}
use Rattle.ap_theory.proofs.TermLemmas.{number_same, var_same}
use Rattle.ap_ground.specs.ShownInstances.{IsInstanceOf}
use Rattle.ap_soundness.proofs.QueryLemmas.{height_mapped}
use Rattle.ap_soundness.proofs.StepLemmas.{ground_proof}
use Rattle.ap_checks.specs.Checks.{Checks, Refusal, are_different, refusal_of_rule, tests_by_clause, equal_each, node_count, first_refusal, have_counts, is_answer, is_fresh, is_new, refusal, test, verdict, with_clause, yes}
use Rattle.ap_checks.specs.OpenEnvironments.{OpenEnvironment, open_environment, open_term_for, put_in, with_open_name, with_open_term}
use Rattle.ap_checks.specs.StatementsOnChecks.{CheckedIsDerivable}
use Rattle.ap_checks.specs.TypeTests.{has_kind, have_kinds, have_sorts, type_beside}
use Rattle.ap_checks.proofs.TypeTestLemmas.{given_beside, kind_instance, kinds_instance, sorts_hold}

-- Tests that refuse nothing.
pub test_holds : (b : Bool) (r : Refusal) (rest : Option Refusal) → test b r rest ≡ None → (b ≡ true) × (rest ≡ None)
test_holds true r rest h = (refl, h)
test_holds false r rest h = cc

pub first_none : (o s : Option Refusal) → first_refusal o s ≡ None → (o ≡ None) × (s ≡ None)
first_none None s h = (refl, h)
first_none (Some r) s h = cc

pub not_holds : (b : Bool) → not b ≡ true → b ≡ false
not_holds true h = absurd (true≢false (sym h))
not_holds false h = refl

different_holds : (as' : List Name) → are_different as' ≡ true → AreDifferent as'
different_holds [] h = tt
different_holds (a ∷ as') h =
    (not_holds (has_name a as') (and_left (not (has_name a as')) (are_different as') h), different_holds as' (and_right (not (has_name a as')) (are_different as') h))

each_name : (f : Name → Bool) (as' : List Name) → list_all f as' ≡ true → (b : Name) → has_name b as' ≡ true → f b ≡ true
each_name f [] h b m = absurd (true≢false (sym m))
each_name f (a ∷ as') h b m =
    elim (or_cases (name_eq b a) (has_name b as') m) [
      | inl i ↦ ap f (name_eq_same b a i) ∙ and_left (f a) (list_all f as') h
      | inr i ↦ each_name f as' (and_right (f a) (list_all f as') h) b i
    ]

each_var : (f : Var → Bool) (xs : List Var) → list_all f xs ≡ true → (y : Var) → has_var y xs ≡ true → f y ≡ true
each_var f [] h y m = absurd (true≢false (sym m))
each_var f (x ∷ xs) h y m =
    elim (or_cases (var_eq y x) (has_var y xs) m) [
      | inl i ↦ ap f (var_same y x i) ∙ and_left (f x) (list_all f xs) h
      | inr i ↦ each_var f xs (and_right (f x) (list_all f xs) h) y i
    ]

-- An environment whose terms are grounded.
abbrev pub closed_environment : Grounding → OpenEnvironment → Environment
closed_environment g e = record { names = e.names; terms = λ x. grounded g (e.terms x) }

module _ (g : Grounding) where
  put_grounded : (e : OpenEnvironment) (t : NominalTerm) → instance (closed_environment g e) t ≡ grounded g (put_in e t)
  put_grounded e terms.unit = refl
  put_grounded e (terms.name a) = refl
  put_grounded e (terms.pair t u) = ap₂ terms.pair (put_grounded e t) (put_grounded e u)
  put_grounded e (terms.app f t) = ap (terms.app f) (put_grounded e t)
  put_grounded e (terms.abs a t) = ap (terms.abs (e.names a)) (put_grounded e t)
  put_grounded e (terms.susp p x) = sym (grounded_act g (map (swap_under (closed_environment g e)) p) (e.terms x))

  closed_beside : (xs : List Var) (ts : List NominalTerm) (y : Var) → grounded g (open_term_for xs ts y) ≡ term_for xs (map (grounded g) ts) y
  closed_beside [] ts y = refl
  closed_beside (x ∷ xs) [] y = refl
  closed_beside (x ∷ xs) (t ∷ ts) y =
      elim (var_eq x y) as (λ b. grounded g (if b then t else open_term_for xs ts y) ≡ (if b then grounded g t else term_for xs (map (grounded g) ts) y)) [
        | true ↦ refl
        | false ↦ closed_beside xs ts y
      ]

  closed_item : (locals : List NominalLocal) (names : List Name) (ts : List NominalTerm)
      → closed_environment g (open_environment locals names ts) ≡ environment locals names (map (grounded g) ts)
  closed_item locals names ts = λ i. record { names = (environment locals names (map (grounded g) ts)).names; terms = λ y. closed_beside (local_vars 0 locals) ts y i }

  closed_term : (e : OpenEnvironment) (x : Var) (t : NominalTerm) → closed_environment g (with_open_term e x t) ≡ with_term (closed_environment g e) x (grounded g t)
  closed_term e x t = λ i. record { names = e.names; terms = λ y. one y i }
    where
      one : (y : Var) → grounded g (if var_eq x y then t else e.terms y) ≡ (if var_eq x y then grounded g t else grounded g (e.terms y))
      one y = elim (var_eq x y) as (λ b. grounded g (if b then t else e.terms y) ≡ (if b then grounded g t else grounded g (e.terms y))) [ true ↦ refl | false ↦ refl ]

  module _ (ds : Conds) (met : meets g ds ≡ true) where
    each_grounded : (e f : OpenEnvironment) (ts us : List NominalTerm) → equal_each ds (map (put_in e) ts) (map (put_in f) us) ≡ true
        → AlphaEach (map (instance (closed_environment g e)) ts) (map (instance (closed_environment g f)) us)
    each_grounded e f [] [] h = tt
    each_grounded e f [] (u ∷ us) h = absurd (true≢false (sym h))
    each_grounded e f (t ∷ ts) [] h = absurd (true≢false (sym h))
    each_grounded e f (t ∷ ts) (u ∷ us) h =
        let first = alpha_under ds (put_in e t) (put_in f u) in
        let rest = equal_each ds (map (put_in e) ts) (map (put_in f) us) in (
          ap₂ alpha (put_grounded e t) (put_grounded f u) ∙ alpha_under_sound g ds met (put_in e t) (put_in f u) (and_left first rest h),
          each_grounded e f ts us (and_right first rest h),
        )

    fresh_grounded : (t u : NominalTerm) → is_fresh ds t u ≡ true → IsFresh (grounded g t) (grounded g u)
    fresh_grounded (terms.name a) u h = fresh_under_sound g ds met a u h
    fresh_grounded terms.unit u h = absurd (true≢false (sym h))
    fresh_grounded (terms.pair t v) u h = absurd (true≢false (sym h))
    fresh_grounded (terms.app f t) u h = absurd (true≢false (sym h))
    fresh_grounded (terms.abs a t) u h = absurd (true≢false (sym h))
    fresh_grounded (terms.susp q x) u h = absurd (true≢false (sym h))

    new_grounded : (c : Name) (goal : NominalGoal) (e : OpenEnvironment) → is_new ds c goal e ≡ true → IsNew c goal (closed_environment g e)
    new_grounded c goal e h =
        let apart = list_all (λ b. not (name_eq (e.names b) c)) (free_names goal) in
        let fresh_each = list_all (λ x. fresh_under ds c (e.terms x)) (free_vars goal) in
        record {
          apart = λ b m same.
              true≢false (sym (ap (name_eq (e.names b)) (sym same) ∙ name_eq_itself (e.names b))
              ∙ not_holds (name_eq (e.names b) c) (each_name (λ z. not (name_eq (e.names z) c)) (free_names goal) (and_left apart fresh_each h) b m));
          fresh_for = λ x m. fresh_under_sound g ds met c (e.terms x) (each_var (λ z. fresh_under ds c (e.terms z)) (free_vars goal) (and_right apart fresh_each h) x m);
        }

module _ (p : NominalProgram) (a : NominalAnswer) (g : Grounding) (i : IsInstanceOf p.signature.constructors a g) where
  abbrev cs : List NominalConstructor
  cs = p.signature.constructors

  of_types : (x : Var) (t : NominalType) → type_beside a.vars x ≡ Some t → IsOfType cs (g x) t
  of_types = given_beside cs g a.vars i.types

  -- a node of an atom
  atom_valid : (kinds : List NominalKind) (n k q : ℕ) (names : List Name) (ts : List NominalTerm) (d : NominalDerivation) (us : List NominalTerm) (e : OpenEnvironment)
      → ((c : NominalClause) → refusal p a (kinds_of c.locals) (suc n) d c.body (open_environment c.locals names ts) ≡ None
      → IsValid p (kinds_of c.locals) (ground_proof g d) c.body (closed_environment g (open_environment c.locals names ts)))
      → (o : Option NominalClause) → clause_at (clauses_of p.clauses q) k ≡ o
      → with_clause n o (λ c. tests_by_clause p a n names ts (map (put_in e) us) c (refusal p a (kinds_of c.locals) (suc n) d c.body (open_environment c.locals names ts))) ≡ None
      → IsValid p kinds (nodes.atom k names (map (grounded g) ts) (ground_proof g d)) (goals.atom q us) (closed_environment g e)
  atom_valid kinds n k q names ts d us e inner None here h = cc
  atom_valid kinds n k q names ts d us e inner (Some c) here h =
      let f = open_environment c.locals names ts in
      let sorts = have_sorts (local_names 0 c.locals) names in
      let typed = have_kinds cs (type_beside a.vars) (kinds_of c.locals) (local_vars 0 c.locals) ts in
      let rest = refusal p a (kinds_of c.locals) (suc n) d c.body f in
      let heads = equal_each a.conds (map (put_in e) us) (map (put_in f) c.args) in
      let third = test_holds (have_counts c.locals names ts) (refusal_of_rule n 3) (test (are_different names) (refusal_of_rule n 4) (test (sorts && typed) (refusal_of_rule n 5) (test heads (refusal_of_rule n 6) rest))) h in
      let fourth = test_holds (are_different names) (refusal_of_rule n 4) (test (sorts && typed) (refusal_of_rule n 5) (test heads (refusal_of_rule n 6) rest)) third.1 in
      let fifth = test_holds (sorts && typed) (refusal_of_rule n 5) (test heads (refusal_of_rule n 6) rest) fourth.1 in
      let sixth = test_holds heads (refusal_of_rule n 6) rest fifth.1 in
      let same = closed_item g c.locals names ts in (
        c,
        here,
        record {
          sorts = sorts_hold (local_names 0 c.locals) names (and_left sorts typed fifth.0);
          different = different_holds names fourth.0;
          types = kinds_instance cs (type_beside a.vars) g of_types (kinds_of c.locals) (local_vars 0 c.locals) ts (and_right sorts typed fifth.0);
        },
        subst (λ v. AlphaEach (map (instance (closed_environment g e)) us) (map (instance v) c.args)) same (each_grounded g a.conds i.conditions e f us c.args sixth.0),
        subst (λ v. IsValid p (kinds_of c.locals) (ground_proof g d) c.body v) same (inner c sixth.1),
      )

  pub checked_valid : (kinds : List NominalKind) (n : ℕ) (d : NominalDerivation) (goal : NominalGoal) (e : OpenEnvironment) → refusal p a kinds n d goal e ≡ None
      → IsValid p kinds (ground_proof g d) goal (closed_environment g e)
  checked_valid kinds n (nodes.atom k names ts d) (goals.atom q us) e h =
      atom_valid kinds n k q names ts d us e (λ c j. checked_valid (kinds_of c.locals) (suc n) d c.body (open_environment c.locals names ts) j) (clause_at (clauses_of p.clauses q) k) refl h
  checked_valid kinds n nodes.equal (goals.equal t u) e h =
      ap₂ alpha (put_grounded g e t) (put_grounded g e u)
      ∙ alpha_under_sound g a.conds i.conditions (put_in e t) (put_in e u) (test_holds (alpha_under a.conds (put_in e t) (put_in e u)) (refusal_of_rule n 7) None h).0
  checked_valid kinds n nodes.fresh (goals.fresh t u) e h =
      let fresh_put = fresh_grounded g a.conds i.conditions (put_in e t) (put_in e u) (test_holds (is_fresh a.conds (put_in e t) (put_in e u)) (refusal_of_rule n 8) None h).0 in
      subst (λ z. IsFresh z (instance (closed_environment g e) u)) (sym (put_grounded g e t)) (subst (λ z. IsFresh (grounded g (put_in e t)) z) (sym (put_grounded g e u)) fresh_put)
  checked_valid kinds n nodes.succeed goals.succeed e h = tt
  checked_valid kinds n (nodes.both d f) (goals.both s r) e h =
      let parts = first_none (refusal p a kinds (suc n) d s e) (refusal p a kinds (suc n + node_count d) f r e) h in
      (checked_valid kinds (suc n) d s e parts.0, checked_valid kinds (suc n + node_count d) f r e parts.1)
  checked_valid kinds n (nodes.left d) (goals.either s r) e h = checked_valid kinds (suc n) d s e h
  checked_valid kinds n (nodes.right d) (goals.either s r) e h = checked_valid kinds (suc n) d r e h
  checked_valid kinds n (nodes.exists t d) (goals.exists x s) e h =
      let parts = test_holds (has_kind cs (type_beside a.vars) (kind_at kinds x.num) t) (refusal_of_rule n 5) (refusal p a kinds (suc n) d s (with_open_term e x t)) h in (
        kind_instance cs (type_beside a.vars) g of_types (kind_at kinds x.num) t parts.0,
        subst (λ v. IsValid p kinds (ground_proof g d) s v) (closed_term g e x t) (checked_valid kinds (suc n) d s (with_open_term e x t) parts.1),
      )
  checked_valid kinds n (nodes.new c d) (goals.new b s) e h =
      let fifth = test_holds (c.sort == b.sort) (refusal_of_rule n 5) (test (is_new a.conds c (goals.new b s) e) (refusal_of_rule n 9) (refusal p a kinds (suc n) d s (with_open_name e b c))) h in
      let ninth = test_holds (is_new a.conds c (goals.new b s) e) (refusal_of_rule n 9) (refusal p a kinds (suc n) d s (with_open_name e b c)) fifth.1 in (
        number_same c.sort b.sort fifth.0,
        new_grounded g a.conds i.conditions c (goals.new b s) e ninth.0,
        checked_valid kinds (suc n) d s (with_open_name e b c) ninth.1,
      )
  checked_valid kinds n _ _ e h = cc

verdict_yes : (o : Option Refusal) → verdict o ≡ yes → o ≡ None
verdict_yes None h = refl
verdict_yes (Some r) h = cc

-- what a derivation that checks tells: its answer fits the query, and no node is refused
pub checks_both : (p : NominalProgram) (q : NominalQuery) (a : NominalAnswer) (d : NominalDerivation) → Checks p q a d
    → (is_answer p q a ≡ true) × (refusal p a (kinds_of q.locals) 1 d q.goal (open_environment q.locals (local_names 0 q.locals) a.binds) ≡ None)
checks_both p q a d h =
    let rest = refusal p a (kinds_of q.locals) 1 d q.goal (open_environment q.locals (local_names 0 q.locals) a.binds) in
    test_holds (is_answer p q a) (refusal_of_rule 0 10) rest (verdict_yes (test (is_answer p q a) (refusal_of_rule 0 10) rest) h)

pub checked_derivable : CheckedIsDerivable
checked_derivable p q a d h g i =
    let parts = checks_both p q a d h in
    let e = open_environment q.locals (local_names 0 q.locals) a.binds in
    let typed = have_kinds p.signature.constructors (type_beside a.vars) (kinds_of q.locals) (local_vars 0 q.locals) a.binds in
    let valid = checked_valid p a g i (kinds_of q.locals) 1 d q.goal e parts.1 in
    let low : height (ground_proof g d) ≤ height d = (let same = height_mapped (grounded g) d in omega arith) in (
      kinds_instance p.signature.constructors (type_beside a.vars) g (given_beside p.signature.constructors g a.vars i.types) (kinds_of q.locals) (local_vars 0 q.locals) a.binds (and_left typed _ parts.0),
      (ground_proof g d, subst (λ v. IsValid p (kinds_of q.locals) (ground_proof g d) q.goal v) (closed_item g q.locals (local_names 0 q.locals) a.binds) valid, low),
    )
