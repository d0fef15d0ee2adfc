-- One step back: what solves the state that a goal found solves the state before, and no node of the goal's derivation is refused.
use Rattle.std.proofs.Common.{subst, ◌≡◌, ◌+◌, ℕ, suc, Bool, true, false, not, List, [], ◌∷◌, refl, sym, ap, ap₂, ◌∙◌, true≢false}
use Rattle.std.specs.Prelude.{◌==◌, Option, Some, None}
use Rattle.std.specs.List.{list_all}
use Rattle.ap_defs.specs.Answers.{NominalAnswer, closed_term, kind_at}
use Rattle.ap_defs.specs.Derivations as nodes
use Rattle.ap_defs.specs.Derivations.{NominalDerivation, map_terms}
use Rattle.ap_defs.specs.Freshness.{add_conds, alpha_under, fresh_under, reduce, var_eq}
use Rattle.ap_defs.specs.Goals.{NominalGoal, succeed, equal, fresh, both, either, exists, new, NominalProgram}
use Rattle.ap_defs.specs.Occurrences.{free_names, free_vars}
use Rattle.ap_defs.specs.Permutations.{has_name, name_eq}
use Rattle.ap_defs.specs.Renaming.{rename_goal, rename_name, rename_term, rename_var}
use Rattle.ap_defs.specs.Resolution.{State, fresh_for_each, just_found, test_fresh}
use Rattle.ap_defs.specs.Substitution.{under}
use Rattle.ap_defs.specs.Terms as terms
use Rattle.ap_defs.specs.Terms.{NominalTerm}
use Rattle.ap_defs.specs.Types as types
use Rattle.ap_defs.specs.Types.{NominalConstructor, NominalKind}
use Rattle.ap_defs.specs.Unification.{Unified, has_var, reduce_all, unify}
use Rattle.ap_defs.specs.declared.terms.Cond.{Cond}
use Rattle.ap_defs.specs.declared.terms.Name.{Name}
use Rattle.ap_defs.specs.declared.terms.Var.{Var}
use Rattle.ap_theory.specs.Contexts.{Fresh, listed_context}
use Rattle.ap_theory.specs.Substitutions.{MeetsSome, Substitution, applied}
use Rattle.ap_theory.proofs.BooleanLemmas.{and_both, false_if_not, or_if_left, or_if_right}
use Rattle.ap_theory.proofs.DisagreementLemmas.{has_front}
use Rattle.ap_theory.proofs.PermutationLemmas.{name_eq_same}
use Rattle.ap_theory.proofs.TermLemmas.{act_term_none, same_number, same_var}
use Rattle.ap_theory.proofs.TestLemmas.{Equal_alpha_under, Fresh_fresh_under}
use Rattle.ap_ground.proofs.OccurrenceLemmas.{IsVariable, has_without}
use Rattle.ap_ground.proofs.ShiftLemmas.{free_vars_renamed, has_renamed, rename_apart}
use Rattle.ap_soundness.specs.FoundStates.{EachFound}
use Rattle.ap_soundness.proofs.EachFoundLemmas.{Property, each_reduced}
use Rattle.ap_soundness.proofs.StepLemmas.{FoundFrom, KindsAt, both_found, equal_found, exists_found, left_found, new_found, reduced_found, right_found, succeed_found, vars_in_nodes, vars_of_both}
use Rattle.ap_checks.specs.Checks.{Refusal, refusal_of_rule, node_count, first_refusal, is_fresh, is_new, refusal, test}
use Rattle.ap_checks.specs.OpenEnvironments.{put_in}
use Rattle.ap_checks.specs.TypeTests.{has_kind, type_beside}
use Rattle.ap_checks.proofs.OpenBackwardLemmas.{SolvesOpen, open_add_back, open_reduce_all_back, open_reduce_back, open_under_name, open_unify_back}
use Rattle.ap_checks.proofs.OpenShiftLemmas.{open_shifted, put_shifted, with_open_own_name, with_open_own_term}

pub test_passes : (b : Bool) (r : Refusal) (rest : Option Refusal) → b ≡ true → rest ≡ None → test b r rest ≡ None
test_passes true r rest h k = k
test_passes false r rest h k = absurd (true≢false (sym h))

each_free_name : (f : Name → Bool) (as' : List Name) → ((b : Name) → has_name b as' ≡ true → f b ≡ true) → list_all f as' ≡ true
each_free_name f [] h = refl
each_free_name f (a ∷ as') h = and_both (f a) (list_all f as') (h a (has_front a as')) (each_free_name f as' (λ b k. h b (or_if_right (name_eq b a) (has_name b as') k)))

each_free_var : (f : Var → Bool) (xs : List Var) → ((y : Var) → has_var y xs ≡ true → f y ≡ true) → list_all f xs ≡ true
each_free_var f [] h = refl
each_free_var f (x ∷ xs) h =
    and_both (f x) (list_all f xs) (h x (or_if_left (var_eq x x) (has_var x xs) (same_var x x refl))) (each_free_var f xs (λ y k. h y (or_if_right (var_eq y x) (has_var y xs) k)))

module _ (p : NominalProgram) where
  abbrev cs : List NominalConstructor
  cs = p.signature.constructors

  -- the substitution gives each of the variables a term of its type, by the types of an answer's variables
  abbrev pub GivesOpen : NominalAnswer → Substitution → List NominalKind → List Var → Type 0
  GivesOpen a t kinds xs = (x : Var) → has_var x xs ≡ true → has_kind cs (type_beside a.vars) (kind_at kinds x.num) (t x) ≡ true

  -- a state that was found from another one, and its derivation of a goal whose identifiers have the kinds and are numbered from n on
  pub record CheckedFrom (kinds : List NominalKind) (n : ℕ) (goal : NominalGoal) (s : State) (depth : ℕ) (r : State) (d : NominalDerivation) : Type 0 where
    pub from : FoundFrom p kinds n goal s depth r d
    -- each term of the derivation is a variable
    pub plain : (q : State) → map_terms (applied (λ x. closed_term q (terms.susp [] x))) d ≡ map_terms (closed_term q) d
    pub checks : (a : NominalAnswer) (t : Substitution) → SolvesOpen a.conds t r → GivesOpen a t r.kinds (vars_in_nodes d)
        → SolvesOpen a.conds t s × ((m : ℕ) → refusal p a kinds m (map_terms (applied t) d) goal (open_shifted n t) ≡ None)

  -- One goal.
  module _ (kinds : List NominalKind) (n : ℕ) (s : State) (depth : ℕ) where
    abbrev Of : NominalGoal → Property
    Of goal = CheckedFrom kinds n goal s depth

    pub succeed_checked : Of succeed s nodes.succeed
    succeed_checked = record { from = succeed_found p kinds n s depth; plain = λ q. refl; checks = λ a t h k. (h, λ m. refl) }

    pub equal_checked : (u v : NominalTerm) (r : Unified) → unify s.bindings s.conditions (rename_term n u ∷ []) (rename_term n v ∷ []) ≡ Some r
        → Of (equal u v) (record s { bindings = r.bindings; conditions = r.conditions }) nodes.equal
    equal_checked u v r e = record {
      from = equal_found p kinds n s depth u v r e;
      plain = λ q. refl;
      checks = λ a t h k.
          let b = open_unify_back a.conds t s (rename_term n u ∷ []) (rename_term n v ∷ []) r e h.agreeing h.meeting in
          let same : alpha_under a.conds (put_in (open_shifted n t) u) (put_in (open_shifted n t) v) ≡ true =
          ap₂ (alpha_under a.conds) (put_shifted n t u) (put_shifted n t v) ∙ Equal_alpha_under a.conds (applied t (rename_term n u)) (applied t (rename_term n v)) b.1.0 in
          (b.0, λ m. test_passes (alpha_under a.conds (put_in (open_shifted n t) u) (put_in (open_shifted n t) v)) (refusal_of_rule m 7) None same refl);
    }

    reduced_checked : (u v : NominalTerm) (b : Name) → under s.bindings (rename_term n u) ≡ terms.name b → (conds : List Cond) → reduce b (under s.bindings (rename_term n v)) ≡ Some conds
        → Of (fresh u v) (record s { conditions = add_conds conds s.conditions }) nodes.fresh
    reduced_checked u v b e conds i = record {
      from = reduced_found p kinds n s depth u v b e conds i;
      plain = λ q. refl;
      checks = λ a t h k.
          let l = open_add_back a.conds t s conds h in
          let left : put_in (open_shifted n t) u ≡ terms.name b = put_shifted n t u ∙ open_under_name a.conds t s.bindings (rename_term n u) b l.0.agreeing e in
          let fresh_there : Fresh (listed_context a.conds) b (applied t (rename_term n v)) =
          open_reduce_back a.conds t s.bindings b (rename_term n v) l.0.agreeing (subst (MeetsSome (listed_context a.conds) t) (sym i) l.1) in
          let right : fresh_under a.conds b (put_in (open_shifted n t) v) ≡ true =
          ap (fresh_under a.conds b) (put_shifted n t v) ∙ Fresh_fresh_under a.conds b (applied t (rename_term n v)) fresh_there in
          (l.0, λ m. test_passes (is_fresh a.conds (put_in (open_shifted n t) u) (put_in (open_shifted n t) v)) (refusal_of_rule m 8) None (ap (λ z. is_fresh a.conds z (put_in (open_shifted n t) v)) left ∙ right) refl);
    }

    pub fresh_checked : (u v w : NominalTerm) → under s.bindings (rename_term n u) ≡ w → EachFound (Of (fresh u v)) (test_fresh s w (rename_term n v))
    fresh_checked u v (terms.name b) e =
        each_reduced (Of (fresh u v)) (just_found nodes.fresh) s (reduce b (under s.bindings (rename_term n v))) (λ conds i. (reduced_checked u v b e conds i, tt))
    fresh_checked u v (terms.susp q x) e = tt
    fresh_checked u v terms.unit e = tt
    fresh_checked u v (terms.pair w z) e = tt
    fresh_checked u v (terms.app f w) e = tt
    fresh_checked u v (terms.abs b w) e = tt

    pub both_checked : (f h : NominalGoal) (r : State) (d : NominalDerivation) → Of f r d → (q : State) (e : NominalDerivation) → CheckedFrom kinds n h r depth q e → Of (both f h) q (nodes.both d e)
    both_checked f h r d i q e j = record {
      from = both_found p kinds n s depth f h r d i.from q e j.from;
      plain = λ z. ap₂ nodes.both (i.plain z) (j.plain z);
      checks = λ a t w k.
          let later = j.checks a t w (λ x m. k x (vars_of_both p kinds n s depth x d e ∙ or_if_right (has_var x (vars_in_nodes d)) (has_var x (vars_in_nodes e)) m)) in
          let first = i.checks a t later.0 (λ x m.
          let v = i.from.known x m in
          subst (λ o. has_kind cs (type_beside a.vars) o (t x) ≡ true) (j.from.kept x.num (types.var v.0) v.1 ∙ sym v.1)
          (k x (vars_of_both p kinds n s depth x d e ∙ or_if_left (has_var x (vars_in_nodes d)) (has_var x (vars_in_nodes e)) m))) in
          (first.0, λ m. ap (λ o. first_refusal o (refusal p a kinds (suc m + node_count (map_terms (applied t) d)) (map_terms (applied t) e) h (open_shifted n t))) (first.1 (suc m)) ∙ later.1 (suc m + node_count (map_terms (applied t) d)));
    }

    pub left_checked : (f h : NominalGoal) (r : State) (d : NominalDerivation) → Of f r d → Of (either f h) r (nodes.left d)
    left_checked f h r d i = record {
      from = left_found p kinds n s depth f h r d i.from;
      plain = λ q. ap nodes.left (i.plain q);
      checks = λ a t w k. let l = i.checks a t w k in (l.0, λ m. l.1 (suc m));
    }

    pub right_checked : (f h : NominalGoal) (r : State) (d : NominalDerivation) → Of h r d → Of (either f h) r (nodes.right d)
    right_checked f h r d i = record {
      from = right_found p kinds n s depth f h r d i.from;
      plain = λ q. ap nodes.right (i.plain q);
      checks = λ a t w k. let l = i.checks a t w k in (l.0, λ m. l.1 (suc m));
    }

    pub exists_checked : KindsAt n kinds s.kinds → (x : Var) (f : NominalGoal) → IsVariable kinds x → (r : State) (d : NominalDerivation) → Of f r d
        → Of (exists x f) r (nodes.exists (terms.susp [] (rename_var n x)) d)
    exists_checked there x f v r d i =
        let y = rename_var n x in
        let kept : kind_at r.kinds (n + x.num) ≡ Some (types.var v.0) = i.from.kept (n + x.num) (types.var v.0) (there x.num (types.var v.0) v.1) in
        record {
          from = exists_found p kinds n s depth there x f v r d i.from;
          plain = λ q. ap₂ nodes.exists (act_term_none (closed_term q (terms.susp [] y))) (i.plain q);
          checks = λ a t w k.
              let l = i.checks a t w (λ z m. k z (or_if_right (var_eq z y) (has_var z (vars_in_nodes d)) m)) in
              let own = act_term_none (t y) in
              let typed : has_kind cs (type_beside a.vars) (kind_at kinds x.num) (applied t (terms.susp [] y)) ≡ true =
              ap₂ (has_kind cs (type_beside a.vars)) (v.1 ∙ sym kept) own ∙ k y (or_if_left (var_eq y y) (has_var y (vars_in_nodes d)) (same_var y y refl)) in (
                l.0,
                λ m.
                    test_passes (has_kind cs (type_beside a.vars) (kind_at kinds x.num) (applied t (terms.susp [] y))) (refusal_of_rule m 5) _ typed
                    (ap (refusal p a kinds (suc m) (map_terms (applied t) d) f) (with_open_own_term n t x (applied t (terms.susp [] y)) own) ∙ l.1 (suc m)),
              );
        }

    pub new_checked : (b : Name) (f : NominalGoal) (conds : List Cond) → reduce_all s.bindings (fresh_for_each (rename_name n b) (free_vars (rename_goal n f))) ≡ Some conds
        → (r : State) (d : NominalDerivation) → CheckedFrom kinds n f (record s { conditions = add_conds conds s.conditions }) depth r d
        → Of (new b f) r (nodes.new (rename_name n b) d)
    new_checked b f conds e r d i = record {
      from = new_found p kinds n s depth b f conds e r d i.from;
      plain = λ q. ap (nodes.new (rename_name n b)) (i.plain q);
      checks = λ a t w k.
          let l = i.checks a t w k in
          let back = open_add_back a.conds t s conds l.0 in
          let apart : list_all (λ c. not (name_eq (rename_name n c) (rename_name n b))) (free_names (new b f)) ≡ true =
          each_free_name (λ c. not (name_eq (rename_name n c) (rename_name n b))) (free_names (new b f))
          (λ c m. ap not (false_if_not (name_eq (rename_name n c) (rename_name n b))
          (λ same. (has_without b c (free_names f) m).1 (rename_apart n c b (name_eq_same (rename_name n c) (rename_name n b) same))))) in
          let fresh_each : list_all (λ x. fresh_under a.conds (rename_name n b) (t (rename_var n x))) (free_vars f) ≡ true =
          each_free_var (λ x. fresh_under a.conds (rename_name n b) (t (rename_var n x))) (free_vars f)
          (λ x m. Fresh_fresh_under a.conds (rename_name n b) (t (rename_var n x))
          (open_reduce_all_back a.conds t s.bindings (rename_name n b) back.0.agreeing (free_vars (rename_goal n f)) (subst (MeetsSome (listed_context a.conds) t) (sym e) back.1) (rename_var n x)
          (ap (has_var (rename_var n x)) (free_vars_renamed n f) ∙ has_renamed n x (free_vars f) ∙ m))) in
          let sorts = same_number b.sort b.sort refl in (
            back.0,
            λ m.
                test_passes (b.sort == b.sort) (refusal_of_rule m 5) _ sorts
                (test_passes (is_new a.conds (rename_name n b) (new b f) (open_shifted n t)) (refusal_of_rule m 9) _ (and_both _ _ apart fresh_each)
                (ap (refusal p a kinds (suc m) (map_terms (applied t) d) f) (with_open_own_name n t b) ∙ l.1 (suc m))),
          );
    }
