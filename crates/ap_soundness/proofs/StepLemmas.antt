-- One step back: what solves the state that a goal found solves the state before, and the goal's node is valid.
use Rattle.std.proofs.Common.{subst, ◌≡◌, ◌+◌, ◌≤◌, ℕ, true, ◌||◌, List, [], ◌∷◌, refl, sym, ap, ap₂, ◌∙◌, inl, inr, arith, true≢false}
use Rattle.std.specs.Prelude.{Some}
use Rattle.ap_defs.specs.Alpha.{alpha}
use Rattle.ap_defs.specs.Alpha as ground
use Rattle.ap_defs.specs.Answers.{kind_at}
use Rattle.ap_defs.specs.Derivations as nodes
use Rattle.ap_defs.specs.Derivations.{NominalDerivation, height, map_terms, terms_in}
use Rattle.ap_defs.specs.Freshness.{add_conds, reduce, var_eq}
use Rattle.ap_defs.specs.Goals.{NominalGoal, succeed, equal, fresh, both, either, exists, new, NominalProgram}
use Rattle.ap_defs.specs.GroundProofs.{HasTypeOf, IsFresh, IsNew, IsValid, instance}
use Rattle.ap_defs.specs.Groundings.{Grounding, grounded}
use Rattle.ap_defs.specs.Occurrences.{free_names, free_vars, vars_of_terms}
use Rattle.ap_defs.specs.Renaming.{rename_goal, rename_name, rename_term, rename_var}
use Rattle.ap_defs.specs.Resolution.{State, fresh_for_each, just_found, test_fresh}
use Rattle.ap_defs.specs.Substitution.{under}
use Rattle.ap_defs.specs.Terms as terms
use Rattle.ap_defs.specs.Terms.{NominalTerm}
use Rattle.ap_defs.specs.Types as types
use Rattle.ap_defs.specs.Types.{NominalConstructor, NominalKind}
use Rattle.ap_defs.specs.Unification.{Unified, has_var, reduce_all, unify}
use Rattle.ap_defs.specs.declared.terms.Cond.{Cond}
use Rattle.ap_defs.specs.declared.terms.Name.{Name}
use Rattle.ap_defs.specs.declared.terms.Var.{Var}
use Rattle.ap_program.specs.Typed.{AreInhabited}
use Rattle.ap_search.proofs.RecordLemmas.{has_var-append, vars_of_terms-append}
use Rattle.ap_theory.specs.StatementsOnGroundings.{meets_some}
use Rattle.ap_theory.proofs.TermLemmas.{same_var, var_same}
use Rattle.ap_theory.proofs.BooleanLemmas.{and_left, or_cases, or_if_left, or_if_right}
use Rattle.ap_theory.proofs.GroundLemmas.{act_ground_none}
use Rattle.ap_ground.specs.TypedGroundings.{GivesKinds}
use Rattle.ap_soundness.specs.FoundStates.{EachFound, Solves}
use Rattle.ap_soundness.proofs.BackwardLemmas.{add_back, reduce_all_back, reduce_back, under_name, unify_back}
use Rattle.ap_soundness.proofs.EachFoundLemmas.{Property, each_reduced}
use Rattle.ap_ground.proofs.OccurrenceLemmas.{IsVariable, has_without}
use Rattle.ap_ground.proofs.ShiftLemmas.{free_vars_renamed, has_renamed, rename_apart, shifted, shifted_instance, with_own_name, with_own_term}

-- each number keeps its kind, n higher
abbrev pub KindsAt : ℕ → List NominalKind → List NominalKind → Type 0
KindsAt n kinds more = (i : ℕ) (k : NominalKind) → kind_at kinds i ≡ Some k → kind_at more (n + i) ≡ Some k

abbrev pub KindsKept : List NominalKind → List NominalKind → Type 0
KindsKept kinds more = (i : ℕ) (k : NominalKind) → kind_at kinds i ≡ Some k → kind_at more i ≡ Some k

-- the variables of a derivation
abbrev pub vars_in_nodes : NominalDerivation → List Var
vars_in_nodes d = vars_of_terms (terms_in d)

-- a ground term for each variable
abbrev pub ground_proof : Grounding → NominalDerivation → nodes.GroundProof
ground_proof g d = map_terms (grounded g) d

module _ (p : NominalProgram) where
  abbrev pub cs : List NominalConstructor
  cs = p.signature.constructors

  -- a state that was found from another one, and its derivation of a goal whose identifiers have the kinds and are numbered from n on
  pub record FoundFrom (kinds : List NominalKind) (n : ℕ) (goal : NominalGoal) (s : State) (depth : ℕ) (r : State) (d : NominalDerivation) : Type 0 where
    pub kept : KindsKept s.kinds r.kinds
    pub inhabited : AreInhabited cs s.kinds → AreInhabited cs r.kinds
    pub known : (x : Var) → has_var x (vars_in_nodes d) ≡ true → IsVariable r.kinds x
    pub low : height d ≤ depth
    pub valid : (g : Grounding) → Solves g r → GivesKinds cs r.kinds (vars_in_nodes d) g → Solves g s × IsValid p kinds (ground_proof g d) goal (shifted n g)

  nothing_known : (kinds : List NominalKind) (x : Var) → has_var x [] ≡ true → IsVariable kinds x
  nothing_known kinds x h = absurd (true≢false (sym h))

  -- One goal.
  module _ (kinds : List NominalKind) (n : ℕ) (s : State) (depth : ℕ) where
    abbrev Of : NominalGoal → Property
    Of goal = FoundFrom kinds n goal s depth

    pub succeed_found : Of succeed s nodes.succeed
    succeed_found = record { kept = λ i k e. e; inhabited = λ h. h; known = nothing_known s.kinds; low = omega arith; valid = λ g h k. (h, tt) }

    pub equal_found : (t u : NominalTerm) (r : Unified) → unify s.bindings s.conditions (rename_term n t ∷ []) (rename_term n u ∷ []) ≡ Some r
        → Of (equal t u) (record s { bindings = r.bindings; conditions = r.conditions }) nodes.equal
    equal_found t u r e = record {
      kept = λ i k j. j;
      inhabited = λ h. h;
      known = nothing_known s.kinds;
      low = omega arith;
      valid = λ g h k.
          let b = unify_back g s (rename_term n t ∷ []) (rename_term n u ∷ []) r e h.agreeing h.meeting in
          (b.0, ap₂ alpha (shifted_instance n g t) (shifted_instance n g u) ∙ and_left (alpha (grounded g (rename_term n t)) (grounded g (rename_term n u))) true b.1);
    }

    pub reduced_found : (t u : NominalTerm) (a : Name) → under s.bindings (rename_term n t) ≡ terms.name a → (conds : List Cond) → reduce a (under s.bindings (rename_term n u)) ≡ Some conds
        → Of (fresh t u) (record s { conditions = add_conds conds s.conditions }) nodes.fresh
    reduced_found t u a e conds i = record {
      kept = λ m k j. j;
      inhabited = λ h. h;
      known = nothing_known s.kinds;
      low = omega arith;
      valid = λ g h k.
          let b = add_back g s conds h in
          let left : instance (shifted n g) t ≡ terms.name a = shifted_instance n g t ∙ under_name g s.bindings (rename_term n t) a b.0.agreeing e in
          let right : ground.fresh a (instance (shifted n g) u) ≡ true =
          ap (ground.fresh a) (shifted_instance n g u) ∙ reduce_back g s.bindings a (rename_term n u) b.0.agreeing (ap (meets_some g) i ∙ b.1) in
          (b.0, subst (λ z. IsFresh z (instance (shifted n g) u)) (sym left) right);
    }

    pub fresh_found : (t u v : NominalTerm) → under s.bindings (rename_term n t) ≡ v → EachFound (Of (fresh t u)) (test_fresh s v (rename_term n u))
    fresh_found t u (terms.name a) e =
        each_reduced (Of (fresh t u)) (just_found nodes.fresh) s (reduce a (under s.bindings (rename_term n u))) (λ conds i. (reduced_found t u a e conds i, tt))
    fresh_found t u (terms.susp q x) e = tt
    fresh_found t u terms.unit e = tt
    fresh_found t u (terms.pair v w) e = tt
    fresh_found t u (terms.app f v) e = tt
    fresh_found t u (terms.abs a v) e = tt

    pub vars_of_both : (x : Var) (d e : NominalDerivation) → has_var x (vars_in_nodes (nodes.both d e)) ≡ (has_var x (vars_in_nodes d) || has_var x (vars_in_nodes e))
    vars_of_both x d e = ap (has_var x) (vars_of_terms-append (terms_in d) (terms_in e)) ∙ has_var-append x (vars_in_nodes d) (vars_in_nodes e)

    pub both_found : (f h : NominalGoal) (r : State) (d : NominalDerivation) → Of f r d → (q : State) (e : NominalDerivation) → FoundFrom kinds n h r depth q e → Of (both f h) q (nodes.both d e)
    both_found f h r d i q e j = record {
      kept = λ m k l. j.kept m k (i.kept m k l);
      inhabited = λ w. j.inhabited (i.inhabited w);
      known = λ x m. elim (or_cases (has_var x (vars_in_nodes d)) (has_var x (vars_in_nodes e)) (sym (vars_of_both x d e) ∙ m)) [
        | inl l ↦ let v = i.known x l in (v.0, j.kept x.num (types.var v.0) v.1)
        | inr l ↦ j.known x l
      ];
      low = let l = i.low in let m = j.low in omega arith;
      valid = λ g w k.
          let later = j.valid g w (λ x m. k x (vars_of_both x d e ∙ or_if_right (has_var x (vars_in_nodes d)) (has_var x (vars_in_nodes e)) m)) in
          let first = i.valid g later.0 (λ x m.
          let v = i.known x m in
          subst (λ o. HasTypeOf cs o (g x)) (j.kept x.num (types.var v.0) v.1 ∙ sym v.1)
          (k x (vars_of_both x d e ∙ or_if_left (has_var x (vars_in_nodes d)) (has_var x (vars_in_nodes e)) m))) in
          (first.0, (first.1, later.1));
    }

    pub left_found : (f h : NominalGoal) (r : State) (d : NominalDerivation) → Of f r d → Of (either f h) r (nodes.left d)
    left_found f h r d i = record { kept = i.kept; inhabited = i.inhabited; known = i.known; low = i.low; valid = i.valid }

    pub right_found : (f h : NominalGoal) (r : State) (d : NominalDerivation) → Of h r d → Of (either f h) r (nodes.right d)
    right_found f h r d i = record { kept = i.kept; inhabited = i.inhabited; known = i.known; low = i.low; valid = i.valid }

    pub exists_found : KindsAt n kinds s.kinds → (x : Var) (f : NominalGoal) → IsVariable kinds x → (r : State) (d : NominalDerivation) → Of f r d
        → Of (exists x f) r (nodes.exists (terms.susp [] (rename_var n x)) d)
    exists_found at x f v r d i =
        let y = rename_var n x in
        let there : kind_at r.kinds (n + x.num) ≡ Some (types.var v.0) = i.kept (n + x.num) (types.var v.0) (at x.num (types.var v.0) v.1) in
        record {
          kept = i.kept;
          inhabited = i.inhabited;
          known = λ z m. elim (or_cases (var_eq z y) (has_var z (vars_in_nodes d)) m) [
            | inl e ↦ (v.0, ap (λ (w : Var). kind_at r.kinds w.num) (var_same z y e) ∙ there)
            | inr l ↦ i.known z l
          ];
          low = i.low;
          valid = λ g w k.
              let q = i.valid g w (λ z m. k z (or_if_right (var_eq z y) (has_var z (vars_in_nodes d)) m)) in
              let own = act_ground_none (g y) in
              let typed = subst (λ o. HasTypeOf cs o (g y)) (there ∙ sym v.1) (k y (or_if_left (var_eq y y) (has_var y (vars_in_nodes d)) (same_var y y refl))) in (
                q.0,
                (
                  subst (HasTypeOf cs (kind_at kinds x.num)) (sym own) typed,
                  subst (λ e. IsValid p kinds (ground_proof g d) f e) (sym (with_own_term n g x (grounded g (terms.susp [] y)) own)) q.1,
                ),
              );
        }

    pub new_found : (a : Name) (f : NominalGoal) (conds : List Cond) → reduce_all s.bindings (fresh_for_each (rename_name n a) (free_vars (rename_goal n f))) ≡ Some conds
        → (r : State) (d : NominalDerivation) → FoundFrom kinds n f (record s { conditions = add_conds conds s.conditions }) depth r d
        → Of (new a f) r (nodes.new (rename_name n a) d)
    new_found a f conds e r d i = record {
      kept = i.kept;
      inhabited = i.inhabited;
      known = i.known;
      low = i.low;
      valid = λ g w k.
          let q = i.valid g w k in
          let b = add_back g s conds q.0 in
          let is_new : IsNew (rename_name n a) (new a f) (shifted n g) = record {
            apart = λ c m same. (has_without a c (free_names f) m).1 (rename_apart n c a same);
            fresh_for = λ x m. reduce_all_back g s.bindings (rename_name n a) b.0.agreeing (free_vars (rename_goal n f)) (ap (meets_some g) e ∙ b.1) (rename_var n x)
                (ap (has_var (rename_var n x)) (free_vars_renamed n f) ∙ has_renamed n x (free_vars f) ∙ m);
          } in
          (b.0, (refl, is_new, subst (λ v. IsValid p kinds (ground_proof g d) f v) (sym (with_own_name n g a)) q.1));
    }
