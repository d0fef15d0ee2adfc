-- A ground proof sees an environment only on what is free in its goal.
use Rattle.std.proofs.Common.{◌≡◌, true, false, ◌||◌, List, [], ◌∷◌, ◌++◌, refl, sym, ap, ◌∙◌, inl, inr}
use Rattle.std.specs.Prelude.{if◌then◌else◌}
use Rattle.ap_defs.specs.Alpha.{alpha}
use Rattle.ap_defs.specs.Alpha as ground
use Rattle.ap_defs.specs.Derivations.{atom, equal, fresh, succeed, both, left, right, exists, new}
use Rattle.ap_defs.specs.Freshness.{var_eq}
use Rattle.ap_defs.specs.Goals as goals
use Rattle.ap_defs.specs.Goals.{NominalGoal}
use Rattle.ap_defs.specs.GroundProofs.{Environment, IsFresh, IsNew, instance, with_name, with_term}
use Rattle.ap_defs.specs.Occurrences.{free_names, free_vars, names_then, without_var}
use Rattle.ap_defs.specs.Permutations.{has_name}
use Rattle.ap_defs.specs.Terms as terms
use Rattle.ap_defs.specs.Terms.{GroundTerm, NominalTerm}
use Rattle.ap_defs.specs.Unification.{has_var, vars_then}
use Rattle.ap_defs.specs.declared.terms.Name.{Name}
use Rattle.ap_defs.specs.declared.terms.Var.{Var}
use Rattle.ap_theory.proofs.BooleanLemmas.{or_assoc, or_if_left, or_if_right, or_right}
use Rattle.ap_theory.proofs.DisagreementLemmas.{has_name-append}
use Rattle.ap_theory.proofs.GroundLemmas.{alpha_itself, alpha_sym, alpha_trans, fresh_alpha}
use Rattle.ap_theory.proofs.PermutationLemmas.{has_without_name, name_eq_same, name_tells}
use Rattle.ap_theory.proofs.TermLemmas.{var_eq_flip, var_same}
use Rattle.ap_ground.specs.Environments.{AgreeOn, SameNames, SameTermsFor}
use Rattle.ap_ground.specs.StatementsOnGroundProofs.{ProofsSeeFreeIdentifiers}
use Rattle.ap_ground.proofs.EnvironmentLemmas.{instance_agrees_then, instances_agree}

-- Lists of names and variables.
pub name_in_left : (b : Name) (as' bs : List Name) → has_name b as' ≡ true → has_name b (as' ++ bs) ≡ true
name_in_left b as' bs h = has_name-append b as' bs ∙ or_if_left (has_name b as') (has_name b bs) h

pub name_in_right : (b : Name) (as' bs : List Name) → has_name b bs ≡ true → has_name b (as' ++ bs) ≡ true
name_in_right b as' bs h = has_name-append b as' bs ∙ or_if_right (has_name b as') (has_name b bs) h

pub has_var-append : (x : Var) (xs ys : List Var) → has_var x (xs ++ ys) ≡ (has_var x xs || has_var x ys)
has_var-append x [] ys = refl
has_var-append x (y ∷ xs) ys = ap (λ b. var_eq x y || b) (has_var-append x xs ys) ∙ sym (or_assoc (var_eq x y) (has_var x xs) (has_var x ys))

pub var_in_left : (x : Var) (xs ys : List Var) → has_var x xs ≡ true → has_var x (xs ++ ys) ≡ true
var_in_left x xs ys h = has_var-append x xs ys ∙ or_if_left (has_var x xs) (has_var x ys) h

pub var_in_right : (x : Var) (xs ys : List Var) → has_var x ys ≡ true → has_var x (xs ++ ys) ≡ true
var_in_right x xs ys h = has_var-append x xs ys ∙ or_if_right (has_var x xs) (has_var x ys) h

pub has_without_var : (x y : Var) (ys : List Var) → var_eq x y ≡ false → has_var y ys ≡ true → has_var y (without_var x ys) ≡ true
has_without_var x y [] n h = h
has_without_var x y (z ∷ zs) n h =
    elim (var_eq x z) as (λ v. var_eq x z ≡ v → has_var y (if v then without_var x zs else (z ∷ without_var x zs)) ≡ true) [
      | true ↦ λ e. has_without_var x y zs n (or_right (var_eq y z) (has_var y zs) (ap (var_eq y) (sym (var_same x z e)) ∙ var_eq_flip y x ∙ n) h)
      | false ↦ λ e. elim (var_eq y z) as (λ v. (v || has_var y zs) ≡ true → (v || has_var y (without_var x zs)) ≡ true) [ true ↦ λ k. refl | false ↦ λ k. has_without_var x y zs n k ] h
    ] refl

-- Equal ground terms.
fresh_agrees : (t u v w : GroundTerm) → alpha t v ≡ true → alpha u w ≡ true → IsFresh t u → IsFresh v w
fresh_agrees (terms.name a) u (terms.name b) w h k l = ap (λ c. ground.fresh c w) (sym (name_eq_same a b h)) ∙ sym (fresh_alpha a u w k) ∙ l
fresh_agrees (terms.name a) u terms.unit w h k l = cc
fresh_agrees (terms.name a) u (terms.pair v z) w h k l = cc
fresh_agrees (terms.name a) u (terms.app f v) w h k l = cc
fresh_agrees (terms.name a) u (terms.abs b v) w h k l = cc
fresh_agrees _ u v w h k l = absurd l

module _ (e f : Environment) where
  -- Parts of a goal.
  abbrev Agree : NominalGoal → Type 0
  Agree g = AgreeOn g e f

  agree_left : (g h : NominalGoal) → Agree (goals.both g h) → Agree g
  agree_left g h r = record { names = λ b k. r.names b (name_in_left b (free_names g) (free_names h) k); terms = λ x k. r.terms x (var_in_left x (free_vars g) (free_vars h) k) }

  agree_right : (g h : NominalGoal) → Agree (goals.both g h) → Agree h
  agree_right g h r = record { names = λ b k. r.names b (name_in_right b (free_names g) (free_names h) k); terms = λ x k. r.terms x (var_in_right x (free_vars g) (free_vars h) k) }

  -- either has what is free in both
  agree_either : (g h : NominalGoal) → Agree (goals.either g h) → Agree (goals.both g h)
  agree_either g h r = record { names = r.names; terms = r.terms }

  pub agree_exists : (x : Var) (g : NominalGoal) (t : GroundTerm) → Agree (goals.exists x g) → AgreeOn g (with_term e x t) (with_term f x t)
  agree_exists x g t r = record {
    names = r.names;
    terms = λ y k.
        elim (var_eq x y) as (λ v. var_eq x y ≡ v → alpha (if v then t else e.terms y) (if v then t else f.terms y) ≡ true) [
          | true ↦ λ i. alpha_itself t
          | false ↦ λ i. r.terms y (has_without_var x y (free_vars g) i k)
        ] refl;
  }

  pub agree_new : (a : Name) (g : NominalGoal) (c : Name) → Agree (goals.new a g) → AgreeOn g (with_name e a c) (with_name f a c)
  agree_new a g c r = record {
    terms = r.terms;
    names = λ b k.
        elim (name_tells a b) [
          | inl w ↦ rw w.0 refl
          | inr w ↦ rw w.0 (r.names b (has_without_name a b (free_names g) (λ i. w.1 (sym i)) k))
        ];
  }

  new_agrees : (c : Name) (g : NominalGoal) → Agree g → IsNew c g e → IsNew c g f
  new_agrees c g r n = record {
    apart = λ b k i. n.apart b k (r.names b k ∙ i);
    fresh_for = λ x k. sym (fresh_alpha c (e.terms x) (f.terms x) (r.terms x k)) ∙ n.fresh_for x k;
  }

  -- the instances of two terms
  two_agree : (t u : NominalTerm) → SameNames e f (names_then t (names_then u [])) → SameTermsFor e f (vars_then t (vars_then u []))
      → (alpha (instance e t) (instance f t) ≡ true) × (alpha (instance e u) (instance f u) ≡ true)
  two_agree t u h k =
      let l = instance_agrees_then e f t (names_then u []) (vars_then u []) h k in
      (l.0, (instance_agrees_then e f u [] [] l.1 l.2).0)

pub proofs_see_free : ProofsSeeFreeIdentifiers
proofs_see_free p kinds (atom k as' gs d) (goals.atom q ts) e f v r = (v.0, v.1, v.2, instances_agree e f ts _ r.names r.terms v.3, v.4)
proofs_see_free p kinds equal (goals.equal t u) e f v r =
    let k = two_agree e f t u r.names r.terms in
    alpha_trans (instance f t) (instance e t) (instance f u) (alpha_sym (instance e t) (instance f t) k.0) (alpha_trans (instance e t) (instance e u) (instance f u) v k.1)
proofs_see_free p kinds fresh (goals.fresh t u) e f v r =
    let k = two_agree e f t u r.names r.terms in
    fresh_agrees (instance e t) (instance e u) (instance f t) (instance f u) k.0 k.1 v
proofs_see_free p kinds succeed goals.succeed e f v r = tt
proofs_see_free p kinds (both d c) (goals.both g h) e f v r =
    (proofs_see_free p kinds d g e f v.0 (agree_left e f g h r), proofs_see_free p kinds c h e f v.1 (agree_right e f g h r))
proofs_see_free p kinds (left d) (goals.either g h) e f v r = proofs_see_free p kinds d g e f v (agree_left e f g h (agree_either e f g h r))
proofs_see_free p kinds (right d) (goals.either g h) e f v r = proofs_see_free p kinds d h e f v (agree_right e f g h (agree_either e f g h r))
proofs_see_free p kinds (exists t d) (goals.exists x g) e f v r =
    (v.0, proofs_see_free p kinds d g (with_term e x t) (with_term f x t) v.1 (agree_exists e f x g t r))
proofs_see_free p kinds (new c d) (goals.new a g) e f v r =
    (v.0, new_agrees e f c (goals.new a g) r v.1, proofs_see_free p kinds d g (with_name e a c) (with_name f a c) v.2 (agree_new e f a g c r))
proofs_see_free p kinds _ _ e f v r = absurd v
