-- Whether a node is refused depends only on what the environment gives the names and variables that are free in its goal.
use Rattle.std.proofs.Common.{◌≡◌, true, false, Bool, ◌&&◌, List, [], ◌∷◌, ◌++◌, map, refl, sym, ap, ap₂, inl, inr}
use Rattle.std.specs.Prelude.{if◌then◌else◌, ◌==◌, ◌+◌, not, suc, ℕ, None}
use Rattle.std.specs.List.{list_all}
use Rattle.ap_defs.specs.declared.terms.Name.{Name}
use Rattle.ap_defs.specs.declared.terms.Swap.{Swap}
use Rattle.ap_defs.specs.declared.terms.Var.{Var}
use Rattle.ap_defs.specs.Answers.{NominalAnswer, kind_at}
use Rattle.ap_defs.specs.Derivations as nodes
use Rattle.ap_defs.specs.Derivations.{NominalDerivation}
use Rattle.ap_defs.specs.Freshness.{Conds, alpha_under, fresh_under, var_eq}
use Rattle.ap_defs.specs.Goals as goals
use Rattle.ap_defs.specs.Goals.{NominalGoal, NominalProgram, clauses_of}
use Rattle.ap_defs.specs.GroundProofs.{clause_at}
use Rattle.ap_defs.specs.Occurrences.{free_names, free_vars, names_of_terms, names_then, vars_of_terms}
use Rattle.ap_defs.specs.Permutations.{has_name, left_name, name_eq, names_of, right_name}
use Rattle.ap_defs.specs.Resolution.{kinds_of}
use Rattle.ap_defs.specs.Terms.{NominalTerm, abs, act_term, app, name, pair, susp, unit}
use Rattle.ap_defs.specs.Types.{NominalKind}
use Rattle.ap_defs.specs.Unification.{has_var, vars_then}
use Rattle.ap_theory.proofs.BooleanLemmas.{or_if_left, or_if_right}
use Rattle.ap_theory.proofs.DisagreementLemmas.{has_front}
use Rattle.ap_theory.proofs.PermutationLemmas.{has_without_name, name_tells}
use Rattle.ap_theory.proofs.TermLemmas.{same_var}
use Rattle.ap_ground.proofs.FreeIdentifierLemmas.{has_without_var, name_in_left, name_in_right, var_in_left, var_in_right}
use Rattle.ap_checks.specs.Checks.{refusal_of_rule, tests_by_clause, node_count, first_refusal, is_fresh, is_new, refusal, test, with_clause}
use Rattle.ap_checks.specs.OpenEnvironments.{OpenEnvironment, open_environment, put_in, swap_in, with_open_name, with_open_term}
use Rattle.ap_checks.specs.TypeTests.{has_kind, type_beside}

-- the same names for these names
abbrev SameNames : OpenEnvironment → OpenEnvironment → List Name → Type 0
SameNames e f as' = (b : Name) → has_name b as' ≡ true → e.names b ≡ f.names b

-- the same terms for these variables
abbrev SameTerms : OpenEnvironment → OpenEnvironment → List Var → Type 0
SameTerms e f xs = (x : Var) → has_var x xs ≡ true → e.terms x ≡ f.terms x

-- the environments give the same for what is free in the goal
pub record AgreeOpen (goal : NominalGoal) (e f : OpenEnvironment) : Type 0 where
  pub names : (b : Name) → has_name b (free_names goal) ≡ true → e.names b ≡ f.names b
  pub terms : (x : Var) → has_var x (free_vars goal) ≡ true → e.terms x ≡ f.terms x

list_all_same : {A : Type 0} (f g : A → Bool) (has : A → List A → Bool) → ((a : A) (as' : List A) → has a (a ∷ as') ≡ true) → ((a b : A) (as' : List A) → has a as' ≡ true → has a (b ∷ as') ≡ true)
    → (as' : List A) → ((a : A) → has a as' ≡ true → f a ≡ g a) → list_all f as' ≡ list_all g as'
list_all_same f g has front further [] h = refl
list_all_same f g has front further (a ∷ as') h = ap₂ ◌&&◌ (h a (front a as')) (list_all_same f g has front further as' (λ b k. h b (further b a as' k)))

var_front : (x : Var) (xs : List Var) → has_var x (x ∷ xs) ≡ true
var_front x xs = or_if_left (var_eq x x) (has_var x xs) (same_var x x refl)

module _ (e f : OpenEnvironment) where
  names_rest : (a : Name) (as' : List Name) → SameNames e f (a ∷ as') → SameNames e f as'
  names_rest a as' h b k = h b (or_if_right (name_eq b a) (has_name b as') k)

  terms_rest : (x : Var) (xs : List Var) → SameTerms e f (x ∷ xs) → SameTerms e f xs
  terms_rest x xs h y k = h y (or_if_right (var_eq y x) (has_var y xs) k)

  swaps_agree : (p : List Swap) (as' : List Name) → SameNames e f (names_of p ++ as') → (map (swap_in e) p ≡ map (swap_in f) p) × SameNames e f as'
  swaps_agree [] as' h = (refl, h)
  swaps_agree (s ∷ p) as' h =
      let later = names_rest (left_name s) (right_name s ∷ names_of p ++ as') h in
      let k = swaps_agree p as' (names_rest (right_name s) (names_of p ++ as') later) in
      let one : swap_in e s ≡ swap_in f s =
      ap₂ (λ (a b : Name). record { sort = s.sort; left = a.num; right = b.num })
      (h (left_name s) (has_front (left_name s) (right_name s ∷ names_of p ++ as'))) (later (right_name s) (has_front (right_name s) (names_of p ++ as'))) in
      (ap₂ ◌∷◌ one k.0, k.1)

  -- what a term sees of an environment, and what is left for the terms after it
  put_agrees : (t : NominalTerm) (as' : List Name) (xs : List Var) → SameNames e f (names_then t as') → SameTerms e f (vars_then t xs)
      → (put_in e t ≡ put_in f t) × SameNames e f as' × SameTerms e f xs
  put_agrees unit as' xs h k = (refl, h, k)
  put_agrees (name a) as' xs h k = (ap name (h a (has_front a as')), names_rest a as' h, k)
  put_agrees (pair t u) as' xs h k =
      let l = put_agrees t (names_then u as') (vars_then u xs) h k in
      let r = put_agrees u as' xs l.1 l.2 in
      (ap₂ pair l.0 r.0, r.1, r.2)
  put_agrees (app g t) as' xs h k = let l = put_agrees t as' xs h k in (ap (app g) l.0, l.1, l.2)
  put_agrees (abs a t) as' xs h k =
      let l = put_agrees t as' xs (names_rest a (names_then t as') h) k in
      (ap₂ abs (h a (has_front a (names_then t as'))) l.0, l.1, l.2)
  put_agrees (susp p x) as' xs h k =
      let l = swaps_agree p as' h in
      (ap₂ act_term l.0 (k x (var_front x xs)), l.1, terms_rest x xs k)

  pub puts_agree : (ts : List NominalTerm) → SameNames e f (names_of_terms ts) → SameTerms e f (vars_of_terms ts) → map (put_in e) ts ≡ map (put_in f) ts
  puts_agree [] h k = refl
  puts_agree (t ∷ ts) h k = let l = put_agrees t (names_of_terms ts) (vars_of_terms ts) h k in ap₂ ◌∷◌ l.0 (puts_agree ts l.1 l.2)

  two_agree : (t u : NominalTerm) → SameNames e f (names_then t (names_then u [])) → SameTerms e f (vars_then t (vars_then u []))
      → (put_in e t ≡ put_in f t) × (put_in e u ≡ put_in f u)
  two_agree t u h k =
      let l = put_agrees t (names_then u []) (vars_then u []) h k in
      (l.0, (put_agrees u [] [] l.1 l.2).0)

  -- Parts of a goal.
  abbrev Agree : NominalGoal → Type 0
  Agree goal = AgreeOpen goal e f

  agree_left : (g h : NominalGoal) → Agree (goals.both g h) → Agree g
  agree_left g h r = record { names = λ b k. r.names b (name_in_left b (free_names g) (free_names h) k); terms = λ x k. r.terms x (var_in_left x (free_vars g) (free_vars h) k) }

  agree_right : (g h : NominalGoal) → Agree (goals.both g h) → Agree h
  agree_right g h r = record { names = λ b k. r.names b (name_in_right b (free_names g) (free_names h) k); terms = λ x k. r.terms x (var_in_right x (free_vars g) (free_vars h) k) }

  agree_either : (g h : NominalGoal) → Agree (goals.either g h) → Agree (goals.both g h)
  agree_either g h r = record { names = r.names; terms = r.terms }

  agree_exists : (x : Var) (g : NominalGoal) (t : NominalTerm) → Agree (goals.exists x g) → AgreeOpen g (with_open_term e x t) (with_open_term f x t)
  agree_exists x g t r = record {
    names = r.names;
    terms = λ y k.
        elim (var_eq x y) as (λ v. var_eq x y ≡ v → (if v then t else e.terms y) ≡ (if v then t else f.terms y)) [
          | true ↦ λ i. refl
          | false ↦ λ i. r.terms y (has_without_var x y (free_vars g) i k)
        ] refl;
  }

  agree_new : (a : Name) (g : NominalGoal) (c : Name) → Agree (goals.new a g) → AgreeOpen g (with_open_name e a c) (with_open_name f a c)
  agree_new a g c r = record {
    terms = r.terms;
    names = λ b k.
        elim (name_tells a b) [
          | inl w ↦ rw w.0 refl
          | inr w ↦ rw w.0 (r.names b (has_without_name a b (free_names g) (λ i. w.1 (sym i)) k))
        ];
  }

  new_agrees : (ds : Conds) (c : Name) (g : NominalGoal) → Agree g → is_new ds c g e ≡ is_new ds c g f
  new_agrees ds c g r =
      ap₂ ◌&&◌
      (list_all_same (λ b. not (name_eq (e.names b) c)) (λ b. not (name_eq (f.names b) c)) has_name has_front (λ a b as' k. or_if_right (name_eq a b) (has_name a as') k) (free_names g)
      (λ b k. ap (λ z. not (name_eq z c)) (r.names b k)))
      (list_all_same (λ x. fresh_under ds c (e.terms x)) (λ x. fresh_under ds c (f.terms x)) has_var var_front (λ x y xs k. or_if_right (var_eq x y) (has_var x xs) k) (free_vars g)
      (λ x k. ap (fresh_under ds c) (r.terms x k)))

pub refusal_sees_free : (p : NominalProgram) (a : NominalAnswer) (kinds : List NominalKind) (n : ℕ) (d : NominalDerivation) (goal : NominalGoal) (e f : OpenEnvironment)
    → AgreeOpen goal e f → refusal p a kinds n d goal e ≡ refusal p a kinds n d goal f
refusal_sees_free p a kinds n (nodes.atom k names ts d) (goals.atom q us) e f r =
    ap (λ vs. with_clause n (clause_at (clauses_of p.clauses q) k)
    (λ c. tests_by_clause p a n names ts vs c (refusal p a (kinds_of c.locals) (suc n) d c.body (open_environment c.locals names ts))))
    (puts_agree e f us r.names r.terms)
refusal_sees_free p a kinds n nodes.equal (goals.equal t u) e f r =
    let k = two_agree e f t u r.names r.terms in
    ap₂ (λ v w. test (alpha_under a.conds v w) (refusal_of_rule n 7) None) k.0 k.1
refusal_sees_free p a kinds n nodes.fresh (goals.fresh t u) e f r =
    let k = two_agree e f t u r.names r.terms in
    ap₂ (λ v w. test (is_fresh a.conds v w) (refusal_of_rule n 8) None) k.0 k.1
refusal_sees_free p a kinds n nodes.succeed goals.succeed e f r = refl
refusal_sees_free p a kinds n (nodes.both d c) (goals.both g h) e f r =
    ap₂ first_refusal (refusal_sees_free p a kinds (suc n) d g e f (agree_left e f g h r)) (refusal_sees_free p a kinds (suc n + node_count d) c h e f (agree_right e f g h r))
refusal_sees_free p a kinds n (nodes.left d) (goals.either g h) e f r = refusal_sees_free p a kinds (suc n) d g e f (agree_left e f g h (agree_either e f g h r))
refusal_sees_free p a kinds n (nodes.right d) (goals.either g h) e f r = refusal_sees_free p a kinds (suc n) d h e f (agree_right e f g h (agree_either e f g h r))
refusal_sees_free p a kinds n (nodes.exists t d) (goals.exists x g) e f r =
    ap (test (has_kind p.signature.constructors (type_beside a.vars) (kind_at kinds x.num) t) (refusal_of_rule n 5))
    (refusal_sees_free p a kinds (suc n) d g (with_open_term e x t) (with_open_term f x t) (agree_exists e f x g t r))
refusal_sees_free p a kinds n (nodes.new c d) (goals.new b g) e f r =
    ap₂ (λ v w. test (c.sort == b.sort) (refusal_of_rule n 5) (test v (refusal_of_rule n 9) w))
    (new_agrees e f a.conds c (goals.new b g) r)
    (refusal_sees_free p a kinds (suc n) d g (with_open_name e b c) (with_open_name f b c) (agree_new e f b g c r))
refusal_sees_free p a kinds n _ _ e f r = refl
