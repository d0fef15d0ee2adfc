-- Instances of a term under environments that agree.
use Rattle.std.proofs.Common.{◌≡◌, true, List, [], ◌∷◌, ◌++◌, map, refl, sym, ap, ap₂, ◌∙◌}
use Rattle.std.specs.Prelude.{◌==◌}
use Rattle.ap_defs.specs.Alpha.{alpha}
use Rattle.ap_defs.specs.Freshness.{var_eq}
use Rattle.ap_defs.specs.GroundProofs.{AlphaEach, Environment, instance, swap_under}
use Rattle.ap_defs.specs.Occurrences.{names_of_terms, names_then, vars_of_terms}
use Rattle.ap_defs.specs.Permutations.{has_name, left_name, name_eq, names_of, right_name}
use Rattle.ap_defs.specs.Terms.{GroundTerm, NominalTerm, abs, act_ground, app, name, pair, susp, unit}
use Rattle.ap_defs.specs.Unification.{has_var, vars_then}
use Rattle.ap_defs.specs.declared.terms.Name.{Name}
use Rattle.ap_defs.specs.declared.terms.Swap.{Swap}
use Rattle.ap_defs.specs.declared.terms.Var.{Var}
use Rattle.ap_theory.proofs.BooleanLemmas.{and_both, or_if_left, or_if_right}
use Rattle.ap_theory.proofs.DisagreementLemmas.{has_front}
use Rattle.ap_theory.proofs.GroundLemmas.{alpha_act, alpha_sym, alpha_trans}
use Rattle.ap_theory.proofs.PermutationLemmas.{name_eq_itself}
use Rattle.ap_theory.proofs.TermLemmas.{same_number, same_var}
use Rattle.ap_ground.specs.Environments.{SameNames, SameTermsFor}

-- equal names, and what is equal below, make equal terms
pub alpha_name : (a b : Name) → a ≡ b → alpha (name a) (name b) ≡ true
alpha_name a b h = ap (name_eq a) (sym h) ∙ name_eq_itself a

pub alpha_abs : (a b : Name) (t u : GroundTerm) → a ≡ b → alpha t u ≡ true → alpha (abs a t) (abs b u) ≡ true
alpha_abs a b t u h k = rw (alpha_name a b h) k

module _ (e f : Environment) where
  pub names_first : (a : Name) (as' : List Name) → SameNames e f (a ∷ as') → e.names a ≡ f.names a
  names_first a as' h = h a (has_front a as')

  pub names_rest : (a : Name) (as' : List Name) → SameNames e f (a ∷ as') → SameNames e f as'
  names_rest a as' h b k = h b (or_if_right (name_eq b a) (has_name b as') k)

  pub terms_first : (x : Var) (xs : List Var) → SameTermsFor e f (x ∷ xs) → alpha (e.terms x) (f.terms x) ≡ true
  terms_first x xs h = h x (or_if_left (var_eq x x) (has_var x xs) (same_var x x refl))

  pub terms_rest : (x : Var) (xs : List Var) → SameTermsFor e f (x ∷ xs) → SameTermsFor e f xs
  terms_rest x xs h y k = h y (or_if_right (var_eq y x) (has_var y xs) k)

  swaps_agree : (p : List Swap) (as' : List Name) → SameNames e f (names_of p ++ as') → (map (swap_under e) p ≡ map (swap_under f) p) × SameNames e f as'
  swaps_agree [] as' h = (refl, h)
  swaps_agree (s ∷ p) as' h =
      let later = names_rest (left_name s) (right_name s ∷ names_of p ++ as') h in
      let k = swaps_agree p as' (names_rest (right_name s) (names_of p ++ as') later) in
      let one : swap_under e s ≡ swap_under f s =
      ap₂ (λ (a b : Name). record { sort = s.sort; left = a.num; right = b.num })
      (names_first (left_name s) (right_name s ∷ names_of p ++ as') h) (names_first (right_name s) (names_of p ++ as') later) in
      (ap₂ ◌∷◌ one k.0, k.1)

  -- What a term sees of an environment, and what is left for the terms after it.
  pub instance_agrees_then : (t : NominalTerm) (as' : List Name) (xs : List Var) → SameNames e f (names_then t as') → SameTermsFor e f (vars_then t xs)
      → (alpha (instance e t) (instance f t) ≡ true) × SameNames e f as' × SameTermsFor e f xs
  instance_agrees_then unit as' xs h k = (refl, h, k)
  instance_agrees_then (name a) as' xs h k = (alpha_name (e.names a) (f.names a) (names_first a as' h), names_rest a as' h, k)
  instance_agrees_then (pair t u) as' xs h k =
      let l = instance_agrees_then t (names_then u as') (vars_then u xs) h k in
      let r = instance_agrees_then u as' xs l.1 l.2 in
      (and_both (alpha (instance e t) (instance f t)) (alpha (instance e u) (instance f u)) l.0 r.0, r.1, r.2)
  instance_agrees_then (app g t) as' xs h k =
      let l = instance_agrees_then t as' xs h k in
      (and_both (g == g) (alpha (instance e t) (instance f t)) (same_number g g refl) l.0, l.1, l.2)
  instance_agrees_then (abs a t) as' xs h k =
      let l = instance_agrees_then t as' xs (names_rest a (names_then t as') h) k in
      (alpha_abs (e.names a) (f.names a) (instance e t) (instance f t) (names_first a (names_then t as') h) l.0, l.1, l.2)
  instance_agrees_then (susp p x) as' xs h k =
      let l = swaps_agree p as' h in
      let same : alpha (act_ground (map (swap_under e) p) (e.terms x)) (act_ground (map (swap_under e) p) (f.terms x)) ≡ true =
      alpha_act (map (swap_under e) p) (e.terms x) (f.terms x) ∙ terms_first x xs k in
      (ap (λ q. alpha (instance e (susp p x)) (act_ground q (f.terms x))) (sym l.0) ∙ same, l.1, terms_rest x xs k)

  -- terms one by one
  pub instances_agree : (ts : List NominalTerm) (us : List GroundTerm) → SameNames e f (names_of_terms ts) → SameTermsFor e f (vars_of_terms ts)
      → AlphaEach (map (instance e) ts) us → AlphaEach (map (instance f) ts) us
  instances_agree [] [] h k l = tt
  instances_agree (t ∷ ts) (u ∷ us) h k l =
      let here = instance_agrees_then t (names_of_terms ts) (vars_of_terms ts) h k in
      (alpha_trans (instance f t) (instance e t) u (alpha_sym (instance e t) (instance f t) here.0) l.0, instances_agree ts us here.1 here.2 l.1)
  instances_agree _ _ h k l = absurd l

pub instance_agrees : (t : NominalTerm) (e f : Environment) → SameNames e f (names_then t []) → SameTermsFor e f (vars_then t [])
    → alpha (instance e t) (instance f t) ≡ true
instance_agrees t e f h k = (instance_agrees_then e f t [] [] h k).0
