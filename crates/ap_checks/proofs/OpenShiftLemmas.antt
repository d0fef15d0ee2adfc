-- A goal whose identifiers are numbered from n on, under a substitution.
use Rattle.std.proofs.Common.{◌≡◌, ℕ, true, false, not, List, [], ◌∷◌, map, length, refl, sym, ap, ap₂, ◌∙◌, inl, inr, true≢false}
use Rattle.std.specs.Prelude.{if◌then◌else◌, ◌==◌}
use Rattle.std.proofs.lemmas.List.{length-map}
use Rattle.ap_defs.specs.declared.terms.Name.{Name}
use Rattle.ap_defs.specs.declared.terms.Var.{Var}
use Rattle.ap_defs.specs.Answers.{kind_at}
use Rattle.ap_defs.specs.Freshness.{var_eq}
use Rattle.ap_defs.specs.Goals.{NominalClause, NominalGoal, NominalProgram, atom}
use Rattle.ap_defs.specs.GroundProofs.{AreDifferent, AreOfSorts, name_for}
use Rattle.ap_defs.specs.Occurrences.{free_names, free_vars}
use Rattle.ap_defs.specs.Permutations.{has_name}
use Rattle.ap_defs.specs.Renaming.{local_names, local_vars, rename_name, rename_term, rename_var}
use Rattle.ap_defs.specs.Terms as terms
use Rattle.ap_defs.specs.Terms.{NominalTerm, susp}
use Rattle.ap_defs.specs.Types.{NominalConstructor, NominalKind, NominalLocal}
use Rattle.ap_defs.specs.Typing.{VarTypes}
use Rattle.ap_defs.specs.Unification.{has_var}
use Rattle.ap_program.specs.Typed.{IsTypedClause, term_form}
use Rattle.ap_theory.specs.Substitutions.{Substitution, applied}
use Rattle.ap_theory.proofs.BooleanLemmas.{and_both, or_cases, or_if_left, or_if_right}
use Rattle.ap_theory.proofs.TermLemmas.{act_term_none, same_number, same_var, var_same}
use Rattle.ap_ground.proofs.ItemEnvironmentLemmas.{beside_name, goal_vars_local, locals_differ, names_from, sorts_renamed, vars_from}
use Rattle.ap_ground.proofs.ScopeLemmas.{arguments_local, goal_local}
use Rattle.ap_ground.proofs.ShiftLemmas.{shifted_name}
use Rattle.ap_checks.specs.Checks.{are_different, have_counts}
use Rattle.ap_checks.specs.OpenEnvironments.{OpenEnvironment, open_environment, open_term_for, put_in, with_open_name, with_open_term}
use Rattle.ap_checks.specs.TypeTests.{has_kind, have_kinds, have_sorts}
use Rattle.ap_checks.proofs.OpenLemmas.{AgreeOpen}

-- a name is the one with the higher number, and a variable has what that one has
abbrev pub open_shifted : ℕ → Substitution → OpenEnvironment
open_shifted n t = record { names = rename_name n; terms = λ x. t (rename_var n x) }

pub put_shifted : (n : ℕ) (t : Substitution) (u : NominalTerm) → put_in (open_shifted n t) u ≡ applied t (rename_term n u)
put_shifted n t terms.unit = refl
put_shifted n t (terms.name a) = refl
put_shifted n t (terms.pair u v) = ap₂ terms.pair (put_shifted n t u) (put_shifted n t v)
put_shifted n t (terms.app f u) = ap (terms.app f) (put_shifted n t u)
put_shifted n t (terms.abs a u) = ap (terms.abs (rename_name n a)) (put_shifted n t u)
put_shifted n t (terms.susp p x) = refl

-- What `new` and `exists` bring stands for itself.
pub with_open_own_name : (n : ℕ) (t : Substitution) (a : Name) → with_open_name (open_shifted n t) a (rename_name n a) ≡ open_shifted n t
with_open_own_name n t a = λ i. record { names = λ b. shifted_name n a b i; terms = λ x. t (rename_var n x) }

shifted_open_term : (n : ℕ) (t : Substitution) (x y : Var) (u : NominalTerm) → u ≡ t (rename_var n x) → (if var_eq x y then u else t (rename_var n y)) ≡ t (rename_var n y)
shifted_open_term n t x y u h =
    elim (var_eq x y) as (λ v. var_eq x y ≡ v → (if v then u else t (rename_var n y)) ≡ t (rename_var n y)) [
      | true ↦ λ e. h ∙ ap (λ z. t (rename_var n z)) (var_same x y e)
      | false ↦ λ e. refl
    ] refl

pub with_open_own_term : (n : ℕ) (t : Substitution) (x : Var) (u : NominalTerm) → u ≡ t (rename_var n x) → with_open_term (open_shifted n t) x u ≡ open_shifted n t
with_open_own_term n t x u h = λ i. record { names = rename_name n; terms = λ y. shifted_open_term n t x y u h i }

-- The environment of an item.
beside_open_var : (f : Var → NominalTerm) (xs : List Var) (y : Var) → has_var y xs ≡ true → open_term_for xs (map f xs) y ≡ f y
beside_open_var f [] y h = absurd (true≢false (sym h))
beside_open_var f (x ∷ xs) y h =
    elim (var_eq x y) as (λ v. var_eq x y ≡ v → (if v then f x else open_term_for xs (map f xs) y) ≡ f y) [
      | true ↦ λ e. ap f (var_same x y e)
      | false ↦ λ e. elim (or_cases (var_eq y x) (has_var y xs) h) [
        | inl i ↦ absurd (true≢false (sym (same_var x y (sym (var_same y x i))) ∙ e))
        | inr i ↦ beside_open_var f xs y i
      ]
    ] refl

-- an item's environment in which what is free has higher numbers
abbrev pub open_item : ℕ → Substitution → List NominalLocal → OpenEnvironment
open_item n t locals = open_environment locals (local_names n locals) (map (λ x. t (rename_var n x)) (local_vars 0 locals))

pub open_item_agrees : (n : ℕ) (t : Substitution) (locals : List NominalLocal) (goal : NominalGoal)
    → ((b : Name) → has_name b (free_names goal) ≡ true → has_name b (local_names 0 locals) ≡ true)
    → ((x : Var) → has_var x (free_vars goal) ≡ true → has_var x (local_vars 0 locals) ≡ true)
    → AgreeOpen goal (open_shifted n t) (open_item n t locals)
open_item_agrees n t locals goal h k = record {
  names = λ b i. sym (ap (λ as'. name_for (local_names 0 locals) as' b) (names_from n locals) ∙ beside_name (rename_name n) (local_names 0 locals) b (h b i));
  terms = λ x i. sym (beside_open_var (λ y. t (rename_var n y)) (local_vars 0 locals) x (k x i));
}

-- A clause of a typed program whose identifiers are numbered from m on.
module _ (p : NominalProgram) (q : ℕ) (c : NominalClause) (typed : IsTypedClause term_form p.signature q c) (m : ℕ) (t : Substitution) where
  pub open_head_agrees : AgreeOpen (atom c.pred c.args) (open_shifted m t) (open_item m t c.locals)
  open_head_agrees =
      open_item_agrees m t c.locals (atom c.pred c.args) (arguments_local p.signature c.locals c.args c.body typed.3 c.pred typed.1.0)
      (goal_vars_local p.signature.constructors p.signature.predicates c.locals (atom c.pred c.args) typed.1.0 (λ i e. (typed.3.inside i e).0))

  pub open_body_agrees : AgreeOpen c.body (open_shifted m t) (open_item m t c.locals)
  open_body_agrees =
      open_item_agrees m t c.locals c.body (goal_local p.signature c.locals c.args c.body typed.3 typed.1.1)
      (goal_vars_local p.signature.constructors p.signature.predicates c.locals c.body typed.1.1 (λ i e. (typed.3.inside i e).1))

-- The names and terms of a clause's node.
applied_vars : (n : ℕ) (t : Substitution) (xs : List Var) → map (applied t) (map (susp []) (map (rename_var n) xs)) ≡ map (λ x. t (rename_var n x)) xs
applied_vars n t [] = refl
applied_vars n t (x ∷ xs) = ap₂ ◌∷◌ (act_term_none (t (rename_var n x))) (applied_vars n t xs)

pub open_node_terms : (n : ℕ) (t : Substitution) (locals : List NominalLocal) → map (applied t) (map (susp []) (local_vars n locals)) ≡ map (λ x. t (rename_var n x)) (local_vars 0 locals)
open_node_terms n t locals = ap (λ xs. map (applied t) (map (susp []) xs)) (vars_from n locals) ∙ applied_vars n t (local_vars 0 locals)

pub node_counts : (n : ℕ) (f : Var → NominalTerm) (locals : List NominalLocal) → have_counts locals (local_names n locals) (map f (local_vars 0 locals)) ≡ true
node_counts n f locals =
    and_both (length (local_names n locals) == length (local_names 0 locals)) (length (map f (local_vars 0 locals)) == length (local_vars 0 locals))
    (same_number (length (local_names n locals)) (length (local_names 0 locals)) (ap length (names_from n locals) ∙ length-map (local_names 0 locals) (rename_name n)))
    (same_number (length (map f (local_vars 0 locals))) (length (local_vars 0 locals)) (length-map (local_vars 0 locals) f))

different_tested : (as' : List Name) → AreDifferent as' → are_different as' ≡ true
different_tested [] h = refl
different_tested (a ∷ as') h = and_both (not (has_name a as')) (are_different as') (ap not h.0) (different_tested as' h.1)

pub node_different : (n : ℕ) (locals : List NominalLocal) → are_different (local_names n locals) ≡ true
node_different n locals = different_tested (local_names n locals) (locals_differ n locals)

sorts_tested : (as' cs : List Name) → AreOfSorts as' cs → have_sorts as' cs ≡ true
sorts_tested [] [] h = refl
sorts_tested (a ∷ as') (c ∷ cs) h = and_both (c.sort == a.sort) (have_sorts as' cs) (same_number c.sort a.sort h.0) (sorts_tested as' cs h.1)
sorts_tested _ _ h = absurd h

pub node_sorts : (n : ℕ) (locals : List NominalLocal) → have_sorts (local_names 0 locals) (local_names n locals) ≡ true
node_sorts n locals = ap (have_sorts (local_names 0 locals)) (names_from n locals) ∙ sorts_tested (local_names 0 locals) (map (rename_name n) (local_names 0 locals)) (sorts_renamed n (local_names 0 locals))

pub kinds_renamed : (cs : List NominalConstructor) (vars : VarTypes) (kinds : List NominalKind) (f : Var → NominalTerm) (xs : List Var)
    → ((x : Var) → has_var x xs ≡ true → has_kind cs vars (kind_at kinds x.num) (f x) ≡ true) → have_kinds cs vars kinds xs (map f xs) ≡ true
kinds_renamed cs vars kinds f [] h = refl
kinds_renamed cs vars kinds f (x ∷ xs) h =
    and_both (has_kind cs vars (kind_at kinds x.num) (f x)) (have_kinds cs vars kinds xs (map f xs))
    (h x (or_if_left (var_eq x x) (has_var x xs) (same_var x x refl))) (kinds_renamed cs vars kinds f xs (λ y k. h y (or_if_right (var_eq y x) (has_var y xs) k)))
