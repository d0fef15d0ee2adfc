-- The terms that are picked for typed variables.
use Rattle.std.proofs.Common.{◌≡◌, ◌≤◌, ◌∙◌, ℕ, zero, suc, true, false, not, List, [], ◌∷◌, ◌++◌, length, Some, refl, sym, ap, ap₂, subst, inl, inr, arith}
use Rattle.std.specs.Prelude.{if◌then◌else◌, slice_get}
use Rattle.ap_defs.specs.declared.terms.Name.{Name}
use Rattle.ap_defs.specs.declared.terms.Swap.{Swap}
use Rattle.ap_defs.specs.declared.terms.Var.{Var}
use Rattle.ap_defs.specs.Alpha.{fresh}
use Rattle.ap_defs.specs.Answers.{kind_at}
use Rattle.ap_defs.specs.Freshness.{var_eq}
use Rattle.ap_defs.specs.Permutations.{act_name, name_eq}
use Rattle.ap_defs.specs.Terms.{GroundTerm, abs, act_ground, app, name, pair, unit}
use Rattle.ap_defs.specs.Types as types
use Rattle.ap_defs.specs.Types.{NominalConstructor, NominalKind, NominalType}
use Rattle.ap_defs.specs.Typing.{IsOfType}
use Rattle.ap_defs.specs.Unification.{has_var}
use Rattle.ap_program.specs.RawTyping.{AreVarsOf, IsVarOf}
use Rattle.ap_theory.proofs.BooleanLemmas.{and_both, or_cases, or_if_right}
use Rattle.ap_theory.proofs.TermLemmas.{same_var, var_same}
use Rattle.ap_ground.specs.TypedGroundings.{GivesTypes, HaveInhabitants}
use Rattle.ap_ground.proofs.FillerLemmas.{gives_types, only_vars}
use Rattle.ap_picks.specs.Picks.{picked}
use Rattle.ap_picks.specs.StatementsOnPicks.{EachName, IsNewName}
use Rattle.ap_picks.proofs.PickLemmas.{each_name, picks_typed}
use Rattle.ap_property.specs.Stated.{given, picks_from}

-- Names of ground terms.
pub fresh_apart : (a : Name) (g : GroundTerm) → EachName (λ b. name_eq a b ≡ false) g → fresh a g ≡ true
fresh_apart a unit h = refl
fresh_apart a (name b) h = ap not h
fresh_apart a (pair t u) h = and_both (fresh a t) (fresh a u) (fresh_apart a t h.0) (fresh_apart a u h.1)
fresh_apart a (app f t) h = fresh_apart a t h
fresh_apart a (abs b t) h = or_if_right (name_eq a b) (fresh a t) (fresh_apart a t h.1)

pub act_apart : (p : List Swap) (g : GroundTerm) → EachName (λ b. act_name p b ≡ b) g → act_ground p g ≡ g
act_apart p unit h = refl
act_apart p (name b) h = ap name h
act_apart p (pair t u) h = ap₂ pair (act_apart p t h.0) (act_apart p u h.1)
act_apart p (app f t) h = ap (app f) (act_apart p t h)
act_apart p (abs b t) h = ap₂ abs h.0 (act_apart p t h.1)

sorts_assoc : (xs ys zs : List ℕ) → (xs ++ ys) ++ zs ≡ xs ++ (ys ++ zs)
sorts_assoc [] ys zs = refl
sorts_assoc (x ∷ xs) ys zs = ap (λ l. x ∷ l) (sorts_assoc xs ys zs)

sorts_none : (xs : List ℕ) → xs ++ [] ≡ xs
sorts_none [] = refl
sorts_none (x ∷ xs) = ap (λ l. x ∷ l) (sorts_none xs)

pub sort_front : (xs ys : List ℕ) (i x : ℕ) → slice_get xs i ≡ Some x → slice_get (xs ++ ys) i ≡ Some x
sort_front [] ys zero x e = cc
sort_front [] ys (suc i) x e = cc
sort_front (y ∷ xs) ys zero x e = e
sort_front (y ∷ xs) ys (suc i) x e = sort_front xs ys i x e

front_shorter : (xs ys : List ℕ) → length xs ≤ length (xs ++ ys)
front_shorter [] ys = omega arith
front_shorter (x ∷ xs) ys = let k = front_shorter xs ys in omega (arith, k)

-- each term beside a variable has new names alone
abbrev pub HaveNewNames : ℕ → List ℕ → List ℕ → List (Var × GroundTerm) → Type 0
HaveNewNames n before after [] = Unit {0}
HaveNewNames n before after (p ∷ ps) = EachName (IsNewName n before after) p.1 × HaveNewNames n before after ps

earlier_names : (n : ℕ) (before between after : List ℕ) → length before ≤ length between → (ps : List (Var × GroundTerm)) → HaveNewNames n between after ps → HaveNewNames n before after ps
earlier_names n before between after l [] h = tt
earlier_names n before between after l (p ∷ ps) h = (
  each_name _ _ (λ a (i : IsNewName n between after a). record { place = i.place; late = let k = i.late in omega (arith, l, k); number = i.number; sort = i.sort }) p.1 h.0,
  earlier_names n before between after l ps h.1,
)

pub record ArePicked (cs : List NominalConstructor) (n : ℕ) (vs : List (Var × NominalType)) (before : List ℕ) (made : List (Var × GroundTerm) × List ℕ) : Type 0 where
  pub added : List ℕ
  pub extends : made.1 ≡ before ++ added
  pub names : HaveNewNames n before made.1 made.0

pub picks_made : (cs : List NominalConstructor) (n : ℕ) (vs : List (Var × NominalType)) → HaveInhabitants cs vs → (before : List ℕ) → ArePicked cs n vs before (picks_from cs n vs before)
picks_made cs n [] h before = record { added = []; extends = sym (sorts_none before); names = tt }
picks_made cs n (v ∷ vs) h before =
    let a = picks_typed cs n v.1 h.0 before in
    let middle = (picked cs n v.1 before).1 in
    let b = picks_made cs n vs h.1 middle in
    let long : length before ≤ length middle = subst (λ l. length before ≤ length l) (sym a.extends) (front_shorter before a.added) in
    let after = (picks_from cs n vs middle).1 in
    record {
      added = a.added ++ b.added;
      extends = b.extends ∙ ap (λ l. l ++ b.added) a.extends ∙ sorts_assoc before a.added b.added;
      names = (
        each_name _ _ (λ c (i : IsNewName n before middle c). record {
          place = i.place;
          late = i.late;
          number = i.number;
          sort = subst (λ l. slice_get l i.place ≡ Some c.sort) (sym b.extends) (sort_front middle b.added i.place c.sort i.sort);
        }) (picked cs n v.1 before).0 a.names,
        earlier_names n before middle after long (picks_from cs n vs middle).0 b.names,
      );
    }

-- what is given to a variable
pub given_names : (n : ℕ) (before after : List ℕ) (ps : List (Var × GroundTerm)) → HaveNewNames n before after ps → (x : Var) → EachName (IsNewName n before after) (given ps x)
given_names n before after [] h x = tt
given_names n before after (p ∷ ps) h x =
    elim (var_eq p.0 x) as (λ b. EachName (IsNewName n before after) (if b then p.1 else given ps x)) [ true ↦ h.0 | false ↦ given_names n before after ps h.1 x ]

pub given_types : (cs : List NominalConstructor) (kinds : List NominalKind) (n : ℕ) (vs : List (Var × NominalType)) → AreVarsOf kinds vs → HaveInhabitants cs vs → (before : List ℕ)
    → (x : Var) (t : NominalType) → IsVarOf kinds x t → has_var x (only_vars vs) ≡ true → IsOfType cs (given (picks_from cs n vs before).0 x) t
given_types cs kinds n [] k h before x t i m = cc
given_types cs kinds n (v ∷ vs) k h before x t i m =
    let middle = (picked cs n v.1 before).1 in
    elim (var_eq v.0 x) as (λ b. var_eq v.0 x ≡ b → IsOfType cs (if b then (picked cs n v.1 before).0 else given (picks_from cs n vs middle).0 x) t) [
      | true ↦ λ e.
          let same : v.1 ≡ t = one_kind _ _ (sym k.0 ∙ ap (λ (y : Var). kind_at kinds y.num) (var_same v.0 x e) ∙ i) in
          subst (IsOfType cs (picked cs n v.1 before).0) same (picks_typed cs n v.1 h.0 before).typed
      | false ↦ λ e. elim (or_cases (var_eq x v.0) (has_var x (only_vars vs)) m) [
        | inl j ↦ let no : true ≡ false = sym (same_var v.0 x (sym (var_same x v.0 j))) ∙ e in cc
        | inr j ↦ given_types cs kinds n vs k.1 h.1 middle x t i j
      ]
    ] refl
  where
    one_kind : (a b : NominalType) → Some (types.var a) ≡ Some (types.var b) → a ≡ b
    one_kind a b e = cc

pub picks_give : (cs : List NominalConstructor) (kinds : List NominalKind) (n : ℕ) (vs : List (Var × NominalType)) → AreVarsOf kinds vs → HaveInhabitants cs vs → (before : List ℕ)
    → GivesTypes cs vs (given (picks_from cs n vs before).0)
picks_give cs kinds n vs k h before = gives_types cs kinds (given (picks_from cs n vs before).0) vs k (given_types cs kinds n vs k h before)
