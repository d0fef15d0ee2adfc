-- The environment of a clause whose identifiers are numbered from n on is, on its free identifiers, the shifted one.
use Rattle.std.proofs.Common.{subst, ◌≡◌, ◌+◌, ◌<◌, ℕ, zero, suc, Bool, true, false, ◌||◌, List, [], ◌∷◌, map, refl, sym, ap, ap₂, ◌∙◌, inl, inr, arith, true≢false}
use Rattle.std.specs.Prelude.{if◌then◌else◌, Some}
use Rattle.std.proofs.lemmas.Bool.Decides.{nat_tests}
use Rattle.ap_defs.specs.Alpha.{alpha}
use Rattle.ap_defs.specs.Answers.{kind_at}
use Rattle.ap_defs.specs.Freshness.{var_eq}
use Rattle.ap_defs.specs.Goals.{NominalClause, NominalGoal, NominalProgram, atom}
use Rattle.ap_defs.specs.GroundProofs.{AreDifferent, AreOfSorts, AreOfTypes, Environment, HasTypeOf, Instantiates, environment, name_for, term_for}
use Rattle.ap_defs.specs.Groundings.{Grounding, grounded}
use Rattle.ap_defs.specs.Occurrences.{free_names, free_vars}
use Rattle.ap_defs.specs.Permutations.{has_name, name_eq}
use Rattle.ap_defs.specs.Renaming.{local_names, local_vars, name_unless, rename_name, rename_var, var_unless}
use Rattle.ap_defs.specs.Resolution.{kinds_of}
use Rattle.ap_defs.specs.Terms.{GroundTerm, susp}
use Rattle.ap_defs.specs.Types as types
use Rattle.ap_defs.specs.Types.{NominalConstructor, NominalKind, NominalLocal, NominalType}
use Rattle.ap_defs.specs.Unification.{has_var}
use Rattle.ap_defs.specs.declared.terms.Name.{Name}
use Rattle.ap_defs.specs.declared.terms.Var.{Var}
use Rattle.ap_program.specs.RawTyping.{HasTermType}
use Rattle.ap_program.specs.Typed.{IsTypedClause, IsTypedGoal, is_marked, stands_free, stands_in_term, term_form}
use Rattle.ap_theory.proofs.BooleanLemmas.{false_if_not, or_cases, or_if_left, or_if_right}
use Rattle.ap_theory.proofs.GroundLemmas.{act_ground_none, alpha_itself}
use Rattle.ap_theory.proofs.PermutationLemmas.{name_eq_itself, name_eq_same}
use Rattle.ap_theory.proofs.TermLemmas.{same_var, var_same}
use Rattle.ap_ground.specs.Environments.{AgreeOn}
use Rattle.ap_ground.proofs.ScopeLemmas.{arguments_local, goal_local}
use Rattle.ap_ground.proofs.OccurrenceLemmas.{IsVariable, free_var_stands}
use Rattle.ap_ground.proofs.ShiftLemmas.{shifted}

-- A variable that is an identifier and isn't marked is among the free variables.
var_first : (m : ℕ) (x : Var) (t : NominalType) (b : Bool) (k : NominalKind) (rest : List Var) → k ≡ types.var t → b ≡ false → x.num ≡ m + zero → has_var x (var_unless b k m rest) ≡ true
var_first m x t true k rest h e j = cc
var_first m x t false (types.name s) rest h e j = cc
var_first m x t false (types.var u) rest h e j =
    let same : x ≡ record { num = m } = ap (λ n. record { num = n }) (omega arith) in
    or_if_left (var_eq x (record { num = m })) (has_var x rest) (same_var x (record { num = m }) same)

var_further : (m : ℕ) (x : Var) (b : Bool) (k : NominalKind) (rest : List Var) → has_var x rest ≡ true → has_var x (var_unless b k m rest) ≡ true
var_further m x true k rest h = h
var_further m x false (types.name s) rest h = h
var_further m x false (types.var t) rest h = or_if_right (var_eq x (record { num = m })) (has_var x rest) h

var_among : (m i : ℕ) (ls : List NominalLocal) (x : Var) (t : NominalType) → kind_at (kinds_of ls) i ≡ Some (types.var t) → is_marked ls i ≡ false → x.num ≡ m + i
    → has_var x (local_vars m ls) ≡ true
var_among m i [] x t h k e = cc
var_among m zero (l ∷ ls) x t h k e = let kind : l.kind ≡ types.var t = cc in var_first m x t l.bound l.kind (local_vars (suc m) ls) kind k e
var_among m (suc i) (l ∷ ls) x t h k e =
    let next : x.num ≡ suc m + i = omega arith in
    var_further m x l.bound l.kind (local_vars (suc m) ls) (var_among (suc m) i ls x t h k next)

-- A free variable is an identifier.
record IsIdentifier (m : ℕ) (ls : List NominalLocal) (x : Var) : Type 0 where
  place : ℕ
  type : NominalType
  number : x.num ≡ m + place
  kind : kind_at (kinds_of ls) place ≡ Some (types.var type)

identifier_next : (m : ℕ) (l : NominalLocal) (ls : List NominalLocal) (x : Var) → IsIdentifier (suc m) ls x → IsIdentifier m (l ∷ ls) x
identifier_next m l ls x h =
    let e = h.number in
    let n : x.num ≡ m + suc h.place = omega arith in
    record { place = suc h.place; type = h.type; number = n; kind = h.kind }

free_is_identifier : (m : ℕ) (ls : List NominalLocal) (x : Var) → has_var x (local_vars m ls) ≡ true → IsIdentifier m ls x
free_is_identifier m [] x h = absurd (true≢false (sym h))
free_is_identifier m (l ∷ ls) x h = first l.bound l.kind refl h (free_is_identifier (suc m) ls x)
  where
    first : (b : Bool) (k : NominalKind) → l.kind ≡ k → has_var x (var_unless b k m (local_vars (suc m) ls)) ≡ true
        → (has_var x (local_vars (suc m) ls) ≡ true → IsIdentifier (suc m) ls x) → IsIdentifier m (l ∷ ls) x
    first true k e i later = identifier_next m l ls x (later i)
    first false (types.name s) e i later = identifier_next m l ls x (later i)
    first false (types.var t) e i later =
        elim (or_cases (var_eq x (record { num = m })) (has_var x (local_vars (suc m) ls)) i) [
          | inl j ↦
              let same : x.num ≡ m = ap (λ (y : Var). y.num) (var_same x (record { num = m }) j) in
              let n : x.num ≡ m + zero = omega arith in
              record { place = zero; type = t; number = n; kind = ap Some e }
          | inr j ↦ identifier_next m l ls x (later j)
        ]

pub free_is_variable : (ls : List NominalLocal) (x : Var) → has_var x (local_vars 0 ls) ≡ true → IsVariable (kinds_of ls) x
free_is_variable ls x h =
    let r = free_is_identifier 0 ls x h in
    let e = r.number in
    let n : x.num ≡ r.place = omega arith in
    (r.type, ap (kind_at (kinds_of ls)) n ∙ r.kind)

-- The free names and variables of an item that is numbered from n on.
map_name_unless : (n m : ℕ) (b : Bool) (k : NominalKind) (rest : List Name) → map (rename_name n) (name_unless b k m rest) ≡ name_unless b k (n + m) (map (rename_name n) rest)
map_name_unless n m true k rest = refl
map_name_unless n m false (types.name s) rest = refl
map_name_unless n m false (types.var t) rest = refl

map_var_unless : (n m : ℕ) (b : Bool) (k : NominalKind) (rest : List Var) → map (rename_var n) (var_unless b k m rest) ≡ var_unless b k (n + m) (map (rename_var n) rest)
map_var_unless n m true k rest = refl
map_var_unless n m false (types.name s) rest = refl
map_var_unless n m false (types.var t) rest = refl

renamed_names : (n m : ℕ) (ls : List NominalLocal) → map (rename_name n) (local_names m ls) ≡ local_names (n + m) ls
renamed_names n m [] = refl
renamed_names n m (l ∷ ls) =
    let e : n + suc m ≡ suc (n + m) = omega arith in
    map_name_unless n m l.bound l.kind (local_names (suc m) ls)
    ∙ ap (name_unless l.bound l.kind (n + m)) (renamed_names n (suc m) ls ∙ ap (λ i. local_names i ls) e)

renamed_vars : (n m : ℕ) (ls : List NominalLocal) → map (rename_var n) (local_vars m ls) ≡ local_vars (n + m) ls
renamed_vars n m [] = refl
renamed_vars n m (l ∷ ls) =
    let e : n + suc m ≡ suc (n + m) = omega arith in
    map_var_unless n m l.bound l.kind (local_vars (suc m) ls)
    ∙ ap (var_unless l.bound l.kind (n + m)) (renamed_vars n (suc m) ls ∙ ap (λ i. local_vars i ls) e)

pub names_from : (n : ℕ) (ls : List NominalLocal) → local_names n ls ≡ map (rename_name n) (local_names 0 ls)
names_from n ls = let e : n + 0 ≡ n = omega arith in sym (renamed_names n 0 ls ∙ ap (λ i. local_names i ls) e)

pub vars_from : (n : ℕ) (ls : List NominalLocal) → local_vars n ls ≡ map (rename_var n) (local_vars 0 ls)
vars_from n ls = let e : n + 0 ≡ n = omega arith in sym (renamed_vars n 0 ls ∙ ap (λ i. local_vars i ls) e)

-- What stands beside a member.
pub beside_name : (f : Name → Name) (as' : List Name) (b : Name) → has_name b as' ≡ true → name_for as' (map f as') b ≡ f b
beside_name f [] b h = absurd (true≢false (sym h))
beside_name f (a ∷ as') b h =
    elim (name_eq a b) as (λ v. name_eq a b ≡ v → (if v then f a else name_for as' (map f as') b) ≡ f b) [
      | true ↦ λ e. ap f (name_eq_same a b e)
      | false ↦ λ e. elim (or_cases (name_eq b a) (has_name b as') h) [
        | inl i ↦ absurd (true≢false (sym (name_eq_itself a) ∙ ap (name_eq a) (sym (name_eq_same b a i)) ∙ e))
        | inr i ↦ beside_name f as' b i
      ]
    ] refl

beside_var : (f : Var → GroundTerm) (xs : List Var) (y : Var) → has_var y xs ≡ true → term_for xs (map f xs) y ≡ f y
beside_var f [] y h = absurd (true≢false (sym h))
beside_var f (x ∷ xs) y h =
    elim (var_eq x y) as (λ v. var_eq x y ≡ v → (if v then f x else term_for xs (map f xs) y) ≡ f y) [
      | true ↦ λ e. ap f (var_same x y e)
      | false ↦ λ e. elim (or_cases (var_eq y x) (has_var y xs) h) [
        | inl i ↦ absurd (true≢false (sym (same_var x y (sym (var_same y x i))) ∙ e))
        | inr i ↦ beside_var f xs y i
      ]
    ] refl

-- an item's environment in which what is free has higher numbers
abbrev pub item_environment : ℕ → Grounding → List NominalLocal → Environment
item_environment n g locals = environment locals (local_names n locals) (map (λ x. g (rename_var n x)) (local_vars 0 locals))

-- on a goal of the item it is the shifted environment
pub item_agrees : (n : ℕ) (g : Grounding) (locals : List NominalLocal) (goal : NominalGoal)
    → ((b : Name) → has_name b (free_names goal) ≡ true → has_name b (local_names 0 locals) ≡ true)
    → ((x : Var) → has_var x (free_vars goal) ≡ true → has_var x (local_vars 0 locals) ≡ true)
    → AgreeOn goal (shifted n g) (item_environment n g locals)
item_agrees n g locals goal h k = record {
  names = λ b i. sym (ap (λ as'. name_for (local_names 0 locals) as' b) (names_from n locals) ∙ beside_name (rename_name n) (local_names 0 locals) b (h b i));
  terms = λ x i. ap (alpha (g (rename_var n x))) (beside_var (λ y. g (rename_var n y)) (local_vars 0 locals) x (k x i)) ∙ alpha_itself (g (rename_var n x));
}

-- the free variables of a goal in which nothing that is marked stands free
pub goal_vars_local : (cs : List NominalConstructor) (preds : List (List NominalType)) (locals : List NominalLocal) (goal : NominalGoal)
    → IsTypedGoal (HasTermType cs (kinds_of locals)) preds (kinds_of locals) goal → ((i : ℕ) → is_marked locals i ≡ true → stands_free stands_in_term i goal ≡ false)
    → (x : Var) → has_var x (free_vars goal) ≡ true → has_var x (local_vars 0 locals) ≡ true
goal_vars_local cs preds locals goal h k x i =
    let r = free_var_stands cs (kinds_of locals) preds goal h x i in
    var_among 0 x.num locals x r.0.0 r.0.1 (false_if_not (is_marked locals x.num) (λ e. true≢false (sym r.1 ∙ k x.num e))) (omega arith)

-- The names and terms of a clause's node.
pub sorts_renamed : (n : ℕ) (as' : List Name) → AreOfSorts as' (map (rename_name n) as')
sorts_renamed n [] = tt
sorts_renamed n (a ∷ as') = (refl, sorts_renamed n as')

lower_apart : (a : Name) (s m : ℕ) → a.num < m → name_eq a (record { sort = s; num = m }) ≡ false
unfolding name_eq
lower_apart a s m h = grind (arith, nat_tests)

lower_is_no_local : (a : Name) (m : ℕ) (ls : List NominalLocal) → a.num < m → has_name a (local_names m ls) ≡ false
lower_is_no_local a m [] h = refl
lower_is_no_local a m (l ∷ ls) h = first l.bound l.kind (lower_is_no_local a (suc m) ls (omega arith))
  where
    first : (b : Bool) (k : NominalKind) → has_name a (local_names (suc m) ls) ≡ false → has_name a (name_unless b k m (local_names (suc m) ls)) ≡ false
    first true k e = e
    first false (types.var t) e = e
    first false (types.name s) e = ap₂ ◌||◌ (lower_apart a s m h) e

pub locals_differ : (m : ℕ) (ls : List NominalLocal) → AreDifferent (local_names m ls)
locals_differ m [] = tt
locals_differ m (l ∷ ls) = first l.bound l.kind (locals_differ (suc m) ls)
  where
    low : m < suc m
    low = omega arith

    first : (b : Bool) (k : NominalKind) → AreDifferent (local_names (suc m) ls) → AreDifferent (name_unless b k m (local_names (suc m) ls))
    first true k e = e
    first false (types.var t) e = e
    first false (types.name s) e = (lower_is_no_local (record { sort = s; num = m }) (suc m) ls low, e)

pub types_renamed : (cs : List NominalConstructor) (kinds : List NominalKind) (f : Var → GroundTerm) (xs : List Var)
    → ((x : Var) → has_var x xs ≡ true → HasTypeOf cs (kind_at kinds x.num) (f x)) → AreOfTypes cs kinds xs (map f xs)
types_renamed cs kinds f [] h = tt
types_renamed cs kinds f (x ∷ xs) h =
    (h x (or_if_left (var_eq x x) (has_var x xs) (same_var x x refl)), types_renamed cs kinds f xs (λ y k. h y (or_if_right (var_eq y x) (has_var y xs) k)))

pub instantiates : (cs : List NominalConstructor) (locals : List NominalLocal) (n : ℕ) (g : Grounding)
    → ((x : Var) → has_var x (local_vars 0 locals) ≡ true → HasTypeOf cs (kind_at (kinds_of locals) x.num) (g (rename_var n x)))
    → Instantiates cs locals (local_names n locals) (map (λ x. g (rename_var n x)) (local_vars 0 locals))
instantiates cs locals n g h = record {
  sorts = subst (AreOfSorts (local_names 0 locals)) (sym (names_from n locals)) (sorts_renamed n (local_names 0 locals));
  different = locals_differ n locals;
  types = types_renamed cs (kinds_of locals) (λ x. g (rename_var n x)) (local_vars 0 locals) h;
}

grounded_vars : (n : ℕ) (g : Grounding) (xs : List Var) → map (grounded g) (map (susp []) (map (rename_var n) xs)) ≡ map (λ x. g (rename_var n x)) xs
grounded_vars n g [] = refl
grounded_vars n g (x ∷ xs) = ap₂ ◌∷◌ (act_ground_none (g (rename_var n x))) (grounded_vars n g xs)

pub node_terms : (n : ℕ) (g : Grounding) (locals : List NominalLocal) → map (grounded g) (map (susp []) (local_vars n locals)) ≡ map (λ x. g (rename_var n x)) (local_vars 0 locals)
node_terms n g locals = ap (λ xs. map (grounded g) (map (susp []) xs)) (vars_from n locals) ∙ grounded_vars n g (local_vars 0 locals)

-- A clause of a typed program whose identifiers are numbered from m on.
module _ (p : NominalProgram) (q : ℕ) (c : NominalClause) (typed : IsTypedClause term_form p.signature q c) (m : ℕ) (g : Grounding) where
  pub agrees_on_head : AgreeOn (atom c.pred c.args) (shifted m g) (item_environment m g c.locals)
  agrees_on_head =
      item_agrees m g c.locals (atom c.pred c.args) (arguments_local p.signature c.locals c.args c.body typed.3 c.pred typed.1.0)
      (goal_vars_local p.signature.constructors p.signature.predicates c.locals (atom c.pred c.args) typed.1.0 (λ i e. (typed.3.inside i e).0))

  pub agrees_on_body : AgreeOn c.body (shifted m g) (item_environment m g c.locals)
  agrees_on_body =
      item_agrees m g c.locals c.body (goal_local p.signature c.locals c.args c.body typed.3 typed.1.1)
      (goal_vars_local p.signature.constructors p.signature.predicates c.locals c.body typed.1.1 (λ i e. (typed.3.inside i e).1))
