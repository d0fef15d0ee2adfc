-- A permutation that acts on the names and terms of a ground proof, and on its environment, makes a ground proof.
use Rattle.std.proofs.Common.{◌≡◌, max, true, false, ◌||◌, List, [], ◌∷◌, ◌++◌, map, refl, sym, ap, ap₂, ◌∙◌, inl, inr}
use Rattle.std.specs.Prelude.{if◌then◌else◌, suc}
use Rattle.ap_defs.specs.Alpha.{alpha}
use Rattle.ap_defs.specs.Derivations.{atom, equal, fresh, succeed, both, left, right, exists, new}
use Rattle.ap_defs.specs.Freshness.{var_eq}
use Rattle.ap_defs.specs.Answers.{kind_at}
use Rattle.ap_defs.specs.Goals as goals
use Rattle.ap_defs.specs.Goals.{NominalGoal}
use Rattle.ap_defs.specs.GroundProofs.{AlphaEach, AreDifferent, AreOfSorts, Environment, Instantiates, IsFresh, IsNew, IsValid, environment, instance, name_for, swap_under, term_for, with_name, with_term}
use Rattle.ap_defs.specs.Occurrences.{free_names, free_vars, names_of_terms, vars_of_terms}
use Rattle.ap_defs.specs.Permutations.{act_name, has_name, left_name, name_eq, right_name, swap_name, swap_of}
use Rattle.ap_defs.specs.Renaming.{local_names, local_vars}
use Rattle.ap_defs.specs.Resolution.{kinds_of}
use Rattle.ap_defs.specs.Terms as terms
use Rattle.ap_defs.specs.Terms.{GroundTerm, NominalTerm, act_ground}
use Rattle.ap_defs.specs.Types.{NominalConstructor, NominalLocal}
use Rattle.ap_defs.specs.declared.terms.Name.{Name}
use Rattle.ap_defs.specs.declared.terms.Swap.{Swap}
use Rattle.ap_defs.specs.declared.terms.Var.{Var}
use Rattle.ap_theory.proofs.BooleanLemmas.{or_right}
use Rattle.ap_theory.proofs.GroundLemmas.{act_ground-append, act_ground_same, alpha_act, alpha_itself, alpha_sym, fresh_act}
use Rattle.ap_theory.proofs.PermutationLemmas.{act-append, act_injective, act_sort, act_swap, name_eq_act, name_tells, not_name}
use Rattle.ap_ground.specs.Environments.{AgreeOn, KeepsSorts, SameNames, SameTermsFor, act_environment, act_proof}
use Rattle.ap_ground.specs.StatementsOnGroundProofs.{HeightIsEquivariant, ProofsAreEquivariant}
use Rattle.ap_ground.proofs.EnvironmentLemmas.{instances_agree}
use Rattle.ap_ground.proofs.FreeIdentifierLemmas.{proofs_see_free}
use Rattle.ap_ground.proofs.GroundTypingLemmas.{type_of_act, types_act}
use Rattle.ap_ground.proofs.ScopeLemmas.{arguments_local, goal_local, program_clause_typed}

pub same_environment : (g : NominalGoal) (e f : Environment) → ((b : Name) → e.names b ≡ f.names b) → ((x : Var) → e.terms x ≡ f.terms x) → AgreeOn g e f
same_environment g e f h k = record { names = λ b i. h b; terms = λ x i. ap (alpha (e.terms x)) (sym (k x)) ∙ alpha_itself (e.terms x) }

module _ (s : List Swap) where
  -- Instances.
  module _ (e : Environment) (keeps : KeepsSorts e) where
    swap_under_is : (w : Swap) → swap_under e w ≡ swap_of (e.names (left_name w)) (e.names (right_name w))
    swap_under_is w = ap (λ n. record { sort = n; left = (e.names (left_name w)).num; right = (e.names (right_name w)).num }) (sym (keeps (left_name w)))

    one_sort : (w : Swap) → (e.names (left_name w)).sort ≡ (e.names (right_name w)).sort
    one_sort w = keeps (left_name w) ∙ sym (keeps (right_name w))

    pub keeps_act : KeepsSorts (act_environment s e)
    keeps_act a = act_sort s (e.names a) ∙ keeps a

  act_under : (e : Environment) → KeepsSorts e → (p : List Swap) (a : Name)
      → act_name s (act_name (map (swap_under e) p) a) ≡ act_name (map (swap_under (act_environment s e)) p) (act_name s a)
  act_under e k [] a = refl
  act_under e k (w ∷ p) a =
      let b = act_name (map (swap_under e) p) a in
      let f = act_environment s e in
      ap (λ v. act_name s (swap_name v b)) (swap_under_is e k w)
      ∙ act_swap s (e.names (left_name w)) (e.names (right_name w)) b (one_sort e k w)
      ∙ ap (λ v. swap_name v (act_name s b)) (sym (swap_under_is f (keeps_act e k) w))
      ∙ ap (swap_name (swap_under f w)) (act_under e k p a)

  pub instance_act : (e : Environment) → KeepsSorts e → (t : NominalTerm) → act_ground s (instance e t) ≡ instance (act_environment s e) t
  instance_act e k terms.unit = refl
  instance_act e k (terms.name a) = refl
  instance_act e k (terms.pair t u) = ap₂ terms.pair (instance_act e k t) (instance_act e k u)
  instance_act e k (terms.app f t) = ap (terms.app f) (instance_act e k t)
  instance_act e k (terms.abs a t) = ap (terms.abs (act_name s (e.names a))) (instance_act e k t)
  instance_act e k (terms.susp p x) =
      let q = map (swap_under e) p in
      let r = map (swap_under (act_environment s e)) p in
      sym (act_ground-append s q (e.terms x))
      ∙ act_ground_same (s ++ q) (r ++ s) (λ a. act-append s q a ∙ act_under e k p a ∙ sym (act-append r s a)) (e.terms x)
      ∙ act_ground-append r s (e.terms x)

  alpha_instances : (e f : Environment) → KeepsSorts e → KeepsSorts f → (t u : NominalTerm)
      → alpha (instance (act_environment s e) t) (instance (act_environment s f) u) ≡ alpha (instance e t) (instance f u)
  alpha_instances e f k l t u = ap₂ alpha (sym (instance_act e k t)) (sym (instance_act f l u)) ∙ alpha_act s (instance e t) (instance f u)

  each_act : (e f : Environment) → KeepsSorts e → KeepsSorts f → (ts us : List NominalTerm)
      → AlphaEach (map (instance e) ts) (map (instance f) us) → AlphaEach (map (instance (act_environment s e)) ts) (map (instance (act_environment s f)) us)
  each_act e f k l [] [] h = tt
  each_act e f k l (t ∷ ts) (u ∷ us) h = (alpha_instances e f k l t u ∙ h.0, each_act e f k l ts us h.1)
  each_act e f k l [] (u ∷ us) h = absurd h
  each_act e f k l (t ∷ ts) [] h = absurd h

  -- Freshness.
  is_fresh_act : (g h : GroundTerm) → IsFresh g h → IsFresh (act_ground s g) (act_ground s h)
  is_fresh_act (terms.name a) h k = fresh_act s a h ∙ k
  is_fresh_act _ h k = absurd k

  fresh_instances : (e : Environment) → KeepsSorts e → (t u : NominalTerm) → IsFresh (instance e t) (instance e u)
      → IsFresh (instance (act_environment s e) t) (instance (act_environment s e) u)
  fresh_instances e k t u h = rw (sym (instance_act e k t), sym (instance_act e k u)) (is_fresh_act (instance e t) (instance e u) h)

  new_act : (c : Name) (g : NominalGoal) (e : Environment) → IsNew c g e → IsNew (act_name s c) g (act_environment s e)
  new_act c g e h = record {
    apart = λ b k i. h.apart b k (act_injective s (e.names b) c i);
    fresh_for = λ x k. fresh_act s c (e.terms x) ∙ h.fresh_for x k;
  }

  -- What a clause's identifiers stand for.
  sorts_act : (as' cs : List Name) → AreOfSorts as' cs → AreOfSorts as' (map (act_name s) cs)
  sorts_act [] [] h = tt
  sorts_act (a ∷ as') (c ∷ cs) h = (act_sort s c ∙ h.0, sorts_act as' cs h.1)
  sorts_act _ _ h = absurd h

  pub has_act : (a : Name) (cs : List Name) → has_name (act_name s a) (map (act_name s) cs) ≡ has_name a cs
  has_act a [] = refl
  has_act a (c ∷ cs) = ap₂ ◌||◌ (name_eq_act s a c) (has_act a cs)

  different_act : (cs : List Name) → AreDifferent cs → AreDifferent (map (act_name s) cs)
  different_act [] h = tt
  different_act (c ∷ cs) h = (has_act c cs ∙ h.0, different_act cs h.1)

  pub instantiates_act : (cs : List NominalConstructor) (locals : List NominalLocal) (names : List Name) (gs : List GroundTerm)
      → Instantiates cs locals names gs → Instantiates cs locals (map (act_name s) names) (map (act_ground s) gs)
  instantiates_act cs locals names gs h = record {
    sorts = sorts_act (local_names 0 locals) names h.sorts;
    different = different_act names h.different;
    types = types_act cs (kinds_of locals) s (local_vars 0 locals) gs h.types;
  }

  name_for_act : (as' cs : List Name) (b : Name) → AreOfSorts as' cs → has_name b as' ≡ true → act_name s (name_for as' cs b) ≡ name_for as' (map (act_name s) cs) b
  name_for_act [] [] b h k = cc
  name_for_act (a ∷ as') (c ∷ cs) b h k =
      elim (name_tells a b) [
        | inl w ↦ rw w.0 refl
        | inr w ↦ rw w.0 (name_for_act as' cs b h.1 (or_right (name_eq b a) (has_name b as') (not_name b a (λ e. w.1 (sym e))) k))
      ]
  name_for_act _ _ b h k = absurd h

  pub term_for_act : (xs : List Var) (gs : List GroundTerm) (y : Var) → act_ground s (term_for xs gs y) ≡ term_for xs (map (act_ground s) gs) y
  term_for_act (x ∷ xs) (g ∷ gs) y =
      elim (var_eq x y) as (λ v. act_ground s (if v then g else term_for xs gs y) ≡ (if v then act_ground s g else term_for xs (map (act_ground s) gs) y)) [
        | true ↦ refl
        | false ↦ term_for_act xs gs y
      ]
  term_for_act [] gs y = refl
  term_for_act (x ∷ xs) [] y = refl

name_for_sorts : (as' cs : List Name) (b : Name) → AreOfSorts as' cs → (name_for as' cs b).sort ≡ b.sort
name_for_sorts [] [] b h = refl
name_for_sorts (a ∷ as') (c ∷ cs) b h =
    elim (name_tells a b) [
      | inl w ↦ rw w.0 (h.0 ∙ ap (λ (x : Name). x.sort) w.1)
      | inr w ↦ rw w.0 (name_for_sorts as' cs b h.1)
    ]
name_for_sorts _ _ b h = absurd h

-- names of their sorts keep sorts, and an environment that is acted on is that of the names and terms that are
pub keeps_environment : (locals : List NominalLocal) (names : List Name) (gs : List GroundTerm) → AreOfSorts (local_names 0 locals) names → KeepsSorts (environment locals names gs)
keeps_environment locals names gs h a = name_for_sorts (local_names 0 locals) names a h

module _ (s : List Swap) (locals : List NominalLocal) (names : List Name) (gs : List GroundTerm) (sorts : AreOfSorts (local_names 0 locals) names) where
  abbrev Acted : Environment
  Acted = act_environment s (environment locals names gs)

  abbrev Again : Environment
  Again = environment locals (map (act_name s) names) (map (act_ground s) gs)

  same_names : (as' : List Name) → ((a : Name) → has_name a as' ≡ true → has_name a (local_names 0 locals) ≡ true) → SameNames Acted Again as'
  same_names as' h b k = name_for_act s (local_names 0 locals) names b sorts (h b k)

  same_terms : (xs : List Var) → SameTermsFor Acted Again xs
  same_terms xs x k = ap (alpha (Acted.terms x)) (sym (term_for_act s (local_vars 0 locals) gs x)) ∙ alpha_itself (Acted.terms x)

  pub agree_act : (g : NominalGoal) → ((a : Name) → has_name a (free_names g) ≡ true → has_name a (local_names 0 locals) ≡ true) → AgreeOn g Acted Again
  agree_act g h = record { names = same_names (free_names g) h; terms = same_terms (free_vars g) }

each_flip : (gs hs : List GroundTerm) → AlphaEach gs hs → AlphaEach hs gs
each_flip [] [] h = tt
each_flip (g ∷ gs) (h ∷ hs) k = (alpha_sym g h k.0, each_flip gs hs k.1)
each_flip _ _ k = absurd k

-- the heads of atoms
heads_act : (s : List Swap) (locals : List NominalLocal) (names : List Name) (gs : List GroundTerm) → AreOfSorts (local_names 0 locals) names
    → (e : Environment) → KeepsSorts e → (ts us : List NominalTerm) → ((a : Name) → has_name a (names_of_terms us) ≡ true → has_name a (local_names 0 locals) ≡ true)
    → AlphaEach (map (instance e) ts) (map (instance (environment locals names gs)) us)
    → AlphaEach (map (instance (act_environment s e)) ts) (map (instance (environment locals (map (act_name s) names) (map (act_ground s) gs))) us)
heads_act s locals names gs sorts e k ts us own h =
    let f = environment locals names gs in
    let acted = each_act s e f k (keeps_environment locals names gs sorts) ts us h in
    let f' = environment locals (map (act_name s) names) (map (act_ground s) gs) in
    let ts' = map (instance (act_environment s e)) ts in
    each_flip (map (instance f') us) ts'
    (instances_agree (act_environment s f) f' us ts' (same_names s locals names gs sorts (names_of_terms us) own) (same_terms s locals names gs sorts (vars_of_terms us))
    (each_flip ts' (map (instance (act_environment s f)) us) acted))

keeps_with_name : (e : Environment) (a c : Name) → KeepsSorts e → c.sort ≡ a.sort → KeepsSorts (with_name e a c)
keeps_with_name e a c k h b =
    elim (name_tells a b) [
      | inl w ↦ rw w.0 (h ∙ ap (λ (x : Name). x.sort) w.1)
      | inr w ↦ rw w.0 (k b)
    ]

module _ (s : List Swap) (e : Environment) where
  act_with_term : (g : NominalGoal) (x : Var) (t : GroundTerm) → AgreeOn g (act_environment s (with_term e x t)) (with_term (act_environment s e) x (act_ground s t))
  act_with_term g x t = same_environment g _ _ (λ b. refl) (λ y.
      elim (var_eq x y) as (λ v. act_ground s (if v then t else e.terms y) ≡ (if v then act_ground s t else act_ground s (e.terms y))) [ true ↦ refl | false ↦ refl ])

  act_with_name : (g : NominalGoal) (a c : Name) → AgreeOn g (act_environment s (with_name e a c)) (with_name (act_environment s e) a (act_name s c))
  act_with_name g a c = same_environment g _ _ (λ b.
      elim (name_eq a b) as (λ v. act_name s (if v then c else e.names b) ≡ (if v then act_name s c else act_name s (e.names b))) [ true ↦ refl | false ↦ refl ]) (λ x. refl)

pub proofs_equivariant : ProofsAreEquivariant
proofs_equivariant p typed s kinds (atom k as' gs d) (goals.atom q ts) e v keeps =
    let c = v.0 in
    let sig = p.signature in
    let locals = c.locals in
    let f = environment locals as' gs in
    let f' = environment locals (map (act_name s) as') (map (act_ground s) gs) in
    let is = (program_clause_typed sig 0 p.clauses q k c typed.0 v.1).1 in
    let body : IsValid p (kinds_of locals) (act_proof s d) c.body (act_environment s f) =
    proofs_equivariant p typed s (kinds_of locals) d c.body f v.4 (keeps_environment locals as' gs v.2.sorts) in (
      c,
      v.1,
      instantiates_act s sig.constructors locals as' gs v.2,
      heads_act s locals as' gs v.2.sorts e keeps ts c.args (arguments_local sig locals c.args c.body is.3 c.pred is.1.0) v.3,
      proofs_see_free p (kinds_of locals) (act_proof s d) c.body (act_environment s f) f' body (agree_act s locals as' gs v.2.sorts c.body (goal_local sig locals c.args c.body is.3 is.1.1)),
    )
proofs_equivariant p typed s kinds equal (goals.equal t u) e v keeps = alpha_instances s e e keeps keeps t u ∙ v
proofs_equivariant p typed s kinds fresh (goals.fresh t u) e v keeps = fresh_instances s e keeps t u v
proofs_equivariant p typed s kinds succeed goals.succeed e v keeps = tt
proofs_equivariant p typed s kinds (both d c) (goals.both g h) e v keeps =
    (proofs_equivariant p typed s kinds d g e v.0 keeps, proofs_equivariant p typed s kinds c h e v.1 keeps)
proofs_equivariant p typed s kinds (left d) (goals.either g h) e v keeps = proofs_equivariant p typed s kinds d g e v keeps
proofs_equivariant p typed s kinds (right d) (goals.either g h) e v keeps = proofs_equivariant p typed s kinds d h e v keeps
proofs_equivariant p typed s kinds (exists t d) (goals.exists x g) e v keeps = (
  type_of_act p.signature.constructors s (kind_at kinds x.num) t v.0,
  proofs_see_free p kinds (act_proof s d) g _ _ (proofs_equivariant p typed s kinds d g (with_term e x t) v.1 keeps) (act_with_term s e g x t),
)
proofs_equivariant p typed s kinds (new c d) (goals.new a g) e v keeps = (
  act_sort s c ∙ v.0,
  new_act s c (goals.new a g) e v.1,
  proofs_see_free p kinds (act_proof s d) g _ _ (proofs_equivariant p typed s kinds d g (with_name e a c) v.2 (keeps_with_name e a c keeps v.0)) (act_with_name s e g a c),
)
proofs_equivariant p typed s kinds _ _ e v keeps = absurd v

pub height_act : HeightIsEquivariant
height_act s (atom k as' gs d) = ap (λ n. suc n) (height_act s d)
height_act s equal = refl
height_act s fresh = refl
height_act s succeed = refl
height_act s (both d e) = ap₂ max (height_act s d) (height_act s e)
height_act s (left d) = height_act s d
height_act s (right d) = height_act s d
height_act s (exists t d) = height_act s d
height_act s (new c d) = height_act s d
