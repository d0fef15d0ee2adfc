-- Terms under an environment that gives different names to an item's own ones.
use Rattle.std.proofs.Common.{◌≡◌, ◌≢◌, true, false, List, [], ◌∷◌, ◌++◌, map, subst, refl, sym, ap, ap₂, ◌∙◌, inl, inr, true≢false}
use Rattle.std.specs.Prelude.{not, if◌then◌else◌, Option, Some, None}
use Rattle.ap_defs.specs.declared.terms.Cond.{Cond}
use Rattle.ap_defs.specs.declared.terms.Name.{Name}
use Rattle.ap_defs.specs.declared.terms.Swap.{Swap}
use Rattle.ap_defs.specs.declared.terms.Var.{Var}
use Rattle.ap_defs.specs.Alpha.{fresh}
use Rattle.ap_defs.specs.Derivations.{GroundProof}
use Rattle.ap_defs.specs.Derivations as nodes
use Rattle.ap_defs.specs.Freshness.{both as both_lists, cond_eq, has_cond, reduce, var_eq}
use Rattle.ap_defs.specs.Goals as goals
use Rattle.ap_defs.specs.Goals.{NominalGoal, NominalProgram}
use Rattle.ap_defs.specs.GroundProofs.{Environment, IsValid, instance, swap_under}
use Rattle.ap_defs.specs.Occurrences.{free_names, names_then}
use Rattle.ap_defs.specs.Permutations.{act_name, has_name, inverse, left_name, name_eq, names_of, right_name, swap_name, swap_of}
use Rattle.ap_defs.specs.Terms.{NominalTerm, abs, act_ground, app, name, pair, susp, unit}
use Rattle.ap_defs.specs.Types.{NominalKind}
use Rattle.ap_program.specs.NameRestriction.{conditions_left, stated_conditions}
use Rattle.ap_theory.specs.Contexts.{Context, Fresh}
use Rattle.ap_theory.proofs.BooleanLemmas.{and_both, and_left, and_right, or_cases, or_if_left, or_if_right, or_right}
use Rattle.ap_theory.proofs.DisagreementLemmas.{has_front, has_name-append}
use Rattle.ap_theory.proofs.GroundLemmas.{fresh_moved}
use Rattle.ap_theory.proofs.PermutationLemmas.{act-append, act_inverse, inverse_act, name_decided, name_eq_itself, name_eq_same, name_tells, not_name, swap_left, swap_other, swap_right}
use Rattle.ap_theory.proofs.TermLemmas.{var_same}
use Rattle.ap_ground.specs.Environments.{KeepsSorts}
use Rattle.ap_ground.proofs.ListLemmas.{has_names_then}

module _ (e : Environment) (keeps : KeepsSorts e) (own : List Name)
    (apart : (a b : Name) → has_name a own ≡ true → has_name b own ≡ true → e.names a ≡ e.names b → a ≡ b) where
  abbrev Own : Name → Type 0
  Own a = has_name a own ≡ true

  abbrev pub AllOwn : List Name → Type 0
  AllOwn as' = (a : Name) → has_name a as' ≡ true → has_name a own ≡ true

  own_front : (t : NominalTerm) (as' : List Name) → AllOwn (names_then t as') → AllOwn (names_then t [])
  own_front t as' o b i = o b (has_names_then b t as' ∙ or_if_left (has_name b (names_then t [])) (has_name b as') i)

  own_rest : (t : NominalTerm) (as' : List Name) → AllOwn (names_then t as') → AllOwn as'
  own_rest t as' o b i = o b (has_names_then b t as' ∙ or_if_right (has_name b (names_then t [])) (has_name b as') i)

  own_later : (a : Name) (as' : List Name) → AllOwn (a ∷ as') → AllOwn as'
  own_later a as' o b i = o b (or_if_right (name_eq b a) (has_name b as') i)

  own_swaps : (p : List Swap) → AllOwn (names_of p ++ []) → AllOwn (names_of p)
  own_swaps p o b i = o b (has_name-append b (names_of p) [] ∙ or_if_left (has_name b (names_of p)) false i)

  -- Swappings of own names.
  swap_under_is : (s : Swap) → swap_under e s ≡ swap_of (e.names (left_name s)) (e.names (right_name s))
  swap_under_is s = ap (λ n. record { sort = n; left = (e.names (left_name s)).num; right = (e.names (right_name s)).num }) (sym (keeps (left_name s)))

  swap_own : (s : Swap) → Own (left_name s) → Own (right_name s) → (a : Name) → Own a → Own (swap_name s a)
  swap_own s l r a h =
      elim (name_decided a (left_name s)) [
        | inl i ↦ subst Own (sym (ap (swap_name s) i ∙ swap_left (left_name s) (right_name s) refl)) r
        | inr n ↦ elim (name_decided a (right_name s)) [
          | inl i ↦ subst Own (sym (ap (swap_name s) i ∙ swap_right (left_name s) (right_name s) refl)) l
          | inr m ↦ subst Own (sym (swap_other (left_name s) (right_name s) a refl n m)) h
        ]
      ]

  swap_through : (s : Swap) → Own (left_name s) → Own (right_name s) → (a : Name) → Own a → swap_name (swap_under e s) (e.names a) ≡ e.names (swap_name s a)
  swap_through s l r a h =
      let left = e.names (left_name s) in
      let right = e.names (right_name s) in
      let one : left.sort ≡ right.sort = keeps (left_name s) ∙ sym (keeps (right_name s)) in
      ap (λ w. swap_name w (e.names a)) (swap_under_is s)
      ∙ elim (name_decided a (left_name s)) [
        | inl i ↦ ap (λ b. swap_name (swap_of left right) (e.names b)) i ∙ swap_left left right one
            ∙ sym (ap e.names (ap (swap_name s) i ∙ swap_left (left_name s) (right_name s) refl))
        | inr n ↦ elim (name_decided a (right_name s)) [
          | inl i ↦ ap (λ b. swap_name (swap_of left right) (e.names b)) i ∙ swap_right left right one
              ∙ sym (ap e.names (ap (swap_name s) i ∙ swap_right (left_name s) (right_name s) refl))
          | inr m ↦ swap_other left right (e.names a) one (λ i. n (apart a (left_name s) h l i)) (λ i. m (apart a (right_name s) h r i))
              ∙ sym (ap e.names (swap_other (left_name s) (right_name s) a refl n m))
        ]
      ]

  through : (p : List Swap) → AllOwn (names_of p) → (a : Name) → Own a → Own (act_name p a) × (act_name (map (swap_under e) p) (e.names a) ≡ e.names (act_name p a))
  through [] o a h = (h, refl)
  through (s ∷ p) o a h =
      let later = own_later (left_name s) (right_name s ∷ names_of p) o in
      let l = o (left_name s) (has_front (left_name s) (right_name s ∷ names_of p)) in
      let r = later (right_name s) (has_front (right_name s) (names_of p)) in
      let k = through p (own_later (right_name s) (names_of p) later) a h in
      (swap_own s l r (act_name p a) k.0, ap (swap_name (swap_under e s)) k.1 ∙ swap_through s l r (act_name p a) k.0)

  inverse_own : (p : List Swap) → AllOwn (names_of p) → (a : Name) → Own a → Own (act_name (inverse p) a)
  inverse_own [] o a h = h
  inverse_own (s ∷ p) o a h =
      let later = own_later (left_name s) (right_name s ∷ names_of p) o in
      let l = o (left_name s) (has_front (left_name s) (right_name s ∷ names_of p)) in
      let r = later (right_name s) (has_front (right_name s) (names_of p)) in
      subst Own (sym (act-append (inverse p) (s ∷ []) a)) (inverse_own p (own_later (right_name s) (names_of p) later) (swap_name s a) (swap_own s l r a h))

  inverse_through : (p : List Swap) → AllOwn (names_of p) → (a : Name) → Own a
      → act_name (inverse (map (swap_under e) p)) (e.names a) ≡ e.names (act_name (inverse p) a)
  inverse_through p o a h =
      let q = map (swap_under e) p in
      let b = act_name (inverse p) a in
      let k = through p o b (inverse_own p o a h) in
      ap (act_name (inverse q)) (sym (k.1 ∙ ap e.names (act_inverse p a))) ∙ inverse_act q (e.names b)

  fresh_susp : (p : List Swap) → AllOwn (names_of p) → (x : Var) (a : Name) → Own a
      → fresh (e.names a) (act_ground (map (swap_under e) p) (e.terms x)) ≡ fresh (e.names (act_name (inverse p) a)) (e.terms x)
  fresh_susp p o x a h = fresh_moved (map (swap_under e) p) (e.names a) (e.terms x) ∙ ap (λ b. fresh b (e.terms x)) (inverse_through p o a h)

  other : (a b : Name) → Own a → Own b → a ≢ b → name_eq (e.names a) (e.names b) ≡ false
  other a b h k n = not_name (e.names a) (e.names b) (λ i. n (apart a b h k i))

  -- freshness that follows under conditions that hold
  pub fresh_instance : (d : Context) → ((b : Name) (x : Var) → has_name b own ≡ true → d b x → fresh (e.names b) (e.terms x) ≡ true) → (a : Name) → has_name a own ≡ true
      → (t : NominalTerm) → AllOwn (names_then t []) → Fresh d a t → fresh (e.names a) (instance e t) ≡ true
  fresh_instance d k a h unit o f = refl
  fresh_instance d k a h (name b) o f = ap not (other a b h (o b (has_front b [])) f)
  fresh_instance d k a h (pair t u) o f =
      and_both (fresh (e.names a) (instance e t)) (fresh (e.names a) (instance e u))
      (fresh_instance d k a h t (own_front t (names_then u []) o) f.0) (fresh_instance d k a h u (own_rest t (names_then u []) o) f.1)
  fresh_instance d k a h (app g t) o f = fresh_instance d k a h t o f
  fresh_instance d k a h (abs b t) o (inl i) =
      or_if_left (name_eq (e.names a) (e.names b)) (fresh (e.names a) (instance e t)) (ap (λ c. name_eq (e.names a) (e.names c)) (sym i) ∙ name_eq_itself (e.names a))
  fresh_instance d k a h (abs b t) o (inr f) =
      or_if_right (name_eq (e.names a) (e.names b)) (fresh (e.names a) (instance e t)) (fresh_instance d k a h t (own_later b (names_then t []) o) f)
  fresh_instance d k a h (susp p x) o f =
      let q = own_swaps p o in
      fresh_susp p q x a h ∙ k (act_name (inverse p) a) x (inverse_own p q a h) f

  -- conditions that hold
  abbrev Held : List Cond → Type 0
  Held [] = Unit {0}
  Held (c ∷ cs) = (fresh (e.names c.name) (e.terms c.var) ≡ true) × Held cs

  held-append : (cs ds : List Cond) → Held cs → Held ds → Held (cs ++ ds)
  held-append [] ds h k = k
  held-append (c ∷ cs) ds h k = (h.0, held-append cs ds h.1 k)

  held_both : (o p : Option (List Cond)) → Held (conditions_left o) → Held (conditions_left p) → Held (conditions_left (both_lists o p))
  held_both None p h k = tt
  held_both (Some cs) None h k = tt
  held_both (Some cs) (Some ds) h k = held-append cs ds h k

  pub held_has : (cs : List Cond) → Held cs → (b : Name) (x : Var) → has_cond (record { name = b; var = x }) cs ≡ true → fresh (e.names b) (e.terms x) ≡ true
  held_has [] h b x i = absurd (true≢false (sym i))
  held_has (c ∷ cs) h b x i =
      elim (or_cases (cond_eq (record { name = b; var = x }) c) (has_cond (record { name = b; var = x }) cs) i) [
        | inl j ↦ ap₂ (λ a y. fresh (e.names a) (e.terms y)) (name_eq_same b c.name (and_right (var_eq x c.var) (name_eq b c.name) j))
            (var_same x c.var (and_left (var_eq x c.var) (name_eq b c.name) j)) ∙ h.0
        | inr j ↦ held_has cs h.1 b x j
      ]

  left_held : (a : Name) → Own a → (t : NominalTerm) → AllOwn (names_then t []) → fresh (e.names a) (instance e t) ≡ true → Held (conditions_left (reduce a t))
  left_held a h unit o f = tt
  left_held a h (name b) o f = elim (name_eq a b) as (λ v. Held (conditions_left (if v then None else Some []))) [ true ↦ tt | false ↦ tt ]
  left_held a h (pair t u) o f =
      held_both (reduce a t) (reduce a u)
      (left_held a h t (own_front t (names_then u []) o) (and_left (fresh (e.names a) (instance e t)) (fresh (e.names a) (instance e u)) f))
      (left_held a h u (own_rest t (names_then u []) o) (and_right (fresh (e.names a) (instance e t)) (fresh (e.names a) (instance e u)) f))
  left_held a h (app g t) o f = left_held a h t o f
  left_held a h (abs b t) o f =
      elim (name_tells a b) [
        | inl w ↦ rw w.0 tt
        | inr w ↦ rw w.0 (left_held a h t (own_later b (names_then t []) o)
            (or_right (name_eq (e.names a) (e.names b)) (fresh (e.names a) (instance e t)) (other a b h (o b (has_front b (names_then t []))) w.1) f))
      ]
  left_held a h (susp p x) o f = (sym (fresh_susp p (own_swaps p o) x a h) ∙ f, tt)

  -- what a body states holds where the body has a ground proof
  pub body_held : (p : NominalProgram) (kinds : List NominalKind) (proof : GroundProof) (g : NominalGoal) → IsValid p kinds proof g e → AllOwn (free_names g)
      → (a : Name) → has_name a own ≡ true → Held (stated_conditions a g)
  body_held p kinds proof goals.succeed v o a h = tt
  body_held p kinds proof (goals.atom q ts) v o a h = tt
  body_held p kinds proof (goals.equal t u) v o a h = tt
  body_held p kinds proof (goals.either f g) v o a h = tt
  body_held p kinds proof (goals.exists x g) v o a h = tt
  body_held p kinds proof (goals.new b g) v o a h = tt
  body_held p kinds proof (goals.fresh unit u) v o a h = tt
  body_held p kinds proof (goals.fresh (pair s t) u) v o a h = tt
  body_held p kinds proof (goals.fresh (app f t) u) v o a h = tt
  body_held p kinds proof (goals.fresh (abs b t) u) v o a h = tt
  body_held p kinds proof (goals.fresh (susp s x) u) v o a h = tt
  body_held p kinds nodes.fresh (goals.fresh (name b) u) v o a h =
      elim (name_tells a b) [
        | inl w ↦ rw w.0 (left_held a h u (own_later b (names_then u []) o) (ap (λ c. fresh (e.names c) (instance e u)) w.1 ∙ v))
        | inr w ↦ rw w.0 tt
      ]
  body_held p kinds (nodes.both d f) (goals.both g i) v o a h =
      held-append (stated_conditions a g) (stated_conditions a i)
      (body_held p kinds d g v.0 (λ b j. o b (has_name-append b (free_names g) (free_names i) ∙ or_if_left (has_name b (free_names g)) (has_name b (free_names i)) j)) a h)
      (body_held p kinds f i v.1 (λ b j. o b (has_name-append b (free_names g) (free_names i) ∙ or_if_right (has_name b (free_names g)) (has_name b (free_names i)) j)) a h)
  body_held p kinds _ _ v o a h = absurd v
