-- What was seen of the variables that were brought.
use Rattle.std.proofs.Common.{◌≡◌, ℕ, zero, suc, ◌+◌, ◌<◌, ◌≤◌, true, false, List, [], ◌∷◌, ◌++◌, filter, get_or, length, map, take, drop, refl, sym, ap, ap₂, ◌∙◌, append_assoc, length-append, true≢false, arith}
use Rattle.std.proofs.lemmas.List.{get_or_append_left, length-take-le, take-append-drop, take_all}
use Rattle.std.proofs.Math.Seq.{get_or-append_seam}
use Rattle.std.specs.Prelude.{Bool, if◌then◌else◌, not}
use Rattle.ap_defs.specs.Freshness.{var_eq}
use Rattle.ap_defs.specs.Substitution.{put_binding, under}
use Rattle.ap_defs.specs.declared.terms.Var.{Var}
use Rattle.ap_store.proofs.BindLemmas.{is_bound_put}
use Rattle.ap_store.proofs.TrailLemmas.{versions_after}
use Rattle.ap_store.specs.Changes.{Change, Made, Bound, Added, Taken, after, empty, present_after}
use Rattle.ap_store.specs.Triples.{IsPrefixOf, Triple}
use Rattle.ap_store.specs.Views.{bindings_of, changes, past, present, versions}
use Rattle.ap_store.specs.declared.store.Store.{Store}
use Rattle.ap_theory.proofs.BooleanLemmas.{or_if_right}
use Rattle.ap_theory.specs.Variables.{is_bound}
use Rattle.ap_machine.proofs.BroughtLemmas.{unbound_more}
use Rattle.ap_machine.proofs.TrackLemmas.{longer_length, longer_same, take_longer}
use Rattle.ap_machine.specs.Brought.{vars_of_brought, vars_of_one}
use Rattle.ap_machine.specs.GoalStacks.{IsLonger}
use Rattle.ap_machine.specs.Looks.{HasLooked, unbound_at}
use Rattle.ap_machine.specs.Unbound.{unbound_vars}
use Rattle.ap_machine.specs.Views.{state_in}
use Rattle.ap_machine.specs.declared.brought.Brought.{Brought}
use Rattle.ap_machine.specs.declared.looks.Look.{Look}

-- What is bound stays bound.
bound_after : (c : Change) (a : Triple) (x : Var) → is_bound x a.bindings ≡ true → is_bound x (after c a).bindings ≡ true
bound_after (Made n) a x h = h
bound_after (Bound y t) a x h =
    or_if_right (var_eq x y) (is_bound x (map (put_binding y (under a.bindings t)) a.bindings)) (is_bound_put y (under a.bindings t) x a.bindings ∙ h)
bound_after (Added d) a x h = h
bound_after (Taken y ds) a x h = h

bound_since : (cs : List Change) (a : Triple) (x : Var) → is_bound x a.bindings ≡ true → is_bound x (present_after cs a).bindings ≡ true
bound_since [] a x h = h
bound_since (c ∷ cs) a x h = bound_since cs (after c a) x (bound_after c a x h)

bound_from : (cs : List Change) (a : Triple) (n : ℕ) (x : Var) → n < length (versions_after cs a) → is_bound x (get_or (versions_after cs a) n empty).bindings ≡ true
    → is_bound x (present_after cs a).bindings ≡ true
bound_from [] a zero x l h = h
bound_from [] a (suc n) x l h = absurd (omega (arith, l))
bound_from (c ∷ cs) a zero x l h = bound_since (c ∷ cs) a x h
bound_from (c ∷ cs) a (suc n) x l h = bound_from cs (after c a) n x (omega (arith, l)) h

not_back : (a b : Bool) → (a ≡ true → b ≡ true) → not b ≡ true → not a ≡ true
not_back true b h k = absurd (true≢false (sym k ∙ ap not (h refl)))
not_back false b h k = refl

-- where a second test gives true only where a first one does, the second alone tells which elements have both
filter_twice : {A : Type 0} (p q : A → Bool) → ((x : A) → q x ≡ true → p x ≡ true) → (xs : List A) → filter q (filter p xs) ≡ filter q xs
filter_twice p q h [] = refl
filter_twice p q h (x ∷ xs) =
    elim (p x) as (λ b. p x ≡ b → filter q (if b then (x ∷ filter p xs) else filter p xs) ≡ filter q (x ∷ xs)) [
      | true ↦ λ e. ap (λ ys. if q x then (x ∷ ys) else ys) (filter_twice p q h xs)
      | false ↦ λ e. elim (q x) as (λ c. q x ≡ c → filter q (filter p xs) ≡ (if c then (x ∷ filter q xs) else filter q xs)) [
        | true ↦ λ f. absurd (true≢false (sym (h x f) ∙ e))
        | false ↦ λ f. filter_twice p q h xs
      ] refl
    ] refl

vars_append : (bs cs : List Brought) → vars_of_brought (bs ++ cs) ≡ vars_of_brought bs ++ vars_of_brought cs
vars_append [] cs = refl
vars_append (b ∷ bs) cs = ap (λ xs. vars_of_one b ++ xs) (vars_append bs cs) ∙ sym (append_assoc (vars_of_one b) (vars_of_brought bs) (vars_of_brought cs))

-- what was open, and the ranges that were not looked at, have all that is unbound
pub look_now : (s : Store) (bs : List Brought) (l : Look) → HasLooked (versions s) bs l
    → unbound_vars (state_in s) l.unbound.items ++ unbound_vars (state_in s) (vars_of_brought (drop l.looked bs)) ≡ unbound_vars (state_in s) (vars_of_brought bs)
look_now s bs l h =
    let v : Triple = get_or (versions s) l.place empty in
    let before : Var → Bool = λ x. not (is_bound x v.bindings) in
    let now : Var → Bool = λ x. not (is_bound x (bindings_of s)) in
    let seen = take l.looked bs in
    let others = drop l.looked bs in
    let since : (x : Var) → now x ≡ true → before x ≡ true =
    λ x k. not_back (is_bound x v.bindings) (is_bound x (bindings_of s)) (bound_from (changes s) empty l.place x h.0) k in
    ap (λ xs. unbound_vars (state_in s) xs ++ unbound_vars (state_in s) (vars_of_brought others)) h.2
    ∙ ap (λ xs. xs ++ unbound_vars (state_in s) (vars_of_brought others)) (filter_twice before now since (vars_of_brought seen))
    ∙ sym (unbound_more (state_in s) (vars_of_brought seen) (vars_of_brought others))
    ∙ ap (unbound_vars (state_in s)) (sym (vars_append seen others) ∙ ap vars_of_brought (take-append-drop l.looked bs))

-- The versions and the ranges go on, or the search goes back.
module _ (vs ws : List Triple) (bs cs : List Brought) (l : Look) (g : IsPrefixOf vs ws) (m : IsLonger bs cs) where
  open_same : l.place < length vs → l.looked ≤ length bs → unbound_at (get_or ws l.place empty) (take l.looked cs) ≡ unbound_at (get_or vs l.place empty) (take l.looked bs)
  open_same p k =
      ap (λ us. unbound_at (get_or us l.place empty) (take l.looked cs)) g.1
      ∙ ap (λ (v : Triple). unbound_at v (take l.looked cs)) (get_or_append_left vs g.0 empty l.place p)
      ∙ ap (λ ds. unbound_at (get_or vs l.place empty) ds) (take_longer bs cs l.looked m k)

  pub look_goes : HasLooked vs bs l → HasLooked ws cs l
  look_goes h =
      let p = h.0 in let k = h.1 in
      let i = longer_length vs ws g in let j = longer_length bs cs m in
      (omega (arith, p, i), omega (arith, k, j), h.2 ∙ sym (open_same p k))

  pub look_back : l.place < length vs → l.looked ≤ length bs → HasLooked ws cs l → HasLooked vs bs l
  look_back p k h = (p, k, h.2 ∙ open_same p k)

-- the store alone goes on, or the ranges alone
pub look_on : (vs ws : List Triple) (bs : List Brought) (l : Look) → IsPrefixOf vs ws → HasLooked vs bs l → HasLooked ws bs l
look_on vs ws bs l g h = look_goes vs ws bs bs l g (longer_same bs bs refl) h

pub look_with : (vs : List Triple) (bs cs : List Brought) (l : Look) → IsLonger bs cs → HasLooked vs bs l → HasLooked vs cs l
look_with vs bs cs l m h = look_goes vs vs bs cs l (longer_same vs vs refl) m h

-- nothing was looked at
pub look_none : (vs : List Triple) (bs : List Brought) (l : Look) → 0 < length vs → l.place ≡ 0 → l.looked ≡ 0 → l.unbound.items ≡ [] → HasLooked vs bs l
look_none vs bs l h p k o = (omega (arith, h, p), omega (arith, k), o ∙ sym (ap (λ n. unbound_at (get_or vs l.place empty) (take n bs)) k))

pub some_versions : (s : Store) → 0 < length (versions s)
some_versions s = let e = length-append (past s) (present s ∷ []) in omega (arith, e)

-- all was looked at
pub look_here : (s : Store) (bs : List Brought) (l : Look) → l.place ≡ length (past s) → l.looked ≡ length bs → l.unbound.items ≡ unbound_vars (state_in s) (vars_of_brought bs)
    → HasLooked (versions s) bs l
look_here s bs l p k o =
    let e = length-append (past s) (present s ∷ []) in
    let there : get_or (versions s) l.place empty ≡ present s = ap (λ n. get_or (versions s) n empty) p ∙ get_or-append_seam (past s) (present s) [] empty in
    let all : take l.looked bs ≡ bs = take_all l.looked bs (omega (arith, k)) in
    (omega (arith, e, p), omega (arith, k), o ∙ sym (ap₂ (λ (v : Triple) (cs : List Brought). unbound_at v cs) there all))

-- the search goes back
pub look_undone : (vs : List Triple) (bs : List Brought) (l : Look) (m n : ℕ) → l.place ≤ m → l.looked ≤ n → m < length vs → n ≤ length bs → HasLooked vs bs l
    → HasLooked (take (m + 1) vs) (take n bs) l
look_undone vs bs l m n p k i j h =
    let d : length (take (m + 1) vs) ≡ m + 1 = length-take-le (m + 1) vs (omega (arith, i)) in
    let e : length (take n bs) ≡ n = length-take-le n bs j in
    look_back (take (m + 1) vs) vs (take n bs) bs l (drop (m + 1) vs, sym (take-append-drop (m + 1) vs)) (drop n bs, sym (take-append-drop n bs))
    (omega (arith, d, p)) (omega (arith, e, k)) h

pub look_forgotten : (vs : List Triple) (bs : List Brought) (l : Look) (m n : ℕ) → m < length vs → l.place ≡ 0 → l.looked ≡ 0 → l.unbound.items ≡ [] → HasLooked (take (m + 1) vs) (take n bs) l
look_forgotten vs bs l m n i p k o =
    let d : length (take (m + 1) vs) ≡ m + 1 = length-take-le (m + 1) vs (omega (arith, i)) in
    look_none (take (m + 1) vs) (take n bs) l (omega (arith, d)) p k o
