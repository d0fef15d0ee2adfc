-- Each move keeps the rule.
use Rattle.std.proofs.Common.{◌≡◌, ◌≢◌, ℕ, zero, suc, ◌+◌, ◌-◌, ◌<◌, ◌≤◌, ◌⊎◌, List, [], ◌∷◌, ◌++◌, length, set, sym, refl, ap, ◌∙◌, subst, inl, inr, ⊎_elim, length-append, arith}
use Rattle.std.specs.Prelude.{min}
use mathlib.Core.Option.{some, some-injective, some-ne-none}
use lib.ListN.{get_elem?}
use Rattle.crossbeam_deque.specs.Tasks.{Pushes, Takes, Pops, Finds, FindsFew, Learns, Forks, Merges}
use Rattle.crossbeam_deque.proofs.Lists.{at_set}
use Rattle.ap_tools.specs.declared.deques.hand.Hand.{Hand}
use Rattle.ap_paths.specs.Weights.{weigh}
use Rattle.ap_tools.specs.Rule.{hand, thief_hand, total, IsQuiet, AreQuiet, Balanced, Permits, PermitsEmpty, PermitsFew, Pushed, Popped, Robbed}

pub weigh-append : (h : List ℕ → ℕ) (xs ys : List (List ℕ)) → weigh h (xs ++ ys) ≡ weigh h xs + weigh h ys
weigh-append h [] ys = omega arith
weigh-append h (x ∷ xs) ys = omega (arith, weigh-append h xs ys)

-- the total after a change of one view
total_set : (f : Hand → ℕ) (views : List Hand) (port : ℕ) (v w : Hand) → get_elem? views port ≡ some v → total f (set views port w) + f v ≡ total f views + f w
total_set f [] port v w at = absurd (some-ne-none v (sym at))
total_set f (x ∷ xs) zero v w at = let e : f x ≡ f v = ap f (some-injective x v at) in omega arith
total_set f (x ∷ xs) (suc port) v w at = omega (arith, total_set f xs port v w at)

total_snoc : (f : Hand → ℕ) (views : List Hand) (w : Hand) → total f (views ++ w ∷ []) ≡ total f views + f w
total_snoc f [] w = omega arith
total_snoc f (x ∷ xs) w = omega (arith, total_snoc f xs w)

total_at : (f : Hand → ℕ) (views : List Hand) (port : ℕ) (v : Hand) → get_elem? views port ≡ some v → f v ≤ total f views
total_at f [] port v at = absurd (some-ne-none v (sym at))
total_at f (x ∷ xs) zero v at = let e : f x ≡ f v = ap f (some-injective x v at) in omega arith
total_at f (x ∷ xs) (suc port) v at = omega (arith, total_at f xs port v at)

-- where no view has a part
none_but : (f : Hand → ℕ) (views : List Hand) → total (λ u. u.parts) views ≡ 0 → ((j : ℕ) (u : Hand) → get_elem? views j ≡ some u → u.parts ≡ 0 → f u ≡ 0) → total f views ≡ 0
none_but f [] e nil = refl
none_but f (x ∷ xs) e nil =
    let a : f x ≡ 0 = nil 0 x refl (omega arith) in
    let b : total f xs ≡ 0 = none_but f xs (omega arith) (λ j u at p. nil (suc j) u at p) in
    omega arith

-- where one view has all parts, f of the others is 0
alone : (f : Hand → ℕ) (views : List Hand) (port : ℕ) (v : Hand) → get_elem? views port ≡ some v → total (λ u. u.parts) views ≡ v.parts → ((j : ℕ) (u : Hand) → get_elem? views j ≡ some u → u.parts ≡ 0 → j ≢ port → f u ≡ 0) → total f views ≡ f v
alone f [] port v at e nil = absurd (some-ne-none v (sym at))
alone f (x ∷ xs) zero v at e nil =
    let is : x ≡ v = some-injective x v at in
    let p : x.parts ≡ v.parts = ap (λ (u : Hand). u.parts) is in
    let fx : f x ≡ f v = ap f is in
    let b : total f xs ≡ 0 = none_but f xs (omega arith) (λ j u there q. nil (suc j) u there q (λ s. omega arith)) in
    omega arith
alone f (x ∷ xs) (suc port) v at e nil =
    let m : v.parts ≤ total (λ u. u.parts) xs = total_at (λ u. u.parts) xs port v at in
    let a : f x ≡ 0 = nil 0 x refl (omega arith) (λ s. omega arith) in
    let b : total f xs ≡ f v = alone f xs port v at (omega arith) (λ j u there q apart. nil (suc j) u there q (λ s. apart (omega arith))) in
    omega arith

quiet_set : (views : List Hand) (port : ℕ) (w : Hand) → IsQuiet port w → AreQuiet views → AreQuiet (set views port w)
quiet_set views port w mine all j u at =
    ⊎_elim (λ (x : (j ≡ port) × (w ≡ u)). subst (λ (y : ℕ × Hand). IsQuiet y.0 y.1) (λ i. (sym x.0 i, x.1 i)) mine)
    (λ (x : (j ≢ port) × (get_elem? views j ≡ some u)). all j u x.1) (at_set views port j w u at)

-- the last place of a longer list
last_place : (l : List Hand) (a b : Hand) (j : ℕ) → get_elem? (l ++ a ∷ []) j ≡ some b → (get_elem? l j ≡ some b) ⊎ ((a ≡ b) × (j ≡ length l))
last_place [] a b zero e = inr (some-injective a b e, refl)
last_place [] a b (suc j) e = absurd (some-ne-none b (sym e))
last_place (x ∷ xs) a b zero e = inl e
last_place (x ∷ xs) a b (suc j) e = ⊎_elim (λ t. inl t) (λ (t : (a ≡ b) × (j ≡ length xs)). inr (t.0, ap suc t.1)) (last_place xs a b j e)

quiet_snoc : (views : List Hand) (w : Hand) → w.stolen ≡ [] → w.pushed ≡ [] → w.popped ≡ [] → AreQuiet views → AreQuiet (views ++ w ∷ [])
quiet_snoc views w a b c all j u at =
    ⊎_elim (λ x. all j u x)
    (λ (x : (w ≡ u) × (j ≡ length views)). subst (λ (y : Hand). IsQuiet j y) x.0 ((λ _. a), λ _. (b, c)))
    (last_place views w u j at)

pub pushes : (v : Hand) (xs : List (List ℕ)) → Pushes Balanced 0 v xs (Pushed v xs)
pushes v xs items views b at =
    let w = hand v.parts (v.pushed ++ xs) v.popped v.stolen in (
      w,
      (
        (let s = total_set (λ u. u.parts) views 0 v w at in let p = b.0 in omega arith),
        (λ h.
            let s = total_set (λ u. weigh h u.pushed) views 0 v w at in
            let t = total_set (λ u. weigh h u.popped) views 0 v w at in
            let r = total_set (λ u. weigh h u.stolen) views 0 v w at in
            let p = b.1 h in
            omega (arith, weigh-append h v.pushed xs, weigh-append h items xs)),
        quiet_set views 0 w ((b.2 0 v at).0, λ n. absurd (n refl)) b.2,
      ),
      refl,
    )

-- where the others' f is 0
nothing : (f : Hand → ℕ) (views : List Hand) → ((j : ℕ) (u : Hand) → get_elem? views j ≡ some u → f u ≡ 0) → total f views ≡ 0
nothing f [] nil = refl
nothing f (x ∷ xs) nil = let a = nil 0 x refl in let b = nothing f xs (λ j u at. nil (suc j) u at) in omega arith

only : (f : Hand → ℕ) (views : List Hand) (port : ℕ) (v : Hand) → get_elem? views port ≡ some v → ((j : ℕ) (u : Hand) → get_elem? views j ≡ some u → j ≢ port → f u ≡ 0) → total f views ≡ f v
only f [] port v at nil = absurd (some-ne-none v (sym at))
only f (x ∷ xs) zero v at nil = let a : f x ≡ f v = ap f (some-injective x v at) in let b = nothing f xs (λ j u there. nil (suc j) u there (λ s. omega arith)) in omega arith
only f (x ∷ xs) (suc port) v at nil = let a = nil 0 x refl (λ s. omega arith) in let b = only f xs port v at (λ j u there apart. nil (suc j) u there (λ s. apart (omega arith))) in omega arith

weigh-one : (xs : List (List ℕ)) → weigh (λ _. 1) xs ≡ length xs
weigh-one [] = refl
weigh-one (x ∷ xs) = omega (arith, weigh-one xs)

-- the worker popped no more than it pushed, beside what the deque holds
bounded : (v : Hand) (items : List (List ℕ)) (views : List Hand) → Balanced items views → get_elem? views 0 ≡ some v → length v.popped + length items ≤ length v.pushed
bounded v items views b at =
    let one : List ℕ → ℕ = λ _. 1 in
    let s = only (λ u. weigh one u.pushed) views 0 v at (λ j u there apart. ap (weigh one) ((b.2 j u there).1 apart).0) in
    let t = only (λ u. weigh one u.popped) views 0 v at (λ j u there apart. ap (weigh one) ((b.2 j u there).1 apart).1) in
    let p = b.1 one in
    omega (arith, weigh-one v.pushed, weigh-one v.popped, weigh-one items)

pub pops : (v : Hand) → Pops Balanced 0 v (Popped v)
pops v x items views b at =
    let xs : List (List ℕ) = x ∷ [] in
    let w = hand v.parts v.pushed (v.popped ++ xs) v.stolen in (
      w,
      (
        (let s = total_set (λ u. u.parts) views 0 v w at in let p = b.0 in omega arith),
        (λ h.
            let s = total_set (λ u. weigh h u.pushed) views 0 v w at in
            let t = total_set (λ u. weigh h u.popped) views 0 v w at in
            let r = total_set (λ u. weigh h u.stolen) views 0 v w at in
            let p = b.1 h in
            omega (arith, weigh-append h v.popped xs, weigh-append h items xs)),
        quiet_set views 0 w ((b.2 0 v at).0, λ n. absurd (n refl)) b.2,
      ),
      (refl, (let n = bounded v (items ++ x ∷ []) views b at in omega (arith, length-append items (x ∷ []), length-append v.popped (x ∷ [])))),
    )

pub robs : (port : ℕ) (v : Hand) → 0 < v.parts → Takes Balanced port v 1 (Robbed v)
robs port v some_part xs items views _ _ b at =
    let w = hand v.parts v.pushed v.popped (v.stolen ++ xs) in (
      w,
      (
        (let s = total_set (λ u. u.parts) views port v w at in let p = b.0 in omega arith),
        (λ h.
            let s = total_set (λ u. weigh h u.pushed) views port v w at in
            let t = total_set (λ u. weigh h u.popped) views port v w at in
            let r = total_set (λ u. weigh h u.stolen) views port v w at in
            let p = b.1 h in
            omega (arith, weigh-append h v.stolen xs, weigh-append h xs items)),
        quiet_set views port w ((λ none. absurd (omega arith)), (b.2 port v at).1) b.2,
      ),
      refl,
    )

pub finds : (v : Hand) → Finds Balanced 0 v (PermitsEmpty v)
finds v views b at = (views, at, b)

pub looks : (port : ℕ) (v : Hand) → Learns Balanced port v (Permits v)
looks port v items views b at = (views, port, at, b)

pub finds_few : (flavor port : ℕ) (v : Hand) → flavor ≡ 1 → v ≡ thief_hand v.stolen → FindsFew Balanced (min flavor 1) port v (PermitsFew v.stolen)
finds_few flavor port v is known items views few b at = (items, subst (λ k. length items ≤ min k 1) is few, (views, port, at ∙ ap some known, b))

pub forks : (v : Hand) → 0 < v.parts → v.stolen ≡ [] → Forks Balanced 0 v (hand (v.parts - 1) v.pushed v.popped v.stolen) (hand 1 [] [] [])
forks v some_part none items views b at =
    let l = hand (v.parts - 1) v.pushed v.popped v.stolen in
    let r = hand 1 [] [] [] in
    let vs = set views 0 l in (
      (let s = total_set (λ u. u.parts) views 0 v l at in let t = total_snoc (λ u. u.parts) vs r in let p = b.0 in omega arith),
      (λ h.
          let s = total_set (λ u. weigh h u.pushed) views 0 v l at in
          let t = total_set (λ u. weigh h u.popped) views 0 v l at in
          let q = total_set (λ u. weigh h u.stolen) views 0 v l at in
          let s' = total_snoc (λ u. weigh h u.pushed) vs r in
          let t' = total_snoc (λ u. weigh h u.popped) vs r in
          let q' = total_snoc (λ u. weigh h u.stolen) vs r in
          let p = b.1 h in
          omega arith),
      quiet_snoc vs r refl refl refl (quiet_set views 0 l ((λ _. none), λ n. absurd (n refl)) b.2),
    )

pub merges : (v : Hand) (other : ℕ) (u : Hand) → Merges Balanced 0 v other u (hand (v.parts + u.parts) v.pushed v.popped (v.stolen ++ u.stolen)) (hand 0 [] [] [])
merges v other u items views b at two at' =
    let both = hand (v.parts + u.parts) v.pushed v.popped (v.stolen ++ u.stolen) in
    let spent = hand 0 [] [] [] in
    let vs = set views 0 both in
    let was : get_elem? views other ≡ some u = ⊎_elim (λ x. absurd (two x.0)) (λ x. x.1) (at_set views 0 other both u at') in
    let mine = b.2 0 v at in
    let theirs = b.2 other u was in
    let clean = theirs.1 two in (
      (let s = total_set (λ y. y.parts) views 0 v both at in let t = total_set (λ y. y.parts) vs other u spent at' in let p = b.0 in omega arith),
      (λ h.
          let s = total_set (λ y. weigh h y.pushed) views 0 v both at in
          let t = total_set (λ y. weigh h y.popped) views 0 v both at in
          let q = total_set (λ y. weigh h y.stolen) views 0 v both at in
          let s' = total_set (λ y. weigh h y.pushed) vs other u spent at' in
          let t' = total_set (λ y. weigh h y.popped) vs other u spent at' in
          let q' = total_set (λ y. weigh h y.stolen) vs other u spent at' in
          let p = b.1 h in
          omega (arith, ap (weigh h) clean.0, ap (weigh h) clean.1, weigh-append h v.stolen u.stolen)),
      quiet_set vs other spent ((λ _. refl), λ _. (refl, refl))
          (quiet_set views 0 both ((λ none. rw (mine.0 (omega arith), theirs.0 (omega arith)) refl), λ n. absurd (n refl)) b.2),
    )

-- where the worker has all parts, the rule speaks of its view alone
pub settles : (v : Hand) (items : List (List ℕ)) (views : List Hand) → v.parts ≡ 1024 → Balanced items views → get_elem? views 0 ≡ some v
    → (h : List ℕ → ℕ) → weigh h v.pushed ≡ (weigh h v.popped + weigh h v.stolen) + weigh h items
settles v items views all b at h =
    let whole : total (λ u. u.parts) views ≡ v.parts = b.0 ∙ sym all in
    let s = alone (λ u. weigh h u.pushed) views 0 v at whole (λ j u there q apart. ap (weigh h) ((b.2 j u there).1 apart).0) in
    let t = alone (λ u. weigh h u.popped) views 0 v at whole (λ j u there q apart. ap (weigh h) ((b.2 j u there).1 apart).1) in
    let r = alone (λ u. weigh h u.stolen) views 0 v at whole (λ j u there q apart. ap (weigh h) ((b.2 j u there).0 q)) in
    let p = b.1 h in
    omega arith

quiet_one : (port : ℕ) (v : Hand) → get_elem? (hand 1024 [] [] [] ∷ []) port ≡ some v → IsQuiet port v
quiet_one zero v at = let is = some-injective (hand 1024 [] [] []) v at in subst (λ (u : Hand). IsQuiet 0 u) is ((λ _. refl), λ n. absurd (n refl))
quiet_one (suc port) v at = absurd (some-ne-none v (sym at))

pub begins : Balanced [] (hand 1024 [] [] [] ∷ [])
begins = (refl, (λ h. refl), λ port v at. quiet_one port v at)
