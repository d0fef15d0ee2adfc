-- How a deque is begun and closed.
use Rattle.std.proofs.Common.{◌≡◌, ℕ, ◌+◌, ◌-◌, ◌<◌, List, [], ◌∷◌, ◌++◌, ap, ◌∙◌, subst, append-nil, arith}
use Rattle.std.specs.declared.alloc.Global.{Global}
use Rattle.atomic_blocks.specs.Lent.{RowsId}
use Rattle.crossbeam_deque.specs.Tasks.{Pops, Forks, Merges, Finds}
use Rattle.ap_tools.specs.declared.deques.hand.Hand.{Hand}
use Rattle.ap_paths.specs.Weights.{weigh}
use Rattle.ap_tools.specs.Rule.{hand, Balanced, PermitsEmpty, Popped}
use Rattle.ap_tools.specs.Ends.{ThiefView}
use Rattle.ap_tools.specs.Owners.{parts_of_thieves, stolen_of, AreThievesOf}
use Rattle.ap_tools.proofs.Moves.{forks, merges, settles, pops, weigh-append}

pub forks_at : (port : ℕ) (v : Hand) → port ≡ 0 → 0 < v.parts → v.stolen ≡ [] → Forks Balanced port v (hand (v.parts - 1) v.pushed v.popped v.stolen) (hand 1 [] [] [])
forks_at port v is some_part none = rw is (forks v some_part none)

pub merges_at : (port : ℕ) (v : Hand) (other : ℕ) (u : Hand) → port ≡ 0 → Merges Balanced port v other u (hand (v.parts + u.parts) v.pushed v.popped (v.stolen ++ u.stolen)) (hand 0 [] [] [])
merges_at port v other u is = rw is (merges v other u)

pub pops_at : (port : ℕ) (v : Hand) → port ≡ 0 → Pops Balanced port v (Popped v)
pops_at port v is = rw is (pops v)

pub finds_at : (port : ℕ) (v : Hand) → port ≡ 0 → Finds Balanced port v (PermitsEmpty v)
finds_at port v is = rw is (λ views b at. (views, at, b))

pub cut_view : (v w : Hand) (n : ℕ) → v ≡ hand n [] [] [] → w ≡ hand (v.parts - 1) v.pushed v.popped v.stolen → w ≡ hand (n - 1) [] [] []
cut_view v w n is then = then ∙ ap (λ (u : Hand). hand (u.parts - 1) u.pushed u.popped u.stolen) is

-- nothing is left once the owner has all parts and finds the deque empty
pub empties : (v : Hand) → v.parts ≡ 1024 → PermitsEmpty v → (h : List ℕ → ℕ) → weigh h v.pushed ≡ weigh h v.popped + weigh h v.stolen
empties v all e h = let p = settles v [] e.0 all e.2 e.1 h in omega arith

parts_of-append : (xs ys : List ThiefView) → parts_of_thieves (xs ++ ys) ≡ parts_of_thieves xs + parts_of_thieves ys
parts_of-append [] ys = omega arith
parts_of-append (x ∷ xs) ys = omega (arith, parts_of-append xs ys)

stolen_of-append : (h : List ℕ → ℕ) (xs ys : List ThiefView) → stolen_of h (xs ++ ys) ≡ stolen_of h xs + stolen_of h ys
stolen_of-append h [] ys = omega arith
stolen_of-append h (x ∷ xs) ys = omega (arith, stolen_of-append h xs ys)

pub parts_of-last : (all xs : List ThiefView) (t : ThiefView) → all ≡ xs ++ t ∷ [] → parts_of_thieves all ≡ parts_of_thieves xs + t.parts
parts_of-last all xs t is = rw is (omega (arith, parts_of-append xs (t ∷ [])))

pub stolen_of-last : (h : List ℕ → ℕ) (all xs : List ThiefView) (t : ThiefView) → all ≡ xs ++ t ∷ [] → stolen_of h all ≡ stolen_of h xs + weigh h t.stolen
stolen_of-last h all xs t is = rw is (omega (arith, stolen_of-append h xs (t ∷ [])))

of_both : (d : RowsId × Global) (xs : List ThiefView) (t : ThiefView) → AreThievesOf d (xs ++ t ∷ []) → AreThievesOf d xs × (t.deque ≡ d)
of_both d [] t h = (tt, h.0)
of_both d (x ∷ xs) t h = let r = of_both d xs t h.1 in ((h.0, r.0), r.1)

pub of_last : (d : RowsId × Global) (all xs : List ThiefView) (t : ThiefView) → all ≡ xs ++ t ∷ [] → AreThievesOf d all → AreThievesOf d xs × (t.deque ≡ d)
of_last d all xs t is h = of_both d xs t (subst (AreThievesOf d) is h)

pub absorbed : (v u w : Hand) → w ≡ hand (v.parts + u.parts) v.pushed v.popped (v.stolen ++ u.stolen) → u ≡ hand 1 [] [] [] → w ≡ hand (v.parts + 1) v.pushed v.popped v.stolen
absorbed v u w is one = is ∙ ap (λ (y : Hand). hand (v.parts + y.parts) v.pushed v.popped (v.stolen ++ y.stolen)) one ∙ ap (λ s. hand (v.parts + 1) v.pushed v.popped s) (append-nil v.stolen)

pub drained : (v : Hand) (pushed popped left stolen : List (List ℕ)) → v ≡ hand 1024 pushed (popped ++ left) stolen → PermitsEmpty v → (h : List ℕ → ℕ) → weigh h pushed ≡ (weigh h popped + weigh h stolen) + weigh h left
drained v pushed popped left stolen is e h =
    let a = empties v (ap (λ (u : Hand). u.parts) is) e h in
    let b = ap (λ (u : Hand). weigh h u.pushed) is in
    let c = ap (λ (u : Hand). weigh h u.popped) is in
    let d = ap (λ (u : Hand). weigh h u.stolen) is in
    omega (arith, weigh-append h popped left)
