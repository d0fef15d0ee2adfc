-- Goals in an goal_stack stay where they are.
use Rattle.std.proofs.Common.{◌≡◌, ℕ, zero, suc, ◌+◌, ◌-◌, ◌<◌, ◌≤◌, List, [], ◌∷◌, ◌++◌, length, get_or, take, drop, refl, sym, ap, ◌∙◌, length-append, arith, subst}
use Rattle.std.proofs.lemmas.List.{get_or_append_left, length-take-le, take-append-drop}
use Rattle.std.proofs.Math.Seq.{drop-cons, get_or-append_seam, take-nil}
use Rattle.ap_search.specs.Continuations.{Waiting}
use Rattle.ap_machine.specs.GoalStacks.{AreLinked, IsLonger, frame_of, stacks_with, waiting_at}
use Rattle.ap_machine.specs.Views.{waiting_of}
use Rattle.ap_machine.specs.declared.frames.Cell.{Cell}

stacks_append : (ss : List (List Waiting)) (cs ds : List Cell) → stacks_with ss (cs ++ ds) ≡ stacks_with (stacks_with ss cs) ds
stacks_append ss [] ds = refl
stacks_append ss (c ∷ cs) ds = stacks_append (ss ++ (waiting_of (frame_of c) ∷ get_or ss c.next []) ∷ []) cs ds

length-stacks : (ss : List (List Waiting)) (cs : List Cell) → length (stacks_with ss cs) ≡ length ss + length cs
length-stacks ss [] = omega arith
length-stacks ss (c ∷ cs) =
    let h = length-stacks (ss ++ (waiting_of (frame_of c) ∷ get_or ss c.next []) ∷ []) cs in
    let k = length-append ss ((waiting_of (frame_of c) ∷ get_or ss c.next []) ∷ []) in
    omega (arith, h, k)

-- what was there stays
stacks_stay : (ss : List (List Waiting)) (cs : List Cell) (n : ℕ) → n < length ss → get_or (stacks_with ss cs) n [] ≡ get_or ss n []
stacks_stay ss [] n h = refl
stacks_stay ss (c ∷ cs) n h =
    let s = waiting_of (frame_of c) ∷ get_or ss c.next [] in
    let k = length-append ss (s ∷ []) in
    stacks_stay (ss ++ s ∷ []) cs n (omega (arith, h, k)) ∙ get_or_append_left ss (s ∷ []) [] n h

pub waiting_stays : (cs ds : List Cell) (n : ℕ) → n ≤ length cs → waiting_at (cs ++ ds) n ≡ waiting_at cs n
waiting_stays cs ds n h =
    let k = length-stacks ([] ∷ []) cs in
    ap (λ ss. get_or ss n []) (stacks_append ([] ∷ []) cs ds) ∙ stacks_stay (stacks_with ([] ∷ []) cs) ds n (omega (arith, h, k))

pub waiting_longer : (cs ds : List Cell) (n : ℕ) → IsLonger cs ds → n ≤ length cs → waiting_at ds n ≡ waiting_at cs n
waiting_longer cs ds n l h = ap (λ es. waiting_at es n) l.1 ∙ waiting_stays cs l.0 n h

pub waiting_cut : (cs : List Cell) (m n : ℕ) → n ≤ m → m ≤ length cs → waiting_at (take m cs) n ≡ waiting_at cs n
waiting_cut cs m n h k =
    let e = length-take-le m cs k in
    sym (ap (λ es. waiting_at es n) (sym (take-append-drop m cs)) ∙ waiting_stays (take m cs) (drop m cs) n (omega (arith, h, e)))

-- a goal that is put in front
pub waiting_front : (cs ds : List Cell) (c : Cell) (n : ℕ) → n ≡ suc (length cs) → c.next ≤ length cs
    → waiting_at (cs ++ c ∷ ds) n ≡ waiting_of (frame_of c) ∷ waiting_at cs c.next
waiting_front cs ds c n e h =
    let s = waiting_of (frame_of c) ∷ get_or (stacks_with ([] ∷ []) cs) c.next [] in
    let k = length-stacks ([] ∷ []) cs in
    let i : n < length (stacks_with ([] ∷ []) cs ++ s ∷ []) = omega (arith, e, k, length-append (stacks_with ([] ∷ []) cs) (s ∷ [])) in
    let j : n ≡ length (stacks_with ([] ∷ []) cs) = omega (arith, e, k) in
    ap (λ ss. get_or ss n []) (stacks_append ([] ∷ []) cs (c ∷ ds))
    ∙ stacks_stay (stacks_with ([] ∷ []) cs ++ s ∷ []) ds n i
    ∙ ap (λ m. get_or (stacks_with ([] ∷ []) cs ++ s ∷ []) m []) j
    ∙ get_or-append_seam (stacks_with ([] ∷ []) cs) s [] []

pub linked_last : (n : ℕ) (cs : List Cell) (c : Cell) → AreLinked n cs → c.next ≤ n + length cs → AreLinked n (cs ++ c ∷ [])
linked_last n [] c l h = (omega (arith, h), tt)
linked_last n (d ∷ cs) c l h = (l.0, linked_last (suc n) cs c l.1 (omega (arith, h)))

pub linked_cut : (n : ℕ) (cs : List Cell) (m : ℕ) → AreLinked n cs → AreLinked n (take m cs)
linked_cut n [] m l = subst (AreLinked n) (sym (take-nil m)) tt
linked_cut n (c ∷ cs) zero l = tt
linked_cut n (c ∷ cs) (suc m) l = (l.0, linked_cut (suc n) cs m l.1)

pub linked_at : (n : ℕ) (cs : List Cell) (i : ℕ) (c : Cell) → i < length cs → c ≡ get_or cs i c → AreLinked n cs → c.next ≤ n + i
linked_at n [] i c h e l = absurd (omega arith)
linked_at n (d ∷ cs) zero c h e l = let k = l.0 in subst (λ (x : Cell). x.next ≤ n + 0) (sym e) (omega (arith, k))
linked_at n (d ∷ cs) (suc i) c h e l = let k = linked_at (suc n) cs i c (omega arith) e l.1 in omega (arith, k)

-- the cell of a number
pub waiting_cell : (cs : List Cell) (c : Cell) (n : ℕ) → n < length cs → c ≡ get_or cs n c → AreLinked 0 cs
    → waiting_at cs (suc n) ≡ waiting_of (frame_of c) ∷ waiting_at cs c.next
waiting_cell cs c n h e l =
    let before = take n cs in
    let after = drop (suc n) cs in
    let many = length-take-le n cs (omega (arith, h)) in
    let earlier = linked_at 0 cs n c h e l in
    let parts : cs ≡ before ++ c ∷ after = sym (take-append-drop n cs) ∙ ap (λ ds. before ++ ds) (drop-cons cs n c h ∙ ap (λ x. x ∷ after) (sym e)) in
    ap (λ ds. waiting_at ds (suc n)) parts
    ∙ waiting_front before after c (suc n) (ap suc (sym many)) (omega (arith, many, earlier))
    ∙ ap (λ ws. waiting_of (frame_of c) ∷ ws) (waiting_cut cs n c.next (omega (arith, earlier)) (omega (arith, h)))

pub waiting_none : (cs : List Cell) (n : ℕ) → n ≡ 0 → waiting_at cs n ≡ []
waiting_none cs n e = let l : 0 < 1 = omega arith in ap (waiting_at cs) e ∙ stacks_stay ([] ∷ []) cs 0 l

pub waiting_first : (cs : List Cell) (c : Cell) (n : ℕ) → (n ≡ 0 → ⊥) → n ≤ length cs → c ≡ get_or cs (n - 1) c → AreLinked 0 cs
    → waiting_at cs n ≡ waiting_of (frame_of c) ∷ waiting_at cs c.next
waiting_first cs c zero k h e l = absurd (k refl)
waiting_first cs c (suc n) k h e l = let i : suc n - 1 ≡ n = omega arith in waiting_cell cs c n (omega arith) (e ∙ ap (λ m. get_or cs m c) i) l

pub next_within : (cs : List Cell) (c : Cell) (n : ℕ) → (n ≡ 0 → ⊥) → n ≤ length cs → c ≡ get_or cs (n - 1) c → AreLinked 0 cs → c.next ≤ length cs
next_within cs c zero k h e l = absurd (k refl)
next_within cs c (suc n) k h e l =
    let i : suc n - 1 ≡ n = omega arith in let m = linked_at 0 cs n c (omega arith) (e ∙ ap (λ j. get_or cs j c) i) l in omega (arith, m, h)
