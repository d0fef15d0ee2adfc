-- What the program's workers do is what the events say.
use Rattle.std.proofs.Common.{◌≡◌, ◌≢◌, ℕ, zero, suc, ◌+◌, ◌<◌, ◌≤◌, Bool, true, false, List, [], ◌∷◌, ◌++◌, length, set, get_or, sym, refl, ap, ◌∙◌, subst, Some, None, Result, Ok, Err, IfOk, if◌then◌else◌, add-one, append-nil, append_assoc, arith}
use Rattle.std.specs.Prelude.{slice_get}
use Rattle.ap_paths.specs.declared.runs.Run.{Run}
use Rattle.ap_paths.specs.Runs.{outs_of_runs}
use Rattle.ap_paths.specs.History.{kids_of}
use Rattle.ap_paths.specs.Trees.{Choices, Outputs, AreKids}
use Rattle.ap_paths.specs.Ends.{ends_of}
use Rattle.ap_paths.specs.Merging.{is_path_before, insert, found_before}
use Rattle.ap_play.specs.declared.workers.Worker.{Worker}
use Rattle.ap_tools.specs.declared.events.Event.{Event}
use Rattle.ap_tools.specs.States.{WorkersState, Past, over, state, joined_all, nones, start_state}
use Rattle.ap_tools.specs.Steps.{Pushes, Pops, Steals, Splits, EndsPath, SkipsPath, IsStep, AreSteps}
use Rattle.ap_play.specs.Stages.{hands_of, deques_of, state_of, past_of, Answered}
use Rattle.ap_play.specs.Single.{PushedAlone, PoppedAlone, Gave, Began}
use Rattle.ap_tools.proofs.Places.{same_some, some_there, set_else, set_again}

abbrev Paths : Type 0
Paths = List (List ℕ)

hands_set : (ws : List Worker) (i : ℕ) (v : Worker) → hands_of (set ws i v) ≡ set (hands_of ws) i v.hand.items
hands_set [] i v = refl
hands_set (w ∷ ws) zero v = refl
hands_set (w ∷ ws) (suc i) v = ap (λ l. w.hand.items ∷ l) (hands_set ws i v)

deques_set : (ws : List Worker) (i : ℕ) (v : Worker) → deques_of (set ws i v) ≡ set (deques_of ws) i v.deque.items
deques_set [] i v = refl
deques_set (w ∷ ws) zero v = refl
deques_set (w ∷ ws) (suc i) v = ap (λ l. w.deque.items ∷ l) (deques_set ws i v)

hands_get : (ws : List Worker) (i : ℕ) (v : Worker) → slice_get ws i ≡ Some v → slice_get (hands_of ws) i ≡ Some v.hand.items
hands_get [] i v e = absurd (some_there v (sym e))
hands_get (w ∷ ws) zero v e = ap (λ x. Some x.hand.items) (same_some w v e)
hands_get (w ∷ ws) (suc i) v e = hands_get ws i v e

deques_get : (ws : List Worker) (i : ℕ) (v : Worker) → slice_get ws i ≡ Some v → slice_get (deques_of ws) i ≡ Some v.deque.items
deques_get [] i v e = absurd (some_there v (sym e))
deques_get (w ∷ ws) zero v e = ap (λ x. Some x.deque.items) (same_some w v e)
deques_get (w ∷ ws) (suc i) v e = deques_get ws i v e

pub at_get : (ws : List Worker) (i : ℕ) (d : Worker) → i < length ws → slice_get ws i ≡ Some (get_or ws i d)
at_get [] i d l = absurd (omega arith)
at_get (w ∷ ws) zero d l = refl
at_get (w ∷ ws) (suc i) d l = at_get ws i d (omega arith)

pub hand_beyond : (ws : List Worker) (i : ℕ) (x : Paths) → length ws ≤ i → slice_get (hands_of ws) i ≡ Some x → ⊥
hand_beyond [] i x l e = some_there x (sym e)
hand_beyond (w ∷ ws) zero x l e = absurd (omega arith)
hand_beyond (w ∷ ws) (suc i) x l e = hand_beyond ws i x (omega arith) e

pub deque_beyond : (ws : List Worker) (i : ℕ) (x : Paths) → length ws ≤ i → slice_get (deques_of ws) i ≡ Some x → ⊥
deque_beyond [] i x l e = some_there x (sym e)
deque_beyond (w ∷ ws) zero x l e = absurd (omega arith)
deque_beyond (w ∷ ws) (suc i) x l e = deque_beyond ws i x (omega arith) e

no_last : (rest : Paths) (p : List ℕ) → [] ≡ rest ++ p ∷ [] → ⊥
no_last [] p e = cc
no_last (q ∷ qs) p e = cc

hand_is : (ws : List Worker) (i : ℕ) (v : Worker) (x : Paths) → slice_get ws i ≡ Some v → slice_get (hands_of ws) i ≡ Some x → v.hand.items ≡ x
hand_is ws i v x at e = same_some v.hand.items x (sym (hands_get ws i v at) ∙ e)

deque_is : (ws : List Worker) (i : ℕ) (v : Worker) (x : Paths) → slice_get ws i ≡ Some v → slice_get (deques_of ws) i ≡ Some x → v.deque.items ≡ x
deque_is ws i v x at e = same_some v.deque.items x (sym (deques_get ws i v at) ∙ e)

hands_now : (ws : List Worker) (i : ℕ) (v : Worker) (x : Paths) → v.hand.items ≡ x → hands_of (set ws i v) ≡ set (hands_of ws) i x
hands_now ws i v x e = hands_set ws i v ∙ ap (set (hands_of ws) i) e

deques_now : (ws : List Worker) (i : ℕ) (v : Worker) (x : Paths) → v.deque.items ≡ x → deques_of (set ws i v) ≡ set (deques_of ws) i x
deques_now ws i v x e = deques_set ws i v ∙ ap (set (deques_of ws) i) e

hands_same : (ws : List Worker) (i : ℕ) (v w : Worker) → slice_get ws i ≡ Some v → w.hand.items ≡ v.hand.items → hands_of (set ws i w) ≡ hands_of ws
hands_same ws i v w at e = hands_now ws i w v.hand.items e ∙ set_again (hands_of ws) i v.hand.items (hands_get ws i v at)

deques_same : (ws : List Worker) (i : ℕ) (v w : Worker) → slice_get ws i ≡ Some v → w.deque.items ≡ v.deque.items → deques_of (set ws i w) ≡ deques_of ws
deques_same ws i v w at e = deques_now ws i w v.deque.items e ∙ set_again (deques_of ws) i v.deque.items (deques_get ws i v at)

pub pushed : {E : Type 0} (r : Result Bool E) (ws : List Worker) (i : ℕ) (v w : Worker) (past : Past) → slice_get ws i ≡ Some v → IfOk r (λ b. PushedAlone v b w)
    → IfOk r (λ b. Answered (Pushes (state_of ws past) i) b (state_of (set ws i w) past))
pushed (Ok true) ws i v w past at h = (
  h.0,
  h.1,
  v.deque.items,
  hands_get ws i v at ∙ ap Some h.2,
  deques_get ws i v at,
  λ k. state (hands_now ws i w h.0 h.3 k) (deques_now ws i w (v.deque.items ++ h.1 ∷ []) h.4 k) past,
)
pushed (Ok false) ws i v w past at h = λ u s. no_last s.0 s.1 (sym h ∙ hand_is ws i v (s.0 ++ s.1 ∷ []) at s.3)
pushed (Err e) ws i v w past at h = h

pub popped : {E : Type 0} (r : Result Bool E) (ws : List Worker) (i : ℕ) (v w : Worker) (past : Past) → slice_get ws i ≡ Some v → IfOk r (λ b. PoppedAlone v b w)
    → IfOk r (λ b. Answered (Pops (state_of ws past) i) b (state_of (set ws i w) past))
popped (Ok true) ws i v w past at h = (
  h.0,
  h.1,
  hands_get ws i v at ∙ ap Some h.2,
  deques_get ws i v at ∙ ap Some h.3,
  λ k. state (hands_now ws i w (h.1 ∷ []) h.4 k) (deques_now ws i w h.0 h.5 k) past,
)
popped (Ok false) ws i v w past at h = λ u s. h s.0 s.1 (hand_is ws i v [] at s.2) (deque_is ws i v (s.0 ++ s.1 ∷ []) at s.3)
popped (Err e) ws i v w past at h = h

-- worker w takes p, which worker j gave
pub stolen : (ws : List Worker) (i j : ℕ) (v o o' x v' : Worker) (p : List ℕ) (past : Past) → j ≢ i → slice_get ws i ≡ Some v → v.hand.items ≡ [] → slice_get ws j ≡ Some o → Gave o (Some p) o'
    → slice_get (set ws j o') i ≡ Some x → v'.hand.items ≡ x.hand.items ++ p ∷ [] → v'.deque.items ≡ x.deque.items → Steals (state_of ws past) i j (state_of (set (set ws j o') i v') past)
stolen ws i j v o o' x v' p past ne mine idle other gave there hand deque =
    let same : v ≡ x = same_some v x (sym mine ∙ sym (set_else ws j i o' (λ e. ne (sym e))) ∙ there) in
    let hand' : v'.hand.items ≡ p ∷ [] = hand ∙ ap (λ l. l ++ p ∷ []) (ap (λ y. y.hand.items) (sym same) ∙ idle) in (
      o'.deque.items,
      p,
      hands_get ws i v mine ∙ ap Some idle,
      deques_get ws j o other ∙ ap Some gave.0,
      ne,
      λ k. state ((hands_now (set ws j o') i v' (p ∷ []) hand' ∙ ap (λ l. set l i (p ∷ [])) (hands_same ws j o o' other gave.1)) k)
          ((deques_same (set ws j o') i x v' there deque ∙ deques_set ws j o') k) past,
    )

pub not_stolen : (ws : List Worker) (i j : ℕ) (o o' : Worker) (past : Past) → slice_get ws j ≡ Some o → Gave o None o' → (u : WorkersState) → Steals (state_of ws past) i j u → ⊥
not_stolen ws i j o o' past other none u s = let e : [] ≡ s.1 ∷ s.0 = sym none ∙ deque_is ws j o (s.1 ∷ s.0) other s.3 in cc

pub busy : (ws : List Worker) (i j : ℕ) (v : Worker) (past : Past) → slice_get ws i ≡ Some v → (v.hand.items ≡ [] → ⊥) → (u : WorkersState) → Steals (state_of ws past) i j u → ⊥
busy ws i j v past mine some u s = some (hand_is ws i v [] mine s.2)

pub split_made : (c : Choices) (at : Outputs) (ws : List Worker) (i : ℕ) (v v1 v2 : Worker) (p ks : List ℕ) (past : Past) → slice_get ws i ≡ Some v → Began v (Some p) v1 → AreKids c at p ks
    → v2.hand.items ≡ kids_of p ks ++ v1.hand.items → v2.deque.items ≡ v1.deque.items → Splits c at (state_of ws past) i ks (state_of (set ws i v2) past)
split_made c at ws i v v1 v2 p ks past mine began kids hand deque = (
  v1.hand.items,
  p,
  hands_get ws i v mine ∙ ap Some began.0,
  kids,
  λ k. state (hands_now ws i v2 (kids_of p ks ++ v1.hand.items) hand k) (deques_same ws i v v2 mine (deque ∙ began.1) k) past,
)

first_of : (ws : List Worker) (i : ℕ) (v v1 : Worker) (p q : List ℕ) (rest : Paths) → slice_get ws i ≡ Some v → Began v (Some p) v1 → slice_get (hands_of ws) i ≡ Some (q ∷ rest) → q ≡ p
first_of ws i v v1 p q rest mine began there = let e : p ∷ v1.hand.items ≡ q ∷ rest = sym began.0 ∙ hand_is ws i v (q ∷ rest) mine there in cc

pub not_split : (c : Choices) (at : Outputs) (ws : List Worker) (i : ℕ) (v v1 : Worker) (p ks : List ℕ) (past : Past) → slice_get ws i ≡ Some v → Began v (Some p) v1 → (AreKids c at p ks → ⊥)
    → (u : WorkersState) → Splits c at (state_of ws past) i ks u → ⊥
not_split c at ws i v v1 p ks past mine began none u s = none (subst (λ (q : List ℕ). AreKids c at q ks) (first_of ws i v v1 p s.1 s.0 mine began s.2) s.3)

pub nothing_begun : (ws : List Worker) (i : ℕ) (v v1 : Worker) (p : List ℕ) (rest : Paths) → slice_get ws i ≡ Some v → Began v None v1 → slice_get (hands_of ws) i ≡ Some (p ∷ rest) → ⊥
nothing_begun ws i v v1 p rest mine none there = let e : [] ≡ p ∷ rest = sym none ∙ hand_is ws i v (p ∷ rest) mine there in cc

pub began_there : (ws : List Worker) (i : ℕ) (v v1 : Worker) (p : List ℕ) → slice_get ws i ≡ Some v → Began v (Some p) v1 → slice_get (hands_of ws) i ≡ Some (p ∷ v1.hand.items)
began_there ws i v v1 p mine began = hands_get ws i v mine ∙ ap Some began.0

pub ends_insert : (p : List ℕ) (os : List Run) (es : List (List ℕ × List Run)) → ends_of (insert p os es) ≡ insert p (outs_of_runs os) (ends_of es)
ends_insert p os [] = refl
ends_insert p os (e ∷ es) =
    elim (is_path_before p e.0) as (λ b. ends_of (if b then (p, os) ∷ e ∷ es else e ∷ insert p os es) ≡ (if b then (p, outs_of_runs os) ∷ (e.0, outs_of_runs e.1) ∷ ends_of es else (e.0, outs_of_runs e.1) ∷ insert p (outs_of_runs os) (ends_of es)))
    [ true ↦ refl | false ↦ ap (λ l. (e.0, outs_of_runs e.1) ∷ l) (ends_insert p os es) ]

pub end_made : (at : Outputs) (ws : List Worker) (i : ℕ) (v v1 : Worker) (p : List ℕ) (os : List Run) (ends later : List (List ℕ × List Run)) (skipped : Paths) → slice_get ws i ≡ Some v → Began v (Some p) v1 → outs_of_runs os ≡ at p
    → later ≡ insert p os ends → EndsPath at (state_of ws (past_of ends skipped)) i (state_of (set ws i v1) (past_of later skipped))
end_made at ws i v v1 p os ends later skipped mine began outs is = (
  v1.hand.items,
  p,
  hands_get ws i v mine ∙ ap Some began.0,
  λ k. state (hands_set ws i v1 k) (deques_same ws i v v1 mine began.1 k) (over ((ap ends_of is ∙ ends_insert p os ends ∙ ap (λ o. insert p o (ends_of ends)) outs) k) skipped),
)

pub skip_made : (ws : List Worker) (i : ℕ) (v v1 : Worker) (p : List ℕ) (n : ℕ) (ends : List (List ℕ × List Run)) (skipped later : Paths) → slice_get ws i ≡ Some v → Began v (Some p) v1 → n ≤ found_before p (ends_of ends)
    → later ≡ skipped ++ p ∷ [] → SkipsPath (state_of ws (past_of ends skipped)) i n (state_of (set ws i v1) (past_of ends later))
skip_made ws i v v1 p n ends skipped later mine began enough is = (
  v1.hand.items,
  p,
  hands_get ws i v mine ∙ ap Some began.0,
  enough,
  λ k. state (hands_set ws i v1 k) (deques_same ws i v v1 mine began.1 k) (over (ends_of ends) (is k)),
)

pub not_skipped : (ws : List Worker) (i : ℕ) (v v1 : Worker) (p : List ℕ) (n : ℕ) (ends : List (List ℕ × List Run)) (skipped : Paths) → slice_get ws i ≡ Some v → Began v (Some p) v1 → found_before p (ends_of ends) < n
    → (u : WorkersState) → SkipsPath (state_of ws (past_of ends skipped)) i n u → ⊥
not_skipped ws i v v1 p n ends skipped mine began short u s =
    let e = first_of ws i v v1 p s.1 s.0 mine began s.2 in
    let z = s.3 in
    let y = ap (λ (q : List ℕ). found_before q (ends_of ends)) e in
    omega arith

hands_both : (ws vs : List Worker) → hands_of (ws ++ vs) ≡ hands_of ws ++ hands_of vs
hands_both [] vs = refl
hands_both (w ∷ ws) vs = ap (λ l. w.hand.items ∷ l) (hands_both ws vs)

deques_both : (ws vs : List Worker) → deques_of (ws ++ vs) ≡ deques_of ws ++ deques_of vs
deques_both [] vs = refl
deques_both (w ∷ ws) vs = ap (λ l. w.deque.items ∷ l) (deques_both ws vs)

nones_more : (n : ℕ) → nones n ++ [] ∷ [] ≡ nones (suc n)
nones_more zero = refl
nones_more (suc n) = ap (λ l. [] ∷ l) (nones_more n)

first_more : (n : ℕ) (x : Paths) → 1 ≤ n → set (nones n) 0 x ++ [] ∷ [] ≡ set (nones (suc n)) 0 x
first_more zero x l = absurd (omega arith)
first_more (suc n) x l = ap (λ l. x ∷ l) (nones_more n)

-- one more worker with nothing
pub one_more : (ws : List Worker) (w : Worker) (n : ℕ) → 1 ≤ n → w.hand.items ≡ [] → w.deque.items ≡ [] → state_of ws (over [] []) ≡ start_state n → state_of (ws ++ w ∷ []) (over [] []) ≡ start_state (n + 1)
one_more ws w n l hand deque is =
    let hands : hands_of (ws ++ w ∷ []) ≡ set (nones (suc n)) 0 ([] ∷ []) = hands_both ws (w ∷ []) ∙ ap (λ x. hands_of ws ++ x ∷ []) hand ∙ ap (λ (s : WorkersState). s.hands ++ [] ∷ []) is ∙ first_more n ([] ∷ []) l in
    let deques : deques_of (ws ++ w ∷ []) ≡ nones (suc n) = deques_both ws (w ∷ []) ∙ ap (λ x. deques_of ws ++ x ∷ []) deque ∙ ap (λ (s : WorkersState). s.deques ++ [] ∷ []) is ∙ nones_more n in
    subst (λ (m : ℕ). state_of (ws ++ w ∷ []) (over [] []) ≡ start_state m) (sym (add-one n)) (λ k. state (hands k) (deques k) (over [] []))

pub steps_more : (c : Choices) (at : Outputs) (s : WorkersState) (es : List Event) (u : WorkersState) (e : Event) (t : WorkersState) → AreSteps c at s es u → IsStep c at u e t → AreSteps c at s (es ++ e ∷ []) t
steps_more c at s [] u e t h step = (t, subst (λ (x : WorkersState). IsStep c at x e t) h step, refl)
steps_more c at s (x ∷ xs) u e t h step = (h.0, h.1, steps_more c at h.0 xs u e t h.2 step)

pub joined_more : (ls : List Paths) (l : Paths) → joined_all (ls ++ l ∷ []) ≡ joined_all ls ++ l
joined_more [] l = append-nil l
joined_more (x ∷ xs) l = ap (λ y. x ++ y) (joined_more xs l) ∙ sym (append_assoc x (joined_all xs) l)
