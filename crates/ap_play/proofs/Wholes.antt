-- After permitted events the frontier of pending and ended paths is whole.
use Rattle.std.proofs.Common.{◌≡◌, ℕ, zero, suc, ◌+◌, ◌<◌, Some, List, [], ◌∷◌, ◌++◌, sym, refl, ap, ◌∙◌, subst, append-nil, arith}
use Rattle.std.specs.Prelude.{slice_get, slice_set}
use Rattle.ap_tools.specs.declared.events.Event.{Event}
use Rattle.ap_tools.specs.declared.events.Event.TheVariants.{Push, Pop, Steal, Split, Done, Skip}
use Rattle.ap_paths.specs.History.{kids_of}
use Rattle.ap_paths.specs.Trees.{Choices, Outputs, InChoiceTree, IsTree}
use Rattle.ap_paths.specs.Weights.{weigh, one_if, is_it}
use Rattle.ap_paths.specs.declared.limits.Limit.{Limit}
use Rattle.ap_paths.specs.Limits.{part}
use Rattle.ap_paths.specs.Frontier.{Item, still_open, has_ended, was_skipped, skipped_in}
use Rattle.ap_paths.specs.Merging.{EndedPath, insert, all_outs}
use Rattle.ap_paths.proofs.Frontiers.{IsFrontier, grow, mark, undone, weigh_both, weigh_open_in, same_itself, frontier_split, frontier_done, frontier_skip, frontier_moved, all_doned, AreCovered, covered_grow, covered_ended, skip_covered, wanted_left, skipped_grow, skipped_ended, skipped_more, in_tree_at, Has}
use Rattle.ap_tools.specs.States.{WorkersState, Past, over, state, pending, joined_all, nones, start_state}
use Rattle.ap_tools.specs.Steps.{IsStep, AreSteps, Wants, AllWant}
use Rattle.ap_tools.specs.Laws.{StaysWhole}
use Rattle.ap_tools.proofs.Places.{same_some, some_there}

-- the weight of all lists after a change of one
weigh_set : (h : List ℕ → ℕ) (ls : List (List (List ℕ))) (w : ℕ) (old new : List (List ℕ)) → slice_get ls w ≡ Some old → weigh h (joined_all (slice_set ls w new)) + weigh h old ≡ weigh h (joined_all ls) + weigh h new
weigh_set h [] w old new at = absurd (some_there old (sym at))
weigh_set h (l ∷ ls) zero old new at = let e = ap (weigh h) (same_some l old at) in omega (arith, weigh_both h l (joined_all ls), weigh_both h new (joined_all ls))
weigh_set h (l ∷ ls) (suc w) old new at = omega (arith, weigh_set h ls w old new at, weigh_both h l (joined_all ls), weigh_both h l (joined_all (slice_set ls w new)))

weigh_pending : (h : List ℕ → ℕ) (hands deques : List (List (List ℕ))) (past : Past) → weigh h (pending (state hands deques past)) ≡ weigh h (joined_all hands) + weigh h (joined_all deques)
weigh_pending h hands deques past = weigh_both h (joined_all hands) (joined_all deques)

weigh_head : (p : List ℕ) (s : WorkersState) (w : ℕ) (rest : List (List ℕ)) → slice_get s.hands w ≡ Some (p ∷ rest) → 0 < weigh (is_it p) (pending s)
weigh_head p s w rest at =
    let a = weigh_set (is_it p) s.hands w (p ∷ rest) [] at in
    let b = weigh_pending (is_it p) s.hands s.deques s.past in
    let one : is_it p p ≡ 1 = ap one_if (same_itself p) in
    omega arith

-- what a state has after permitted events: a frontier of its pending paths, of what has ended and of what was left out
-- of a limit that has the property P nothing is left out that is wanted
abbrev HasFrontier : Choices → Outputs → (Limit → Type 0) → WorkersState → Type 0
HasFrontier c at P s =
    (xs : List Item) × IsFrontier c at (at []) (pending s) s.past.ends xs × ((h : List ℕ → ℕ) → weigh h (skipped_in xs) ≡ weigh h s.past.skipped) × ((l : Limit) → P l → AreCovered l at 0 xs)

wider : (c : Choices) (at : Outputs) (P Q : Limit → Type 0) (s : WorkersState) → ((l : Limit) → Q l → P l) → HasFrontier c at P s → HasFrontier c at Q s
wider c at P Q s lift f = (f.0, f.1, f.2, λ l q. f.3 l (lift l q))

core_step : (c : Choices) (at : Outputs) (P : Limit → Type 0) (s : WorkersState) (e : Event) (t : WorkersState) → IsTree c at → HasFrontier c at P s → IsStep c at s e t → HasFrontier c at (λ l. P l × Wants l e) t
core_step c at P s (Push w) t tree f h =
    let hands = slice_set s.hands w h.0 in
    let deques = slice_set s.deques w (h.2 ++ h.1 ∷ []) in
    subst (HasFrontier c at (λ l. P l × Wants l (Push w))) (sym h.5) (
      f.0,
      frontier_moved c at (at []) (pending s) (pending (state hands deques s.past)) s.past.ends f.0 f.1 (λ g.
          let a = weigh_set g s.hands w (h.0 ++ h.1 ∷ []) h.0 h.3 in
          let b = weigh_set g s.deques w h.2 (h.2 ++ h.1 ∷ []) h.4 in
          omega (arith, weigh_pending g s.hands s.deques s.past, weigh_pending g hands deques s.past, weigh_both g h.0 (h.1 ∷ []), weigh_both g h.2 (h.1 ∷ []))),
      f.2,
      λ l want. f.3 l want.0,
    )
core_step c at P s (Pop w) t tree f h =
    let hands = slice_set s.hands w (h.1 ∷ []) in
    let deques = slice_set s.deques w h.0 in
    subst (HasFrontier c at (λ l. P l × Wants l (Pop w))) (sym h.4) (
      f.0,
      frontier_moved c at (at []) (pending s) (pending (state hands deques s.past)) s.past.ends f.0 f.1 (λ g.
          let a = weigh_set g s.hands w [] (h.1 ∷ []) h.2 in
          let b = weigh_set g s.deques w (h.0 ++ h.1 ∷ []) h.0 h.3 in
          omega (arith, weigh_pending g s.hands s.deques s.past, weigh_pending g hands deques s.past, weigh_both g h.0 (h.1 ∷ []))),
      f.2,
      λ l want. f.3 l want.0,
    )
core_step c at P s (Steal w from) t tree f h =
    let hands = slice_set s.hands w (h.1 ∷ []) in
    let deques = slice_set s.deques from h.0 in
    subst (HasFrontier c at (λ l. P l × Wants l (Steal w from))) (sym h.5) (
      f.0,
      frontier_moved c at (at []) (pending s) (pending (state hands deques s.past)) s.past.ends f.0 f.1 (λ g.
          let a = weigh_set g s.hands w [] (h.1 ∷ []) h.2 in
          let b = weigh_set g s.deques from (h.1 ∷ h.0) h.0 h.3 in
          omega (arith, weigh_pending g s.hands s.deques s.past, weigh_pending g hands deques s.past)),
      f.2,
      λ l want. f.3 l want.0,
    )
core_step c at P s (Split w ks) t tree f h =
    let hands = slice_set s.hands w (kids_of h.1 ks ++ h.0) in
    subst (HasFrontier c at (λ l. P l × Wants l (Split w ks))) (sym h.4) (
      grow h.1 ks f.0,
      frontier_split c at (at []) (pending s) (pending (state hands s.deques s.past)) s.past.ends f.0 h.1 ks tree f.1 (weigh_head h.1 s w h.0 h.2) h.3 (λ g.
          let a = weigh_set g s.hands w (h.1 ∷ h.0) (kids_of h.1 ks ++ h.0) h.2 in
          omega (arith, weigh_pending g s.hands s.deques s.past, weigh_pending g hands s.deques s.past, weigh_both g (kids_of h.1 ks) h.0)),
      λ g. ap (weigh g) (skipped_grow h.1 ks f.0) ∙ f.2 g,
      λ l want. covered_grow l at 0 h.1 ks f.0 (f.3 l want.0),
    )
core_step c at P s (Done w) t tree f h =
    let hands = slice_set s.hands w h.0 in
    let past = over (insert h.1 (at h.1) s.past.ends) s.past.skipped in
    subst (HasFrontier c at (λ l. P l × Wants l (Done w))) (sym h.3) (
      mark has_ended h.1 f.0,
      frontier_done c at (at []) (pending s) (pending (state hands s.deques past)) s.past.ends f.0 h.1 f.1 (weigh_head h.1 s w h.0 h.2) (λ g.
          let a = weigh_set g s.hands w (h.1 ∷ h.0) h.0 h.2 in
          omega (arith, weigh_pending g s.hands s.deques s.past, weigh_pending g hands s.deques past)),
      λ g. ap (weigh g) (skipped_ended h.1 f.0) ∙ f.2 g,
      λ l want. covered_ended l at 0 h.1 f.0 (f.3 l want.0),
    )
core_step c at P s (Skip w n) t tree f h =
    let hands = slice_set s.hands w h.0 in
    let past = over s.past.ends (s.past.skipped ++ h.1 ∷ []) in
    let first = weigh_head h.1 s w h.0 h.2 in
    let has : Has h.1 f.0 = (let a = f.1.opens (is_it h.1) in omega arith) in
    subst (HasFrontier c at (λ l. P l × Wants l (Skip w n))) (sym h.4) (
      mark was_skipped h.1 f.0,
      frontier_skip c at (at []) (pending s) (pending (state hands s.deques past)) s.past.ends f.0 h.1 f.1 first (λ g.
          let a = weigh_set g s.hands w (h.1 ∷ h.0) h.0 h.2 in
          omega (arith, weigh_pending g s.hands s.deques s.past, weigh_pending g hands s.deques past)),
      λ g. (let a = skipped_more g h.1 f.0 has in let b = f.2 g in omega (arith, weigh_both g s.past.skipped (h.1 ∷ []))),
      λ l want. skip_covered c at l (at []) (pending s) s.past.ends f.0 h.1 n f.1 first want.1 h.3 (f.3 l want.0),
    )

core_steps : (c : Choices) (at : Outputs) (P : Limit → Type 0) (s : WorkersState) (es : List Event) (t : WorkersState) → IsTree c at → HasFrontier c at P s → AreSteps c at s es t → HasFrontier c at (λ l. P l × AllWant l es) t
core_steps c at P s [] t tree f h = subst (HasFrontier c at (λ l. P l × AllWant l [])) (sym h) (wider c at P (λ l. P l × AllWant l []) s (λ l q. q.0) f)
core_steps c at P s (e ∷ es) t tree f h =
    let later = core_steps c at (λ l. P l × Wants l e) h.0 es t tree (core_step c at P s e h.0 tree f h.1) h.2 in
    wider c at (λ l. (P l × Wants l e) × AllWant l es) (λ l. P l × AllWant l (e ∷ es)) t (λ l q. ((q.0, q.1.0), q.1.1)) later

weigh_nones : (h : List ℕ → ℕ) (n : ℕ) → weigh h (joined_all (nones n)) ≡ 0
weigh_nones h zero = refl
weigh_nones h (suc n) = weigh_nones h n

weigh_start : (h : List ℕ → ℕ) (n : ℕ) → 0 < n → weigh h (pending (start_state n)) ≡ weigh h ([] ∷ [])
weigh_start h zero l = absurd (omega arith)
weigh_start h (suc n) l =
    omega (arith, weigh_pending h (([] ∷ []) ∷ nones n) ([] ∷ nones n) (over [] []), weigh_both h ([] ∷ []) (joined_all (nones n)), weigh_nones h n)

-- every limit
abbrev AnyLimit : Limit → Type 0
AnyLimit l = Unit {0}

begins_whole : (c : Choices) (at : Outputs) (n : ℕ) → 0 < n → HasFrontier c at AnyLimit (start_state n)
begins_whole c at n some = (
  ([], still_open) ∷ [],
  record {
    sorted = (tt, tt);
    outs = append-nil (at []);
    opens = λ h. sym (weigh_start h n some);
    ended = refl;
    inside = (tt, tt);
  },
  λ h. refl,
  λ l any. (tt, tt),
)

pub stays_whole : (c : Choices) (at : Outputs) (n : ℕ) → 0 < n → IsTree c at → StaysWhole c at n
stays_whole c at n some tree l events t steps want =
    let f = core_steps c at AnyLimit (start_state n) events t tree (begins_whole c at n some) steps in
    let left = wanted_left l at f.0 (f.3 l (tt, want)) ∙ ap (part l) f.1.outs in (
      record {
        frontier = f.0;
        sorted = f.1.sorted;
        opens = λ h. sym (weigh_open_in h f.0) ∙ f.1.opens h;
        ended = f.1.ended;
        skipped = f.2;
        outs = f.1.outs;
        wanted = left;
      },
      λ none.
          (let none_open : undone (λ _. 1) f.0 ≡ 0 = f.1.opens (λ _. 1) ∙ ap (weigh (λ _. 1)) none in
          ap (λ (e : List EndedPath). part l (all_outs e)) f.1.ended ∙ ap (part l) (all_doned at f.0 none_open) ∙ left),
    )

-- the first path of a hand is in the tree
pub first_in_tree : (c : Choices) (at : Outputs) (n : ℕ) (events : List Event) (t : WorkersState) (w : ℕ) (p : List ℕ) (rest : List (List ℕ)) → 0 < n → IsTree c at → AreSteps c at (start_state n) events t
    → slice_get t.hands w ≡ Some (p ∷ rest) → InChoiceTree c p
first_in_tree c at n events t w p rest l tree steps first =
    let f = core_steps c at AnyLimit (start_state n) events t tree (begins_whole c at n l) steps in
    let has : Has p f.0 = (let a = weigh_head p t w rest first in let b = f.1.opens (is_it p) in omega arith) in
    in_tree_at c p f.0 f.1.inside has
