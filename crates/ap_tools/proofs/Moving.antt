-- How an open path is brought to the worker that enters it.
use Rattle.std.proofs.Common.{◌≡◌, ◌≢◌, ℕ, zero, suc, ◌+◌, ◌<◌, ◌≤◌, List, [], ◌∷◌, ◌++◌, length, set, sym, refl, ap, ◌∙◌, subst, append_assoc, append-nil, arith, Some}
use Rattle.std.specs.Prelude.{slice_get}
use mathlib.Core.Logic.{dite}
use native.Mathlib.Decide.{ℕ_discrete}
use Rattle.ap_paths.specs.Entries.{TreeEntry, split, done, skip}
use Rattle.ap_tools.specs.declared.events.Event.{Event}
use Rattle.ap_tools.specs.declared.events.Event.TheVariants.{Push, Steal, Split, Done, Skip}
use Rattle.ap_paths.specs.History.{kids_of}
use Rattle.ap_paths.specs.Trees.{Choices, Outputs, AreKids}
use Rattle.ap_paths.specs.Weights.{weigh}
use Rattle.ap_paths.specs.Merging.{insert, found_before}
use Rattle.ap_paths.proofs.Frontiers.{weigh_both}
use Rattle.ap_tools.specs.States.{WorkersState, Past, over, state, nones, start_state}
use Rattle.ap_tools.specs.Steps.{IsStep}
use Rattle.ap_tools.specs.Traces.{MakesEntries, EventsLead}
use Rattle.ap_tools.proofs.Places.{set_here, set_else, set_again, set_length, set_twice, set_swap}

abbrev pub Paths : Type 0
Paths = List (List ℕ)

pub nones_at : (n i : ℕ) → i < n → slice_get (nones n) i ≡ Some []
nones_at zero i l = absurd (omega arith)
nones_at (suc n) zero l = refl
nones_at (suc n) (suc i) l = nones_at n i (omega arith)

pub nones_length : (n : ℕ) → length (nones n) ≡ n
nones_length zero = refl
nones_length (suc n) = ap suc (nones_length n)

-- events one after another
pub leads_both : (c : Choices) (at : Outputs) (s t u : WorkersState) (es fs : List Event) (h g : List TreeEntry) → EventsLead c at s es t h → EventsLead c at t fs u g → EventsLead c at s (es ++ fs) u (h ++ g)
leads_both c at s t u [] fs h g a b = subst (λ (x : WorkersState × List TreeEntry). EventsLead c at x.0 fs u (x.1 ++ g)) (λ i. (a.0 i, sym a.1 i)) b
leads_both c at s t u (e ∷ es) fs h g a b =
    (a.0, a.1, a.2 ++ g, a.3, a.4, leads_both c at a.0 t u es fs a.2 g a.5 b, ap (λ l. l ++ g) a.6 ∙ append_assoc a.1 a.2 g)

-- two deques beside empty ones
abbrev pair : ℕ → ℕ → ℕ → Paths → Paths → List Paths
pair n u w a b = set (set (nones n) u a) w b

pair_first : (n u w : ℕ) (a b : Paths) → u < n → u ≢ w → slice_get (pair n u w a b) u ≡ Some a
pair_first n u w a b l ne = set_else (set (nones n) u a) w u b ne ∙ set_here (nones n) u a (let k = nones_length n in omega arith)

pair_second : (n u w : ℕ) (a b : Paths) → w < n → slice_get (pair n u w a b) w ≡ Some b
pair_second n u w a b l = set_here (set (nones n) u a) w b (let k = nones_length n in let m = set_length (nones n) u a in omega arith)

pair_set_first : (n u w : ℕ) (a b x : Paths) → u ≢ w → set (pair n u w a b) u x ≡ pair n u w x b
pair_set_first n u w a b x ne = set_swap (set (nones n) u a) w u b x (λ e. ne (sym e)) ∙ ap (λ l. set l w b) (set_twice (nones n) u a x)

pair_set_second : (n u w : ℕ) (a b x : Paths) → set (pair n u w a b) w x ≡ pair n u w a x
pair_set_second n u w a b x = set_twice (set (nones n) u a) w b x

hand_back : (n w : ℕ) (x : Paths) → w < n → set (set (nones n) w x) w [] ≡ nones n
hand_back n w x l = set_twice (nones n) w x [] ∙ set_again (nones n) w [] (nones_at n w l)

-- w steals the first path of u
steals : (c : Choices) (at : Outputs) (n u w : ℕ) (p : List ℕ) (a b : Paths) (past : Past) → u < n → w < n → u ≢ w
    → IsStep c at (state (nones n) (pair n u w (p ∷ a) b) past) (Steal w u) (state (set (nones n) w (p ∷ [])) (pair n u w a b) past)
steals c at n u w p a b past lu lw ne =
    (a, p, nones_at n w lw, pair_first n u w (p ∷ a) b lu ne, ne, ap (λ d. state (set (nones n) w (p ∷ [])) d past) (sym (pair_set_first n u w (p ∷ a) b a ne)))

-- w pushes the last path of its hand
pushed : (c : Choices) (at : Outputs) (n u w : ℕ) (rest : Paths) (p : List ℕ) (a b : Paths) (past : Past) → w < n
    → IsStep c at (state (set (nones n) w (rest ++ p ∷ [])) (pair n u w a b) past) (Push w) (state (set (nones n) w rest) (pair n u w a (b ++ p ∷ [])) past)
pushed c at n u w rest p a b past lw = (
  rest,
  p,
  b,
  set_here (nones n) w (rest ++ p ∷ []) (let k = nones_length n in omega arith),
  pair_second n u w a b lw,
  λ i. state (sym (set_twice (nones n) w (rest ++ p ∷ []) rest) i) (sym (pair_set_second n u w a b (b ++ p ∷ [])) i) past,
)

abbrev pub Reaches : Choices → Outputs → WorkersState → WorkersState → List TreeEntry → Type 0
Reaches c at s t h = (es : List Event) × EventsLead c at s es t h

pub then_reaches : (c : Choices) (at : Outputs) (s t u : WorkersState) (h g : List TreeEntry) → Reaches c at s t h → Reaches c at t u g → Reaches c at s u (h ++ g)
then_reaches c at s t u h g a b = (a.0 ++ b.0, leads_both c at s t u a.0 b.0 h g a.1 b.1)

pub one_step : (c : Choices) (at : Outputs) (s t : WorkersState) (e : Event) (h : List TreeEntry) → IsStep c at s e t → MakesEntries at s e h → Reaches c at s t h
one_step c at s t e h step makes = (e ∷ [], (t, h, [], step, makes, (refl, refl), sym (append-nil h)))

pub stays : (c : Choices) (at : Outputs) (s t : WorkersState) → t ≡ s → Reaches c at s t []
stays c at s t e = ([], (e, refl))

-- all of xs go from the deque of u to that of w
moves : (c : Choices) (at : Outputs) (n u w : ℕ) (xs ys b : Paths) (past : Past) → u < n → w < n → u ≢ w
    → Reaches c at (state (nones n) (pair n u w (xs ++ ys) b) past) (state (nones n) (pair n u w ys (b ++ xs)) past) []
moves c at n u w [] ys b past lu lw ne = stays c at _ _ (ap (λ x. state (nones n) (pair n u w ys x) past) (append-nil b))
moves c at n u w (x ∷ xs) ys b past lu lw ne =
    let s = state (nones n) (pair n u w (x ∷ (xs ++ ys)) b) past in
    let m = state (set (nones n) w (x ∷ [])) (pair n u w (xs ++ ys) b) past in
    let t = state (set (nones n) w []) (pair n u w (xs ++ ys) (b ++ x ∷ [])) past in
    let t' = state (nones n) (pair n u w (xs ++ ys) (b ++ x ∷ [])) past in
    let z = state (nones n) (pair n u w ys (b ++ x ∷ xs)) past in
    let back : t ≡ t' = ap (λ hs. state hs (pair n u w (xs ++ ys) (b ++ x ∷ [])) past) (set_again (nones n) w [] (nones_at n w lw)) in
    let first = one_step c at s m (Steal w u) [] (steals c at n u w x (xs ++ ys) b past lu lw ne) refl in
    let second = subst (λ (k : WorkersState). Reaches c at m k []) back (one_step c at m t (Push w) [] (pushed c at n u w [] x (xs ++ ys) b past lw) refl) in
    let rest = subst (λ (l : Paths). Reaches c at t' (state (nones n) (pair n u w ys l) past) []) (append_assoc b (x ∷ []) xs) (moves c at n u w xs ys (b ++ x ∷ []) past lu lw ne) in
    then_reaches c at s m z [] [] first (then_reaches c at m t' z [] [] second rest)

unsnoc : (x : List ℕ) (xs : Paths) → (front : Paths) × (k : List ℕ) × (x ∷ xs ≡ front ++ k ∷ []) × (length front ≡ length xs)
unsnoc x [] = ([], x, refl, refl)
unsnoc x (y ∷ ys) = let r = unsnoc y ys in (x ∷ r.0, r.1, ap (λ l. x ∷ l) r.2, ap suc r.3)

-- w pushes all that it has in its hand
pushes_all : (c : Choices) (at : Outputs) (n u w m : ℕ) (ks a b : Paths) (past : Past) → w < n → length ks ≡ m
    → (d : Paths) × ((h : List ℕ → ℕ) → weigh h d ≡ weigh h b + weigh h ks) × Reaches c at (state (set (nones n) w ks) (pair n u w a b) past) (state (nones n) (pair n u w a d) past) []
pushes_all c at n u w m [] a b past lw e = (b, (λ h. omega arith), stays c at _ _ (ap (λ hs. state hs (pair n u w a b) past) (sym (set_again (nones n) w [] (nones_at n w lw)))))
pushes_all c at n u w zero (k ∷ ks) a b past lw e = absurd (omega arith)
pushes_all c at n u w (suc m) (k ∷ ks) a b past lw e =
    let r = unsnoc k ks in
    let s = state (set (nones n) w (r.0 ++ r.1 ∷ [])) (pair n u w a b) past in
    let t = state (set (nones n) w r.0) (pair n u w a (b ++ r.1 ∷ [])) past in
    let later = pushes_all c at n u w m r.0 a (b ++ r.1 ∷ []) past lw (let z = r.3 in omega arith) in
    let z = state (nones n) (pair n u w a later.0) past in
    let first = one_step c at s t (Push w) [] (pushed c at n u w r.0 r.1 a b past lw) refl in (
      later.0,
      (λ h. let x = later.1 h in let y = ap (weigh h) r.2 in omega (arith, weigh_both h b (r.1 ∷ []), weigh_both h r.0 (r.1 ∷ []))),
      subst (λ (l : Paths). Reaches c at (state (set (nones n) w l) (pair n u w a b) past) z []) (sym r.2) (then_reaches c at s t z [] [] first later.2),
    )

abbrev pub single : ℕ → ℕ → Paths → List Paths
single n v ds = set (nones n) v ds

single_pair : (n v w : ℕ) (ds : Paths) → w < n → v ≢ w → single n v ds ≡ pair n v w ds []
single_pair n v w ds lw ne = sym (set_again (set (nones n) v ds) w [] (set_else (nones n) v w ds (λ e. ne (sym e)) ∙ nones_at n w lw))

pair_single : (n u w : ℕ) (b : Paths) → u < n → pair n u w [] b ≡ single n w b
pair_single n u w b lu = ap (λ l. set l w b) (set_again (nones n) u [] (nones_at n u lu))

-- all goes from the deque of u to that of w
all_over : (c : Choices) (at : Outputs) (n u w : ℕ) (a b : Paths) (past : Past) → u < n → w < n → u ≢ w → Reaches c at (state (nones n) (pair n u w a b) past) (state (nones n) (single n w (b ++ a)) past) []
all_over c at n u w a b past lu lw ne =
    let r = moves c at n u w a [] b past lu lw ne in
    let r' = subst (λ (l : Paths). Reaches c at (state (nones n) (pair n u w l b) past) (state (nones n) (pair n u w [] (b ++ a)) past) []) (append-nil a) r in
    subst (λ (ds : List Paths). Reaches c at (state (nones n) (pair n u w a b) past) (state (nones n) ds past) []) (pair_single n u w (b ++ a) lu) r'

-- the path p comes into the hand of w
comes : (c : Choices) (at : Outputs) (n u w : ℕ) (xs ys : Paths) (p : List ℕ) (past : Past) → u < n → w < n → u ≢ w
    → Reaches c at (state (nones n) (single n u (xs ++ p ∷ ys)) past) (state (set (nones n) w (p ∷ [])) (pair n u w ys xs) past) []
comes c at n u w xs ys p past lu lw ne =
    let s = state (nones n) (pair n u w (xs ++ p ∷ ys) []) past in
    let m = state (nones n) (pair n u w (p ∷ ys) xs) past in
    let t = state (set (nones n) w (p ∷ [])) (pair n u w ys xs) past in
    let r = then_reaches c at s m t [] [] (moves c at n u w xs (p ∷ ys) [] past lu lw ne) (one_step c at m t (Steal w u) [] (steals c at n u w p ys xs past lu lw ne) refl) in
    subst (λ (ds : List Paths). Reaches c at (state (nones n) ds past) t []) (sym (single_pair n u w (xs ++ p ∷ ys) lw ne)) r

-- an entry of w at p, from a deque of another worker: afterwards all lies in the deque of w
pub splits_there : (c : Choices) (at : Outputs) (n u w : ℕ) (xs ys : Paths) (p ks : List ℕ) (past : Past) → u < n → w < n → u ≢ w → AreKids c at p ks
    → (d : Paths) × ((h : List ℕ → ℕ) → weigh h d + h p ≡ weigh h (xs ++ p ∷ ys) + weigh h (kids_of p ks)) × Reaches c at (state (nones n) (single n u (xs ++ p ∷ ys)) past) (state (nones n) (single n w d) past) (split w p ks ∷ [])
splits_there c at n u w xs ys p ks past lu lw ne kids =
    let s = state (nones n) (single n u (xs ++ p ∷ ys)) past in
    let hands = set (nones n) w (p ∷ []) in
    let m = state hands (pair n u w ys xs) past in
    let t = state (set hands w (kids_of p ks ++ [])) (pair n u w ys xs) past in
    let t' = state (set (nones n) w (kids_of p ks)) (pair n u w ys xs) past in
    let here : slice_get hands w ≡ Some (p ∷ []) = set_here (nones n) w (p ∷ []) (let k = nones_length n in omega arith) in
    let same : t ≡ t' = λ i. state ((set_twice (nones n) w (p ∷ []) (kids_of p ks ++ []) ∙ ap (λ l. set (nones n) w l) (append-nil (kids_of p ks))) i) (pair n u w ys xs) past in
    let made = subst (λ (k : WorkersState). Reaches c at m k (split w p ks ∷ [])) same (one_step c at m t (Split w ks) (split w p ks ∷ []) ([], p, here, kids, refl) (p, [], here, refl)) in
    let all = pushes_all c at n u w (length (kids_of p ks)) (kids_of p ks) ys xs past lw refl in
    let q = state (nones n) (pair n u w ys all.0) past in
    let z = state (nones n) (single n w (all.0 ++ ys)) past in (
      all.0 ++ ys,
      (λ h. let a = all.1 h in omega (arith, weigh_both h all.0 ys, weigh_both h xs (p ∷ ys))),
      then_reaches c at s m z [] (split w p ks ∷ []) (comes c at n u w xs ys p past lu lw ne)
          (then_reaches c at m t' z (split w p ks ∷ []) [] made (then_reaches c at t' q z [] [] all.2 (all_over c at n u w ys all.0 past lu lw ne))),
    )

pub ends_there : (c : Choices) (at : Outputs) (n u w : ℕ) (xs ys : Paths) (p : List ℕ) (past : Past) → u < n → w < n → u ≢ w
    → (d : Paths) × ((h : List ℕ → ℕ) → weigh h d + h p ≡ weigh h (xs ++ p ∷ ys)) × Reaches c at (state (nones n) (single n u (xs ++ p ∷ ys)) past) (state (nones n) (single n w d) (over (insert p (at p) past.ends) past.skipped)) (done w p (at p) ∷ [])
ends_there c at n u w xs ys p past lu lw ne =
    let s = state (nones n) (single n u (xs ++ p ∷ ys)) past in
    let hands = set (nones n) w (p ∷ []) in
    let later = over (insert p (at p) past.ends) past.skipped in
    let m = state hands (pair n u w ys xs) past in
    let t = state (set hands w []) (pair n u w ys xs) later in
    let t' = state (nones n) (pair n u w ys xs) later in
    let here : slice_get hands w ≡ Some (p ∷ []) = set_here (nones n) w (p ∷ []) (let k = nones_length n in omega arith) in
    let same : t ≡ t' = ap (λ hs. state hs (pair n u w ys xs) later) (hand_back n w (p ∷ []) lw) in
    let end = subst (λ (k : WorkersState). Reaches c at m k (done w p (at p) ∷ [])) same (one_step c at m t (Done w) (done w p (at p) ∷ []) ([], p, here, refl) (p, [], here, refl)) in
    let z = state (nones n) (single n w (xs ++ ys)) later in (
      xs ++ ys,
      (λ h. omega (arith, weigh_both h xs ys, weigh_both h xs (p ∷ ys))),
      then_reaches c at s m z [] (done w p (at p) ∷ []) (comes c at n u w xs ys p past lu lw ne)
          (then_reaches c at m t' z (done w p (at p) ∷ []) [] end (all_over c at n u w ys xs later lu lw ne)),
    )

pub skips_there : (c : Choices) (at : Outputs) (n u w : ℕ) (xs ys : Paths) (p : List ℕ) (k : ℕ) (past : Past) → u < n → w < n → u ≢ w → k ≤ found_before p past.ends
    → (d : Paths) × ((h : List ℕ → ℕ) → weigh h d + h p ≡ weigh h (xs ++ p ∷ ys)) × Reaches c at (state (nones n) (single n u (xs ++ p ∷ ys)) past) (state (nones n) (single n w d) (over past.ends (past.skipped ++ p ∷ []))) (skip w p k ∷ [])
skips_there c at n u w xs ys p k past lu lw ne enough =
    let s = state (nones n) (single n u (xs ++ p ∷ ys)) past in
    let hands = set (nones n) w (p ∷ []) in
    let later = over past.ends (past.skipped ++ p ∷ []) in
    let m = state hands (pair n u w ys xs) past in
    let t = state (set hands w []) (pair n u w ys xs) later in
    let t' = state (nones n) (pair n u w ys xs) later in
    let here : slice_get hands w ≡ Some (p ∷ []) = set_here (nones n) w (p ∷ []) (let k = nones_length n in omega arith) in
    let same : t ≡ t' = ap (λ hs. state hs (pair n u w ys xs) later) (hand_back n w (p ∷ []) lw) in
    let end = subst (λ (q : WorkersState). Reaches c at m q (skip w p k ∷ [])) same (one_step c at m t (Skip w k) (skip w p k ∷ []) ([], p, here, enough, refl) (p, [], here, refl)) in
    let z = state (nones n) (single n w (xs ++ ys)) later in (
      xs ++ ys,
      (λ h. omega (arith, weigh_both h xs ys, weigh_both h xs (p ∷ ys))),
      then_reaches c at s m z [] (skip w p k ∷ []) (comes c at n u w xs ys p past lu lw ne)
          (then_reaches c at m t' z (skip w p k ∷ []) [] end (all_over c at n u w ys xs later lu lw ne)),
    )

another : (w : ℕ) → (z : ℕ) × (z ≢ w) × (z ≤ 1)
another zero = (1, (λ e. omega arith), omega arith)
another (suc w) = (0, (λ e. omega arith), omega arith)

-- all lies, or is brought, into the deque of another worker
pub elsewhere : (c : Choices) (at : Outputs) (n v w : ℕ) (ds : List (List ℕ)) (past : Past) → 1 < n → v < n → w < n
    → (u : ℕ) × (u < n) × (u ≢ w) × Reaches c at (state (nones n) (single n v ds) past) (state (nones n) (single n u ds) past) []
elsewhere c at n v w ds past two lv lw =
    dite (ℕ_discrete v w)
    (λ same.
    let z = another w in
    let s = state (nones n) (pair n v z.0 ds []) past in
    let ne : v ≢ z.0 = λ e. z.1 (sym e ∙ same) in
    let lz : z.0 < n = (let y = z.2 in omega arith) in
    (z.0, lz, z.1, subst (λ (d : List Paths). Reaches c at (state (nones n) d past) (state (nones n) (single n z.0 ds) past) []) (sym (single_pair n v z.0 ds lz ne)) (all_over c at n v z.0 ds [] past lv lz ne)))
    (λ ne. (v, lv, ne, stays c at _ _ refl))

pub starts : (c : Choices) (at : Outputs) (n : ℕ) → 0 < n → Reaches c at (start_state n) (state (nones n) (single n 0 ([] ∷ [])) (over [] [])) []
starts c at n l =
    one_step c at (start_state n) (state (nones n) (single n 0 ([] ∷ [])) (over [] [])) (Push 0) []
    ([], [], [], set_here (nones n) 0 ([] ∷ []) (let k = nones_length n in omega arith), nones_at n 0 l, ap (λ hs. state hs (single n 0 ([] ∷ [])) (over [] [])) (sym (hand_back n 0 ([] ∷ []) l)))
    refl
