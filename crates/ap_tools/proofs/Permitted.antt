-- Each legal and true history with no stop is that of some permitted list of events, for two workers or more.
use Rattle.std.proofs.Common.{◌≡◌, ℕ, ◌+◌, ◌<◌, Bool, true, false, ◌||◌, List, [], ◌∷◌, ◌++◌, sym, refl, ap, ◌∙◌, subst, true≢false, nat_le, leb-true, arith}
use Rattle.std.proofs.lemmas.Bool.{and_parts}
use Rattle.ap_tools.specs.declared.events.Event.{Event}
use Rattle.ap_defs.specs.Answers.{NominalOut}
use Rattle.ap_paths.specs.Entries.{TreeEntry, split, done, skip, stop}
use Rattle.ap_paths.specs.History.{same_path, is_open, without, kids_of, has_stop, legal_from, are_reached, is_legal}
use Rattle.ap_paths.specs.Trees.{AreTrue, Choices, Outputs}
use Rattle.ap_paths.specs.Weights.{weigh, one_if, is_it}
use Rattle.ap_paths.specs.Merging.{found_before, insert}
use Rattle.ap_paths.proofs.Histories.{legal_parts}
use Rattle.ap_paths.proofs.Frontiers.{path_same, same_itself, weigh_both, weigh_without}
use Rattle.ap_tools.specs.States.{WorkersState, Past, over, state, nones, start_state}
use Rattle.ap_tools.specs.Traces.{AreSeats, EventsLead}
use Rattle.ap_tools.proofs.Moving.{Paths, single, Reaches, then_reaches, splits_there, ends_there, skips_there, elsewhere, starts}

-- a path that weighs stands somewhere
abbrev Stands : List ℕ → Paths → Type 0
Stands p ds = (xs : Paths) × (ys : Paths) × (ds ≡ xs ++ p ∷ ys)

stands : (p : List ℕ) (ds : Paths) → 0 < weigh (is_it p) ds → Stands p ds
stands p [] l = absurd (omega arith)
stands p (q ∷ qs) l =
    let step : (b : Bool) → same_path p q ≡ b → 0 < one_if b + weigh (is_it p) qs → Stands p (q ∷ qs) = λ b.
    elim b as (λ b. same_path p q ≡ b → 0 < one_if b + weigh (is_it p) qs → Stands p (q ∷ qs))
    [ true ↦ λ e _. ([], qs, ap (λ x. x ∷ qs) (sym (path_same p q e))) | false ↦ λ _ m. (let r = stands p qs (omega arith) in (q ∷ r.0, r.1, ap (λ l. q ∷ l) r.2)) ] in
    step (same_path p q) refl l

open_stands : (p : List ℕ) (ps ds : Paths) → ((h : List ℕ → ℕ) → weigh h ds ≡ weigh h ps) → is_open p ps ≡ true → Stands p ds
open_stands p ps ds tie o =
    let a = tie (is_it p) in
    let b = weigh_without (is_it p) p ps o in
    let one : is_it p p ≡ 1 = ap one_if (same_itself p) in
    stands p ds (omega arith)

follows : (c : Choices) (at : Outputs) (n : ℕ) (ps : Paths) (b : Bool) (v : ℕ) (ds : Paths) (past : Past) (es : List TreeEntry) → 1 < n → v < n → ((h : List ℕ → ℕ) → weigh h ds ≡ weigh h ps)
    → legal_from ps b es ≡ true → are_reached past.ends es ≡ true → AreTrue c at es → has_stop es ≡ false → AreSeats n es → (t : WorkersState) × Reaches c at (state (nones n) (single n v ds) past) t es
follows c at n ps b v ds past [] two lv tie legal reached true_of quiet seats = (state (nones n) (single n v ds) past, ([], (refl, refl)))
follows c at n ps b v ds past (split w p ks ∷ es) two lv tie legal reached true_of quiet seats =
    let l = and_parts (is_open p ps) (legal_from (without p ps ++ kids_of p ks) (b || false) es) legal in
    let there = open_stands p ps ds tie l.0 in
    let xs = there.0 in
    let ys = there.1 in
    let u = elsewhere c at n v w ds past two lv seats.0 in
    let next = splits_there c at n u.0 w xs ys p ks past u.1 seats.0 u.2 true_of.0 in
    let later = follows c at n (without p ps ++ kids_of p ks) (b || false) w next.0 past es two seats.0
    (λ h. let a = next.1 h in let t = tie h in let d = ap (weigh h) there.2 in let o = weigh_without h p ps l.0 in omega (arith, weigh_both h (without p ps) (kids_of p ks)))
    l.1 reached true_of.1 quiet seats.1 in
    let s = state (nones n) (single n v ds) past in
    let m = state (nones n) (single n u.0 ds) past in
    let q = state (nones n) (single n w next.0) past in
    let made = subst (λ (d : Paths). Reaches c at (state (nones n) (single n u.0 d) past) q (split w p ks ∷ [])) (sym there.2) next.2 in
    (later.0, then_reaches c at s m later.0 [] (split w p ks ∷ es) u.3 (then_reaches c at m q later.0 (split w p ks ∷ []) es made later.1))
follows c at n ps b v ds past (done w p outs ∷ es) two lv tie legal reached true_of quiet seats =
    let l = and_parts (is_open p ps) (legal_from (without p ps) (b || false) es) legal in
    let there = open_stands p ps ds tie l.0 in
    let xs = there.0 in
    let ys = there.1 in
    let u = elsewhere c at n v w ds past two lv seats.0 in
    let next = ends_there c at n u.0 w xs ys p past u.1 seats.0 u.2 in
    let after = over (insert p (at p) past.ends) past.skipped in
    let reached' : are_reached (insert p (at p) past.ends) es ≡ true = ap (λ (o : List NominalOut). are_reached (insert p o past.ends) es) (sym true_of.0) ∙ reached in
    let later = follows c at n (without p ps) (b || false) w next.0 after es two seats.0
    (λ h. let a = next.1 h in let t = tie h in let d = ap (weigh h) there.2 in let o = weigh_without h p ps l.0 in omega arith)
    l.1 reached' true_of.1 quiet seats.1 in
    let s = state (nones n) (single n v ds) past in
    let m = state (nones n) (single n u.0 ds) past in
    let q = state (nones n) (single n w next.0) after in
    let made = subst (λ (d : Paths). Reaches c at (state (nones n) (single n u.0 d) past) q (done w p (at p) ∷ [])) (sym there.2) next.2 in
    (later.0, subst (λ (o : List NominalOut). Reaches c at s later.0 (done w p o ∷ es)) (sym true_of.0) (then_reaches c at s m later.0 [] (done w p (at p) ∷ es) u.3 (then_reaches c at m q later.0 (done w p (at p) ∷ []) es made later.1)))
follows c at n ps b v ds past (skip w p k ∷ es) two lv tie legal reached true_of quiet seats =
    let l = and_parts (is_open p ps) (legal_from (without p ps) (b || false) es) legal in
    let r = and_parts (nat_le k (found_before p past.ends)) (are_reached past.ends es) reached in
    let there = open_stands p ps ds tie l.0 in
    let xs = there.0 in
    let ys = there.1 in
    let u = elsewhere c at n v w ds past two lv seats.0 in
    let next = skips_there c at n u.0 w xs ys p k past u.1 seats.0 u.2 (leb-true k (found_before p past.ends) r.0) in
    let after = over past.ends (past.skipped ++ p ∷ []) in
    let later = follows c at n (without p ps) (b || false) w next.0 after es two seats.0
    (λ h. let a = next.1 h in let t = tie h in let d = ap (weigh h) there.2 in let o = weigh_without h p ps l.0 in omega arith)
    l.1 r.1 true_of.1 quiet seats.1 in
    let s = state (nones n) (single n v ds) past in
    let m = state (nones n) (single n u.0 ds) past in
    let q = state (nones n) (single n w next.0) after in
    let made = subst (λ (d : Paths). Reaches c at (state (nones n) (single n u.0 d) past) q (skip w p k ∷ [])) (sym there.2) next.2 in
    (later.0, then_reaches c at s m later.0 [] (skip w p k ∷ es) u.3 (then_reaches c at m q later.0 (skip w p k ∷ []) es made later.1))
follows c at n ps b v ds past (stop w ∷ es) two lv tie legal reached true_of quiet seats = absurd (true≢false quiet)

-- the events begin where worker 0 has the empty path in its hand
pub is_permitted : (c : Choices) (at : Outputs) (n : ℕ) (history : List TreeEntry) → 1 < n → is_legal history ≡ true → AreTrue c at history → has_stop history ≡ false → AreSeats n history
    → (t : WorkersState) × (events : List Event) × EventsLead c at (start_state n) events t history
is_permitted c at n history two legal true_of quiet seats =
    let parts = legal_parts history legal in
    let r = follows c at n ([] ∷ []) false 0 ([] ∷ []) (over [] []) history two (omega arith) (λ h. refl) parts.0 parts.1 true_of quiet seats in
    let all = then_reaches c at (start_state n) (state (nones n) (single n 0 ([] ∷ [])) (over [] [])) r.0 [] history (starts c at n (omega arith)) r.1 in
    (r.0, all.0, all.1)
