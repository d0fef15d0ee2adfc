-- One worker keeps the pending paths in order: its hand, and then its deque from the back.
use Rattle.std.proofs.Common.{◌≡◌, ℕ, zero, suc, ◌&&◌, List, [], ◌∷◌, ◌++◌, sym, refl, ap, ◌∙◌, subst, append_assoc, true, nat_le, le-leb, leb-true, arith}
use Rattle.std.proofs.lemmas.Bool.{and_parts}
use Rattle.ap_tools.specs.declared.events.Event.{Event}
use Rattle.ap_tools.specs.declared.events.Event.TheVariants.{Push, Pop, Steal, Split, Done, Skip}
use Rattle.ap_paths.specs.Entries.{TreeEntry, split, done, skip, stop}
use Rattle.ap_paths.specs.History.{are_reached, kids_of}
use Rattle.ap_paths.specs.Trees.{Choices, Outputs, AreKids, AreTrue}
use Rattle.ap_defs.specs.Answers.{NominalOut}
use Rattle.ap_paths.specs.Merging.{EndedPath, found_before, insert}
use Rattle.ap_tools.specs.States.{WorkersState, Past, over, state}
use Rattle.ap_tools.specs.Traces.{EventsLead, AreSeats, IsInOrder}
use Rattle.ap_tools.specs.Laws.{AreInOrder}
use Rattle.ap_tools.proofs.Places.{same_some, some_there}

abbrev Paths : Type 0
Paths = List (List ℕ)

-- a hand, and then a deque from the back
abbrev stack : Paths → Paths → Paths
stack hand [] = hand
stack hand (q ∷ qs) = stack hand qs ++ q ∷ []

stack_back : (hand qs : Paths) (p : List ℕ) → stack hand (qs ++ p ∷ []) ≡ stack (hand ++ p ∷ []) qs
stack_back hand [] p = refl
stack_back hand (q ∷ qs) p = ap (λ l. l ++ q ∷ []) (stack_back hand qs p)

stack_front : (a hand qs : Paths) → stack (a ++ hand) qs ≡ a ++ stack hand qs
stack_front a hand [] = refl
stack_front a hand (q ∷ qs) = ap (λ l. l ++ q ∷ []) (stack_front a hand qs) ∙ append_assoc a (stack hand qs) (q ∷ [])

abbrev Fits : Choices → Outputs → List EndedPath → Paths → List TreeEntry → Type 0
Fits c at ends ps h = AreSeats 1 h × AreTrue c at h × IsInOrder ps h × (are_reached ends h ≡ true)

same_head : (p q : List ℕ) (ps qs : Paths) → p ∷ ps ≡ q ∷ qs → p ≡ q
same_head p q ps qs e = cc

same_tail : (p q : List ℕ) (ps qs : Paths) → p ∷ ps ≡ q ∷ qs → ps ≡ qs
same_tail p q ps qs e = cc

-- where an event makes no entry
quietly : (c : Choices) (at : Outputs) (ends : List EndedPath) (ps qs : Paths) (made later h : List TreeEntry) → ps ≡ qs → made ≡ [] → h ≡ made ++ later → Fits c at ends ps later → Fits c at ends qs h
quietly c at ends ps qs made later h same none is f =
    subst (λ (l : Paths). Fits c at ends l h) same (subst (λ (x : List TreeEntry). Fits c at ends ps x) (sym (is ∙ ap (λ m. m ++ later) none)) f)

in_order : (c : Choices) (at : Outputs) (hand deque : Paths) (past : Past) (es : List Event) (t : WorkersState) (h : List TreeEntry) → EventsLead c at (state (hand ∷ []) (deque ∷ []) past) es t h → Fits c at past.ends (stack hand deque) h
in_order c at hand deque past [] t h a = subst (λ (x : List TreeEntry). Fits c at past.ends (stack hand deque) x) (sym a.1) (tt, tt, tt, refl)
in_order c at hand deque past (Push zero ∷ es) t h a =
    let s = a.3 in
    let next = subst (λ (u : WorkersState). EventsLead c at u es t a.2) s.5 a.5 in
    let r = in_order c at s.0 (s.2 ++ s.1 ∷ []) past es t a.2 next in
    quietly c at past.ends (stack s.0 (s.2 ++ s.1 ∷ [])) (stack hand deque) a.1 a.2 h
    (stack_back s.0 s.2 s.1 ∙ ap (λ l. stack l s.2) (sym (same_some hand (s.0 ++ s.1 ∷ []) s.3)) ∙ ap (stack hand) (sym (same_some deque s.2 s.4))) a.4 a.6 r
in_order c at hand deque past (Push (suc w) ∷ es) t h a = absurd (some_there (a.3.0 ++ a.3.1 ∷ []) (sym a.3.3))
in_order c at hand deque past (Pop zero ∷ es) t h a =
    let s = a.3 in
    let next = subst (λ (u : WorkersState). EventsLead c at u es t a.2) s.4 a.5 in
    let r = in_order c at (s.1 ∷ []) s.0 past es t a.2 next in
    quietly c at past.ends (stack (s.1 ∷ []) s.0) (stack hand deque) a.1 a.2 h
    (sym (stack_back [] s.0 s.1) ∙ ap (stack []) (sym (same_some deque (s.0 ++ s.1 ∷ []) s.3)) ∙ ap (λ l. stack l deque) (sym (same_some hand [] s.2))) a.4 a.6 r
in_order c at hand deque past (Pop (suc w) ∷ es) t h a = let none : Paths = [] in absurd (some_there none (sym a.3.2))
in_order c at hand deque past (Steal zero zero ∷ es) t h a = absurd (a.3.4 refl)
in_order c at hand deque past (Steal zero (suc from) ∷ es) t h a = absurd (some_there (a.3.1 ∷ a.3.0) (sym a.3.3))
in_order c at hand deque past (Steal (suc w) from ∷ es) t h a = let none : Paths = [] in absurd (some_there none (sym a.3.2))
in_order c at hand deque past (Split zero ks ∷ es) t h a =
    let s = a.3 in
    let m = a.4 in
    let both : s.1 ∷ s.0 ≡ m.0 ∷ m.1 = sym (same_some hand (s.1 ∷ s.0) s.2) ∙ same_some hand (m.0 ∷ m.1) m.2 in
    let p_is = same_head s.1 m.0 s.0 m.1 both in
    let rest_is = same_tail s.1 m.0 s.0 m.1 both in
    let next = subst (λ (u : WorkersState). EventsLead c at u es t a.2) s.4 a.5 in
    let r = in_order c at (kids_of s.1 ks ++ s.0) deque past es t a.2 next in
    let kids = subst (λ (p : List ℕ). AreKids c at p ks) p_is s.3 in
    let later = subst (λ (l : Paths). IsInOrder l a.2) (stack_front (kids_of s.1 ks) s.0 deque ∙ ap (λ p. kids_of p ks ++ stack s.0 deque) p_is ∙ ap (λ l. kids_of m.0 ks ++ stack l deque) rest_is) r.2 in
    let first : stack hand deque ≡ m.0 ∷ stack m.1 deque = ap (λ l. stack l deque) (same_some hand (m.0 ∷ m.1) m.2) ∙ stack_front (m.0 ∷ []) m.1 deque in
    let f : Fits c at past.ends (m.0 ∷ stack m.1 deque) (split 0 m.0 ks ∷ a.2) = ((omega arith, r.0), (kids, r.1), (refl, later), r.3) in
    subst (λ (l : Paths). Fits c at past.ends l h) (sym first) (subst (λ (x : List TreeEntry). Fits c at past.ends (m.0 ∷ stack m.1 deque) x) (sym (a.6 ∙ ap (λ x. x ++ a.2) m.3)) f)
in_order c at hand deque past (Split (suc w) ks ∷ es) t h a = absurd (some_there (a.3.1 ∷ a.3.0) (sym a.3.2))
in_order c at hand deque past (Done zero ∷ es) t h a =
    let s = a.3 in
    let m = a.4 in
    let both : s.1 ∷ s.0 ≡ m.0 ∷ m.1 = sym (same_some hand (s.1 ∷ s.0) s.2) ∙ same_some hand (m.0 ∷ m.1) m.2 in
    let p_is = same_head s.1 m.0 s.0 m.1 both in
    let rest_is = same_tail s.1 m.0 s.0 m.1 both in
    let next = subst (λ (u : WorkersState). EventsLead c at u es t a.2) s.3 a.5 in
    let r = in_order c at s.0 deque (over (insert s.1 (at s.1) past.ends) past.skipped) es t a.2 next in
    let later = subst (λ (l : Paths). IsInOrder (stack l deque) a.2) rest_is r.2 in
    let reached = subst (λ (p : List ℕ). are_reached (insert p (at p) past.ends) a.2 ≡ true) p_is r.3 in
    let first : stack hand deque ≡ m.0 ∷ stack m.1 deque = ap (λ l. stack l deque) (same_some hand (m.0 ∷ m.1) m.2) ∙ stack_front (m.0 ∷ []) m.1 deque in
    let f : Fits c at past.ends (m.0 ∷ stack m.1 deque) (done 0 m.0 (at m.0) ∷ a.2) = ((omega arith, r.0), (refl, r.1), (refl, later), reached) in
    subst (λ (l : Paths). Fits c at past.ends l h) (sym first) (subst (λ (x : List TreeEntry). Fits c at past.ends (m.0 ∷ stack m.1 deque) x) (sym (a.6 ∙ ap (λ x. x ++ a.2) m.3)) f)
in_order c at hand deque past (Done (suc w) ∷ es) t h a = absurd (some_there (a.3.1 ∷ a.3.0) (sym a.3.2))
in_order c at hand deque past (Skip zero n ∷ es) t h a =
    let s = a.3 in
    let m = a.4 in
    let both : s.1 ∷ s.0 ≡ m.0 ∷ m.1 = sym (same_some hand (s.1 ∷ s.0) s.2) ∙ same_some hand (m.0 ∷ m.1) m.2 in
    let p_is = same_head s.1 m.0 s.0 m.1 both in
    let rest_is = same_tail s.1 m.0 s.0 m.1 both in
    let next = subst (λ (u : WorkersState). EventsLead c at u es t a.2) s.4 a.5 in
    let r = in_order c at s.0 deque (over past.ends (past.skipped ++ s.1 ∷ [])) es t a.2 next in
    let later = subst (λ (l : Paths). IsInOrder (stack l deque) a.2) rest_is r.2 in
    let enough : nat_le n (found_before m.0 past.ends) ≡ true = le-leb n (found_before m.0 past.ends) (let z = s.3 in let y = ap (λ (p : List ℕ). found_before p past.ends) p_is in omega arith) in
    let reached : nat_le n (found_before m.0 past.ends) && are_reached past.ends a.2 ≡ true = rw (enough, r.3) refl in
    let first : stack hand deque ≡ m.0 ∷ stack m.1 deque = ap (λ l. stack l deque) (same_some hand (m.0 ∷ m.1) m.2) ∙ stack_front (m.0 ∷ []) m.1 deque in
    let f : Fits c at past.ends (m.0 ∷ stack m.1 deque) (skip 0 m.0 n ∷ a.2) = ((omega arith, r.0), (tt, r.1), (refl, later), reached) in
    subst (λ (l : Paths). Fits c at past.ends l h) (sym first) (subst (λ (x : List TreeEntry). Fits c at past.ends (m.0 ∷ stack m.1 deque) x) (sym (a.6 ∙ ap (λ x. x ++ a.2) m.3)) f)
in_order c at hand deque past (Skip (suc w) n ∷ es) t h a = absurd (some_there (a.3.1 ∷ a.3.0) (sym a.3.2))

-- the worker runs the paths of its hand in order, and pushes none
entered : (c : Choices) (at : Outputs) (hand : Paths) (past : Past) (h : List TreeEntry) → AreSeats 1 h → AreTrue c at h → IsInOrder hand h → are_reached past.ends h ≡ true
    → (t : WorkersState) × (events : List Event) × EventsLead c at (state (hand ∷ []) ([] ∷ []) past) events t h
entered c at hand past [] seats true_of order reached = (state (hand ∷ []) ([] ∷ []) past, [], (refl, refl))
entered c at [] past (e ∷ es) seats true_of order reached = absurd order
entered c at (p ∷ ps) past (split seat q ks ∷ es) seats true_of order reached =
    let later = entered c at (kids_of p ks ++ ps) past es seats.1 true_of.1 order.1 reached in
    let first : seat ≡ 0 = (let z = seats.0 in omega arith) in
    let same : q ≡ p = order.0 in
    let kids = subst (λ (r : List ℕ). AreKids c at r ks) same true_of.0 in
    (later.0, Split 0 ks ∷ later.1, (state ((kids_of p ks ++ ps) ∷ []) ([] ∷ []) past, split 0 p ks ∷ [], es, (ps, p, refl, kids, refl), (p, ps, refl, refl), later.2, λ i. split (first i) (same i) ks ∷ es))
entered c at (p ∷ ps) past (done seat q os ∷ es) seats true_of order reached =
    let first : seat ≡ 0 = (let z = seats.0 in omega arith) in
    let same : q ≡ p = order.0 in
    let outs : os ≡ at p = true_of.0 ∙ ap at same in
    let after = over (insert p (at p) past.ends) past.skipped in
    let reached' : are_reached (insert p (at p) past.ends) es ≡ true = ap (λ (o : List NominalOut). are_reached (insert p o past.ends) es) (sym outs) ∙ ap (λ (r : List ℕ). are_reached (insert r os past.ends) es) (sym same) ∙ reached in
    let later = entered c at ps after es seats.1 true_of.1 order.1 reached' in
    (later.0, Done 0 ∷ later.1, (state (ps ∷ []) ([] ∷ []) after, done 0 p (at p) ∷ [], es, (ps, p, refl, refl), (p, ps, refl, refl), later.2, λ i. done (first i) (same i) (outs i) ∷ es))
entered c at (p ∷ ps) past (skip seat q n ∷ es) seats true_of order reached =
    let parts = and_parts (nat_le n (found_before q past.ends)) (are_reached past.ends es) reached in
    let first : seat ≡ 0 = (let z = seats.0 in omega arith) in
    let same : q ≡ p = order.0 in
    let after = over past.ends (past.skipped ++ p ∷ []) in
    let enough = leb-true n (found_before p past.ends) (subst (λ (r : List ℕ). nat_le n (found_before r past.ends) ≡ true) same parts.0) in
    let later = entered c at ps after es seats.1 true_of.1 order.1 parts.1 in
    (later.0, Skip 0 n ∷ later.1, (state (ps ∷ []) ([] ∷ []) after, skip 0 p n ∷ [], es, (ps, p, refl, enough, refl), (p, ps, refl, refl), later.2, λ i. skip (first i) (same i) n ∷ es))
entered c at (p ∷ ps) past (stop seat ∷ es) seats true_of order reached = absurd order

pub are_in_order : (c : Choices) (at : Outputs) → AreInOrder c at
are_in_order c at history =
    (λ t events leads. in_order c at ([] ∷ []) [] (over [] []) events t history leads, λ seats true_of order reached. entered c at ([] ∷ []) (over [] []) history seats true_of order reached)
