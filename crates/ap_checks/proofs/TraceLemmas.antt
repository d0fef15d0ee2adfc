-- A path leads somewhere just where the search finds that state at the part of the path that was taken.
use Rattle.std.proofs.Common.{subst, ◌≡◌, ◌+◌, ◌⊎◌, ℕ, zero, suc, true, false, List, [], ◌∷◌, ◌++◌, map, refl, sym, ap, ap₂, ◌∙◌, inl, inr, arith}
use Rattle.std.specs.Prelude.{if◌then◌else◌, ◌==◌, Option, Some, None}
use Rattle.std.proofs.lemmas.List.{append_assoc}
use Rattle.ap_defs.specs.declared.terms.Cond.{Cond}
use Rattle.ap_defs.specs.Derivations as nodes
use Rattle.ap_defs.specs.Derivations.{NominalDerivation}
use Rattle.ap_defs.specs.Freshness.{add_conds, reduce}
use Rattle.ap_defs.specs.Goals.{NominalGoal, succeed, atom, equal, fresh, both, either, exists, new, NominalClause, Clauses, clauses_of}
use Rattle.ap_defs.specs.GroundProofs.{clause_at}
use Rattle.ap_defs.specs.Occurrences.{free_vars}
use Rattle.ap_defs.specs.Renaming.{rename_goal, rename_term}
use Rattle.ap_defs.specs.Resolution.{Call, Output, State, below, by_clause, by_clauses, calls, clause_node, cut, each_found, found, fresh_for_each, if_reduced, if_unified, just_found, kinds_of, next_number, outputs, chose, stuck, test_fresh}
use Rattle.ap_defs.specs.Substitution.{under}
use Rattle.ap_defs.specs.Terms as terms
use Rattle.ap_defs.specs.Terms.{NominalTerm}
use Rattle.ap_defs.specs.Unification.{Unified, reduce_all, unify}
use Rattle.ap_theory.proofs.TermLemmas.{number_same}
use Rattle.ap_checks.specs.StatementsOnTraces.{PathsLeadToFoundStates}
use Rattle.ap_checks.specs.Traces.{Finds, Trace, Traced, just_traced, trace_call, trace_clause, trace_fresh, trace_goal, trace_reduced, trace_side, trace_then, trace_unified, traced, under_node}

-- Where outputs find something.
finds_front : (os qs : List Output) (p : List ℕ) (s : State) (d : NominalDerivation) → Finds os p s d → Finds (os ++ qs) p s d
finds_front [] qs p s d h = absurd h
finds_front (found q r e ∷ os) qs p s d (inl h) = inl h
finds_front (found q r e ∷ os) qs p s d (inr h) = inr (finds_front os qs p s d h)
finds_front (cut q ∷ os) qs p s d h = finds_front os qs p s d h
finds_front (chose q c ∷ os) qs p s d h = absurd c
finds_front (stuck q ∷ os) qs p s d h = finds_front os qs p s d h

finds_back : (os qs : List Output) (p : List ℕ) (s : State) (d : NominalDerivation) → Finds qs p s d → Finds (os ++ qs) p s d
finds_back [] qs p s d h = h
finds_back (found q r e ∷ os) qs p s d h = inr (finds_back os qs p s d h)
finds_back (cut q ∷ os) qs p s d h = finds_back os qs p s d h
finds_back (chose q c ∷ os) qs p s d h = absurd c
finds_back (stuck q ∷ os) qs p s d h = finds_back os qs p s d h

finds_append : (os qs : List Output) (p : List ℕ) (s : State) (d : NominalDerivation) → Finds (os ++ qs) p s d → Finds os p s d ⊎ Finds qs p s d
finds_append [] qs p s d h = inr h
finds_append (found q r e ∷ os) qs p s d (inl h) = inl (inl h)
finds_append (found q r e ∷ os) qs p s d (inr h) = elim (finds_append os qs p s d h) [ inl i ↦ inl (inr i) | inr i ↦ inr i ]
finds_append (cut q ∷ os) qs p s d h = finds_append os qs p s d h
finds_append (chose q c ∷ os) qs p s d h = absurd c
finds_append (stuck q ∷ os) qs p s d h = finds_append os qs p s d h

module _ (c : List ℕ) (node : NominalDerivation → NominalDerivation) where
  finds_below : (os : List Output) (p : List ℕ) (s : State) (d : NominalDerivation) → Finds os p s d → Finds (map (below c node) os) (c ++ p) s (node d)
  finds_below [] p s d h = absurd h
  finds_below (found q r e ∷ os) p s d (inl h) = inl (ap (λ z. c ++ z) h.0, h.1, ap node h.2)
  finds_below (found q r e ∷ os) p s d (inr h) = inr (finds_below os p s d h)
  finds_below (cut q ∷ os) p s d h = finds_below os p s d h
  finds_below (chose q c ∷ os) p s d h = absurd c
  finds_below (stuck q ∷ os) p s d h = finds_below os p s d h

  -- what was found below a node
  record FoundBelow (os : List Output) (p : List ℕ) (s : State) (d : NominalDerivation) : Type 0 where
    path : List ℕ
    derivation : NominalDerivation
    longer : c ++ path ≡ p
    made : node derivation ≡ d
    there : Finds os path s derivation

  below_finds : (os : List Output) (p : List ℕ) (s : State) (d : NominalDerivation) → Finds (map (below c node) os) p s d → FoundBelow os p s d
  below_finds [] p s d h = absurd h
  below_finds (found q r e ∷ os) p s d (inl h) = record { path = q; derivation = e; longer = h.0; made = h.2; there = inl (refl, h.1, refl) }
  below_finds (found q r e ∷ os) p s d (inr h) = let b = below_finds os p s d h in record { path = b.path; derivation = b.derivation; longer = b.longer; made = b.made; there = inr b.there }
  below_finds (cut q ∷ os) p s d h = let b = below_finds os p s d h in record { path = b.path; derivation = b.derivation; longer = b.longer; made = b.made; there = b.there }
  below_finds (chose q c ∷ os) p s d h = absurd c
  below_finds (stuck q ∷ os) p s d h = let b = below_finds os p s d h in record { path = b.path; derivation = b.derivation; longer = b.longer; made = b.made; there = b.there }

-- Following paths, and outputs that match it.
abbrev led : State → NominalDerivation → List ℕ → Traced
led s d rest = record { state = s; derivation = d; rest = rest }

record Matches (trace : List ℕ → Option Traced) (os : List Output) : Type 0 where
  leads : (path : List ℕ) (r : Traced) → trace path ≡ Some r → (q : List ℕ) × (path ≡ q ++ r.rest) × Finds os q r.state r.derivation
  follows : (q : List ℕ) (s : State) (d : NominalDerivation) (rest : List ℕ) → Finds os q s d → trace (q ++ rest) ≡ Some (led s d rest)

nothing_matches : Matches (λ path. None) []
nothing_matches = record { leads = λ path r e. cc; follows = λ q s d rest h. absurd h }

stuck_matches : Matches (λ path. None) (stuck [] ∷ [])
stuck_matches = record { leads = λ path r e. cc; follows = λ q s d rest h. absurd h }

cut_matches : Matches (λ path. None) (cut [] ∷ [])
cut_matches = record { leads = λ path r e. cc; follows = λ q s d rest h. absurd h }

the_traced : (r t : Traced) → Some r ≡ Some t → r ≡ t
the_traced r t h = cc

just_matches : (e : NominalDerivation) (t : State) → Matches (just_traced e t) (just_found e t)
just_matches e t = record {
  leads = λ path r h.
      let same = the_traced (led t e path) r h in
      ([], ap (λ (z : Traced). z.rest) same, inl (refl, ap (λ (z : Traced). z.state) same, ap (λ (z : Traced). z.derivation) same));
  follows = λ q s d rest h.
      elim h [
        | inl i ↦ ap Some (ap₂ (λ z p. led z e (p ++ rest)) i.1 (sym i.0) ∙ ap (λ z. led s z rest) i.2)
        | inr i ↦ absurd i
      ];
}

under_some : (node : NominalDerivation → NominalDerivation) (o : Option Traced) (r : Traced) → under_node node o ≡ Some r
    → (t : Traced) × (o ≡ Some t) × (led t.state (node t.derivation) t.rest ≡ r)
under_some node None r h = cc
under_some node (Some t) r h = (t, refl, the_traced (led t.state (node t.derivation) t.rest) r h)

-- under a node that takes nothing off the path
node_matches : (node : NominalDerivation → NominalDerivation) (trace : List ℕ → Option Traced) (os : List Output) → Matches trace os → Matches (λ path. under_node node (trace path)) (map (below [] node) os)
node_matches node trace os m = record {
  leads = λ path r h.
      let u = under_some node (trace path) r h in
      let l = m.leads path u.0 u.1 in (
        l.0,
        l.1 ∙ ap (λ (z : Traced). l.0 ++ z.rest) u.2,
        subst (λ (z : Traced). Finds (map (below [] node) os) l.0 z.state z.derivation) u.2 (finds_below [] node os l.0 u.0.state u.0.derivation l.2),
      );
  follows = λ q s d rest h.
      let b = below_finds [] node os q s d h in
      ap (λ p. under_node node (trace (p ++ rest))) (sym b.longer) ∙ ap (under_node node) (m.follows b.path s b.derivation rest b.there) ∙ ap (λ e. Some (led s e rest)) b.made;
}

unified_matches : (go : Trace) (outs : State → List Output) → ((s : State) → Matches (go s) (outs s)) → (s : State) (o : Option Unified) → Matches (trace_unified go s o) (if_unified outs s o)
unified_matches go outs m s None = nothing_matches
unified_matches go outs m s (Some r) = m (record s { bindings = r.bindings; conditions = r.conditions })

reduced_matches : (go : Trace) (outs : State → List Output) → ((s : State) → Matches (go s) (outs s)) → (s : State) (o : Option (List Cond)) → Matches (trace_reduced go s o) (if_reduced outs s o)
reduced_matches go outs m s None = nothing_matches
reduced_matches go outs m s (Some cs) = m (record s { conditions = add_conds cs s.conditions })

fresh_matches : (t u : NominalTerm) (s : State) → Matches (trace_fresh t u s) (test_fresh s t u)
fresh_matches (terms.name a) u s = reduced_matches (just_traced nodes.fresh) (just_found nodes.fresh) (just_matches nodes.fresh) s (reduce a (under s.bindings u))
fresh_matches (terms.susp p x) u s = stuck_matches
fresh_matches terms.unit u s = nothing_matches
fresh_matches (terms.pair t v) u s = nothing_matches
fresh_matches (terms.app f t) u s = nothing_matches
fresh_matches (terms.abs a t) u s = nothing_matches

-- one goal, and then another
module _ (next : Trace) (go : State → List Output) (m : (s : State) → Matches (next s) (go s)) where
  finds_each : (os : List Output) (p q : List ℕ) (s r : State) (d e : NominalDerivation) → Finds os p s d → Finds (go s) q r e → Finds (each_found go os) (p ++ q) r (nodes.both d e)
  finds_each [] p q s r d e h k = absurd h
  finds_each (found p' s' d' ∷ os) p q s r d e (inl h) k =
      finds_front (map (below p' (nodes.both d')) (go s')) (each_found go os) (p ++ q) r (nodes.both d e)
      (subst (λ z. Finds (map (below p' (nodes.both d')) (go s')) (z ++ q) r (nodes.both d e)) h.0
      (subst (λ z. Finds (map (below p' (nodes.both d')) (go s')) (p' ++ q) r (nodes.both z e)) h.2
      (finds_below p' (nodes.both d') (go s') q r e (subst (λ z. Finds (go z) q r e) (sym h.1) k))))
  finds_each (found p' s' d' ∷ os) p q s r d e (inr h) k =
      finds_back (map (below p' (nodes.both d')) (go s')) (each_found go os) (p ++ q) r (nodes.both d e) (finds_each os p q s r d e h k)
  finds_each (cut p' ∷ os) p q s r d e h k = finds_each os p q s r d e h k
  finds_each (chose p' c ∷ os) p q s r d e h k = absurd c
  finds_each (stuck p' ∷ os) p q s r d e h k = finds_each os p q s r d e h k

  -- what was found by both goals
  record FoundByBoth (os : List Output) (p : List ℕ) (r : State) (c : NominalDerivation) : Type 0 where
    before : List ℕ
    after : List ℕ
    state : State
    first : NominalDerivation
    second : NominalDerivation
    longer : before ++ after ≡ p
    made : nodes.both first second ≡ c
    found_first : Finds os before state first
    found_second : Finds (go state) after r second

  both_finds : (os : List Output) (p : List ℕ) (r : State) (c : NominalDerivation) → Finds (each_found go os) p r c → FoundByBoth os p r c
  both_finds [] p r c h = absurd h
  both_finds (found q s d ∷ os) p r c h =
      elim (finds_append (map (below q (nodes.both d)) (go s)) (each_found go os) p r c h) [
        | inl i ↦
            let b = below_finds q (nodes.both d) (go s) p r c i in
            record { before = q; after = b.path; state = s; first = d; second = b.derivation; longer = b.longer; made = b.made; found_first = inl (refl, refl, refl); found_second = b.there }
        | inr i ↦
            let b = both_finds os p r c i in
            record { before = b.before; after = b.after; state = b.state; first = b.first; second = b.second; longer = b.longer; made = b.made; found_first = inr b.found_first; found_second = b.found_second }
      ]
  both_finds (cut q ∷ os) p r c h =
      let b = both_finds os p r c h in
      record { before = b.before; after = b.after; state = b.state; first = b.first; second = b.second; longer = b.longer; made = b.made; found_first = b.found_first; found_second = b.found_second }
  both_finds (chose q told ∷ os) p r c h = absurd told
  both_finds (stuck q ∷ os) p r c h =
      let b = both_finds os p r c h in
      record { before = b.before; after = b.after; state = b.state; first = b.first; second = b.second; longer = b.longer; made = b.made; found_first = b.found_first; found_second = b.found_second }

  then_some : (o : Option Traced) (r : Traced) → trace_then next o ≡ Some r → (t : Traced) × (o ≡ Some t) × (under_node (nodes.both t.derivation) (next t.state t.rest) ≡ Some r)
  then_some None r h = cc
  then_some (Some t) r h = (t, refl, h)

  then_matches : (trace : List ℕ → Option Traced) (os : List Output) → Matches trace os → Matches (λ path. trace_then next (trace path)) (each_found go os)
  then_matches trace os f = record {
    leads = λ path r h.
        let t = then_some (trace path) r h in
        let first = f.leads path t.0 t.1 in
        let u = under_some (nodes.both t.0.derivation) (next t.0.state t.0.rest) r t.2 in
        let second = (m t.0.state).leads t.0.rest u.0 u.1 in (
          first.0 ++ second.0,
          first.1 ∙ ap (λ z. first.0 ++ z) (second.1 ∙ ap (λ (z : Traced). second.0 ++ z.rest) u.2) ∙ sym (append_assoc first.0 second.0 r.rest),
          subst (λ (z : Traced). Finds (each_found go os) (first.0 ++ second.0) z.state z.derivation) u.2
              (finds_each os first.0 second.0 t.0.state u.0.state t.0.derivation u.0.derivation first.2 second.2),
        );
    follows = λ q s d rest h.
        let b = both_finds os q s d h in
        ap (λ p. trace_then next (trace (p ++ rest))) (sym b.longer)
        ∙ ap (λ p. trace_then next (trace p)) (append_assoc b.before b.after rest)
        ∙ ap (trace_then next) (f.follows b.before b.state b.first (b.after ++ rest) b.found_first)
        ∙ ap (under_node (nodes.both b.first)) ((m b.state).follows b.after s b.second rest b.found_second)
        ∙ ap (λ e. Some (led s e rest)) b.made;
  }

-- Below a choice.
module _ (k : ℕ) (node : NominalDerivation → NominalDerivation) (trace : List ℕ → Option Traced) (os : List Output) (m : Matches trace os) where
  chosen_leads : (path : List ℕ) (r : Traced) → under_node node (trace path) ≡ Some r
      → (q : List ℕ) × (path ≡ q ++ r.rest) × Finds (map (below (k ∷ []) node) os) (k ∷ q) r.state r.derivation
  chosen_leads path r h =
      let u = under_some node (trace path) r h in
      let l = m.leads path u.0 u.1 in (
        l.0,
        l.1 ∙ ap (λ (z : Traced). l.0 ++ z.rest) u.2,
        subst (λ (z : Traced). Finds (map (below (k ∷ []) node) os) (k ∷ l.0) z.state z.derivation) u.2 (finds_below (k ∷ []) node os l.0 u.0.state u.0.derivation l.2),
      )

  chosen_follows : (q : List ℕ) (s : State) (d : NominalDerivation) (rest : List ℕ) → Finds (map (below (k ∷ []) node) os) q s d
      → (p : List ℕ) × (k ∷ p ≡ q) × (under_node node (trace (p ++ rest)) ≡ Some (led s d rest))
  chosen_follows q s d rest h =
      let b = below_finds (k ∷ []) node os q s d h in
      (b.path, b.longer, ap (under_node node) (m.follows b.path s b.derivation rest b.there) ∙ ap (λ e. Some (led s e rest)) b.made)

module _ (left right : Trace) (s : State) (os qs : List Output) (ml : Matches (left s) os) (mr : Matches (right s) qs) where
  abbrev sides : List Output
  sides = map (below (1 ∷ []) nodes.left) os ++ map (below (2 ∷ []) nodes.right) qs

  -- what is found at a path that is longer by the side that was taken
  abbrev AtSide : ℕ → List ℕ → Traced → Type 0
  AtSide k path r = (q : List ℕ) × (k ∷ path ≡ q ++ r.rest) × Finds sides q r.state r.derivation

  side_leads : (k : ℕ) (path : List ℕ) (r : Traced) → trace_side left right s (k ∷ path) ≡ Some r → AtSide k path r
  side_leads k path r h =
      elim (k == 1) as (λ v. (k == 1) ≡ v → (if v then under_node nodes.left (left s path) else (if k == 2 then under_node nodes.right (right s path) else None)) ≡ Some r → AtSide k path r) [
        | true ↦ λ e i.
            let l = chosen_leads 1 nodes.left (left s) os ml path r i in
            (1 ∷ l.0, ap₂ ◌∷◌ (number_same k 1 e) l.1, finds_front (map (below (1 ∷ []) nodes.left) os) (map (below (2 ∷ []) nodes.right) qs) (1 ∷ l.0) r.state r.derivation l.2)
        | false ↦ λ e. elim (k == 2) as (λ v. (k == 2) ≡ v → (if v then under_node nodes.right (right s path) else None) ≡ Some r → AtSide k path r) [
          | true ↦ λ f i.
              let l = chosen_leads 2 nodes.right (right s) qs mr path r i in
              (2 ∷ l.0, ap₂ ◌∷◌ (number_same k 2 f) l.1, finds_back (map (below (1 ∷ []) nodes.left) os) (map (below (2 ∷ []) nodes.right) qs) (2 ∷ l.0) r.state r.derivation l.2)
          | false ↦ λ f i. cc
        ] refl
      ] refl h

  side_matches : Matches (trace_side left right s) sides
  side_matches = record {
    leads = both_leads;
    follows = λ q t d rest h.
        elim (finds_append (map (below (1 ∷ []) nodes.left) os) (map (below (2 ∷ []) nodes.right) qs) q t d h) [
          | inl i ↦ let c = chosen_follows 1 nodes.left (left s) os ml q t d rest i in ap (λ p. trace_side left right s (p ++ rest)) (sym c.1) ∙ c.2
          | inr i ↦ let c = chosen_follows 2 nodes.right (right s) qs mr q t d rest i in ap (λ p. trace_side left right s (p ++ rest)) (sym c.1) ∙ c.2
        ];
  }
    where
      both_leads : (path : List ℕ) (r : Traced) → trace_side left right s path ≡ Some r → (q : List ℕ) × (path ≡ q ++ r.rest) × Finds sides q r.state r.derivation
      both_leads [] r h = cc
      both_leads (k ∷ path) r h = side_leads k path r h

-- Clauses.
module _ (go : NominalGoal → Trace) (outs : NominalGoal → State → List Output) (m : (goal : NominalGoal) (s : State) → Matches (go goal s) (outs goal s)) (ts : List NominalTerm) (s : State) where
  abbrev body_trace : NominalClause → List ℕ → Option Traced
  body_trace c path =
      trace_unified (go (rename_goal (next_number s) c.body)) (record s { kinds = s.kinds ++ kinds_of c.locals })
      (unify s.bindings s.conditions ts (map (rename_term (next_number s)) c.args)) path

  abbrev body_outs : NominalClause → List Output
  body_outs c =
      if_unified (outs (rename_goal (next_number s) c.body)) (record s { kinds = s.kinds ++ kinds_of c.locals })
      (unify s.bindings s.conditions ts (map (rename_term (next_number s)) c.args))

  body_matches : (c : NominalClause) → Matches (body_trace c) (body_outs c)
  body_matches c =
      unified_matches (go (rename_goal (next_number s) c.body)) (outs (rename_goal (next_number s) c.body)) (m (rename_goal (next_number s) c.body))
      (record s { kinds = s.kinds ++ kinds_of c.locals }) (unify s.bindings s.conditions ts (map (rename_term (next_number s)) c.args))

  clauses_lead : (cs : List NominalClause) (j i : ℕ) (c : NominalClause) → clause_at cs (suc i) ≡ Some c → (path : List ℕ) (r : Traced) → trace_clause go ts (j + i) (Some c) s path ≡ Some r
      → (q : List ℕ) × (path ≡ q ++ r.rest) × Finds (by_clauses outs ts s j cs) ((j + i) ∷ q) r.state r.derivation
  clauses_lead [] j i c e path r h = cc
  clauses_lead (b ∷ cs) j zero c e path r h =
      let same : c ≡ b = cc in
      let here : j + zero ≡ j = omega arith in
      let h' : trace_clause go ts j (Some b) s path ≡ Some r = subst (λ (k : ℕ). trace_clause go ts k (Some b) s path ≡ Some r) here (subst (λ x. trace_clause go ts (j + zero) (Some x) s path ≡ Some r) same h) in
      let l = chosen_leads j (clause_node j (next_number s) b.locals) (body_trace b) (body_outs b) (body_matches b) path r h' in
      (l.0, l.1, subst (λ (k : ℕ). Finds (by_clauses outs ts s j (b ∷ cs)) (k ∷ l.0) r.state r.derivation) (sym here) (finds_front (by_clause outs ts s j b) (by_clauses outs ts s (suc j) cs) (j ∷ l.0) r.state r.derivation l.2))
  clauses_lead (b ∷ cs) j (suc i) c e path r h =
      let next : suc j + i ≡ j + suc i = omega arith in
      let l = clauses_lead cs (suc j) i c e path r (subst (λ (k : ℕ). trace_clause go ts k (Some c) s path ≡ Some r) (sym next) h) in
      (l.0, l.1, subst (λ (k : ℕ). Finds (by_clauses outs ts s j (b ∷ cs)) (k ∷ l.0) r.state r.derivation) next (finds_back (by_clause outs ts s j b) (by_clauses outs ts s (suc j) cs) ((suc j + i) ∷ l.0) r.state r.derivation l.2))

  -- what was found by one of the clauses
  record FoundByClause (cs : List NominalClause) (j : ℕ) (q : List ℕ) (t : State) (d : NominalDerivation) (rest : List ℕ) : Type 0 where
    place : ℕ
    clause : NominalClause
    path : List ℕ
    there : clause_at cs (suc place) ≡ Some clause
    longer : (j + place) ∷ path ≡ q
    follows : trace_clause go ts (j + place) (Some clause) s (path ++ rest) ≡ Some (led t d rest)

  clauses_follow : (cs : List NominalClause) (j : ℕ) (q : List ℕ) (t : State) (d : NominalDerivation) (rest : List ℕ) → Finds (by_clauses outs ts s j cs) q t d → FoundByClause cs j q t d rest
  clauses_follow [] j q t d rest h = absurd h
  clauses_follow (b ∷ cs) j q t d rest h =
      elim (finds_append (by_clause outs ts s j b) (by_clauses outs ts s (suc j) cs) q t d h) [
        | inl i ↦
            let c = chosen_follows j (clause_node j (next_number s) b.locals) (body_trace b) (body_outs b) (body_matches b) q t d rest i in
            let here : j ≡ j + zero = omega arith in
            record {
              place = zero;
              clause = b;
              path = c.0;
              there = refl;
              longer = ap (λ k. k ∷ c.0) (sym here) ∙ c.1;
              follows = subst (λ (k : ℕ). trace_clause go ts k (Some b) s (c.0 ++ rest) ≡ Some (led t d rest)) here c.2;
            }
        | inr i ↦
            let c = clauses_follow cs (suc j) q t d rest i in
            let next : suc j + c.place ≡ j + suc c.place = omega arith in
            record {
              place = suc c.place;
              clause = c.clause;
              path = c.path;
              there = c.there;
              longer = ap (λ k. k ∷ c.path) (sym next) ∙ c.longer;
              follows = subst (λ (k : ℕ). trace_clause go ts k (Some c.clause) s (c.path ++ rest) ≡ Some (led t d rest)) next c.follows;
            }
      ]

-- Any goal, at any depth.
module _ (program : Clauses) where
  goal_matches : (call : Call) (trace : ℕ → List NominalTerm → Trace) → ((q : ℕ) (ts : List NominalTerm) (s : State) → Matches (trace q ts s) (call q ts s))
      → (goal : NominalGoal) (s : State) → Matches (trace_goal trace goal s) (outputs call goal s)
  goal_matches call trace m succeed s = just_matches nodes.succeed s
  goal_matches call trace m (atom q ts) s = m q ts s
  goal_matches call trace m (equal t u) s = unified_matches (just_traced nodes.equal) (just_found nodes.equal) (just_matches nodes.equal) s (unify s.bindings s.conditions (t ∷ []) (u ∷ []))
  goal_matches call trace m (fresh t u) s = fresh_matches (under s.bindings t) u s
  goal_matches call trace m (both g h) s = then_matches (trace_goal trace h) (outputs call h) (goal_matches call trace m h) (trace_goal trace g s) (outputs call g s) (goal_matches call trace m g s)
  goal_matches call trace m (either g h) s =
      side_matches (trace_goal trace g) (trace_goal trace h) s (outputs call g s) (outputs call h s) (goal_matches call trace m g s) (goal_matches call trace m h s)
  goal_matches call trace m (exists x g) s = node_matches (nodes.exists (terms.susp [] x)) (trace_goal trace g s) (outputs call g s) (goal_matches call trace m g s)
  goal_matches call trace m (new a g) s =
      node_matches (nodes.new a) (trace_reduced (trace_goal trace g) s (reduce_all s.bindings (fresh_for_each a (free_vars g)))) (if_reduced (outputs call g) s (reduce_all s.bindings (fresh_for_each a (free_vars g))))
      (reduced_matches (trace_goal trace g) (outputs call g) (goal_matches call trace m g) s (reduce_all s.bindings (fresh_for_each a (free_vars g))))

  none_at_zero : (cs : List NominalClause) → clause_at cs zero ≡ None
  none_at_zero [] = refl
  none_at_zero (c ∷ cs) = refl

  no_result : (r : Traced) → None ≡ Some r → ⊥
  no_result r e = cc

  -- an atom, one level deeper
  module _ (depth : ℕ) (lower : (q : ℕ) (ts : List NominalTerm) (s : State) → Matches (trace_call program depth q ts s) (calls program depth q ts s))
      (q : ℕ) (ts : List NominalTerm) (s : State) where
    abbrev go : NominalGoal → Trace
    go = trace_goal (trace_call program depth)

    abbrev outs : NominalGoal → State → List Output
    outs = outputs (calls program depth)

    body_goals : (goal : NominalGoal) (r : State) → Matches (go goal r) (outs goal r)
    body_goals = goal_matches (calls program depth) (trace_call program depth) lower

    abbrev Leads : List ℕ → Traced → Type 0
    Leads path r = (p : List ℕ) × (path ≡ p ++ r.rest) × Finds (calls program (suc depth) q ts s) p r.state r.derivation

    place_leads : (i : ℕ) (path : List ℕ) (r : Traced) (o : Option NominalClause) → clause_at (clauses_of program q) (suc i) ≡ o → trace_clause go ts (suc i) o s path ≡ Some r
        → Leads (suc i ∷ path) r
    place_leads i path r None e h = absurd (no_result r h)
    place_leads i path r (Some c) e h =
        let one : suc i ≡ 1 + i = omega arith in
        let l = clauses_lead go outs body_goals ts s (clauses_of program q) 1 i c e path r (subst (λ (k : ℕ). trace_clause go ts k (Some c) s path ≡ Some r) one h) in
        ((1 + i) ∷ l.0, ap₂ ◌∷◌ one l.1, l.2)

    call_leads : (path : List ℕ) (r : Traced) → trace_call program (suc depth) q ts s path ≡ Some r → Leads path r
    call_leads [] r h = absurd (no_result r h)
    call_leads (zero ∷ path) r h = absurd (no_result r (subst (λ o. trace_clause go ts zero o s path ≡ Some r) (none_at_zero (clauses_of program q)) h))
    call_leads (suc i ∷ path) r h = place_leads i path r (clause_at (clauses_of program q) (suc i)) refl h

    deeper_matches : Matches (trace_call program (suc depth) q ts s) (calls program (suc depth) q ts s)
    deeper_matches = record {
      leads = call_leads;
      follows = λ p t d rest h.
          let c = clauses_follow go outs body_goals ts s (clauses_of program q) 1 p t d rest h in
          let e : 1 + c.place ≡ suc c.place = omega arith in
          ap (λ z. trace_call program (suc depth) q ts s (z ++ rest)) (sym c.longer)
          ∙ ap (λ o. trace_clause go ts (1 + c.place) o s (c.path ++ rest)) (ap (clause_at (clauses_of program q)) e ∙ c.there) ∙ c.follows;
    }

  call_matches : (depth q : ℕ) (ts : List NominalTerm) (s : State) → Matches (trace_call program depth q ts s) (calls program depth q ts s)
  call_matches zero q ts s = cut_matches
  call_matches (suc depth) q ts s = deeper_matches depth (call_matches depth) q ts s

pub paths_lead : PathsLeadToFoundStates
paths_lead program depth goal s path r =
    let m = goal_matches program (calls program depth) (trace_call program depth) (call_matches program depth) goal s in (
      m.leads path r,
      (λ h. ap (traced program depth goal s) h.1 ∙ m.follows h.0 r.state r.derivation r.rest h.2),
    )
