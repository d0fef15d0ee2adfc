-- Steps of a walk over a derivation.
use Rattle.std.proofs.Common.{◌≡◌, ◌<◌, ◌≤◌, ◌+◌, ◌-◌, ◌^◌, ℕ, suc, nat_lt, true, false, if◌then◌else◌, ltb-true, ltb-false, List, [], ◌∷◌, ◌++◌, length, map, min, reverse, take, refl, sym, ap, ap₂, ◌∙◌, arith, le_refl, length-append, subst}
use Rattle.std.proofs.lemmas.List.{reverse-append, take-append-le, take-take}
use Rattle.std.specs.Prelude.{Option, Some, None}
use Rattle.ap_defs.specs.Answers.{NominalAnswer}
use Rattle.ap_defs.specs.declared.terms.Name.{Name}
use Rattle.ap_defs.specs.Derivations as nodes
use Rattle.ap_defs.specs.Derivations.{NominalDerivation}
use Rattle.ap_defs.specs.Goals as goals
use Rattle.ap_defs.specs.Goals.{NominalClause, NominalGoal, NominalProgram, clauses_of}
use Rattle.ap_defs.specs.GroundProofs.{clause_at}
use Rattle.ap_defs.specs.Resolution.{kinds_of}
use Rattle.ap_defs.specs.Terms.{NominalTerm}
use Rattle.ap_defs.specs.Types.{NominalKind}
use Rattle.ap_checks.specs.Checks.{Refusal, refusal_of_rule, tests_by_clause, node_count, first_refusal, no, refusal, reported, verdict, with_clause}
use Rattle.ap_checks.specs.OpenEnvironments.{OpenEnvironment, open_environment, put_in}
use Rattle.ap_checker.specs.declared.rules.Rule.{Rule}
use Rattle.ap_judge.specs.declared.scope.Standing.{Standing}
use Rattle.ap_checker.specs.declared.walk.Pending.{Pending}
use Rattle.ap_checker.specs.declared.walk.Obligation.{Obligation}
use Rattle.ap_checker.specs.declared.walk.Walk.{Walk}
use Rattle.ap_checker.specs.Rules.{rule_number, node_refused}
use Rattle.ap_judge.specs.Scopes.{environment_of, environment_with, nothing_put}
use Rattle.ap_judge.proofs.ScopeLemmas.{environment_append}
use Rattle.ap_checker.specs.Walks.{ArePendingMarked, ChecksOn, IsOnWay, IsVisited, derivation_at, first_left, goal_at, kinds_at, pending_of, nodes_left, pending_at, refusal_at}

take-whole : {A : Type 0} (xs : List A) → take (length xs) xs ≡ xs
take-whole [] = refl
take-whole (x ∷ xs) = ap (λ ys. x ∷ ys) (take-whole xs)

last_first : {A : Type 0} (xs : List A) (x : A) → reverse (xs ++ x ∷ []) ≡ x ∷ reverse xs
last_first xs x = reverse-append xs (x ∷ [])

pub first_assoc : (a b c : Option Refusal) → first_refusal (first_refusal a b) c ≡ first_refusal a (first_refusal b c)
first_assoc None b c = refl
first_assoc (Some r) b c = refl

pub marked_higher : (m n : ℕ) (ts : List Pending) → m ≤ n → ArePendingMarked m ts → ArePendingMarked n ts
marked_higher m n [] h k = tt
marked_higher m n (t ∷ ts) h k = (omega (arith, k.0), k.1)

module _ (p : NominalProgram) (a : NominalAnswer) where
  -- what is left depends only on what stands below the greatest mark
  pub left_same : (top : ℕ) (ss us : List Standing) (ts : List Pending) (n : ℕ) → take top ss ≡ take top us → ArePendingMarked top ts → first_left p a n ss ts ≡ first_left p a n us ts
  left_same top ss us [] n e m = refl
  left_same top ss us (t ∷ ts) n e m =
      let same : take t.mark ss ≡ take t.mark us = sym (take-take t.mark top ss m.0) ∙ ap (take t.mark) e ∙ take-take t.mark top us m.0 in
      ap₂ first_refusal (ap (λ vs. refusal_at p a n t.obligation (environment_of vs)) same) (left_same t.mark ss us ts (n + node_count (derivation_at t.obligation)) same m.1)

  -- a node is put in front, where more may stand than before
  pub put_first : (ss us : List Standing) (ps : List Pending) (t : Obligation) (n : ℕ) → take (length ss) us ≡ ss → ArePendingMarked (length ss) (reverse ps)
      → first_left p a n us (reverse (ps ++ pending_at t (length us) ∷ [])) ≡ first_refusal (refusal_at p a n t (environment_of us)) (first_left p a (n + node_count (derivation_at t)) ss (reverse ps))
  put_first ss us ps t n e m =
      ap (first_left p a n us) (last_first ps (pending_at t (length us)))
      ∙ ap₂ first_refusal (ap (λ vs. refusal_at p a n t (environment_of vs)) (take-whole us))
      (left_same (length ss) us ss (reverse ps) (n + node_count (derivation_at t)) (e ∙ sym (take-whole ss)) m)

put_nodes : (ps : List Pending) (t : Obligation) (n : ℕ) → nodes_left (reverse (ps ++ pending_at t n ∷ [])) ≡ node_count (derivation_at t) + nodes_left (reverse ps)
put_nodes ps t n = ap nodes_left (last_first ps (pending_at t n))

put_marked : (ps : List Pending) (t : Obligation) (n : ℕ) → ArePendingMarked n (reverse ps) → ArePendingMarked n (reverse (ps ++ pending_at t n ∷ []))
put_marked ps t n m = rw (last_first ps (pending_at t n)) (le_refl n, m)

-- An atom's node, by what is known of its clause.
pub atom_by : (p : NominalProgram) (a : NominalAnswer) (kinds : List NominalKind) (n k q : ℕ) (names : List Name) (ts us vs : List NominalTerm) (d : NominalDerivation) (e : OpenEnvironment) (c : NominalClause) (r : Option Rule)
    → clause_at (clauses_of p.clauses q) k ≡ Some c → vs ≡ map (put_in e) us → ((rest : Option Refusal) → tests_by_clause p a n names ts vs c rest ≡ first_refusal (node_refused n r) rest)
    → refusal p a kinds n (nodes.atom k names ts d) (goals.atom q us) e ≡ first_refusal (node_refused n r) (refusal p a (kinds_of c.locals) (suc n) d c.body (open_environment c.locals names ts))
atom_by p a kinds n k q names ts us vs d e c r h v f =
    let below : NominalClause → Option Refusal = λ c'. refusal p a (kinds_of c'.locals) (suc n) d c'.body (open_environment c'.locals names ts) in
    ap (λ o. with_clause n o (λ c'. tests_by_clause p a n names ts (map (put_in e) us) c' (below c'))) h ∙ ap (λ ws. tests_by_clause p a n names ts ws c (below c)) (sym v) ∙ f (below c)

-- A node that is next, and all that is left.
module _ (p : NominalProgram) (a : NominalAnswer) (w v : Walk) (t : Pending) where
  pub next_first : (n : ℕ) → w.pending.items ≡ v.pending.items ++ t ∷ [] → first_left p a n w.standing.items (pending_of w)
      ≡ first_refusal (refusal_at p a n t.obligation (environment_of (take t.mark w.standing.items))) (first_left p a (n + node_count (derivation_at t.obligation)) w.standing.items (pending_of v))
  next_first n e = ap (λ ps. first_left p a n w.standing.items (reverse ps)) e ∙ ap (first_left p a n w.standing.items) (last_first v.pending.items t)

pub next_marked : (w v : Walk) (t : Pending) (top : ℕ) → w.pending.items ≡ v.pending.items ++ t ∷ [] → ArePendingMarked top (pending_of w) → (t.mark ≤ top) × ArePendingMarked t.mark (pending_of v)
next_marked w v t top e m = subst (ArePendingMarked top) (ap reverse e ∙ last_first v.pending.items t) m

pub next_nodes : (w v : Walk) (t : Pending) → w.pending.items ≡ v.pending.items ++ t ∷ [] → nodes_left (pending_of w) ≡ node_count (derivation_at t.obligation) + nodes_left (pending_of v)
next_nodes w v t e = ap nodes_left (ap reverse e ∙ last_first v.pending.items t)

-- What a visit makes of the walk.
module _ (p : NominalProgram) (a : NominalAnswer) (kinds : List NominalKind) (d : NominalDerivation) (g : NominalGoal) (before after : Walk) where
  abbrev Before : ℕ → Option Refusal
  Before n = refusal p a kinds n d g (environment_of before.standing.items)

  -- nothing is below the node
  pub goes_past : before ≡ after → ArePendingMarked (length before.standing.items) (pending_of before) → ((n : ℕ) → Before n ≡ None) → node_count d ≡ 1 → ChecksOn p a kinds d g before after
  goes_past same m h k = record {
    first = λ n.
        ap (λ (w : Walk). first_left p a (suc n) w.standing.items (pending_of w)) (sym same)
        ∙ ap (λ m. first_left p a m before.standing.items (pending_of before)) (omega (arith, k)) ∙ ap (λ o. first_refusal o (first_left p a (n + node_count d) before.standing.items (pending_of before))) (sym (h n));
    nodes = ap (λ (w : Walk). suc (nodes_left (pending_of w))) (sym same) ∙ omega (arith, k);
    marked = subst (λ (w : Walk). ArePendingMarked (length w.standing.items) (pending_of w)) same m;
  }

  -- one node is below it, where more stands
  pub goes_below : (t : Obligation) (more : List Standing) → ArePendingMarked (length before.standing.items) (pending_of before) → after.standing.items ≡ before.standing.items ++ more
      → after.pending.items ≡ before.pending.items ++ pending_at t (length after.standing.items) ∷ []
      → ((n : ℕ) → Before n ≡ refusal_at p a (suc n) t (environment_of after.standing.items)) → node_count d ≡ suc (node_count (derivation_at t)) → ChecksOn p a kinds d g before after
  goes_below t more m es ep h k =
      let ss = before.standing.items in
      let us = after.standing.items in
      let ps = before.pending.items in
      let front : take (length ss) us ≡ ss = ap (take (length ss)) es ∙ take-append-le (length ss) ss more (le_refl (length ss)) ∙ take-whole ss in
      let longer : length ss ≤ length us = omega (arith, ap length es, length-append ss more) in
      record {
        first = λ n.
            let next : suc n + node_count (derivation_at t) ≡ n + node_count d = omega (arith, k) in
            ap (λ qs. first_left p a (suc n) us (reverse qs)) ep ∙ put_first p a ss us ps t (suc n) front m
            ∙ ap₂ first_refusal (sym (h n)) (ap (λ i. first_left p a i ss (reverse ps)) next);
        nodes = ap (λ qs. suc (nodes_left (reverse qs))) ep ∙ ap suc (put_nodes ps t (length us)) ∙ omega (arith, k);
        marked = subst (λ qs. ArePendingMarked (length us) (reverse qs)) (sym ep) (put_marked ps t (length us) (marked_higher (length ss) (length us) (reverse ps) longer m));
      }

  -- one node is below it, where one thing more stands
  pub goes_brought : (t : Obligation) (what : Standing) (mid : Walk) → ArePendingMarked (length before.standing.items) (pending_of before) → mid.standing.items ≡ before.standing.items ++ what ∷ []
      → mid.pending.items ≡ before.pending.items → after.standing.items ≡ mid.standing.items → after.pending.items ≡ mid.pending.items ++ pending_at t (length mid.standing.items) ∷ []
      → ((n : ℕ) → Before n ≡ refusal_at p a (suc n) t (environment_with what (environment_of before.standing.items))) → node_count d ≡ suc (node_count (derivation_at t)) → ChecksOn p a kinds d g before after
  goes_brought t what mid m ms mp es ep h k =
      let whole = es ∙ ms in
      goes_below t (what ∷ []) m whole (ep ∙ ap₂ (λ ps us. ps ++ pending_at t (length us) ∷ []) mp (sym es))
      (λ n. h n ∙ ap (refusal_at p a (suc n) t) (sym (ap environment_of whole ∙ environment_append before.standing.items (what ∷ []) nothing_put))) k

  -- two nodes are below it
  pub goes_both : (t u : Obligation) → ArePendingMarked (length before.standing.items) (pending_of before) → after.standing.items ≡ before.standing.items
      → after.pending.items ≡ (before.pending.items ++ pending_at u (length before.standing.items) ∷ []) ++ pending_at t (length before.standing.items) ∷ []
      → ((n : ℕ) → Before n ≡ first_refusal (refusal_at p a (suc n) t (environment_of before.standing.items)) (refusal_at p a (suc n + node_count (derivation_at t)) u (environment_of before.standing.items)))
      → node_count d ≡ suc (node_count (derivation_at t) + node_count (derivation_at u)) → ChecksOn p a kinds d g before after
  goes_both t u m es ep h k =
      let ss = before.standing.items in
      let ps = before.pending.items in
      let qs = ps ++ pending_at u (length ss) ∷ [] in
      let one : ArePendingMarked (length ss) (reverse qs) = put_marked ps u (length ss) m in
      record {
        first = λ n.
            let i = suc n + node_count (derivation_at t) in
            let next : i + node_count (derivation_at u) ≡ n + node_count d = omega (arith, k) in
            ap₂ (λ us rs. first_left p a (suc n) us (reverse rs)) es ep ∙ put_first p a ss ss qs t (suc n) (take-whole ss) one
            ∙ ap (first_refusal (refusal_at p a (suc n) t (environment_of ss))) (put_first p a ss ss ps u i (take-whole ss) m)
            ∙ sym (first_assoc (refusal_at p a (suc n) t (environment_of ss)) (refusal_at p a i u (environment_of ss)) (first_left p a (i + node_count (derivation_at u)) ss (reverse ps)))
            ∙ ap₂ first_refusal (sym (h n)) (ap (λ j. first_left p a j ss (reverse ps)) next);
        nodes = ap (λ rs. suc (nodes_left (reverse rs))) ep ∙ ap suc (put_nodes qs t (length ss)) ∙ ap (λ j. suc (node_count (derivation_at t) + j)) (put_nodes ps u (length ss)) ∙ omega (arith, k);
        marked = subst (λ rs. ArePendingMarked (length after.standing.items) (reverse rs)) (sym ep) (subst (λ j. ArePendingMarked j (reverse (qs ++ pending_at t (length ss) ∷ []))) (sym (ap length es)) (put_marked qs t (length ss) one));
      }

-- The numbers of nodes.
pub reported_least : (n : ℕ) → reported n ≡ min n (2 ^ 64 - 1)
reported_least n =
    elim (nat_lt n (2 ^ 64)) as (λ v. nat_lt n (2 ^ 64) ≡ v → (if v then n else (2 ^ 64 - 1)) ≡ min n (2 ^ 64 - 1)) [
      | true ↦ λ e. let h : n < 2 ^ 64 = ltb-true n (2 ^ 64) e in omega arith
      | false ↦ λ e. let h : 2 ^ 64 ≤ n = ltb-false n (2 ^ 64) e in omega arith
    ] refl

pub reported_next : (n m : ℕ) → m ≡ reported n → min (m + 1) (2 ^ 64 - 1) ≡ reported (suc n)
reported_next n m h = omega (arith, h, reported_least n, reported_least (suc n))

-- One turn of the walk, where the next node was taken and what stands inside it was cut off.
module _ (p : NominalProgram) (a : NominalAnswer) (whole : Option Refusal) (node m : ℕ) (w before after : Walk) (t : Pending) (way : IsOnWay p a whole node w)
    (taken : w.pending.items ≡ before.pending.items ++ t ∷ []) (cut : before.standing.items ≡ take t.mark w.standing.items) (next : m ≡ min (node + 1) (2 ^ 64 - 1)) where
  abbrev later : Option Refusal
  later = first_left p a (suc way.done + node_count (derivation_at t.obligation)) before.standing.items (pending_of before)

  marks : ArePendingMarked t.mark (pending_of before)
  marks = (next_marked w before t (length w.standing.items) taken way.marked).1

  rest_same : first_left p a (suc way.done + node_count (derivation_at t.obligation)) w.standing.items (pending_of before) ≡ later
  rest_same =
      left_same p a t.mark w.standing.items before.standing.items (pending_of before) (suc way.done + node_count (derivation_at t.obligation))
      (sym (ap (take t.mark) cut ∙ take-take t.mark t.mark w.standing.items (le_refl t.mark))) marks

  whole_is : whole ≡ first_refusal (refusal_at p a (suc way.done) t.obligation (environment_of before.standing.items)) later
  whole_is =
      sym way.first ∙ next_first p a w before t (suc way.done) taken ∙ ap₂ first_refusal (ap (λ ss. refusal_at p a (suc way.done) t.obligation (environment_of ss)) (sym cut)) rest_same

  pub turn_refuses : (r : Option Rule) (k : Rule) → r ≡ Some k → IsVisited p a (kinds_at t.obligation) (derivation_at t.obligation) (goal_at t.obligation) before after r → no m (rule_number k) ≡ verdict whole
  turn_refuses r k e v =
      let refuses : (n : ℕ) → refusal_at p a n t.obligation (environment_of before.standing.items) ≡ Some (refusal_of_rule n (rule_number k)) = subst (IsVisited p a (kinds_at t.obligation) (derivation_at t.obligation) (goal_at t.obligation) before after) e v in
      ap (λ n. no n (rule_number k)) (next ∙ reported_next way.done node way.number) ∙ sym (ap verdict (whole_is ∙ ap (λ o. first_refusal o later) (refuses (suc way.done))))

  pub turn_goes_on : (r : Option Rule) → r ≡ None → IsVisited p a (kinds_at t.obligation) (derivation_at t.obligation) (goal_at t.obligation) before after r → IsOnWay p a whole m after
  turn_goes_on r e v =
      let on : ChecksOn p a (kinds_at t.obligation) (derivation_at t.obligation) (goal_at t.obligation) before after = subst (IsVisited p a (kinds_at t.obligation) (derivation_at t.obligation) (goal_at t.obligation) before after) e v in
      record {
        done = suc way.done;
        number = next ∙ reported_next way.done node way.number;
        first = on.first (suc way.done) ∙ sym whole_is;
        marked = on.marked;
      }

  pub turn_smaller : (r : Option Rule) → r ≡ None → IsVisited p a (kinds_at t.obligation) (derivation_at t.obligation) (goal_at t.obligation) before after r → nodes_left (pending_of after) < nodes_left (pending_of w)
  turn_smaller r e v =
      let on : ChecksOn p a (kinds_at t.obligation) (derivation_at t.obligation) (goal_at t.obligation) before after = subst (IsVisited p a (kinds_at t.obligation) (derivation_at t.obligation) (goal_at t.obligation) before after) e v in
      let less = on.nodes in
      let all = next_nodes w before t taken in
      omega (arith, less, all)
