-- The marks of a stack are those of a tree of paths.
use Rattle.std.proofs.Common.{subst, ◌≡◌, ℕ, zero, suc, false, List, [], ◌∷◌, ◌++◌, map, length, refl, sym, ap, ap₂, ◌∙◌, append-nil, arith}
use Rattle.std.specs.Prelude.{Option, Some, None, if◌then◌else◌, ◌==◌}
use Rattle.ap_defs.specs.Answers.{out_path}
use Rattle.ap_defs.specs.Freshness.{reduce}
use Rattle.ap_defs.specs.Goals.{NominalGoal, succeed, atom, equal, fresh, both, either, exists, new, NominalClause, Clauses, clauses_of}
use Rattle.ap_defs.specs.HeadKeys.{agree, first_key, kept_clauses, kept_from}
use Rattle.ap_defs.specs.Occurrences.{free_vars}
use Rattle.ap_defs.specs.PathOrder.{has_prefix}
use Rattle.ap_defs.specs.Paths.{Choice}
use Rattle.ap_defs.specs.Renaming.{local_vars, rename_goal, rename_term}
use Rattle.ap_defs.specs.Resolution.{State, fresh_for_each, kinds_of, next_number}
use Rattle.ap_defs.specs.Substitution.{under}
use Rattle.ap_defs.specs.Terms as terms
use Rattle.ap_defs.specs.Terms.{NominalTerm}
use Rattle.ap_defs.specs.Unification.{Unified, reduce_all, unify}
use Rattle.ap_defs.specs.declared.terms.Cond.{Cond}
use Rattle.ap_defs.specs.declared.terms.Var.{Var}
use Rattle.ap_paths.specs.Trees.{AreAtMost, times}
use Rattle.ap_theory.proofs.OpenSoundnessLemmas.{unify_idempotent}
use Rattle.ap_theory.specs.Variables.{IsIdempotent}
use Rattle.ap_search.specs.Continuations.{calls_then, CallThen, clause_then, clauses_then, Continuation, goal_then, then_if_reduced, then_if_unified, then_test_fresh, Waiting}
use Rattle.ap_search.specs.Marks.{NominalMark, choice, mark_path, with_choices, stack_marks}
use Rattle.ap_search.specs.PathTrees.{Forest, HasKept, IsPruned, Leaf, PathTree, answer, at_path, cut, flat, flat_from, grow, leaf, node, none, nothing, stuck, width}
use Rattle.ap_search.specs.Prefixes.{AllBegin}
use Rattle.ap_search.specs.Records.{Answering}
use Rattle.ap_search.proofs.HeadKeyLemmas.{keys_refuse, kept_ascend, kept_at_most, kept_there, not_kept_later}
use Rattle.ap_search.proofs.PrefixLemmas.{begin-append, begin_shorter, prefix_itself}

-- The marks are those of a tree at the path. Where bindings are carried out nothing stands in it below a way that is left out.
abbrev pub Grows : List ℕ → State → List NominalMark → Type 0
Grows p s ms = (t : PathTree) × (ms ≡ flat p t) × (IsIdempotent s.bindings → IsPruned t)

-- of trees at its ways from the i-th on, of which these are kept
abbrev GrowsTo : List ℕ → ℕ → ℕ → List ℕ → State → List NominalMark → Type 0
GrowsTo p i n ks s ms = (f : Forest) × (width f ≡ n) × (ms ≡ flat_from p i f) × (IsIdempotent s.bindings → HasKept ks i f)

abbrev pub AllGrow : Continuation NominalMark → Type 0
AllGrow m = (p : List ℕ) (s : State) (xs : List Var) → Grows p s (m p s xs)

abbrev pub CallGrows : CallThen NominalMark → Type 0
CallGrows mcall = (c : ℕ) (ts : List NominalTerm) (m : Continuation NominalMark) → AllGrow m → AllGrow (mcall c ts m)

module _ (p : List ℕ) (go : State → List NominalMark) (h : (r : State) → Grows p r (go r)) (s : State) where
  grows_reduced : (o : Option (List Cond)) → Grows p s (then_if_reduced go s o)
  grows_reduced None = (nothing, refl, λ i. tt)
  grows_reduced (Some cs) = h _

  grows_unified : (ts us : List NominalTerm) → Grows p s (then_if_unified go s (unify s.bindings s.conditions ts us))
  grows_unified ts us = after (unify s.bindings s.conditions ts us) refl
    where
      after : (o : Option Unified) → unify s.bindings s.conditions ts us ≡ o → Grows p s (then_if_unified go s o)
      after None e = (nothing, refl, λ i. tt)
      after (Some r) e =
          let g = h (record s { bindings = r.bindings; conditions = r.conditions }) in
          (g.0, g.1, λ i. g.2 (unify_idempotent s.bindings s.conditions ts us r i e).0)

  grows_fresh : (t u : NominalTerm) → Grows p s (then_test_fresh with_choices go p s t u)
  grows_fresh (terms.name a) u = grows_reduced (reduce a (under s.bindings u))
  grows_fresh (terms.susp q x) u = (leaf stuck, refl, λ i. tt)
  grows_fresh terms.unit u = (nothing, refl, λ i. tt)
  grows_fresh (terms.pair t v) u = (nothing, refl, λ i. tt)
  grows_fresh (terms.app f t) u = (nothing, refl, λ i. tt)
  grows_fresh (terms.abs a t) u = (nothing, refl, λ i. tt)

-- a choice of both sides
abbrev two : Choice
two = record { width = 2; kept = 1 ∷ 2 ∷ [] }

grows_either : (p : List ℕ) (s : State) (ms ns : List NominalMark) → Grows (p ++ 1 ∷ []) s ms → Grows (p ++ 2 ∷ []) s ns → Grows p s (choice p two ∷ ms ++ ns)
grows_either p s ms ns h k = (
  node (1 ∷ 2 ∷ []) (grow h.0 (grow k.0 none)),
  ap (λ l. choice p two ∷ l) (ap₂ ◌++◌ h.1 (k.1 ∙ sym (append-nil (flat (p ++ 2 ∷ []) k.0)))),
  λ i. ((omega arith, (omega arith, tt)), (omega arith, (omega arith, tt)), ((λ e. absurd cc), h.2 i, ((λ e. absurd cc), k.2 i, tt))),
)

-- where there is no mark there is nothing
nothing_there : (p : List ℕ) (t : PathTree) → flat p t ≡ [] → t ≡ nothing
nothing_there p nothing e = refl
nothing_there p (leaf l) e = absurd cc
nothing_there p (node ks f) e = absurd cc

module _ (mcall : CallThen NominalMark) (grows : CallGrows mcall) where
  goal_grows : (g : NominalGoal) (m : Continuation NominalMark) → AllGrow m → AllGrow (goal_then with_choices mcall g m)
  goal_grows succeed m h p s xs = h p s xs
  goal_grows (atom c ts) m h p s xs = grows c ts m h p s xs
  goal_grows (equal t u) m h p s xs = grows_unified p (λ r. m p r xs) (λ r. h p r xs) s (t ∷ []) (u ∷ [])
  goal_grows (fresh t u) m h p s xs = grows_fresh p (λ r. m p r xs) (λ r. h p r xs) s (under s.bindings t) u
  goal_grows (both f g) m h p s xs = goal_grows f (goal_then with_choices mcall g m) (goal_grows g m h) p s xs
  goal_grows (either f g) m h p s xs =
      grows_either p s (goal_then with_choices mcall f m (p ++ 1 ∷ []) s xs) (goal_then with_choices mcall g m (p ++ 2 ∷ []) s xs) (goal_grows f m h (p ++ 1 ∷ []) s xs) (goal_grows g m h (p ++ 2 ∷ []) s xs)
  goal_grows (exists x g) m h p s xs = goal_grows g m h p s (xs ++ x ∷ [])
  goal_grows (new a g) m h p s xs =
      grows_reduced p (λ r. goal_then with_choices mcall g m p r xs) (λ r. goal_grows g m h p r xs) s (reduce_all s.bindings (fresh_for_each a (free_vars g)))

  module _ (ts : List NominalTerm) (m : Continuation NominalMark) (h : AllGrow m) (p : List ℕ) (s : State) (xs : List Var) where
    abbrev way : ℕ → NominalClause → List NominalMark
    way i c = clause_then (goal_then with_choices mcall) ts m i c p s xs

    abbrev key : ℕ
    key = first_key (map (under s.bindings) ts)

    pub clause_grows : (i : ℕ) (c : NominalClause) → Grows (p ++ i ∷ []) s (way i c)
    clause_grows i c =
        let n = next_number s in
        grows_unified (p ++ i ∷ []) (λ r. goal_then with_choices mcall (rename_goal n c.body) m (p ++ i ∷ []) r (xs ++ local_vars n c.locals))
        (λ r. goal_grows (rename_goal n c.body) m h (p ++ i ∷ []) r (xs ++ local_vars n c.locals)) (record s { kinds = s.kinds ++ kinds_of c.locals }) ts (map (rename_term n) c.args)

    -- a clause that is left out has no mark
    no_way : IsIdempotent s.bindings → (i : ℕ) (c : NominalClause) → agree key (first_key c.args) ≡ false → way i c ≡ []
    no_way fit i c e =
        let n = next_number s in
        ap (then_if_unified (λ r. goal_then with_choices mcall (rename_goal n c.body) m (p ++ i ∷ []) r (xs ++ local_vars n c.locals)) (record s { kinds = s.kinds ++ kinds_of c.locals }))
        (keys_refuse s fit ts c.args e)

    clauses_grow : (ks : List ℕ) (i : ℕ) (cs : List NominalClause) → ((j : ℕ) → times j ks ≡ 0 → times j (kept_from key i cs) ≡ 0)
        → GrowsTo p i (length cs) ks s (clauses_then (goal_then with_choices mcall) ts m i cs p s xs)
    clauses_grow ks i [] kept = (none, refl, refl, λ fit. tt)
    clauses_grow ks i (c ∷ cs) kept =
        let one = clause_grows i c in
        let rest = clauses_grow ks (suc i) cs (λ j e. not_kept_later key i j c cs (kept j e)) in (
          grow one.0 rest.0,
          ap suc rest.1,
          ap₂ ◌++◌ one.1 rest.2,
          λ fit. ((λ e. nothing_there (p ++ i ∷ []) one.0 (sym one.1 ∙ no_way fit i c (kept_there key i c cs (kept i e)))), one.2 fit, rest.3 fit),
        )

pub calls_grow : (program : Clauses) (d : ℕ) → CallGrows (calls_then with_choices program d)
calls_grow program zero c ts m h p s xs = (leaf cut, refl, λ i. tt)
calls_grow program (suc d) c ts m h p s xs =
    let cs = clauses_of program c in
    let key = first_key (map (under s.bindings) ts) in
    let ks = kept_clauses s.bindings ts cs in
    let ways = clauses_grow (calls_then with_choices program d) (calls_grow program d) ts m h p s xs ks 1 cs (λ j e. e) in (
      node ks ways.0,
      ap₂ (λ w l. choice p (record { width = w; kept = ks }) ∷ l) (sym ways.1) ways.2,
      λ i. (kept_ascend key 1 cs, subst (λ (w : ℕ). AreAtMost w ks) (sym ways.1) (kept_at_most key 1 (length cs) cs (omega arith)), ways.3 i),
    )

pub stack_grows : (program : Clauses) (answering : Answering) (ws : List Waiting) → AllGrow (stack_marks program answering ws)
stack_grows program answering [] p s xs = (leaf (answer _), refl, λ i. tt)
stack_grows program answering (w ∷ ws) p s xs =
    goal_grows (calls_then with_choices program w.depth) (calls_grow program w.depth) w.goal (stack_marks program answering ws) (stack_grows program answering ws) p s xs

-- Subtrees.
abbrev mutual
  pub sub : PathTree → List ℕ → Option PathTree
  sub nothing [] = Some nothing
  sub nothing (k ∷ q) = None
  sub (leaf l) [] = Some (leaf l)
  sub (leaf l) (k ∷ q) = None
  sub (node ks f) [] = Some (node ks f)
  sub (node ks f) (k ∷ q) = sub_from 1 f k q

  pub sub_from : ℕ → Forest → ℕ → List ℕ → Option PathTree
  sub_from i none k q = None
  sub_from i (grow t f) k q = if k == i then sub t q else sub_from (suc i) f k q

abbrev pub flat_some : List ℕ → Option PathTree → List NominalMark
flat_some p None = []
flat_some p (Some t) = flat p t

pub path_at : (p : List ℕ) (l : Leaf) → out_path (at_path p l) ≡ p
path_at p (answer a) = refl
path_at p cut = refl
path_at p stuck = refl

mutual
  pub flat_begins : (p : List ℕ) (t : PathTree) → AllBegin mark_path p (flat p t)
  flat_begins p nothing = tt
  flat_begins p (leaf l) = (ap (has_prefix p) (path_at p l) ∙ prefix_itself p, tt)
  flat_begins p (node ks f) = (prefix_itself p, flat_from_begins p 1 f)

  pub flat_from_begins : (p : List ℕ) (i : ℕ) (f : Forest) → AllBegin mark_path p (flat_from p i f)
  flat_from_begins p i none = tt
  flat_from_begins p i (grow t f) =
      begin-append mark_path p (flat (p ++ i ∷ []) t) (flat_from p (suc i) f) (begin_shorter mark_path p (i ∷ []) (flat (p ++ i ∷ []) t) (flat_begins (p ++ i ∷ []) t)) (flat_from_begins p (suc i) f)

-- what grows at a path begins with it
pub grown_begins : (p : List ℕ) (s : State) (ms : List NominalMark) → Grows p s ms → AllBegin mark_path p ms
grown_begins p s ms g = subst (AllBegin mark_path p) (sym g.1) (flat_begins p g.0)

pub marked_stack_begins : (program : Clauses) (answering : Answering) (ws : List Waiting) (p : List ℕ) (s : State) (xs : List Var) → AllBegin mark_path p (stack_marks program answering ws p s xs)
marked_stack_begins program answering ws p s xs = grown_begins p s (stack_marks program answering ws p s xs) (stack_grows program answering ws p s xs)
