-- What a turn makes of a machine has the outputs of the machine, and fewer turns to go.
use Rattle.std.proofs.Common.{◌≡◌, ℕ, zero, suc, ◌+◌, List, [], ◌∷◌, ◌++◌, refl, sym, ap, ap₂, ◌∙◌, append_assoc, arith}
use Rattle.std.proofs.lemmas.List.{append-nil}
use Rattle.std.specs.Prelude.{Option, Some, None, map, length, option_map}
use Rattle.ap_defs.specs.declared.terms.Cond.{Cond}
use Rattle.ap_defs.specs.Goals.{NominalGoal, succeed, atom, equal, fresh, both, either, exists, new, NominalClause, Clauses, clauses_of}
use Rattle.ap_defs.specs.HeadKeys.{kept_clauses}
use Rattle.ap_defs.specs.Occurrences.{free_vars}
use Rattle.ap_defs.specs.Paths.{Choice}
use Rattle.ap_defs.specs.Freshness.{reduce}
use Rattle.ap_defs.specs.Renaming.{rename_goal, rename_term}
use Rattle.ap_defs.specs.Resolution.{State, fresh_for_each, kinds_of, next_number}
use Rattle.ap_defs.specs.Substitution.{under}
use Rattle.ap_defs.specs.Terms as terms
use Rattle.ap_defs.specs.Terms.{NominalTerm}
use Rattle.ap_defs.specs.Unification.{Unified, reduce_all, unify}
use Rattle.ap_search.specs.Continuations.{Continuation, Waiting, Writing, calls_then, clause_then, clauses_then, goal_then, outputs_alone, stack_then, then_if_reduced, then_if_unified, then_test_fresh}
use Rattle.ap_turns.specs.Marks.{choice_of, choice_of_atom, choice_of_goal, told_of, told_of_atom, told_of_goal, written_here}
use Rattle.ap_machine.specs.Positions.{Position, enters_clause, positions_by_clauses, clause_state, each_position, entered, outs_from, outs_of_turned, reduced_state, turned, turned_atom, turned_by, turned_fresh, turned_goal, unified_state, with_state, written_from, written_from_each, written_of_turned}
use Rattle.ap_search.specs.Records.{Answering}
use Rattle.ap_backchain.specs.Turns.{call_turns, clauses_turns, fresh_turns, goal_turns, stack_turns, turns_from, turns_from_each, turns_if, turns_of_turned}

-- What is written: that of the choice that the first goal makes, and what a turn makes of the machine.
module _ {R : Type 0} (w : Writing R) (program : Clauses) (answering : Answering) where
  pub written_append : (ps qs : List Position)
      → written_from_each w program answering (ps ++ qs) ≡ written_from_each w program answering ps ++ written_from_each w program answering qs
  written_append [] qs = refl
  written_append (p ∷ ps) qs =
      ap (λ os. written_from w program answering p ++ os) (written_append ps qs)
      ∙ sym (append_assoc (written_from w program answering p) (written_from_each w program answering ps) (written_from_each w program answering qs))

  written_unified : (f : State → Position) (s : State) (o : Option Unified)
      → written_from_each w program answering (each_position f (unified_state s o)) ≡ then_if_unified (λ r. written_from w program answering (f r)) s o
  written_unified f s None = refl
  written_unified f s (Some r) = append-nil _

  written_reduced : (f : State → Position) (s : State) (o : Option (List Cond))
      → written_from_each w program answering (each_position f (reduced_state s o)) ≡ then_if_reduced (λ r. written_from w program answering (f r)) s o
  written_reduced f s None = refl
  written_reduced f s (Some cs) = append-nil _

  written_fresh : (p : Position) (t u : NominalTerm)
      → written_of_turned w program answering (turned_fresh p t u) ≡ then_test_fresh w (λ r. written_from w program answering (with_state r p)) p.path p.state t u
  written_fresh p (terms.name a) u = written_reduced (λ s. with_state s p) p.state (reduce a (under p.state.bindings u))
  written_fresh p (terms.susp q x) u = refl
  written_fresh p terms.unit u = refl
  written_fresh p (terms.pair _ _) u = refl
  written_fresh p (terms.app _ _) u = refl
  written_fresh p (terms.abs _ _) u = refl

  abbrev rest_of : Position → Continuation R
  rest_of p = stack_then w program answering p.waiting

  pub written_clause : (d : ℕ) (ts : List NominalTerm) (p : Position) (i : ℕ) (c : NominalClause)
      → written_from_each w program answering (enters_clause d ts p i c)
      ≡ clause_then (goal_then w (calls_then w program d)) ts (rest_of p) i c p.path p.state p.brought
  written_clause d ts p i c =
      written_unified (entered d p i c) (record (p.state) { kinds = p.state.kinds ++ kinds_of c.locals })
      (unify p.state.bindings p.state.conditions ts (map (rename_term (next_number p.state)) c.args))

  pub written_clauses : (d : ℕ) (ts : List NominalTerm) (p : Position) (i : ℕ) (cs : List NominalClause)
      → written_from_each w program answering (positions_by_clauses d ts p i cs)
      ≡ clauses_then (goal_then w (calls_then w program d)) ts (rest_of p) i cs p.path p.state p.brought
  written_clauses d ts p i [] = refl
  written_clauses d ts p i (c ∷ cs) =
      written_append (enters_clause d ts p i c) (positions_by_clauses d ts p (suc i) cs)
      ∙ ap₂ ◌++◌ (written_clause d ts p i c) (written_clauses d ts p (suc i) cs)

  written_atom : (d c : ℕ) (ts : List NominalTerm) (p : Position)
      → written_here w p.path (told_of_atom program p.state d c ts) ++ written_of_turned w program answering (turned_atom program d c ts p)
      ≡ calls_then w program d c ts (rest_of p) p.path p.state p.brought
  written_atom zero c ts p = refl
  written_atom (suc d) c ts p =
      let cs = clauses_of program c in
      ap (λ os. w.choice p.path (length cs) (kept_clauses p.state.bindings ts cs) ++ os) (written_clauses d ts p 1 cs)

  written_goal : (d : ℕ) (g : NominalGoal) (p : Position)
      → written_here w p.path (told_of_goal program p.state d g) ++ written_of_turned w program answering (turned_goal program d g p)
      ≡ goal_then w (calls_then w program d) g (rest_of p) p.path p.state p.brought
  written_goal d succeed p = append-nil _
  written_goal d (atom c ts) p = written_atom d c ts p
  written_goal d (equal t u) p =
      written_unified (λ s. with_state s p) p.state (unify p.state.bindings p.state.conditions (t ∷ []) (u ∷ []))
  written_goal d (fresh t u) p = written_fresh p (under p.state.bindings t) u
  written_goal d (both g h) p = append-nil _
  written_goal d (either g h) p =
      ap (λ os. w.choice p.path 2 (1 ∷ 2 ∷ []) ++ (goal_then w (calls_then w program d) g (rest_of p) (p.path ++ 1 ∷ []) p.state p.brought ++ os)) (append-nil _)
  written_goal d (exists x g) p = append-nil _
  written_goal d (new a g) p =
      written_reduced (λ s. with_state s (record p { waiting = record { goal = g; depth = d } ∷ p.waiting })) p.state
      (reduce_all p.state.bindings (fresh_for_each a (free_vars g)))

  written_by : (ws : List Waiting) (p : Position)
      → written_here w p.path (told_of program p.state ws) ++ written_of_turned w program answering (turned_by program answering ws p)
      ≡ stack_then w program answering ws p.path p.state p.brought
  written_by [] p = refl
  written_by (v ∷ vs) p = written_goal v.depth v.goal (record p { waiting = vs })

  pub written_turned : (p : Position)
      → written_here w p.path (told_of program p.state p.waiting) ++ written_of_turned w program answering (turned program answering p)
      ≡ written_from w program answering p
  written_turned p = written_by p.waiting p

-- among how many it chooses does not hang on the state
width_told_atom : (program : Clauses) (s : State) (d c : ℕ) (ts : List NominalTerm) → option_map (λ (v : Choice). v.width) (told_of_atom program s d c ts) ≡ choice_of_atom program d c
width_told_atom program s zero c ts = refl
width_told_atom program s (suc d) c ts = refl

width_told_goal : (program : Clauses) (s : State) (d : ℕ) (g : NominalGoal) → option_map (λ (v : Choice). v.width) (told_of_goal program s d g) ≡ choice_of_goal program d g
width_told_goal program s d succeed = refl
width_told_goal program s d (atom c ts) = width_told_atom program s d c ts
width_told_goal program s d (equal t u) = refl
width_told_goal program s d (fresh t u) = refl
width_told_goal program s d (both g h) = refl
width_told_goal program s d (either g h) = refl
width_told_goal program s d (exists x g) = refl
width_told_goal program s d (new a g) = refl

pub width_told : (program : Clauses) (s : State) (ws : List Waiting) → option_map (λ (v : Choice). v.width) (told_of program s ws) ≡ choice_of program ws
width_told program s [] = refl
width_told program s (w ∷ ws) = width_told_goal program s w.depth w.goal

pub nothing_chosen : (program : Clauses) (s : State) (ws : List Waiting) → choice_of program ws ≡ None → told_of program s ws ≡ None
nothing_chosen program s ws h = of (told_of program s ws) refl
  where
    of : (o : Option Choice) → told_of program s ws ≡ o → told_of program s ws ≡ None
    of None e = e
    of (Some v) e = let k = ap (option_map (λ (c : Choice). c.width)) (sym e) ∙ width_told program s ws ∙ h in cc

-- where outputs alone are written, nothing is of a choice
none_here : (p : List ℕ) (o : Option Choice) → written_here outputs_alone p o ≡ []
none_here p None = refl
none_here p (Some v) = refl

pub outs_turned : (program : Clauses) (answering : Answering) (p : Position)
    → outs_of_turned program answering (turned program answering p) ≡ outs_from program answering p
outs_turned program answering p =
    ap (λ os. os ++ outs_of_turned program answering (turned program answering p)) (sym (none_here p.path (told_of program p.state p.waiting)))
    ∙ written_turned outputs_alone program answering p

-- Turns.
pub turns_append : (program : Clauses) (ps qs : List Position) → turns_from_each program (ps ++ qs) ≡ turns_from_each program ps + turns_from_each program qs
turns_append program [] qs = omega arith
turns_append program (p ∷ ps) qs = let h : turns_from_each program (ps ++ qs) ≡ turns_from_each program ps + turns_from_each program qs = turns_append program ps qs in omega arith

turns_each : (program : Clauses) (f : State → Position) (o : Option State) → turns_from_each program (each_position f o) ≡ turns_if (λ s. turns_from program (f s)) o
turns_each program f None = refl
turns_each program f (Some s) = omega arith

turns_fresh : (program : Clauses) (p : Position) (t u : NominalTerm)
    → turns_of_turned program (turned_fresh p t u) ≡ fresh_turns (λ r. turns_from program (with_state r p)) p.state t u
turns_fresh program p (terms.name a) u = turns_each program (λ s. with_state s p) (reduced_state p.state (reduce a (under p.state.bindings u)))
turns_fresh program p (terms.susp q x) u = refl
turns_fresh program p terms.unit u = refl
turns_fresh program p (terms.pair _ _) u = refl
turns_fresh program p (terms.app _ _) u = refl
turns_fresh program p (terms.abs _ _) u = refl

turns_clauses : (program : Clauses) (d : ℕ) (ts : List NominalTerm) (p : Position) (i : ℕ) (cs : List NominalClause)
    → turns_from_each program (positions_by_clauses d ts p i cs) ≡ clauses_turns (goal_turns (call_turns program d)) ts (stack_turns program p.waiting) p.state cs
turns_clauses program d ts p i [] = refl
turns_clauses program d ts p i (c ∷ cs) =
    turns_append program (enters_clause d ts p i c) (positions_by_clauses d ts p (suc i) cs)
    ∙ ap (λ n. n + turns_from_each program (positions_by_clauses d ts p (suc i) cs)) (turns_each program (entered d p i c) (clause_state ts p.state c))
    ∙ ap (λ n. turns_if (goal_turns (call_turns program d) (rename_goal (next_number p.state) c.body) (stack_turns program p.waiting)) (clause_state ts p.state c) + n) (turns_clauses program d ts p (suc i) cs)

turns_atom : (program : Clauses) (d c : ℕ) (ts : List NominalTerm) (p : Position)
    → turns_of_turned program (turned_atom program d c ts p) ≡ call_turns program d c ts (stack_turns program p.waiting) p.state
turns_atom program zero c ts p = refl
turns_atom program (suc d) c ts p = turns_clauses program d ts p 1 (clauses_of program c)

pub turns_goal : (program : Clauses) (d : ℕ) (g : NominalGoal) (p : Position)
    → suc (turns_of_turned program (turned_goal program d g p)) ≡ goal_turns (call_turns program d) g (stack_turns program p.waiting) p.state
turns_goal program d succeed p = omega arith
turns_goal program d (atom c ts) p = ap suc (turns_atom program d c ts p)
turns_goal program d (equal t u) p =
    ap suc (turns_each program (λ s. with_state s p) (unified_state p.state (unify p.state.bindings p.state.conditions (t ∷ []) (u ∷ []))))
turns_goal program d (fresh t u) p = ap suc (turns_fresh program p (under p.state.bindings t) u)
turns_goal program d (both g h) p = omega arith
turns_goal program d (either g h) p = omega arith
turns_goal program d (exists x g) p = omega arith
turns_goal program d (new a g) p =
    ap suc (turns_each program (λ s. with_state s (record p { waiting = record { goal = g; depth = d } ∷ p.waiting })) (reduced_state p.state
    (reduce_all p.state.bindings (fresh_for_each a (free_vars g)))))

turns_by : (program : Clauses) (answering : Answering) (ws : List Waiting) (p : Position)
    → suc (turns_of_turned program (turned_by program answering ws p)) ≡ stack_turns program ws p.state
turns_by program answering [] p = refl
turns_by program answering (w ∷ ws) p = turns_goal program w.depth w.goal (record p { waiting = ws })

pub turns_turned : (program : Clauses) (answering : Answering) (p : Position)
    → suc (turns_of_turned program (turned program answering p)) ≡ turns_from program p
turns_turned program answering p = turns_by program answering p.waiting p
