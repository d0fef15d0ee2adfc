-- A machine that doesn't choose has the marks of what a turn makes of it.
use Rattle.std.proofs.Common.{◌≡◌, ◌∙◌, ℕ, zero, suc, List, [], ◌∷◌, ◌++◌, refl, sym, ap}
use Rattle.std.specs.Prelude.{None, Option, Some}
use Rattle.ap_defs.specs.Freshness.{reduce}
use Rattle.ap_defs.specs.Goals.{NominalGoal, succeed, atom, equal, fresh, both, either, exists, new, Clauses}
use Rattle.ap_defs.specs.Occurrences.{free_vars}
use Rattle.ap_defs.specs.Resolution.{State, fresh_for_each}
use Rattle.ap_defs.specs.Substitution.{under}
use Rattle.ap_defs.specs.Terms as terms
use Rattle.ap_defs.specs.Terms.{NominalTerm}
use Rattle.ap_defs.specs.Unification.{reduce_all, unify}
use Rattle.ap_search.specs.Continuations.{Waiting}
use Rattle.ap_search.specs.Marks.{with_choices}
use Rattle.ap_turns.specs.Marks.{IsSettled, choice_of, choice_of_atom, choice_of_goal, marks_from, marks_of_turned, written_here}
use Rattle.ap_machine.specs.Positions.{Position, Turned, each_position, ends, goes, reduced_state, turned, turned_atom, turned_by, turned_fresh, turned_goal, unified_state, with_state}
use Rattle.ap_search.specs.Records.{Answering}
use Rattle.ap_backchain.proofs.TurnLemmas.{nothing_chosen, written_turned}

pub marks_turned : (program : Clauses) (answering : Answering) (p : Position) → choice_of program p.waiting ≡ None
    → marks_of_turned program answering (turned program answering p) ≡ marks_from program answering p
marks_turned program answering p h =
    ap (λ o. written_here with_choices p.path o ++ marks_of_turned program answering (turned program answering p)) (sym (nothing_chosen program p.state p.waiting h))
    ∙ written_turned with_choices program answering p

-- and it goes on from one machine at most.
settled_with : (p : Position) (f : State → Position) → ((s : State) → (f s).path ≡ p.path) → (o : Option State) → IsSettled p (goes (each_position f o))
settled_with p f e None = tt
settled_with p f e (Some s) = e s

settled_fresh : (p : Position) (t u : NominalTerm) → IsSettled p (turned_fresh p t u)
settled_fresh p (terms.name a) u = settled_with p (λ s. with_state s p) (λ s. refl) (reduced_state p.state (reduce a (under p.state.bindings u)))
settled_fresh p (terms.susp q x) u = refl
settled_fresh p terms.unit u = tt
settled_fresh p (terms.pair _ _) u = tt
settled_fresh p (terms.app _ _) u = tt
settled_fresh p (terms.abs _ _) u = tt

settled_atom : (program : Clauses) (d c : ℕ) (ts : List NominalTerm) (p : Position) → choice_of_atom program d c ≡ None → IsSettled p (turned_atom program d c ts p)
settled_atom program zero c ts p h = refl
settled_atom program (suc d) c ts p h = absurd cc

settled_goal : (program : Clauses) (d : ℕ) (g : NominalGoal) (p : Position) → choice_of_goal program d g ≡ None → IsSettled p (turned_goal program d g p)
settled_goal program d succeed p h = refl
settled_goal program d (atom c ts) p h = settled_atom program d c ts p h
settled_goal program d (equal t u) p h = settled_with p (λ s. with_state s p) (λ s. refl) (unified_state p.state (unify p.state.bindings p.state.conditions (t ∷ []) (u ∷ [])))
settled_goal program d (fresh t u) p h = settled_fresh p (under p.state.bindings t) u
settled_goal program d (both f g) p h = refl
settled_goal program d (either f g) p h = absurd cc
settled_goal program d (exists x g) p h = refl
settled_goal program d (new a g) p h =
    settled_with p (λ s. with_state s (record p { waiting = record { goal = g; depth = d } ∷ p.waiting })) (λ s. refl)
    (reduced_state p.state (reduce_all p.state.bindings (fresh_for_each a (free_vars g))))

settled_by : (program : Clauses) (answering : Answering) (ws : List Waiting) (p : Position) → choice_of program ws ≡ None → IsSettled p (turned_by program answering ws p)
settled_by program answering [] p h = refl
settled_by program answering (w ∷ ws) p h = settled_again (turned_goal program w.depth w.goal (record p { waiting = ws })) (settled_goal program w.depth w.goal (record p { waiting = ws }) h)
  where
    settled_again : (t : Turned) → IsSettled (record p { waiting = ws }) t → IsSettled p t
    settled_again (ends o) k = k
    settled_again (goes []) k = k
    settled_again (goes (r ∷ [])) k = k
    settled_again (goes (r ∷ s ∷ ps)) k = k

pub settled : (program : Clauses) (answering : Answering) (p : Position) → choice_of program p.waiting ≡ None → IsSettled p (turned program answering p)
settled program answering p h = settled_by program answering p.waiting p h
