-- Machines and their tracks.
use Rattle.std.proofs.Common.{◌≡◌, ℕ, ◌+◌, List, take, sym, ap, ◌∙◌, subst}
use Rattle.ap_search.specs.Continuations.{Waiting}
use Rattle.ap_store.specs.Triples.{IsPrefixOf, Triple}
use Rattle.ap_store.specs.Views.{kinds, past, present, versions}
use Rattle.ap_store.specs.declared.store.Store.{Store}
use Rattle.ap_machine.specs.GoalStacks.{IsLonger}
use Rattle.ap_machine.specs.Below.{AreWaitingBelow}
use Rattle.ap_machine.specs.Brought.{vars_of_brought}
use Rattle.ap_machine.specs.Machines.{next_of, position_of, track_of}
use Rattle.ap_machine.specs.Positions.{Position}
use Rattle.ap_machine.specs.Stacks.{cells_of, first_waiting, waiting_in}
use Rattle.ap_machine.specs.Tracks.{GoesFrom, Track, back_to, last_version, next_in, position_at}
use Rattle.ap_machine.specs.Views.{state_in}
use Rattle.ap_machine.specs.declared.brought.Brought.{Brought}
use Rattle.ap_machine.specs.declared.goal_stack.GoalStack.{GoalStack}
use Rattle.ap_machine.specs.declared.machine.Machine.{Machine}
use Rattle.ap_machine.specs.declared.saves.Save.{Save}
use Rattle.ap_machine.proofs.TrackLemmas.{last_present, longer_same}

abbrev pub track_with : Store → GoalStack → List ℕ → List Brought → Track
track_with r a path brought = record { versions = versions r; kinds = kinds r; cells = cells_of a; path = path; brought = brought }

abbrev pub position_with : Store → GoalStack → List ℕ → List Brought → Position
position_with r a path brought = record { waiting = waiting_in a; path = path; state = state_in r; brought = vars_of_brought brought }

pub next_with : (r : Store) (a : GoalStack) (path : List ℕ) (brought : List Brought) → next_in (track_with r a path brought) ≡ (present r).next
next_with r a path brought = ap (λ (v : Triple). v.next) (last_present (past r) (present r))

pub position_from : (r : Store) (a : GoalStack) (path : List ℕ) (brought : List Brought) (n : ℕ) → n ≡ first_waiting a
    → position_at (track_with r a path brought) n ≡ position_with r a path brought
position_from r a path brought n e =
    ap (λ m. position_at (track_with r a path brought) m) e
    ∙ ap (λ (v : Triple). record { waiting = waiting_in a; path = path; state = record { bindings = v.bindings; conditions = v.conditions; kinds = kinds r }; brought = vars_of_brought brought })
    (last_present (past r) (present r))

pub next_here : (b : Machine) → next_in (track_of b) ≡ next_of b
next_here b = next_with b.store b.goals b.path.items b.brought.items

pub position_here : (b : Machine) (n : ℕ) → n ≡ first_waiting b.goals → position_at (track_of b) n ≡ position_of b
position_here b n e = position_from b.store b.goals b.path.items b.brought.items n e

-- a machine in which the store alone goes on
pub goes_store : (b d : Machine) → IsPrefixOf (versions b.store) (versions d.store) → IsLonger (kinds b.store) (kinds d.store) → cells_of d.goals ≡ cells_of b.goals
    → d.path.items ≡ b.path.items → d.brought.items ≡ b.brought.items → GoesFrom (track_of b) (track_of d)
goes_store b d v k c p x = record {
  versions = v;
  kinds = k;
  cells = longer_same (cells_of b.goals) (cells_of d.goals) c;
  path = longer_same b.path.items d.path.items p;
  brought = longer_same b.brought.items d.brought.items x;
}

-- A machine that has gone back.
module _ (s : Save) (b : Machine) (r : Store) (a : GoalStack) (path : List ℕ) (brought : List Brought) where
  pub back_kinds : versions r ≡ take (s.mark.place + 1) (versions b.store) → kinds r ≡ take (present r).next (kinds b.store) → kinds r ≡ (back_to s (track_of b)).kinds
  back_kinds v k = k ∙ ap (λ (w : Triple). take w.next (kinds b.store)) (sym (last_present (past r) (present r)) ∙ ap last_version v)

  pub back_track : versions r ≡ take (s.mark.place + 1) (versions b.store) → kinds r ≡ take (present r).next (kinds b.store) → cells_of a ≡ take s.cells (cells_of b.goals)
      → path ≡ take s.path b.path.items → brought ≡ take s.brought b.brought.items → track_with r a path brought ≡ back_to s (track_of b)
  back_track v k c p x =
      ap (λ vs. record { versions = vs; kinds = kinds r; cells = cells_of a; path = path; brought = brought }) v
      ∙ ap (λ ks. record { versions = (back_to s (track_of b)).versions; kinds = ks; cells = cells_of a; path = path; brought = brought }) (back_kinds v k)
      ∙ ap (λ cs. record { versions = (back_to s (track_of b)).versions; kinds = (back_to s (track_of b)).kinds; cells = cs; path = path; brought = brought }) c
      ∙ ap (λ ps. record { versions = (back_to s (track_of b)).versions; kinds = (back_to s (track_of b)).kinds; cells = take s.cells (cells_of b.goals); path = ps; brought = brought }) p
      ∙ ap (λ xs. record { versions = (back_to s (track_of b)).versions; kinds = (back_to s (track_of b)).kinds; cells = take s.cells (cells_of b.goals); path = take s.path b.path.items; brought = xs }) x

  pub back_position : track_with r a path brought ≡ back_to s (track_of b) → first_waiting a ≡ s.first
      → position_with r a path brought ≡ position_at (back_to s (track_of b)) s.first
  back_position e f = sym (position_from r a path brought s.first (sym f)) ∙ ap (λ t. position_at t s.first) e

  pub back_next : track_with r a path brought ≡ back_to s (track_of b) → (present r).next ≡ next_in (back_to s (track_of b))
  back_next e = sym (next_with r a path brought) ∙ ap next_in e

  -- the goals that wait there have only numbers that were given
  pub back_below : track_with r a path brought ≡ back_to s (track_of b) → first_waiting a ≡ s.first
      → AreWaitingBelow (next_in (back_to s (track_of b))) (position_at (back_to s (track_of b)) s.first).waiting → AreWaitingBelow (present r).next (waiting_in a)
  back_below e f h =
      subst (λ (n : ℕ). AreWaitingBelow n (waiting_in a)) (sym (back_next e))
      (subst (λ (ws : List Waiting). AreWaitingBelow (next_in (back_to s (track_of b))) ws) (sym (ap (λ (p : Position). p.waiting) (back_position e f))) h)
