-- A machine that goes back to where it is, without the cells of goals that wait no longer.
use Rattle.std.proofs.Common.{◌≡◌, ◌∙◌, ℕ, take, sym, ap, subst, arith}
use Rattle.ap_search.specs.Continuations.{Waiting}
use Rattle.std.specs.Prelude.{List}
use Rattle.ap_machine.specs.Below.{AreWaitingBelow}
use Rattle.ap_machine.specs.Brought.{vars_of_brought}
use Rattle.ap_machine.specs.Machines.{next_of, position_of, track_of}
use Rattle.ap_machine.specs.Positions.{Position}
use Rattle.ap_machine.specs.Tracks.{IsSaveWithin, Track, back_to, next_in, position_at, state_at}
use Rattle.ap_machine.specs.declared.machine.Machine.{Machine}
use Rattle.ap_machine.specs.declared.saves.Save.{Save}
use Rattle.ap_machine.proofs.GoalStackLemmas.{waiting_cut}
use Rattle.ap_machine.proofs.MachineLemmas.{next_here}

-- the save with the cells up to that of the first goal alone
abbrev cut : Save → Save
cut s = record { mark = s.mark; cells = s.first; first = s.first; path = s.path; brought = s.brought }

abbrev with_cells : ℕ → Track → Track → Track
with_cells n t u = record { versions = u.versions; kinds = u.kinds; cells = take n t.cells; path = u.path; brought = u.brought }

module _ (s : Save) (b : Machine) (w : IsSaveWithin s (track_of b)) (e : back_to s (track_of b) ≡ track_of b) (f : position_at (track_of b) s.first ≡ position_of b) where
  pub cut_within : IsSaveWithin (cut s) (track_of b)
  cut_within = let m = w.first in let n = w.cells in record { mark = w.mark; kinds = w.kinds; cells = omega arith; first = omega arith; path = w.path; brought = w.brought }

  cut_track : back_to (cut s) (track_of b) ≡ with_cells s.first (track_of b) (track_of b)
  cut_track = ap (with_cells s.first (track_of b)) e

  pub cut_position : position_at (back_to (cut s) (track_of b)) s.first ≡ position_of b
  cut_position =
      let m = w.first in
      let n = w.cells in
      let t = track_of b in
      ap (λ (u : Track). position_at u s.first) cut_track
      ∙ ap (λ (ws : List Waiting). record { waiting = ws; path = t.path; state = state_at t; brought = vars_of_brought t.brought }) (waiting_cut t.cells s.first s.first (omega arith) (omega arith))
      ∙ f

  pub cut_waiting : AreWaitingBelow (next_in (back_to (cut s) (track_of b))) (position_at (back_to (cut s) (track_of b)) s.first).waiting
  cut_waiting =
      let next : next_in (back_to (cut s) (track_of b)) ≡ next_of b = ap next_in cut_track ∙ next_here b in
      subst (λ (m : ℕ). AreWaitingBelow m (position_at (back_to (cut s) (track_of b)) s.first).waiting) (sym next)
      (subst (λ (p : Position). AreWaitingBelow (next_of b) p.waiting) (sym cut_position) b.below)
