-- What holds of all permitted lists of events.
use Rattle.std.specs.Prelude.{◌≡◌, ℕ, true, false, List, [], ◌∷◌}
use Rattle.ap_tools.specs.declared.events.Event.{Event}
use Rattle.ap_paths.specs.Entries.{TreeEntry}
use Rattle.ap_paths.specs.declared.limits.Limit.{Limit}
use Rattle.ap_paths.specs.Limits.{part}
use Rattle.ap_paths.specs.History.{is_legal, are_reached, has_stop}
use Rattle.ap_paths.specs.Trees.{Choices, Outputs, AreTrue}
use Rattle.ap_paths.specs.Weights.{HaveSame}
use Rattle.ap_paths.specs.Frontier.{Item, Sorted, outs_in, outs_left, ended_in, open_in, skipped_in}
use Rattle.ap_paths.specs.Merging.{all_outs}
use Rattle.ap_tools.specs.States.{WorkersState, pending, start_state}
use Rattle.ap_tools.specs.Steps.{AreSteps, AllWant}
use Rattle.ap_tools.specs.Traces.{EventsLead, AreSeats, IsInOrder}

-- All paths that are pending, have ended or were left out, in path order, none of which begins another. The pending ones
-- are those in hands and deques, each once; those that have ended stand with the outputs below them; the outputs below all
-- are those of the tree; and as far as they are wanted those below the pending and the ended paths are.
pub record IsWhole (c : Choices) (at : Outputs) (l : Limit) (s : WorkersState) : Type 0 where
  pub frontier : List Item
  pub sorted : Sorted frontier
  pub opens : HaveSame (open_in frontier) (pending s)
  pub ended : s.past.ends ≡ ended_in at frontier
  pub skipped : HaveSame (skipped_in frontier) s.past.skipped
  pub outs : outs_in at frontier ≡ at []
  pub wanted : part l (outs_left at frontier) ≡ part l (at [])

-- the state after permitted events is whole; with nothing pending the outputs that were recorded are those of the tree, as far as they are wanted
abbrev pub StaysWhole : Choices → Outputs → ℕ → Type 0
StaysWhole c at n =
    (l : Limit) (events : List Event) (t : WorkersState) → AreSteps c at (start_state n) events t → AllWant l events → IsWhole c at l t × (pending t ≡ [] → part l (all_outs t.past.ends) ≡ part l (at []))

-- each legal and true history of the first n seats with no stop is that of some permitted list of events
abbrev pub ArePermitted : Choices → Outputs → ℕ → Type 0
ArePermitted c at n = (history : List TreeEntry) → is_legal history ≡ true → AreTrue c at history → has_stop history ≡ false → AreSeats n history → (t : WorkersState) × (events : List Event) × EventsLead c at (start_state n) events t history

-- with one worker the histories of permitted lists of events are the true ones of seat 0 in the order of the least open
-- paths, where before each path that was left out so many answers had ended
abbrev pub AreInOrder : Choices → Outputs → Type 0
AreInOrder c at = (history : List TreeEntry) → ((t : WorkersState) (events : List Event) → EventsLead c at (start_state 1) events t history → AreSeats 1 history × AreTrue c at history × IsInOrder ([] ∷ []) history × (are_reached [] history ≡ true))
    × (AreSeats 1 history → AreTrue c at history → IsInOrder ([] ∷ []) history → are_reached [] history ≡ true → (t : WorkersState) × (events : List Event) × EventsLead c at (start_state 1) events t history)
