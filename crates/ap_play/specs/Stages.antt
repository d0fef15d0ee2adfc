-- The program's workers and its Core, as states.
use Rattle.std.specs.Prelude.{◌≡◌, ℕ, Bool, true, false, List, [], ◌∷◌, slice_get, Some}
use Rattle.ap_play.specs.declared.states.Core.{Core}
use Rattle.ap_tools.specs.declared.events.Event.{Event}
use Rattle.ap_paths.specs.declared.runs.Run.{Run}
use Rattle.ap_paths.specs.Trees.{Choices, Outputs, InChoiceTree}
use Rattle.ap_paths.specs.Ends.{ends_of}
use Rattle.ap_play.specs.declared.workers.Worker.{Worker}
use Rattle.ap_tools.specs.States.{WorkersState, Past, over, state, pending, start_state}
use Rattle.ap_tools.specs.Steps.{AreSteps}

abbrev pub hands_of : List Worker → List (List (List ℕ))
hands_of [] = []
hands_of (w ∷ ws) = w.hand.items ∷ hands_of ws

abbrev pub deques_of : List Worker → List (List (List ℕ))
deques_of [] = []
deques_of (w ∷ ws) = w.deque.items ∷ deques_of ws

abbrev pub state_of : List Worker → Past → WorkersState
state_of ws past = state (hands_of ws) (deques_of ws) past

-- what is over, as the program has it
abbrev pub past_of : List (List ℕ × List Run) → List (List ℕ) → Past
past_of ends skipped = over (ends_of ends) skipped

-- what a Core says of the state
abbrev pub core_state : Core → WorkersState
core_state k = state k.hands k.deques (past_of k.done k.skipped)

-- a step is made, or none can be
abbrev pub Answered : (WorkersState → Type 0) → Bool → WorkersState → Type 0
Answered P true t = P t
Answered P false t = (u : WorkersState) → P u → ⊥

-- the first path of each hand is in the tree
abbrev pub AreFirstsInTree : Choices → List (List (List ℕ)) → Type 0
AreFirstsInTree c hands = (w : ℕ) (p : List ℕ) (rest : List (List ℕ)) → slice_get hands w ≡ Some (p ∷ rest) → InChoiceTree c p

-- the core is that after these events, all permitted
abbrev pub IsCoreAfter : Choices → Outputs → ℕ → List Event → Core → Type 0
IsCoreAfter c at n events core = AreSteps c at (start_state n) events (core_state core) × (core.pending ≡ pending (core_state core))
