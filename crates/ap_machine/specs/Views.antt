-- What the values of the program stand for.
use Rattle.ap_defs.specs.Goals.{goal_of}
use Rattle.ap_defs.specs.Renaming.{rename_goal}
use Rattle.ap_defs.specs.Resolution.{State}
use Rattle.ap_store.specs.Views.{bindings_of, kinds, present}
use Rattle.ap_store.specs.declared.store.Store.{Store}
use Rattle.ap_search.specs.Continuations.{Waiting}
use Rattle.ap_machine.specs.declared.frames.Frame.{Frame}

-- bindings, conditions and kinds
abbrev pub state_in : Store → State
state_in s = record { bindings = (bindings_of s); conditions = (present s).conditions; kinds = kinds s }

abbrev pub waiting_of : Frame → Waiting
waiting_of f = record { goal = rename_goal f.base (goal_of f.goal.now); depth = f.depth }
