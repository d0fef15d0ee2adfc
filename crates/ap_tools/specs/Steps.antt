-- The events: where each is permitted, and what it does.
use Rattle.std.specs.Prelude.{◌≡◌, ◌≢◌, ℕ, ◌≤◌, Some, List, [], ◌∷◌, ◌++◌, slice_get, slice_set}
use Rattle.ap_tools.specs.declared.events.Event.{Event}
use Rattle.ap_tools.specs.declared.events.Event.TheVariants.{Push, Pop, Steal, Split, Done, Skip}
use Rattle.ap_paths.specs.declared.limits.Limit.{Limit}
use Rattle.ap_paths.specs.declared.limits.Limit.TheVariants as limits
use Rattle.ap_paths.specs.History.{kids_of}
use Rattle.ap_paths.specs.Trees.{Choices, Outputs, AreKids}
use Rattle.ap_paths.specs.Merging.{insert, found_before}
use Rattle.ap_tools.specs.States.{WorkersState, state, over}

-- the last path in the hand of w goes to the back of its deque
abbrev pub Pushes : WorkersState → ℕ → WorkersState → Type 0
Pushes s w t =
    (rest : List (List ℕ)) × (p : List ℕ) × (deque : List (List ℕ)) × (slice_get s.hands w ≡ Some (rest ++ p ∷ [])) × (slice_get s.deques w ≡ Some deque)
    × (t ≡ state (slice_set s.hands w rest) (slice_set s.deques w (deque ++ p ∷ [])) s.past)

-- the hand of w is empty, and the path at the back of its deque comes there
abbrev pub Pops : WorkersState → ℕ → WorkersState → Type 0
Pops s w t =
    (rest : List (List ℕ)) × (p : List ℕ) × (slice_get s.hands w ≡ Some []) × (slice_get s.deques w ≡ Some (rest ++ p ∷ []))
    × (t ≡ state (slice_set s.hands w (p ∷ [])) (slice_set s.deques w rest) s.past)

-- the hand of w is empty, and the path at the front of another deque comes there
abbrev pub Steals : WorkersState → ℕ → ℕ → WorkersState → Type 0
Steals s w from t =
    (rest : List (List ℕ)) × (p : List ℕ) × (slice_get s.hands w ≡ Some []) × (slice_get s.deques from ≡ Some (p ∷ rest)) × (from ≢ w)
    × (t ≡ state (slice_set s.hands w (p ∷ [])) (slice_set s.deques from rest) s.past)

-- the first path in the hand of w is replaced by its kids, which leave out only choices with no outputs
abbrev pub Splits : Choices → Outputs → WorkersState → ℕ → List ℕ → WorkersState → Type 0
Splits c at s w ks t =
    (rest : List (List ℕ)) × (p : List ℕ) × (slice_get s.hands w ≡ Some (p ∷ rest)) × AreKids c at p ks
    × (t ≡ state (slice_set s.hands w (kids_of p ks ++ rest)) s.deques s.past)

-- the first path in the hand of w ends, with the outputs below it
abbrev pub EndsPath : Outputs → WorkersState → ℕ → WorkersState → Type 0
EndsPath at s w t =
    (rest : List (List ℕ)) × (p : List ℕ) × (slice_get s.hands w ≡ Some (p ∷ rest))
    × (t ≡ state (slice_set s.hands w rest) s.deques (over (insert p (at p) s.past.ends) s.past.skipped))

-- the first path in the hand of w is left out, since n answers have ended before it
abbrev pub SkipsPath : WorkersState → ℕ → ℕ → WorkersState → Type 0
SkipsPath s w n t =
    (rest : List (List ℕ)) × (p : List ℕ) × (slice_get s.hands w ≡ Some (p ∷ rest)) × (n ≤ found_before p s.past.ends)
    × (t ≡ state (slice_set s.hands w rest) s.deques (over s.past.ends (s.past.skipped ++ p ∷ [])))

-- the event is permitted, and leads from one state to the next
abbrev pub IsStep : Choices → Outputs → WorkersState → Event → WorkersState → Type 0
IsStep c at s (Push w) t = Pushes s w t
IsStep c at s (Pop w) t = Pops s w t
IsStep c at s (Steal w from) t = Steals s w from t
IsStep c at s (Split w ks) t = Splits c at s w ks t
IsStep c at s (Done w) t = EndsPath at s w t
IsStep c at s (Skip w n) t = SkipsPath s w n t

-- a path is left out only where so many answers are wanted
abbrev pub Wants : Limit → Event → Type 0
Wants l (Push w) = Unit {0}
Wants l (Pop w) = Unit {0}
Wants l (Steal w from) = Unit {0}
Wants l (Split w ks) = Unit {0}
Wants l (Done w) = Unit {0}
Wants l (Skip w n) = l ≡ limits.First n

abbrev pub AllWant : Limit → List Event → Type 0
AllWant l [] = Unit {0}
AllWant l (e ∷ es) = Wants l e × AllWant l es

-- the events are permitted, one after another, and lead from one state to another
abbrev pub AreSteps : Choices → Outputs → WorkersState → List Event → WorkersState → Type 0
AreSteps c at s [] t = t ≡ s
AreSteps c at s (e ∷ es) t = (u : WorkersState) × IsStep c at s e u × AreSteps c at u es t

-- the event is not permitted
abbrev pub IsNotPermitted : Choices → Outputs → WorkersState → Event → Type 0
IsNotPermitted c at s e = (t : WorkersState) → IsStep c at s e t → ⊥

-- the events are permitted up to one that is not
abbrev pub StopsAt : Choices → Outputs → WorkersState → List Event → Type 0
StopsAt c at s events = (es : List Event) × (e : Event) × (rest : List Event) × (u : WorkersState) × (events ≡ es ++ e ∷ rest) × AreSteps c at s es u × IsNotPermitted c at u e
