-- The entries that a list of events makes.
use Rattle.std.specs.Prelude.{◌≡◌, ℕ, ◌<◌, Some, List, [], ◌∷◌, ◌++◌, slice_get}
use Rattle.ap_tools.specs.declared.events.Event.{Event}
use Rattle.ap_tools.specs.declared.events.Event.TheVariants.{Push, Pop, Steal, Split, Done, Skip}
use Rattle.ap_paths.specs.Entries.{TreeEntry, split, done, skip, stop}
use Rattle.ap_paths.specs.History.{kids_of, seat_of}
use Rattle.ap_paths.specs.Trees.{Choices, Outputs}
use Rattle.ap_tools.specs.States.{WorkersState}
use Rattle.ap_tools.specs.Steps.{IsStep}

-- the entries that an event makes at this state: one where a path is split, ends or is left out
abbrev pub MakesEntries : Outputs → WorkersState → Event → List TreeEntry → Type 0
MakesEntries at s (Push w) es = es ≡ []
MakesEntries at s (Pop w) es = es ≡ []
MakesEntries at s (Steal w from) es = es ≡ []
MakesEntries at s (Split w ks) es = (p : List ℕ) × (rest : List (List ℕ)) × (slice_get s.hands w ≡ Some (p ∷ rest)) × (es ≡ split w p ks ∷ [])
MakesEntries at s (Done w) es = (p : List ℕ) × (rest : List (List ℕ)) × (slice_get s.hands w ≡ Some (p ∷ rest)) × (es ≡ done w p (at p) ∷ [])
MakesEntries at s (Skip w n) es = (p : List ℕ) × (rest : List (List ℕ)) × (slice_get s.hands w ≡ Some (p ∷ rest)) × (es ≡ skip w p n ∷ [])

-- the events are permitted, lead from s to t, and make these entries, in order
abbrev pub EventsLead : Choices → Outputs → WorkersState → List Event → WorkersState → List TreeEntry → Type 0
EventsLead c at s [] t history = (t ≡ s) × (history ≡ [])
EventsLead c at s (e ∷ es) t history = (u : WorkersState) × (made : List TreeEntry) × (later : List TreeEntry) × IsStep c at s e u × MakesEntries at s e made × EventsLead c at u es t later × (history ≡ made ++ later)

-- the numbers of all seats are below n
abbrev pub AreSeats : ℕ → List TreeEntry → Type 0
AreSeats n [] = Unit {0}
AreSeats n (e ∷ es) = (seat_of e < n) × AreSeats n es

-- each entry is of the first of the open paths, whose kids take its place: of the least one, as kids ascend
abbrev pub IsInOrder : List (List ℕ) → List TreeEntry → Type 0
IsInOrder ps [] = Unit {0}
IsInOrder [] (e ∷ es) = ⊥
IsInOrder (p ∷ ps) (split seat q ks ∷ es) = (q ≡ p) × IsInOrder (kids_of p ks ++ ps) es
IsInOrder (p ∷ ps) (done seat q os ∷ es) = (q ≡ p) × IsInOrder ps es
IsInOrder (p ∷ ps) (skip seat q n ∷ es) = (q ≡ p) × IsInOrder ps es
IsInOrder (p ∷ ps) (stop seat ∷ es) = ⊥
