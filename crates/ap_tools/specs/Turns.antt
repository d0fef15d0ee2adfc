-- The rule of the ticket lock, and what each of its steps tells.
use Rattle.std.specs.Prelude.{◌≡◌, ◌≢◌, ℕ, zero, suc, ◌+◌, ◌%◌, ◌^◌, ◌<◌, ◌≤◌, ◌⊎◌, Bool, eqb, if◌then◌else◌, Option, Some, None, List, [], ◌∷◌, ◌++◌, length, take, drop}
use mathlib.Core.Option.{none, some}
use lib.ListN.{get_elem?}
use Rattle.atomic_table.specs.Table.{State, Me}
use Rattle.ap_paths.specs.declared.entries.Entry.{Entry}
use Rattle.ap_paths.specs.Entries.{entry_of}
use Rattle.ap_paths.specs.History.{seat_of}
use Rattle.ap_tools.specs.declared.locked.view.Stage.{Stage}
use Rattle.ap_tools.specs.declared.locked.view.Stage.TheVariants.{Idle, Waiting, Turn}
use Rattle.ap_tools.specs.declared.locked.view.Own.{Own}
use Rattle.ap_tools.specs.declared.locked.view.View.{View}

-- what the slot holds: the book, seen as its history
abbrev pub Slot : Type 0
Slot = Option (List Entry)

abbrev pub own : ℕ → List Entry → Own
own n seen = record { number = n; seen = seen }

abbrev pub view : Stage → List Own → View
view s owns = record { stage = s; owns = owns }

-- a seat of one number
abbrev pub lone : Stage → ℕ → List Entry → View
lone s n seen = view s (own n seen ∷ [])

-- seats that have seen nothing, with n numbers from i on
abbrev pub fresh_owns : ℕ → ℕ → List Own
fresh_owns i zero = []
fresh_owns i (suc n) = own i [] ∷ fresh_owns (suc i) n

-- the history goes on from what was seen
abbrev pub Begins : List Entry → List Entry → Type 0
Begins seen history = (rest : List Entry) × (history ≡ seen ++ rest)

-- the number of the seat that made an entry
abbrev pub maker_of : Entry → ℕ
maker_of e = seat_of (entry_of e)

-- the places of the entries that bear this number, ascending
abbrev pub own_places_from : ℕ → ℕ → List Entry → List ℕ
own_places_from i n [] = []
own_places_from i n (e ∷ es) = if eqb (maker_of e) n then i ∷ own_places_from (suc i) n es else own_places_from (suc i) n es

abbrev pub places_of : ℕ → List Entry → List ℕ
places_of n history = own_places_from 0 n history

-- all entries bear the number
abbrev pub AreBy : ℕ → List Entry → Type 0
AreBy n [] = Unit {0}
AreBy n (e ∷ es) = (maker_of e ≡ n) × AreBy n es

abbrev pub one_turn_if : Bool → ℕ
one_turn_if b = if b then 1 else 0

-- how often a number is owned
abbrev pub times_owned : ℕ → List Own → ℕ
times_owned n [] = 0
times_owned n (o ∷ os) = one_turn_if (eqb o.number n) + times_owned n os

-- f of each view, added up
abbrev pub total_of_seats : (View → ℕ) → List View → ℕ
total_of_seats f [] = 0
total_of_seats f (v ∷ vs) = f v + total_of_seats f vs

-- whether a view has this ticket, any ticket, and the turn
abbrev pub has : ℕ → Stage → ℕ
has t Idle = 0
has t (Waiting u) = one_turn_if (eqb u t)
has t (Turn u) = one_turn_if (eqb u t)

abbrev pub tickets : Stage → ℕ
tickets Idle = 0
tickets (Waiting u) = 1
tickets (Turn u) = 1

abbrev pub turns : Stage → ℕ
turns Idle = 0
turns (Waiting u) = 0
turns (Turn u) = 1

-- the history begins with what the seat has seen, where all entries of its number stand
abbrev pub IsSeen : List Entry → Own → Type 0
IsSeen history o = Begins o.seen history × (places_of o.number history ≡ places_of o.number o.seen)

-- each seat is known
abbrev pub AreKnown : List Entry → List Own → Type 0
AreKnown history [] = Unit {0}
AreKnown history (o ∷ os) = IsSeen history o × AreKnown history os

-- each seat has seen the whole history
abbrev pub AreWhole : List Entry → List Own → Type 0
AreWhole history [] = Unit {0}
AreWhole history (o ∷ os) = (o.seen ≡ history) × AreWhole history os

-- a ticket was drawn and not yet served. Who has the turn has the ticket that is served, and has seen the whole history
abbrev pub InTurn : ℕ → ℕ → List Entry → Stage → List Own → Type 0
InTurn served drawn history Idle owns = Unit {0}
InTurn served drawn history (Waiting u) owns = (served ≤ u) × (u < drawn)
InTurn served drawn history (Turn u) owns = (u ≡ served) × (served < drawn) × AreWhole history owns

-- a view is as these counts and this history say, and a seat that has a ticket has a number
pub record FitsHistory (served drawn : ℕ) (history : List Entry) (v : View) : Type 0 where
  pub known : AreKnown history v.owns
  pub turn : InTurn served drawn history v.stage v.owns
  pub owns : tickets v.stage ≤ length v.owns

-- the book is at home with the history, and nobody has the turn; or it is out with the one who has
abbrev pub Home : List Entry → List (mathlib.Core.Option.Option Slot) → List View → Type 0
Home history homes views =
    ((homes ≡ some (Some history) ∷ []) × (total_of_seats (λ v. turns v.stage) views ≡ 0))
    ⊎ ((homes ≡ none ∷ []) × (total_of_seats (λ v. turns v.stage) views ≡ 1))

-- so many tickets were served, and so many drawn
pub record IsLockKept (seats served drawn : ℕ) (history : List Entry) (s : State Slot View) : Type 0 where
  pub words : s.words ≡ drawn % 2 ^ 64 ∷ served % 2 ^ 64 ∷ []
  pub home : Home history s.homes s.views
  pub drawn_once : (t : ℕ) → total_of_seats (λ v. has t v.stage) s.views ≤ 1
  pub counted : served + total_of_seats (λ v. tickets v.stage) s.views ≡ drawn
  pub owned_once : (n : ℕ) → total_of_seats (λ v. times_owned n v.owns) s.views ≤ 1
  pub all_owned : total_of_seats (λ v. length v.owns) s.views ≡ seats
  pub few : seats ≤ 64
  pub in_range : (n : ℕ) → seats ≤ n → total_of_seats (λ v. times_owned n v.owns) s.views ≡ 0
  pub strangers : (n : ℕ) → total_of_seats (λ v. times_owned n v.owns) s.views ≡ 0 → places_of n history ≡ []
  pub fit : (port : ℕ) (v : View) → get_elem? s.views port ≡ some v → FitsHistory served drawn history v

abbrev pub SeatsKept : ℕ → State Slot View → Type 0
SeatsKept seats s = (served : ℕ) × (drawn : ℕ) × (history : List Entry) × IsLockKept seats served drawn history s

-- a ticket was drawn
abbrev pub Drew : Me Slot View → ℕ → Me Slot View → Type 0
Drew m n w = (t : ℕ) × (n ≡ t % 2 ^ 64) × (w ≡ (view (Waiting t) m.0.owns, m.1))

abbrev pub first_number : List Own → ℕ
first_number [] = 0
first_number (o ∷ os) = o.number

abbrev pub first_seen : List Own → List Entry
first_seen [] = []
first_seen (o ∷ os) = o.seen

-- the number of a seat, and what it has seen
abbrev pub seat_number : View → ℕ
seat_number v = first_number v.owns

abbrev pub seen_of : View → List Entry
seen_of v = first_seen v.owns

-- the ticket is served, and the book was taken, with its history; or nothing changed
abbrev pub Called : ℕ → Me Slot View → ℕ → Me Slot View → Type 0
Called t m n w =
    ((n ≡ t % 2 ^ 64) × ((history : List Entry) × IsSeen history (own (seat_number m.0) (seen_of m.0)) × (w ≡ (lone (Turn t) (seat_number m.0) history, (0, Some history) ∷ []))))
    ⊎ ((n ≢ t % 2 ^ 64) × (w ≡ m))

abbrev pub CalledAt : Stage → Me Slot View → ℕ → Me Slot View → Type 0
CalledAt Idle m n w = Unit {0}
CalledAt (Waiting t) m n w = Called t m n w
CalledAt (Turn t) m n w = Unit {0}

abbrev pub Looked : Me Slot View → ℕ → Me Slot View → Type 0
Looked m n w = CalledAt m.0.stage m n w

abbrev pub EndedWith : List (ℕ × Slot) → View → Me Slot View → Type 0
EndedWith [] v w = Unit {0}
EndedWith (x ∷ xs) v w = (history : List Entry) → x.1 ≡ Some history → w ≡ (lone Idle (seat_number v) history, [])

-- the book was put back with this history
abbrev pub EndedTurn : Me Slot View → ℕ → Me Slot View → Type 0
EndedTurn m n w = EndedWith m.1 m.0 w

abbrev pub IsIdle : Me Slot View → Type 0
IsIdle m = m ≡ (lone Idle (seat_number m.0) (seen_of m.0), [])

-- from the view v a ticket was drawn
abbrev pub IsWaiting : View → ℕ → Me Slot View → Type 0
IsWaiting v n m = (t : ℕ) × (n ≡ t % 2 ^ 64) × (m ≡ (lone (Waiting t) (seat_number v) (seen_of v), []))

-- from the view v the turn was taken, at this history, and the book with it
abbrev pub HasTurn : View → List Entry → Me Slot View → Type 0
HasTurn v history m = IsSeen history (own (seat_number v) (seen_of v)) × ((t : ℕ) × (m ≡ (lone (Turn t) (seat_number v) history, (0, Some history) ∷ [])))

-- the same with the book out of its slot
abbrev pub Holds : View → List Entry → Me Slot View → Type 0
Holds v history m = IsSeen history (own (seat_number v) (seen_of v)) × ((t : ℕ) × (m ≡ (lone (Turn t) (seat_number v) history, (0, None) ∷ [])))

-- the book's history has grown by entries of the seat's number
abbrev pub AddsEntries : ℕ → List Entry → List Entry → Type 0
AddsEntries n turn history = (es : List Entry) × (history ≡ turn ++ es) × AreBy n es

abbrev pub MayEnd : Me Slot View → Type 0
MayEnd m = (t : ℕ) × (history : List Entry) × (m ≡ (lone (Turn t) (seat_number m.0) (seen_of m.0), (0, Some history) ∷ [])) × AddsEntries (seat_number m.0) (seen_of m.0) history

abbrev pub MayShut : Me Slot View → List Entry → Type 0
MayShut m history = (t : ℕ) × (m ≡ (lone (Turn t) (seat_number m.0) (seen_of m.0), (0, None) ∷ [])) × AddsEntries (seat_number m.0) (seen_of m.0) history

-- the first seat leaves
abbrev pub others : View → View
others v = view Idle (drop 1 v.owns)

abbrev pub first_seat_only : View → View
first_seat_only v = view Idle (take 1 v.owns)

abbrev pub united : View → View → View
united v w = view Idle (v.owns ++ w.owns)
