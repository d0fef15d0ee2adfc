-- What clauses see of a seat.
use Rattle.std.specs.Prelude.{◌≡◌, refl, ℕ, ◌+◌, ◌≤◌, eqb, zero, suc, Option, List, [], ◌∷◌, length}
use Rattle.std.specs.Coded.{Coded, code_by, coded×, coded_ℕ, coded_list}
use Rattle.atomic_table.specs.Seated.{TableId, table_id_coded}
use Rattle.atomic_table.specs.declared.shared.Seat.{Seat as TableSeat}
use Rattle.ap_paths.specs.declared.entries.Entry.{Entry}
use Rattle.ap_paths.specs.declared.limits.Limit.{Limit}
use Rattle.ap_book.specs.declared.book.Book.{Book}
use Rattle.ap_tools.specs.declared.locked.view.View.{View}
use Rattle.ap_tools.specs.declared.locked.view.Stage.TheVariants.{Idle}
use Rattle.ap_tools.specs.declared.locked.shared.SharedBook.{SharedBook}
use Rattle.ap_tools.specs.Turns.{lone, seen_of, Begins, places_of, AreKnown, one_turn_if, times_owned}

abbrev pub Raw : Type 0
Raw = TableSeat (Option Book) View

-- which book it is at, its number, and the history as it last saw it
pub record SeatView : Type 0 where
  pub book : TableId
  pub number : ℕ
  pub seen : List Entry

-- a seat's view is stored as the tuple of its parts
abbrev pub seat_code : Coded Entry → Coded SeatView
seat_code e =
    code_by (TableId × (ℕ × List Entry)) (coded× table_id_coded (coded× coded_ℕ (coded_list e))) (λ s. (s.book, (s.number, s.seen))) (λ p. record { book = p.0; number = p.1.0; seen = p.1.1 }) (λ _. refl)

-- the places of a seat's entries in what it has seen
abbrev pub log_of : SeatView → List ℕ
log_of s = places_of s.number s.seen

abbrev pub seat_view : ℕ → Raw → SeatView
seat_view n raw = record { book = raw.table_id; number = n; seen = seen_of raw.me.0 }

abbrev pub IsSeat : ℕ → Raw → Type 0
IsSeat n raw = raw.me ≡ (lone Idle n (seen_of raw.me.0), [])

-- which book it is
abbrev pub book_id : SharedBook → TableId
book_id d = d.table.shared.table_id

-- how many answers are wanted of it
abbrev pub book_limit : SharedBook → Limit
book_limit d = d.limit

-- how many seats it has
abbrev pub seats_of : SharedBook → ℕ
seats_of d = d.table.shared.key

abbrev pub SameSeat : SeatView → SeatView → Type 0
SameSeat old new = (new.book ≡ old.book) × (new.number ≡ old.number)

-- a turn at this history: it begins with all that the seat has seen, and has no other entries of the seat
abbrev pub IsTurn : SeatView → List Entry → Type 0
IsTurn s turn = Begins s.seen turn × (places_of s.number turn ≡ log_of s)

-- all seats are of this book
abbrev pub AreOfBook : TableId → List SeatView → Type 0
AreOfBook book [] = Unit {0}
AreOfBook book (s ∷ ss) = (s.book ≡ book) × AreOfBook book ss

-- the history begins with what each seat has seen, and the seat's log is the places of all entries of its number
abbrev pub AreLogged : List Entry → List SeatView → Type 0
AreLogged history [] = Unit {0}
AreLogged history (s ∷ ss) = (Begins s.seen history × (places_of s.number history ≡ places_of s.number s.seen)) × AreLogged history ss

-- seats of this book with the numbers from i on, which have seen nothing
abbrev pub new_seats : TableId → ℕ → ℕ → List SeatView
new_seats book i zero = []
new_seats book i (suc n) = record { book = book; number = i; seen = [] } ∷ new_seats book (suc i) n

-- how often the number is that of a seat
abbrev pub seats_with : ℕ → List SeatView → ℕ
seats_with n [] = 0
seats_with n (s ∷ ss) = one_turn_if (eqb s.number n) + seats_with n ss

-- an idle view that owns all seats of the list, in some order
abbrev pub IsUnited : Raw → List SeatView → Type 0
IsUnited raw seats =
    (raw.me.0.stage ≡ Idle)
    × (raw.me.1 ≡ [])
    × (length raw.me.0.owns ≡ length seats)
    × ((history : List Entry) → AreKnown history raw.me.0.owns → AreLogged history seats)
    × ((n : ℕ) → times_owned n raw.me.0.owns ≡ seats_with n seats)

-- all entries bear numbers of the seats, which are below their count
abbrev pub AreMadeBy : ℕ → List SeatView → List Entry → Type 0
AreMadeBy count seats history = ((n : ℕ) → seats_with n seats ≡ 0 → places_of n history ≡ []) × ((n : ℕ) → count ≤ n → places_of n history ≡ [])

-- the places of the entries of n numbers from i on
abbrev pub logs_from : ℕ → ℕ → List Entry → List (List ℕ)
logs_from i zero history = []
logs_from i (suc n) history = places_of i history ∷ logs_from (suc i) n history

-- for each number below n, the places of its entries
abbrev pub logs_of : ℕ → List Entry → List (List ℕ)
logs_of n history = logs_from 0 n history
