-- What the history is once all workers have ended.
use Rattle.std.proofs.Common.{◌≡◌, Option, ◌≢◌, ℕ, zero, suc, ◌+◌, ◌<◌, ◌≤◌, ◌⊎◌, Bool, true, false, ◌||◌, eqb, if◌then◌else◌, All, List, [], ◌∷◌, ◌++◌, length, get_or, sym, refl, ap, ◌∙◌, subst, inl, inr, ⊎_elim, true≢false, ne_eqb, append-nil, add-one, take, Result, Ok, Err, IfOk, arith}
use Rattle.std.proofs.lemmas.Bool.{and_parts}
use mathlib.Core.Logic.{dite}
use native.Mathlib.Decide.{ℕ_discrete}
use Rattle.atomic_table.specs.Seated.{TableId}
use Rattle.ap_paths.specs.declared.entries.Entry.{Entry}
use Rattle.ap_defs.specs.declared.paths.Progress.{Progress}
use Rattle.ap_defs.specs.declared.paths.Progress.TheVariants.{Left, Finished, Stopped}
use Rattle.ap_paths.specs.Entries.{TreeEntry, split, done, skip, stop, entry_of, entries_of}
use Rattle.ap_paths.specs.History.{has_stop, is_stop, is_legal, legal_from, may_enter, open_after, open_from, open_of, left_of, progress_of}
use Rattle.ap_paths.specs.Trees.{Choices, Outputs, InChoiceTree, IsTree, IsPlan, AreTrue}
use Rattle.ap_paths.specs.declared.limits.Limit.{Limit}
use Rattle.ap_paths.specs.Limits.{part, IsWithin, AreWithin}
use Rattle.ap_paths.specs.Merging.{merged}
use Rattle.ap_paths.proofs.Histories.{legal_parts}
use Rattle.ap_paths.proofs.Frontiers.{merged_whole}
use Rattle.ap_paths.specs.declared.entries.Closed.{Closed}
use Rattle.ap_tools.specs.Traces.{AreSeats}
use Rattle.ap_tools.specs.Turns.{Begins, maker_of, one_turn_if, own_places_from}
use Rattle.ap_tools.specs.Seats.{SeatView, AreOfBook, AreLogged, AreMadeBy, seats_with, new_seats}
use Rattle.ap_tools.proofs.Endings.{new_seats-length}
use Rattle.ap_tools.specs.Planned.{Plans, IsPlanned, ArePlanned, OwnPlanned, IsOver, IsNewSeat, EndedSeat}
use Rattle.ap_tools.proofs.OwnEntries.{other, own_turn}

-- the seats one by one
abbrev pub AllEnded : Choices → Plans → Limit → TableId → List SeatView → Type 0
AllEnded c plan l book [] = Unit {0}
AllEnded c plan l book (s ∷ ss) = EndedSeat c plan l book s × AllEnded c plan l book ss

pub one_by_one : (c : Choices) (plan : Plans) (l : Limit) (book : TableId) (ss : List SeatView) → All (λ s. EndedSeat c plan l book s) ss → AllEnded c plan l book ss
one_by_one c plan l book [] all = tt
one_by_one c plan l book (s ∷ ss) all = (all 0 s (omega arith), one_by_one c plan l book ss (λ k d lt. all (suc k) d (omega arith)))

pub are_of : (c : Choices) (plan : Plans) (l : Limit) (book : TableId) (ss : List SeatView) → AllEnded c plan l book ss → AreOfBook book ss
are_of c plan l book [] all = tt
are_of c plan l book (s ∷ ss) all = (all.0.0, are_of c plan l book ss all.1)

AllOwn : Choices → Plans → Limit → List SeatView → List Entry → Type 0
AllOwn c plan l [] es = Unit {0}
AllOwn c plan l (s ∷ ss) es = OwnPlanned c plan l s.number es × AllOwn c plan l ss es

NotBy : ℕ → List Entry → Type 0
NotBy n [] = Unit {0}
NotBy n (e ∷ es) = (maker_of e ≢ n) × NotBy n es

all_own : (c : Choices) (plan : Plans) (l : Limit) (book : TableId) (ss : List SeatView) (H : List Entry) → AllEnded c plan l book ss → AreLogged H ss → AllOwn c plan l ss H
unfolding AllOwn
all_own c plan l book [] H all logged = tt
all_own c plan l book (s ∷ ss) H all logged = (own_turn c plan l s.number s.seen H logged.0.0 logged.0.1 all.0.1, all_own c plan l book ss H all.1 logged.1)

own_rest : (c : Choices) (plan : Plans) (l : Limit) (ss : List SeatView) (e : Entry) (es : List Entry) → AllOwn c plan l ss (e ∷ es) → AllOwn c plan l ss es
unfolding AllOwn
own_rest c plan l [] e es h = tt
own_rest c plan l (s ∷ ss) e es h = (h.0.1, own_rest c plan l ss e es h.1)

-- an entry that bears a seat's number
pick : (c : Choices) (plan : Plans) (l : Limit) (ss : List SeatView) (e : Entry) (es : List Entry) → 0 < seats_with (maker_of e) ss → AllOwn c plan l ss (e ∷ es) → IsPlanned c plan (entry_of e) × IsWithin l (entry_of e)
unfolding AllOwn
pick c plan l [] e es some h = absurd (omega arith)
pick c plan l (s ∷ ss) e es some h =
    dite (ℕ_discrete s.number (maker_of e))
    (λ same. h.0.0 (sym same))
    (λ ne. let z = ap one_turn_if (ne_eqb s.number (maker_of e) ne) in pick c plan l ss e es (omega arith) h.1)

zero_or : (n : ℕ) → (n ≡ 0) ⊎ (0 < n)
zero_or zero = inl refl
zero_or (suc n) = inr (omega arith)

all_planned : (c : Choices) (plan : Plans) (l : Limit) (ss : List SeatView) (es : List Entry) → AllOwn c plan l ss es → ((n : ℕ) → seats_with n ss ≡ 0 → NotBy n es) → ArePlanned c plan (entries_of es) × AreWithin l (entries_of es)
unfolding NotBy
all_planned c plan l ss [] own others = (tt, tt)
all_planned c plan l ss (e ∷ es) own others =
    let here : IsPlanned c plan (entry_of e) × IsWithin l (entry_of e) = ⊎_elim (λ z. absurd ((others (maker_of e) z).0 refl)) (λ some. pick c plan l ss e es some own) (zero_or (seats_with (maker_of e) ss)) in
    let rest = all_planned c plan l ss es (own_rest c plan l ss e es own) (λ n z. (others n z).1) in
    ((here.0, rest.0), (here.1, rest.1))

not_by : (i n : ℕ) (es : List Entry) → own_places_from i n es ≡ [] → NotBy n es
unfolding NotBy
not_by i n [] e = tt
not_by i n (x ∷ xs) e =
    let step : (b : Bool) → eqb (maker_of x) n ≡ b → (if b then i ∷ own_places_from (suc i) n xs else own_places_from (suc i) n xs) ≡ [] → (maker_of x ≢ n) × NotBy n xs = λ b.
    elim b as (λ b. eqb (maker_of x) n ≡ b → (if b then i ∷ own_places_from (suc i) n xs else own_places_from (suc i) n xs) ≡ [] → (maker_of x ≢ n) × NotBy n xs)
    [ true ↦ λ is nil. absurd (let k = ap length nil in omega arith) | false ↦ λ is nil. ((λ same. other (maker_of x) n is same), not_by (suc i) n xs nil) ] in
    step (eqb (maker_of x) n) refl e

-- all entries follow the plans, and leave out only what is not wanted
pub planned_all : (c : Choices) (plan : Plans) (l : Limit) (book : TableId) (count : ℕ) (ss : List SeatView) (H : List Entry) → AllEnded c plan l book ss → AreLogged H ss → AreMadeBy count ss H → ArePlanned c plan (entries_of H) × AreWithin l (entries_of H)
planned_all c plan l book count ss H all logged made = all_planned c plan l ss H (all_own c plan l book ss H all logged) (λ n z. not_by 0 n H (made.0 n z))

least : (a n : ℕ) → (n ≤ a → ⊥) → a < n
least a zero h = absurd (h (omega arith))
least zero (suc n) h = omega arith
least (suc a) (suc n) h = let r = least a n (λ le. h (omega arith)) in omega arith

are_below : (count : ℕ) (es : List Entry) → ((n : ℕ) → count ≤ n → NotBy n es) → AreSeats count (entries_of es)
unfolding NotBy
are_below count [] h = tt
are_below count (e ∷ es) h = (least (maker_of e) count (λ le. (h (maker_of e) le).0 refl), are_below count es (λ n le. (h n le).1))

-- all entries bear numbers of seats
pub are_seats : (count : ℕ) (ss : List SeatView) (H : List Entry) → AreMadeBy count ss H → AreSeats count (entries_of H)
are_seats count ss H made = are_below count H (λ n le. not_by 0 n H (made.1 n le))

pub entries_of-append : (xs ys : List Entry) → entries_of (xs ++ ys) ≡ entries_of xs ++ entries_of ys
entries_of-append [] ys = refl
entries_of-append (x ∷ xs) ys = ap (λ l. entry_of x ∷ l) (entries_of-append xs ys)

pub has_stop-append : (xs ys : List TreeEntry) → has_stop (xs ++ ys) ≡ has_stop xs || has_stop ys
has_stop-append [] ys = refl
has_stop-append (x ∷ xs) ys = ap (λ b. is_stop x || b) (has_stop-append xs ys) ∙ elim (is_stop x) as (λ b. b || (has_stop xs || has_stop ys) ≡ (b || has_stop xs) || has_stop ys) [ true ↦ refl | false ↦ refl ]

pub either_false : (a b : Bool) → a || b ≡ false → (a ≡ false) × (b ≡ false)
either_false true b h = absurd (true≢false h)
either_false false b h = (refl, h)

legal_rest : (ps : List (List ℕ)) (b : Bool) (xs ys : List TreeEntry) → legal_from ps b (xs ++ ys) ≡ true → (d : Bool) × (legal_from (open_from ps xs) d ys ≡ true)
legal_rest ps b [] ys h = (b, h)
legal_rest ps b (x ∷ xs) ys h = legal_rest (open_after ps x) (b || is_stop x) xs ys (and_parts (may_enter ps b x) (legal_from (open_after ps x) (b || is_stop x) (xs ++ ys)) h).1

-- where nothing is open, only a stop may come
ends_there : (d : Bool) (ys : List TreeEntry) → legal_from [] d ys ≡ true → has_stop ys ≡ false → ys ≡ []
ends_there d [] h none_stands = refl
ends_there d (split s p ks ∷ ys) h none_stands = absurd (true≢false (sym h))
ends_there d (done s p os ∷ ys) h none_stands = absurd (true≢false (sym h))
ends_there d (skip s p n ∷ ys) h none_stands = absurd (true≢false (sym h))
ends_there d (stop s ∷ ys) h none_stands = absurd (true≢false none_stands)

is_finished : Progress → Bool
is_finished (Left n) = false
is_finished Finished = true
is_finished Stopped = false

is_stopped : Progress → Bool
is_stopped (Left n) = false
is_stopped Finished = false
is_stopped Stopped = true

finished : (ps : List (List ℕ)) → left_of ps ≡ Finished → ps ≡ []
unfolding is_finished
finished [] e = refl
finished (p ∷ ps) e = absurd (true≢false (sym (ap is_finished e)))

not_stopped : (ps : List (List ℕ)) → left_of ps ≡ Stopped → ⊥
unfolding is_stopped
not_stopped [] e = true≢false (sym (ap is_stopped e))
not_stopped (p ∷ ps) e = true≢false (sym (ap is_stopped e))

-- where the end was seen, and no stop stands, the history is what was seen, and nothing is open
seen_whole : (seen rest : List TreeEntry) → (progress_of seen ≡ Finished) ⊎ (progress_of seen ≡ Stopped) → is_legal (seen ++ rest) ≡ true → has_stop (seen ++ rest) ≡ false → (rest ≡ []) × (open_of (seen ++ rest) ≡ [])
seen_whole seen rest over legal none_stands =
    let quiet = either_false (has_stop seen) (has_stop rest) (sym (has_stop-append seen rest) ∙ none_stands) in
    let progress : progress_of seen ≡ left_of (open_of seen) = rw quiet.0 refl in
    let closed : open_of seen ≡ [] = ⊎_elim (λ e. finished (open_of seen) (sym progress ∙ e)) (λ e. absurd (not_stopped (open_of seen) (sym progress ∙ e))) over in
    let after = legal_rest ([] ∷ []) false seen rest (legal_parts (seen ++ rest) legal).0 in
    let last : rest ≡ [] = ends_there after.0 rest (subst (λ (ps : List (List ℕ)). legal_from ps after.0 rest ≡ true) closed after.1) quiet.1 in
    (last, ap open_of (ap (λ r. seen ++ r) last ∙ append-nil seen) ∙ closed)

-- the same of what a worker has seen
pub nothing_open : (seen H : List Entry) → IsOver seen → Begins seen H → is_legal (entries_of H) ≡ true → has_stop (entries_of H) ≡ false → (entries_of H ≡ entries_of seen) × (open_of (entries_of H) ≡ [])
nothing_open seen H over begins legal none_stands =
    let is : entries_of H ≡ entries_of seen ++ entries_of begins.0 = ap entries_of begins.1 ∙ entries_of-append seen begins.0 in
    let w = seen_whole (entries_of seen) (entries_of begins.0) over (sym (ap is_legal is) ∙ legal) (sym (ap has_stop is) ∙ none_stands) in
    (is ∙ ap (λ r. entries_of seen ++ r) w.0 ∙ append-nil (entries_of seen), ap open_of is ∙ w.1)

pub stop_at : (xs : List Entry) (i : ℕ) (d : Entry) → i < length xs → is_stop (entry_of (get_or xs i d)) ≡ true → has_stop (entries_of xs) ≡ true
stop_at [] i d lt is = absurd (omega arith)
stop_at (x ∷ xs) zero d lt is = rw is refl
stop_at (x ∷ xs) (suc i) d lt is = rw (stop_at xs i d (omega arith) is) (elim (is_stop (entry_of x)) as (λ b. b || true ≡ true) [ true ↦ refl | false ↦ refl ])

stop_later : (xs : List Entry) (i : ℕ) (d : Entry) → i < length xs → has_stop (entries_of (take i xs)) ≡ false → is_stop (entry_of (get_or xs i d)) ≡ false → has_stop (entries_of (take (suc i) xs)) ≡ false
stop_later [] i d lt none_yet is = absurd (omega arith)
stop_later (x ∷ xs) zero d lt none_yet is = rw is refl
stop_later (x ∷ xs) (suc i) d lt none_yet is = let e = either_false (is_stop (entry_of x)) (has_stop (entries_of (take i xs))) none_yet in rw e.0 (stop_later xs i d (omega arith) e.1 is)

pub no_stop_yet : (xs : List Entry) (i : ℕ) (d : Entry) → i < length xs → has_stop (entries_of (take i xs)) ≡ false → is_stop (entry_of (get_or xs i d)) ≡ false → has_stop (entries_of (take (i + 1) xs)) ≡ false
no_stop_yet xs i d lt none_yet is = ap (λ k. has_stop (entries_of (take k xs))) (add-one i) ∙ stop_later xs i d lt none_yet is

-- of at least one seat, what it knows at the end
pub open_at_end : (c : Choices) (plan : Plans) (l : Limit) (book : TableId) (ss : List SeatView) (H : List Entry) → 0 < length ss → AllEnded c plan l book ss → AreLogged H ss → is_legal (entries_of H) ≡ true → has_stop (entries_of H) ≡ false → open_of (entries_of H) ≡ []
open_at_end c plan l book [] H some all logged legal quiet = absurd (omega arith)
open_at_end c plan l book (s ∷ ss) H some all logged legal quiet = (nothing_open s.seen H all.0.2 logged.0.0 legal quiet).1

all_cons : {X : Type 0} (P : X → Type 0) (y : X) (ys : List X) → P y → All P ys → All P (y ∷ ys)
all_cons P y ys p h zero d lt = p
all_cons P y ys p h (suc k) d lt = h k d (omega arith)

pub all_one : {X : Type 0} (P : X → Type 0) (y : X) → P y → All P (y ∷ [])
all_one P y p = all_cons P y [] p (λ k d lt. absurd (omega arith))

all_both : {X : Type 0} (P : X → Type 0) (xs : List X) (x : X) → All P (xs ++ x ∷ []) → All P xs × P x
all_both P [] x h = ((λ k d lt. absurd (omega arith)), h 0 x (omega arith))
all_both P (y ∷ ys) x h = let r = all_both P ys x (λ k d lt. h (suc k) d (omega arith)) in (all_cons P y ys (h 0 y (omega arith)) r.0, r.1)

pub all_last : {X : Type 0} (P : X → Type 0) (all xs : List X) (x : X) → all ≡ xs ++ x ∷ [] → All P all → All P xs × P x
all_last P all xs x is h = all_both P xs x (subst (λ l. All P l) is h)

new_all : (book : TableId) (i n : ℕ) → All (λ s. IsNewSeat book s) (new_seats book i n)
new_all book i zero = λ k d lt. absurd (omega arith)
new_all book i (suc n) = all_cons (λ (s : SeatView). IsNewSeat book s) record { book = book; number = i; seen = [] } (new_seats book (suc i) n) (refl, refl) (new_all book (suc i) n)

pub of_new : (book : TableId) (n : ℕ) (ss : List SeatView) → ss ≡ new_seats book 0 n → All (λ s. IsNewSeat book s) ss × (length ss ≡ n)
of_new book n ss is = (subst (λ (l : List SeatView). All (λ s. IsNewSeat book s) l) (sym is) (new_all book 0 n), ap length is ∙ new_seats-length book 0 n)

-- what follows the plans of a tree is true for it
pub planned_true : (c : Choices) (at : Outputs) (plan : Plans) (es : List TreeEntry) → ((most : Option ℕ) (p : List ℕ) → InChoiceTree c p → IsPlan c at p (plan most p)) → ArePlanned c plan es → AreTrue c at es
planned_true c at plan [] good h = tt
planned_true c at plan (split s p ks ∷ es) good h = (subst (IsPlan c at p) h.0.2 (good h.0.1 p h.0.0), planned_true c at plan es good h.1)
planned_true c at plan (done s p os ∷ es) good h = (subst (IsPlan c at p) h.0.2 (good h.0.1 p h.0.0), planned_true c at plan es good h.1)
planned_true c at plan (skip s p n ∷ es) good h = (tt, planned_true c at plan es good h.1)
planned_true c at plan (stop s ∷ es) good h = (tt, planned_true c at plan es good h.1)

-- so the merged outputs of such a history are those of the tree, as far as they are wanted
pub whole_of : {E : Type 0} (c : Choices) (at : Outputs) (plan : Plans) (l : Limit) (r : Result Closed E) → IsTree c at → ((most : Option ℕ) (p : List ℕ) → InChoiceTree c p → IsPlan c at p (plan most p))
    → IfOk r (λ x. (is_legal (entries_of x.history) ≡ true) × (has_stop (entries_of x.history) ≡ false) × (open_of (entries_of x.history) ≡ [])) → IfOk r (λ x. ArePlanned c plan (entries_of x.history)) → IfOk r (λ x. AreWithin l (entries_of x.history))
    → IfOk r (λ x. part l (merged (entries_of x.history)) ≡ part l (at []))
whole_of c at plan l (Ok x) tree good legal planned within = merged_whole c at l (entries_of x.history) tree legal.0 (planned_true c at plan (entries_of x.history) good planned) within legal.2
whole_of c at plan l (Err e) tree good legal planned within = tt
