-- One worker alone: its entries are in order.
use Rattle.std.proofs.Common.{◌≡◌, Option, ℕ, zero, suc, ◌+◌, ◌<◌, Bool, true, false, ◌||◌, eqb, if◌then◌else◌, Result, Ok, Err, IfOk, List, [], ◌∷◌, ◌++◌, length, sym, refl, ap, ◌∙◌, subst, eq-eqb, true≢false, append-nil, arith}
use Rattle.ap_paths.specs.declared.entries.Entry.{Entry}
use Rattle.ap_paths.specs.declared.entries.Entry.TheVariants.{Split, Done, Skip}
use Rattle.ap_paths.specs.declared.runs.Run.{Run}
use Rattle.ap_defs.specs.Answers.{NominalOut}
use Rattle.ap_paths.specs.Runs.{outs_of_runs}
use Rattle.ap_paths.specs.Entries.{TreeEntry, split, done, skip, stop, entry_of, entries_of}
use Rattle.ap_paths.specs.History.{is_legal, kids_of, has_stop, is_open, open_of, open_from, without, same_path}
use Rattle.ap_paths.specs.Weights.{weigh, is_it, one_if}
use Rattle.ap_paths.proofs.Frontiers.{same_itself, weigh_both, weigh_without}
use Rattle.ap_book.specs.declared.error.BookError.{BookError}
use Rattle.ap_book.specs.declared.error.BookError.TheVariants.{NotOpen}
use Rattle.ap_book.specs.declared.error.DoneError.{DoneError}
use Rattle.ap_book.specs.declared.error.SkipError.{SkipError}
use Rattle.ap_book.specs.declared.error.SkipError.TheVariants as refused
use Rattle.ap_book.specs.Answers.{Refuses, Enters, EntersDone, Skips}
use Rattle.ap_paths.specs.declared.limits.Limit.{Limit}
use Rattle.ap_paths.proofs.Histories.{legal_parts}
use Rattle.ap_tools.specs.Traces.{AreSeats, IsInOrder, EventsLead}
use Rattle.ap_tools.specs.Turns.{AreBy, maker_of, own_places_from, places_of}
use Rattle.ap_tools.specs.Seats.{SeatView, IsTurn, AreLogged, AreMadeBy, logs_of}
use Rattle.ap_tools.proofs.SeatPlaces.{places_from-append}
use Rattle.ap_tools.specs.Order.{Runs, IsSole, IsOrdered}
use Rattle.ap_tools.proofs.OwnEntries.{same_front}
use Rattle.ap_tools.specs.Planned.{Plans, ArePlanned}
use Rattle.ap_tools.proofs.Whole.{entries_of-append, has_stop-append, either_false, AllEnded, nothing_open, are_seats, planned_true}
use Rattle.atomic_table.specs.Seated.{TableId}
use Rattle.ap_paths.specs.declared.entries.Closed.{Closed}
use Rattle.ap_tools.specs.declared.events.Event.{Event}
use Rattle.ap_paths.specs.Trees.{Choices, Outputs, InChoiceTree, IsPlan, AreTrue}
use Rattle.ap_tools.specs.States.{WorkersState, start_state}
use Rattle.ap_tools.proofs.Permitted.{is_permitted}
use Rattle.ap_tools.proofs.OneWorker.{are_in_order}

Paths : Type 0
Paths = List (List ℕ)

pub runs_split : (ps : List (List ℕ)) (es : List TreeEntry) (p : List ℕ) (rest : List (List ℕ)) (s : ℕ) (ks : List ℕ) → Runs ps es (p ∷ rest) → Runs ps (es ++ split s p ks ∷ []) (kids_of p ks ++ rest)
runs_split ps [] p rest s ks r = subst (λ (qs : List (List ℕ)). Runs qs (split s p ks ∷ []) (kids_of p ks ++ rest)) r (refl, refl)
runs_split [] (e ∷ es) p rest s ks r = absurd r
runs_split (q ∷ ps) (split s' q' ks' ∷ es) p rest s ks r = (r.0, runs_split (kids_of q ks' ++ ps) es p rest s ks r.1)
runs_split (q ∷ ps) (done s' q' os ∷ es) p rest s ks r = (r.0, runs_split ps es p rest s ks r.1)
runs_split (q ∷ ps) (skip s' q' n' ∷ es) p rest s ks r = (r.0, runs_split ps es p rest s ks r.1)
runs_split (q ∷ ps) (stop s' ∷ es) p rest s ks r = absurd r

pub runs_done : (ps : List (List ℕ)) (es : List TreeEntry) (p : List ℕ) (rest : List (List ℕ)) (s : ℕ) (os : List NominalOut) → Runs ps es (p ∷ rest) → Runs ps (es ++ done s p os ∷ []) rest
runs_done ps [] p rest s os r = subst (λ (qs : List (List ℕ)). Runs qs (done s p os ∷ []) rest) r (refl, refl)
runs_done [] (e ∷ es) p rest s os r = absurd r
runs_done (q ∷ ps) (split s' q' ks' ∷ es) p rest s os r = (r.0, runs_done (kids_of q ks' ++ ps) es p rest s os r.1)
runs_done (q ∷ ps) (done s' q' os' ∷ es) p rest s os r = (r.0, runs_done ps es p rest s os r.1)
runs_done (q ∷ ps) (skip s' q' n' ∷ es) p rest s os r = (r.0, runs_done ps es p rest s os r.1)
runs_done (q ∷ ps) (stop s' ∷ es) p rest s os r = absurd r

pub runs_skip : (ps : List (List ℕ)) (es : List TreeEntry) (p : List ℕ) (rest : List (List ℕ)) (s n : ℕ) → Runs ps es (p ∷ rest) → Runs ps (es ++ skip s p n ∷ []) rest
runs_skip ps [] p rest s n r = subst (λ (qs : List (List ℕ)). Runs qs (skip s p n ∷ []) rest) r (refl, refl)
runs_skip [] (e ∷ es) p rest s n r = absurd r
runs_skip (q ∷ ps) (split s' q' ks' ∷ es) p rest s n r = (r.0, runs_skip (kids_of q ks' ++ ps) es p rest s n r.1)
runs_skip (q ∷ ps) (done s' q' os' ∷ es) p rest s n r = (r.0, runs_skip ps es p rest s n r.1)
runs_skip (q ∷ ps) (skip s' q' n' ∷ es) p rest s n r = (r.0, runs_skip ps es p rest s n r.1)
runs_skip (q ∷ ps) (stop s' ∷ es) p rest s n r = absurd r

pub runs_in_order : (ps : List (List ℕ)) (es : List TreeEntry) (qs : List (List ℕ)) → Runs ps es qs → IsInOrder ps es
runs_in_order ps [] qs r = tt
runs_in_order [] (e ∷ es) qs r = absurd r
runs_in_order (p ∷ ps) (split s q ks ∷ es) qs r = (r.0, runs_in_order (kids_of p ks ++ ps) es qs r.1)
runs_in_order (p ∷ ps) (done s q os ∷ es) qs r = (r.0, runs_in_order ps es qs r.1)
runs_in_order (p ∷ ps) (skip s q n ∷ es) qs r = (r.0, runs_in_order ps es qs r.1)
runs_in_order (p ∷ ps) (stop s ∷ es) qs r = absurd r

-- a path that weighs something is open
open_weighs : (p : List ℕ) (ps : List (List ℕ)) → 0 < weigh (is_it p) ps → is_open p ps ≡ true
open_weighs p [] h = absurd (omega arith)
open_weighs p (q ∷ qs) h =
    let step : (b : Bool) → 0 < one_if b + weigh (is_it p) qs → b || is_open p qs ≡ true = λ b.
    elim b as (λ b. 0 < one_if b + weigh (is_it p) qs → b || is_open p qs ≡ true) [ true ↦ λ g. refl | false ↦ λ g. open_weighs p qs (omega arith) ] in
    step (same_path p q) h

first_open : (p : List ℕ) (ps os : List (List ℕ)) → ((h : List ℕ → ℕ) → weigh h (p ∷ ps) ≡ weigh h os) → is_open p os ≡ true
first_open p ps os same =
    let one : is_it p p ≡ 1 = ap one_if (same_itself p) in
    let w = same (is_it p) in
    open_weighs p os (omega arith)

-- what is open is what is in the hand
pub runs_open : (ps os : List (List ℕ)) (es : List TreeEntry) (qs : List (List ℕ)) → Runs ps es qs → ((h : List ℕ → ℕ) → weigh h ps ≡ weigh h os) → (h : List ℕ → ℕ) → weigh h qs ≡ weigh h (open_from os es)
runs_open ps os [] qs r same h = ap (weigh h) r ∙ same h
runs_open [] os (e ∷ es) qs r same h = absurd r
runs_open (p ∷ ps) os (split s q ks ∷ es) qs r same h =
    let there = subst (λ (x : List ℕ). is_open x os ≡ true) (sym r.0) (first_open p ps os same) in
    let step : (g : List ℕ → ℕ) → weigh g (kids_of p ks ++ ps) ≡ weigh g (without q os ++ kids_of q ks) = λ g.
    let a = weigh_both g (kids_of p ks) ps in
    let b = weigh_both g (without q os) (kids_of q ks) in
    let c = weigh_without g q os there in
    let d = same g in
    let e : g q ≡ g p = ap g r.0 in
    let f : weigh g (kids_of q ks) ≡ weigh g (kids_of p ks) = ap (λ (x : List ℕ). weigh g (kids_of x ks)) r.0 in
    omega arith in
    runs_open (kids_of p ks ++ ps) (without q os ++ kids_of q ks) es qs r.1 step h
runs_open (p ∷ ps) os (done s q ends ∷ es) qs r same h =
    let there = subst (λ (x : List ℕ). is_open x os ≡ true) (sym r.0) (first_open p ps os same) in
    let step : (g : List ℕ → ℕ) → weigh g ps ≡ weigh g (without q os) = λ g.
    let c = weigh_without g q os there in
    let d = same g in
    let e : g q ≡ g p = ap g r.0 in
    omega arith in
    runs_open ps (without q os) es qs r.1 step h
runs_open (p ∷ ps) os (skip s q n ∷ es) qs r same h =
    let there = subst (λ (x : List ℕ). is_open x os ≡ true) (sym r.0) (first_open p ps os same) in
    let step : (g : List ℕ → ℕ) → weigh g ps ≡ weigh g (without q os) = λ g.
    let c = weigh_without g q os there in
    let d = same g in
    let e : g q ≡ g p = ap g r.0 in
    omega arith in
    runs_open ps (without q os) es qs r.1 step h
runs_open (p ∷ ps) os (stop s ∷ es) qs r same h = absurd r

pub runs_first : (es : List TreeEntry) (p : List ℕ) (rest : List (List ℕ)) → Runs ([] ∷ []) es (p ∷ rest) → is_open p (open_of es) ≡ true
runs_first es p rest r = first_open p rest (open_of es) (runs_open ([] ∷ []) ([] ∷ []) es (p ∷ rest) r (λ h. refl))

-- where all entries are the seat's own, nothing came between
by_both : (n : ℕ) (xs ys : List Entry) → AreBy n (xs ++ ys) → AreBy n xs × AreBy n ys
by_both n [] ys h = (tt, h)
by_both n (x ∷ xs) ys h = let r = by_both n xs ys h.1 in ((h.0, r.0), r.1)

none_left : (i n : ℕ) (es : List Entry) → AreBy n es → own_places_from i n es ≡ [] → es ≡ []
none_left i n [] by e = refl
none_left i n (x ∷ xs) by e =
    let step : (b : Bool) → b ≡ true → (if b then i ∷ own_places_from (suc i) n xs else own_places_from (suc i) n xs) ≡ [] → x ∷ xs ≡ [] = λ b.
    elim b as (λ b. b ≡ true → (if b then i ∷ own_places_from (suc i) n xs else own_places_from (suc i) n xs) ≡ [] → x ∷ xs ≡ []) [ true ↦ λ is nil. absurd (let k = ap length nil in omega arith) | false ↦ λ is nil. absurd (true≢false (sym is)) ] in
    step (eqb (maker_of x) n) (eq-eqb (maker_of x) n by.0) e

nothing_between : (old : SeatView) (turn : List Entry) → IsTurn old turn → AreBy old.number turn → turn ≡ old.seen
nothing_between old turn is by =
    let rest = is.0.0 in
    let begins = is.0.1 in
    let n = old.number in
    let parts = by_both n old.seen rest (subst (AreBy n) begins by) in
    let all = sym (places_from-append 0 n old.seen rest) ∙ ap (places_of n) (sym begins) ∙ is.1 in
    let nil = same_front (places_of n old.seen) (own_places_from (0 + length old.seen) n rest) all in
    begins ∙ ap (λ l. old.seen ++ l) (none_left (0 + length old.seen) n rest parts.1 nil) ∙ append-nil old.seen

pub quiet_front : (turn : List Entry) (es : List Entry) → has_stop (entries_of (turn ++ es)) ≡ false → has_stop (entries_of turn) ≡ false
quiet_front turn es q = (either_false (has_stop (entries_of turn)) (has_stop (entries_of es)) (sym (has_stop-append (entries_of turn) (entries_of es)) ∙ ap has_stop (sym (entries_of-append turn es)) ∙ q)).0

-- a turn that enters nothing
pub sole_seen : (old : SeatView) (n : ℕ) (turn : List Entry) (hand : List (List ℕ)) → n ≡ old.number → IsTurn old turn → IsSole hand old.number old.seen → IsSole hand n turn
sole_seen old n turn hand same is sole quiet by =
    let own = subst (λ (k : ℕ). AreBy k turn) same by in
    let all = nothing_between old turn is own in
    subst (λ (l : List Entry). Runs ([] ∷ []) (entries_of l) hand) (sym all) (sole (subst (λ (l : List Entry). has_stop (entries_of l) ≡ false) all quiet) (subst (AreBy old.number) all own))

-- the path was there
sole_not_open : (old : SeatView) (n : ℕ) (turn after : List Entry) (p : List ℕ) (rest hand : List (List ℕ)) → n ≡ old.number → IsTurn old turn → after ≡ turn → is_open p (open_of (entries_of turn)) ≡ false → IsSole (p ∷ rest) old.number old.seen → IsSole hand n after
sole_not_open old n turn after p rest hand same is stays closed sole quiet by =
    let r = sole_seen old n turn (p ∷ rest) same is sole (subst (λ (l : List Entry). has_stop (entries_of l) ≡ false) stays quiet) (subst (AreBy n) stays by) in
    absurd (true≢false (sym (runs_first (entries_of turn) p rest r) ∙ closed))

sole_entered : (old : SeatView) (n : ℕ) (turn after : List Entry) (e : Entry) (hand later : List (List ℕ)) → n ≡ old.number → IsTurn old turn → after ≡ turn ++ e ∷ [] → (Runs ([] ∷ []) (entries_of turn) hand → Runs ([] ∷ []) (entries_of turn ++ entry_of e ∷ []) later)
    → IsSole hand old.number old.seen → IsSole later n after
sole_entered old n turn after e hand later same is grown runs sole quiet by =
    let q = quiet_front turn (e ∷ []) (ap (λ (l : List Entry). has_stop (entries_of l)) (sym grown) ∙ quiet) in
    let own = (by_both n turn (e ∷ []) (subst (AreBy n) grown by)).0 in
    subst (λ (l : List TreeEntry). Runs ([] ∷ []) l later) (sym (ap entries_of grown ∙ entries_of-append turn (e ∷ []))) (runs (sole_seen old n turn hand same is sole q own))

pub sole_split : {X : Type 0} (old : SeatView) (n : ℕ) (turn after : List Entry) (p ks : List ℕ) (hand : List (List ℕ)) (x : X) → n ≡ old.number → IsTurn old turn → Enters turn p (Split old.number p ks) (Ok x) after
    → IsSole (p ∷ hand) old.number old.seen → IsSole (kids_of p ks ++ hand) n after
sole_split old n turn after p ks hand x same is enters sole =
    sole_entered old n turn after (Split old.number p ks) (p ∷ hand) (kids_of p ks ++ hand) same is enters.1 (λ r. runs_split ([] ∷ []) (entries_of turn) p hand old.number ks r) sole

pub sole_done : {X : Type 0} (old : SeatView) (n : ℕ) (turn after : List Entry) (p : List ℕ) (os : List Run) (hand : List (List ℕ)) (x : X) → n ≡ old.number → IsTurn old turn → EntersDone turn p os (Done old.number p os) (Ok x) after
    → IsSole (p ∷ hand) old.number old.seen → IsSole hand n after
sole_done old n turn after p os hand x same is enters sole =
    sole_entered old n turn after (Done old.number p os) (p ∷ hand) hand same is enters.1 (λ r. runs_done ([] ∷ []) (entries_of turn) p hand old.number (outs_of_runs os) r) sole

pub sole_skipped : {X : Type 0} (old : SeatView) (n : ℕ) (turn after : List Entry) (p : List ℕ) (l : Limit) (hand : List (List ℕ)) (x : X) → n ≡ old.number → IsTurn old turn → Skips turn p l old.number (Ok x) after
    → IsSole (p ∷ hand) old.number old.seen → IsSole hand n after
sole_skipped old n turn after p l hand x same is skips sole =
    sole_entered old n turn after (Skip old.number p skips.1.0) (p ∷ hand) hand same is skips.1.2 (λ r. runs_skip ([] ∷ []) (entries_of turn) p hand old.number skips.1.0 r) sole

pub sole_refused : (old : SeatView) (n : ℕ) (turn after : List Entry) (p : List ℕ) (rest hand : List (List ℕ)) → n ≡ old.number → IsTurn old turn → (is_open p (open_of (entries_of turn)) ≡ false) × (after ≡ turn) → IsSole (p ∷ rest) old.number old.seen → IsSole hand n after
sole_refused old n turn after p rest hand same is refused sole = sole_not_open old n turn after p rest hand same is refused.1 refused.0 sole

pub sole_not_split : {X : Type 0} (old : SeatView) (n : ℕ) (turn after : List Entry) (p : List ℕ) (e : Entry) (rest : List (List ℕ)) (r : Result X BookError) → r ≡ Err NotOpen → n ≡ old.number → IsTurn old turn → Enters turn p e r after
    → IsSole (p ∷ rest) old.number old.seen → IsSole rest n after
sole_not_split {X} old n turn after p e rest r not same is enters sole =
    sole_refused old n turn after p rest rest same is (subst (λ (x : Result X BookError). Enters turn p e x after) not enters) sole

pub sole_not_done : {X : Type 0} (old : SeatView) (n : ℕ) (turn after : List Entry) (p : List ℕ) (os : List Run) (e : Entry) (rest : List (List ℕ)) (r : Result X DoneError) (d : DoneError) → r ≡ Err d → d.cause ≡ NotOpen → n ≡ old.number → IsTurn old turn
    → EntersDone turn p os e r after → IsSole (p ∷ rest) old.number old.seen → IsSole rest n after
sole_not_done {X} old n turn after p os e rest r d not cause same is enters sole =
    let f = subst (λ (x : Result X DoneError). EntersDone turn p os e x after) not enters in
    sole_refused old n turn after p rest rest same is (subst (Refuses turn p) cause f.0, f.2) sole

pub sole_not_skipped : {X : Type 0} (old : SeatView) (n : ℕ) (turn after : List Entry) (p : List ℕ) (l : Limit) (rest : List (List ℕ)) (r : Result X SkipError) → r ≡ Err refused.NotOpen → n ≡ old.number → IsTurn old turn → Skips turn p l old.number r after
    → IsSole (p ∷ rest) old.number old.seen → IsSole rest n after
sole_not_skipped {X} old n turn after p l rest r not same is skips sole =
    sole_refused old n turn after p rest rest same is (subst (λ (x : Result X SkipError). Skips turn p l old.number x after) not skips) sole

-- the path is still to be visited
pub sole_needed : {X : Type 0} (old : SeatView) (n : ℕ) (turn after : List Entry) (p : List ℕ) (l : Limit) (hand : List (List ℕ)) (r : Result X SkipError) (k : ℕ) → r ≡ Err (refused.Needed k) → n ≡ old.number → IsTurn old turn → Skips turn p l old.number r after
    → IsSole hand old.number old.seen → IsSole hand n after
sole_needed {X} old n turn after p l hand r k needed same is skips sole =
    let s = subst (λ (x : Result X SkipError). Skips turn p l old.number x after) needed skips in
    subst (λ (h : List Entry). IsSole hand n h) (sym s.1) (sole_seen old n turn hand same is sole)

pub if_ok_map : {X E : Type 0} (P Q : Type 0) (r : Result X E) → IfOk r (λ _. P) → (P → Q) → IfOk r (λ _. Q)
if_ok_map P Q (Ok x) h f = f h
if_ok_map P Q (Err e) h f = tt

-- at the start
pub sole_start : (n : ℕ) (seen : List Entry) (hand : List (List ℕ)) → seen ≡ [] → hand ≡ [] ∷ [] → IsSole hand n seen
sole_start n seen hand none one quiet by = subst (λ (l : List Entry). Runs ([] ∷ []) (entries_of l) hand) (sym none) one

-- after a stop
pub sole_stopped : (hand : List (List ℕ)) (n : ℕ) (seen : List Entry) → has_stop (entries_of seen) ≡ true → IsSole hand n seen
sole_stopped hand n seen stands quiet by = absurd (true≢false (sym stands ∙ quiet))

-- at the end
pub sole_ordered : (hand : List (List ℕ)) (n : ℕ) (seen : List Entry) → IsSole hand n seen → IsOrdered n seen
sole_ordered hand n seen sole quiet by = runs_in_order ([] ∷ []) (entries_of seen) hand (sole quiet by)

less_zero : (a : ℕ) → a < 1 → a ≡ 0
less_zero a lt = omega arith

pub seats_by : (es : List Entry) → AreSeats 1 (entries_of es) → AreBy 0 es
seats_by [] h = tt
seats_by (e ∷ es) h = (less_zero (maker_of e) h.0, seats_by es h.1)

-- the whole history is in order where one worker made it
pub ordered_whole : (c : Choices) (plan : Plans) (l : Limit) (book : TableId) (count : ℕ) (ss : List SeatView) (s : SeatView) (H : List Entry) → AllEnded c plan l book ss → AreLogged H ss → AreMadeBy count ss H → is_legal (entries_of H) ≡ true → has_stop (entries_of H) ≡ false
    → ss ≡ s ∷ [] → s.number ≡ 0 → count ≡ 1 → IsOrdered s.number s.seen → IsInOrder ([] ∷ []) (entries_of H)
ordered_whole c plan l book count ss s H all logged made legal quiet is zeroth one ordered =
    let a = subst (λ (v : List SeatView). AllEnded c plan l book v) is all in
    let k = subst (λ (v : List SeatView). AreLogged H v) is logged in
    let w = nothing_open s.seen H a.0.2 k.0.0 legal quiet in
    let seats = subst (λ (l : List TreeEntry). AreSeats 1 l) w.0 (subst (λ (n : ℕ). AreSeats n (entries_of H)) one (are_seats count ss H made)) in
    let by = subst (λ (n : ℕ). AreBy n s.seen) (sym zeroth) (seats_by s.seen seats) in
    subst (λ (l : List TreeEntry). IsInOrder ([] ∷ []) l) (sym w.0) (ordered (sym (ap has_stop w.0) ∙ quiet) by)

permitted_at : (c : Choices) (at : Outputs) (n : ℕ) (h : List TreeEntry) → 0 < n → is_legal h ≡ true → has_stop h ≡ false → AreTrue c at h → AreSeats n h → (n ≡ 1 → IsInOrder ([] ∷ []) h) → (t : WorkersState) × (events : List Event) × EventsLead c at (start_state n) events t h
permitted_at c at zero h some legal quiet true_of seats order = absurd (omega arith)
permitted_at c at (suc zero) h some legal quiet true_of seats order = (are_in_order c at h).1 seats true_of (order refl) (legal_parts h legal).1
permitted_at c at (suc (suc m)) h some legal quiet true_of seats order = is_permitted c at (suc (suc m)) h (omega arith) legal true_of quiet seats

-- the history is that of a permitted list of events
pub permitted_of : {E : Type 0} (c : Choices) (at : Outputs) (plan : Plans) (n : ℕ) (r : Result Closed E) → 0 < n → ((most : Option ℕ) (p : List ℕ) → InChoiceTree c p → IsPlan c at p (plan most p))
    → IfOk r (λ x. (is_legal (entries_of x.history) ≡ true) × (has_stop (entries_of x.history) ≡ false) × (open_of (entries_of x.history) ≡ [])) → IfOk r (λ x. ArePlanned c plan (entries_of x.history))
    → IfOk r (λ x. (x.logs ≡ logs_of n x.history) × AreSeats n (entries_of x.history)) → (n ≡ 1 → IfOk r (λ x. IsInOrder ([] ∷ []) (entries_of x.history)))
    → IfOk r (λ x. (t : WorkersState) × (events : List Event) × EventsLead c at (start_state n) events t (entries_of x.history))
permitted_of c at plan n (Ok x) some good legal planned seats order = permitted_at c at n (entries_of x.history) some legal.0 legal.1 (planned_true c at plan (entries_of x.history) good planned) seats.1 order
permitted_of c at plan n (Err e) some good legal planned seats order = tt
