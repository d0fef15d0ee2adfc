-- The account of a worker, step by step.
use Rattle.std.proofs.Common.{◌≡◌, ℕ, zero, suc, ◌+◌, ◌<◌, Bool, true, false, eqb, if◌then◌else◌, Result, Ok, Err, IfOk, List, [], ◌∷◌, ◌++◌, length, get_or, set, sym, refl, ap, ◌∙◌, subst, ◌⊎◌, ⊎_elim, eq-eqb, append-nil, append_assoc, arith}
use Rattle.ap_paths.specs.declared.entries.Entry.{Entry}
use Rattle.ap_paths.specs.declared.entries.Entry.TheVariants.{Split, Done, Skip, Stop}
use Rattle.ap_paths.specs.declared.runs.Run.{Run}
use Rattle.ap_paths.specs.declared.limits.Limit.{Limit}
use Rattle.ap_paths.specs.Entries.{entries_of}
use Rattle.ap_paths.specs.History.{kids_of, is_open, open_of, has_stop}
use Rattle.ap_paths.specs.Weights.{weigh}
use Rattle.ap_paths.proofs.Frontiers.{weigh_both}
use Rattle.ap_book.specs.declared.error.BookError.{BookError}
use Rattle.ap_book.specs.declared.error.BookError.TheVariants.{NotOpen}
use Rattle.ap_book.specs.declared.error.DoneError.{DoneError}
use Rattle.ap_book.specs.declared.error.SkipError.{SkipError}
use Rattle.ap_book.specs.declared.error.SkipError.TheVariants as refused
use Rattle.ap_book.specs.Answers.{Refuses, Enters, EntersDone, Skips}
use Rattle.ap_tools.specs.declared.deques.hand.Hand.{Hand}
use Rattle.ap_tools.specs.Rule.{hand}
use Rattle.ap_tools.specs.Ends.{ThiefView}
use Rattle.ap_tools.specs.Owners.{stolen_of}
use Rattle.ap_tools.specs.Thieves.{Stole}
use Rattle.ap_tools.specs.declared.deques.thief.Stolen.{Stolen}
use Rattle.ap_tools.specs.declared.deques.thief.Stolen.TheVariants.{Empty, Again}
use Rattle.ap_tools.specs.Turns.{Begins, maker_of, own_places_from, places_of}
use Rattle.ap_tools.specs.Seats.{SeatView, IsTurn}
use Rattle.ap_tools.proofs.SeatPlaces.{places_from-append}
use Rattle.ap_tools.specs.declared.tools.Tools.{Tools}
use Rattle.ap_tools.specs.Hands.{held}
use Rattle.ap_tools.specs.Accounts.{entries_by, opened_kids, ended_paths, fetched, Took, came, kept_weight, AreShut, EndsJust, NoneLost}
use Rattle.ap_tools.proofs.OwnEntries.{same_front}
use Rattle.ap_tools.proofs.Sole.{quiet_front}

made_by-append : (n : ℕ) (xs ys : List Entry) → entries_by n (xs ++ ys) ≡ entries_by n xs ++ entries_by n ys
made_by-append n [] ys = refl
made_by-append n (x ∷ xs) ys =
    let r = made_by-append n xs ys in
    elim (eqb (maker_of x) n) as (λ b. (if b then x ∷ entries_by n (xs ++ ys) else entries_by n (xs ++ ys)) ≡ (if b then x ∷ entries_by n xs else entries_by n xs) ++ entries_by n ys) [ true ↦ ap (λ l. x ∷ l) r | false ↦ r ]

none_made : (i n : ℕ) (es : List Entry) → own_places_from i n es ≡ [] → entries_by n es ≡ []
none_made i n [] e = refl
none_made i n (x ∷ xs) e =
    let step : (b : Bool) → (if b then i ∷ own_places_from (suc i) n xs else own_places_from (suc i) n xs) ≡ [] → (if b then x ∷ entries_by n xs else entries_by n xs) ≡ [] = λ b.
    elim b as (λ b. (if b then i ∷ own_places_from (suc i) n xs else own_places_from (suc i) n xs) ≡ [] → (if b then x ∷ entries_by n xs else entries_by n xs) ≡ []) [ true ↦ λ nil. absurd (let k = ap length nil in omega arith) | false ↦ λ nil. none_made (suc i) n xs nil ] in
    step (eqb (maker_of x) n) e

-- a turn has no other entries of the seat
made_turn : (old : SeatView) (turn : List Entry) → IsTurn old turn → entries_by old.number turn ≡ entries_by old.number old.seen
made_turn old turn is =
    let n = old.number in
    let rest = is.0.0 in
    let all = sym (places_from-append 0 n old.seen rest) ∙ ap (places_of n) (sym is.0.1) ∙ is.1 in
    let nil = same_front (places_of n old.seen) (own_places_from (0 + length old.seen) n rest) all in
    ap (entries_by n) is.0.1 ∙ made_by-append n old.seen rest ∙ ap (λ l. entries_by n old.seen ++ l) (none_made (0 + length old.seen) n rest nil) ∙ append-nil (entries_by n old.seen)

-- and one more at its end
made_more : (old : SeatView) (turn after : List Entry) (e : Entry) → maker_of e ≡ old.number → IsTurn old turn → after ≡ turn ++ e ∷ [] → entries_by old.number after ≡ entries_by old.number old.seen ++ e ∷ []
made_more old turn after e mine is grown =
    let n = old.number in
    let one : entries_by n (e ∷ []) ≡ e ∷ [] = rw (eq-eqb (maker_of e) n mine) refl in
    ap (entries_by n) grown ∙ made_by-append n turn (e ∷ []) ∙ ap (λ l. l ++ entries_by n (e ∷ [])) (made_turn old turn is) ∙ ap (λ l. entries_by n old.seen ++ l) one

opened-append : (xs ys : List Entry) → opened_kids (xs ++ ys) ≡ opened_kids xs ++ opened_kids ys
opened-append [] ys = refl
opened-append (Split s p ks ∷ xs) ys = ap (λ l. kids_of p ks ++ l) (opened-append xs ys) ∙ sym (append_assoc (kids_of p ks) (opened_kids xs) (opened_kids ys))
opened-append (Done s p os ∷ xs) ys = opened-append xs ys
opened-append (Skip s p n ∷ xs) ys = opened-append xs ys
opened-append (Stop s ∷ xs) ys = opened-append xs ys

ended-append : (xs ys : List Entry) → ended_paths (xs ++ ys) ≡ ended_paths xs ++ ended_paths ys
ended-append [] ys = refl
ended-append (Split s p ks ∷ xs) ys = ap (λ l. p ∷ l) (ended-append xs ys)
ended-append (Done s p os ∷ xs) ys = ap (λ l. p ∷ l) (ended-append xs ys)
ended-append (Skip s p n ∷ xs) ys = ap (λ l. p ∷ l) (ended-append xs ys)
ended-append (Stop s ∷ xs) ys = ended-append xs ys

-- what was opened and ended, after one more entry
opened_more : (h : List ℕ → ℕ) (old : SeatView) (turn after : List Entry) (e : Entry) → maker_of e ≡ old.number → IsTurn old turn → after ≡ turn ++ e ∷ [] → weigh h (opened_kids (entries_by old.number after)) ≡ weigh h (opened_kids (entries_by old.number old.seen)) + weigh h (opened_kids (e ∷ []))
opened_more h old turn after e mine is grown =
    let before = entries_by old.number old.seen in
    ap (λ (l : List Entry). weigh h (opened_kids l)) (made_more old turn after e mine is grown) ∙ ap (weigh h) (opened-append before (e ∷ [])) ∙ weigh_both h (opened_kids before) (opened_kids (e ∷ []))

ended_more : (h : List ℕ → ℕ) (old : SeatView) (turn after : List Entry) (e : Entry) → maker_of e ≡ old.number → IsTurn old turn → after ≡ turn ++ e ∷ [] → weigh h (ended_paths (entries_by old.number after)) ≡ weigh h (ended_paths (entries_by old.number old.seen)) + weigh h (ended_paths (e ∷ []))
ended_more h old turn after e mine is grown =
    let before = entries_by old.number old.seen in
    ap (λ (l : List Entry). weigh h (ended_paths l)) (made_more old turn after e mine is grown) ∙ ap (weigh h) (ended-append before (e ∷ [])) ∙ weigh_both h (ended_paths before) (ended_paths (e ∷ []))

begins_then : (a b c : List Entry) → Begins a b → Begins b c → Begins a c
begins_then a b c f g = (f.0 ++ g.0, g.1 ∙ ap (λ l. l ++ g.0) f.1 ∙ append_assoc a f.0 g.0)

begins_same : (a : List Entry) → Begins a a
begins_same a = ([], sym (append-nil a))

begins_more : (old : SeatView) (turn after : List Entry) (e : Entry) → IsTurn old turn → after ≡ turn ++ e ∷ [] → Begins old.seen after
begins_more old turn after e is grown = begins_then old.seen turn after is.0 (e ∷ [], grown)

-- one path that was not open at the last turn
one_shut : (old : SeatView) (turn after : List Entry) (p : List ℕ) → IsTurn old turn → (is_open p (open_of (entries_of turn)) ≡ false) × (after ≡ turn) → AreShut old.seen (p ∷ []) after
one_shut old turn after p is not = let ends : Begins turn after = ([], not.1 ∙ sym (append-nil turn)) in ((turn, is.0, ends, not.0), begins_then old.seen turn after is.0 ends)

shut_more : (a b c : List Entry) (ps : List (List ℕ)) → AreShut a ps b → Begins b c → AreShut a ps c
shut_more a b c [] f g = begins_then a b c f g
shut_more a b c (p ∷ ps) f g = ((f.0.0, f.0.1, begins_then f.0.0 b c f.0.2 g, f.0.3), shut_more a b c ps f.1 g)

shut_later : (a b c : List Entry) (ps : List (List ℕ)) → Begins a b → AreShut b ps c → AreShut a ps c
shut_later a b c [] f g = begins_then a b c f g
shut_later a b c (p ∷ ps) f g = ((g.0.0, begins_then a b g.0.0 f g.0.1, g.0.2, g.0.3), shut_later a b c ps f g.1)

shut_both : (a c : List Entry) (ps qs : List (List ℕ)) → AreShut a ps c → AreShut a qs c → AreShut a (ps ++ qs) c
shut_both a c [] qs f g = g
shut_both a c (p ∷ ps) qs f g = (f.0, shut_both a c ps qs f.1 g)

pub shut_begins : (a c : List Entry) (ps : List (List ℕ)) → AreShut a ps c → Begins a c
shut_begins a c [] f = f
shut_begins a c (p ∷ ps) f = shut_begins a c ps f.1

-- a turn in which nothing was entered
pub ends_none : (old : SeatView) (turn : List Entry) → IsTurn old turn → EndsJust old.number old.seen [] turn
ends_none old turn is = let same = made_turn old turn is in (ap opened_kids same, ([], is.0, λ h. ap (λ (l : List Entry). weigh h (ended_paths l) + 0) same))

-- a turn in which a path was not open
ends_shut : (old : SeatView) (turn after : List Entry) (p : List ℕ) → IsTurn old turn → (is_open p (open_of (entries_of turn)) ≡ false) × (after ≡ turn) → EndsJust old.number old.seen (p ∷ []) after
ends_shut old turn after p is not =
    let same = ap (entries_by old.number) not.1 ∙ made_turn old turn is in
    (ap opened_kids same, (p ∷ [], one_shut old turn after p is not, λ h. ap (λ (l : List Entry). weigh h (ended_paths l) + (h p + 0)) same))

-- a turn in which a path was ended without kids
ends_one : (old : SeatView) (turn after : List Entry) (p : List ℕ) (e : Entry) → maker_of e ≡ old.number → opened_kids (e ∷ []) ≡ [] → ended_paths (e ∷ []) ≡ p ∷ [] → IsTurn old turn → after ≡ turn ++ e ∷ [] → EndsJust old.number old.seen (p ∷ []) after
ends_one old turn after p e mine none one is grown =
    let n = old.number in
    let before = entries_by n old.seen in
    let same : opened_kids (entries_by n after) ≡ opened_kids before = ap opened_kids (made_more old turn after e mine is grown) ∙ opened-append before (e ∷ []) ∙ ap (λ l. opened_kids before ++ l) none ∙ append-nil (opened_kids before) in
    let step : (h : List ℕ → ℕ) → weigh h (ended_paths (entries_by n after)) + 0 ≡ weigh h (ended_paths before) + (h p + 0) = λ h.
    let more = ended_more h old turn after e mine is grown in
    let w : weigh h (ended_paths (e ∷ [])) ≡ h p + 0 = ap (weigh h) one in
    omega arith in
    (same, ([], begins_more old turn after e is grown, step))

pub ends_done : {X : Type 0} (old : SeatView) (turn after : List Entry) (p : List ℕ) (os : List Run) (x : X) → IsTurn old turn → EntersDone turn p os (Done old.number p os) (Ok x) after → EndsJust old.number old.seen (p ∷ []) after
ends_done old turn after p os x is enters = ends_one old turn after p (Done old.number p os) refl refl refl is enters.1

pub ends_not_done : {X : Type 0} (old : SeatView) (turn after : List Entry) (p : List ℕ) (os : List Run) (e : Entry) (r : Result X DoneError) (d : DoneError) → r ≡ Err d → d.cause ≡ NotOpen → IsTurn old turn → EntersDone turn p os e r after → EndsJust old.number old.seen (p ∷ []) after
ends_not_done {X} old turn after p os e r d not cause is enters =
    let f = subst (λ (x : Result X DoneError). EntersDone turn p os e x after) not enters in
    ends_shut old turn after p is (subst (Refuses turn p) cause f.0, f.2)

pub ends_skip : {X : Type 0} (old : SeatView) (turn after : List Entry) (p : List ℕ) (l : Limit) (x : X) → IsTurn old turn → Skips turn p l old.number (Ok x) after → EndsJust old.number old.seen (p ∷ []) after
ends_skip old turn after p l x is skips = ends_one old turn after p (Skip old.number p skips.1.0) refl refl refl is skips.1.2

pub ends_not_skip : {X : Type 0} (old : SeatView) (turn after : List Entry) (p : List ℕ) (l : Limit) (n : ℕ) (r : Result X SkipError) → r ≡ Err refused.NotOpen → IsTurn old turn → Skips turn p l n r after → EndsJust old.number old.seen (p ∷ []) after
ends_not_skip {X} old turn after p l n r not is skips = ends_shut old turn after p is (subst (λ (x : Result X SkipError). Skips turn p l n x after) not skips)

pub ends_needed : {X : Type 0} (old : SeatView) (turn after : List Entry) (p : List ℕ) (l : Limit) (n k : ℕ) (r : Result X SkipError) → r ≡ Err (refused.Needed k) → IsTurn old turn → Skips turn p l n r after → EndsJust old.number old.seen [] after
ends_needed {X} old turn after p l n k r needed is skips =
    let f = subst (λ (x : Result X SkipError). Skips turn p l n x after) needed skips in
    subst (λ (t : List Entry). EndsJust old.number old.seen [] t) (sym f.1) (ends_none old turn is)

-- entries alone leave what a worker holds
pub ends_keep : {W : Type 0} (n : ℕ) (seen after : List Entry) (ps : List (List ℕ)) (t : Tools W) → EndsJust n seen ps after → NoneLost n seen t ps after t
ends_keep {W} n seen after ps t ends =
    let e = ends.1 in
    let step : (h : List ℕ → ℕ) → (kept_weight h n after t + weigh h e.0) + came h n seen t ≡ (kept_weight h n seen t + weigh h ps) + came h n after t = λ h.
    let a = e.2 h in
    let b : weigh h (opened_kids (entries_by n after)) ≡ weigh h (opened_kids (entries_by n seen)) = ap (weigh h) ends.0 in
    omega arith in
    (e.0, e.1, step)

-- a split, whose kids the worker takes
pub split_keeps : {W X : Type 0} (old : SeatView) (turn after : List Entry) (p ks : List ℕ) (x : X) (t u : Tools W) → IsTurn old turn → Enters turn p (Split old.number p ks) (Ok x) after
    → ((h : List ℕ → ℕ) → (held h u ≡ weigh h (kids_of p ks) + held h t) × (fetched h u ≡ fetched h t)) → NoneLost old.number old.seen t (p ∷ []) after u
split_keeps {W} {X} old turn after p ks x t u is enters takes =
    let n = old.number in
    let e = Split n p ks in
    let step : (h : List ℕ → ℕ) → (kept_weight h n after u + 0) + came h n old.seen t ≡ (kept_weight h n old.seen t + (h p + 0)) + came h n after u = λ h.
    let a : weigh h (ended_paths (entries_by n after)) ≡ weigh h (ended_paths (entries_by n old.seen)) + (h p + 0) = ended_more h old turn after e refl is enters.1 in
    let b = opened_more h old turn after e refl is enters.1 in
    let c : weigh h (kids_of p ks ++ []) ≡ weigh h (kids_of p ks) + 0 = weigh_both h (kids_of p ks) [] in
    let d = takes h in
    let f = d.0 in
    let k = d.1 in
    omega arith in
    ([], begins_more old turn after e is enters.1, step)

pub not_split_keeps : {W X : Type 0} (old : SeatView) (turn after : List Entry) (p : List ℕ) (e : Entry) (r : Result X BookError) (t : Tools W) → r ≡ Err NotOpen → IsTurn old turn → Enters turn p e r after → NoneLost old.number old.seen t (p ∷ []) after t
not_split_keeps {W} {X} old turn after p e r t not is enters = ends_keep old.number old.seen after (p ∷ []) t (ends_shut old turn after p is (subst (λ (x : Result X BookError). Enters turn p e x after) not enters))

-- one step, and then another
pub lost_then : {W : Type 0} (n : ℕ) (s0 s1 s2 : List Entry) (t0 t1 t2 : Tools W) (ps qs rs : List (List ℕ)) → ((h : List ℕ → ℕ) → weigh h rs ≡ weigh h ps + weigh h qs) → NoneLost n s0 t0 ps s1 t1 → NoneLost n s1 t1 qs s2 t2 → NoneLost n s0 t0 rs s2 t2
lost_then {W} n s0 s1 s2 t0 t1 t2 ps qs rs both f g =
    let step : (h : List ℕ → ℕ) → (kept_weight h n s2 t2 + weigh h (f.0 ++ g.0)) + came h n s0 t0 ≡ (kept_weight h n s0 t0 + weigh h rs) + came h n s2 t2 = λ h.
    let a = f.2 h in
    let b = g.2 h in
    let c = weigh_both h f.0 g.0 in
    let d = both h in
    omega arith in
    let first = shut_more s0 s1 s2 f.0 f.1 (shut_begins s1 s2 g.0 g.1) in
    let second = shut_later s0 s1 s2 g.0 (shut_begins s0 s1 f.0 f.1) g.1 in
    (f.0 ++ g.0, shut_both s0 s2 f.0 g.0 first second, step)

-- where no stop stands, none stood before
quiet_before : (a b : List Entry) → Begins a b → has_stop (entries_of b) ≡ false → has_stop (entries_of a) ≡ false
quiet_before a b f quiet = quiet_front a f.0 (ap (λ (l : List Entry). has_stop (entries_of l)) (sym f.1) ∙ quiet)

-- the same of steps of a worker, until a stop stands
pub steps_keep : {W : Type 0} (n m : ℕ) (s0 s1 s2 : List Entry) (t0 t1 t2 : Tools W) → m ≡ n → (has_stop (entries_of s1) ≡ false → NoneLost n s0 t0 [] s1 t1) → (has_stop (entries_of s2) ≡ false → NoneLost m s1 t1 [] s2 t2) → has_stop (entries_of s2) ≡ false → NoneLost n s0 t0 [] s2 t2
steps_keep {W} n m s0 s1 s2 t0 t1 t2 same f g quiet =
    let second = subst (λ (k : ℕ). NoneLost k s1 t1 [] s2 t2) same (g quiet) in
    let before = quiet_before s1 s2 (shut_begins s1 s2 second.0 second.1) quiet in
    lost_then n s0 s1 s2 t0 t1 t2 [] [] [] (λ h. omega arith) (f before) second

-- nothing was done
pub lost_none : {W : Type 0} (n : ℕ) (s : List Entry) (t u : Tools W) → Took t [] u → NoneLost n s t [] s u
lost_none {W} n s t u took =
    let step : (h : List ℕ → ℕ) → (kept_weight h n s u + 0) + came h n s t ≡ (kept_weight h n s t + 0) + came h n s u = λ h. let a = took h in omega arith in
    ([], begins_same s, step)

-- a path is taken, and then run
pub took_then : {W : Type 0} (n : ℕ) (s0 s1 : List Entry) (t u v : Tools W) (p : List ℕ) → Took t (p ∷ []) u → NoneLost n s0 u (p ∷ []) s1 v → NoneLost n s0 t [] s1 v
took_then {W} n s0 s1 t u v p took f =
    let step : (h : List ℕ → ℕ) → (kept_weight h n s1 v + weigh h f.0) + came h n s0 t ≡ (kept_weight h n s0 t + 0) + came h n s1 v = λ h.
    let a = took h in
    let b = f.2 h in
    omega arith in
    (f.0, f.1, step)

-- a thief of the others steals
pub stolen_set : (h : List ℕ → ℕ) (ts : List ThiefView) (i : ℕ) (d t : ThiefView) → i < length ts → stolen_of h (set ts i t) + weigh h (get_or ts i d).stolen ≡ stolen_of h ts + weigh h t.stolen
stolen_set h [] i d t low = absurd (omega arith)
stolen_set h (s ∷ ts) zero d t low = omega arith
stolen_set h (s ∷ ts) (suc i) d t low = let r = stolen_set h ts i d t (omega arith) in omega arith

-- it got this path
pub stolen_more : (h : List ℕ → ℕ) (ts : List ThiefView) (i : ℕ) (d t : ThiefView) (p : List ℕ) → i < length ts → d ≡ get_or ts i d → t.stolen ≡ d.stolen ++ p ∷ [] → stolen_of h (set ts i t) ≡ stolen_of h ts + h p
stolen_more h ts i d t p low is got =
    let a = stolen_set h ts i d t low in
    let b : weigh h d.stolen ≡ weigh h (get_or ts i d).stolen = ap (λ (v : ThiefView). weigh h v.stolen) is in
    let s : weigh h t.stolen ≡ weigh h (d.stolen ++ p ∷ []) = ap (weigh h) got in
    let w = weigh_both h d.stolen (p ∷ []) in
    omega arith

-- it got none
pub stolen_same : (h : List ℕ → ℕ) (ts : List ThiefView) (i : ℕ) (d t : ThiefView) → i < length ts → d ≡ get_or ts i d → t.stolen ≡ d.stolen → stolen_of h (set ts i t) ≡ stolen_of h ts
stolen_same h ts i d t low is got =
    let a = stolen_set h ts i d t low in
    let b : weigh h d.stolen ≡ weigh h (get_or ts i d).stolen = ap (λ (v : ThiefView). weigh h v.stolen) is in
    let s : weigh h t.stolen ≡ weigh h d.stolen = ap (weigh h) got in
    omega arith

-- the owner of a deque took this path
pub popped_one : (h : List ℕ → ℕ) (v w : Hand) (p : List ℕ) → w ≡ hand v.parts v.pushed (v.popped ++ p ∷ []) v.stolen → (weigh h w.pushed ≡ weigh h v.pushed) × (weigh h w.popped ≡ weigh h v.popped + h p)
popped_one h v w p is =
    let both = weigh_both h v.popped (p ∷ []) in
    let more : weigh h w.popped ≡ weigh h (v.popped ++ p ∷ []) = ap (λ (k : Hand). weigh h k.popped) is in
    (ap (λ (k : Hand). weigh h k.pushed) is, omega arith)

-- a thief that got no path
pub stole_none : {W : Type 0} (old new : ThiefView) (r : Stolen W) → (r ≡ Empty) ⊎ (r ≡ Again) → Stole old r new → new.stolen ≡ old.stolen
stole_none {W} old new r is stole =
    let empty : r ≡ Empty → new.stolen ≡ old.stolen = λ e. (let f : Stole {W = W} old Empty new = subst (λ (x : Stolen W). Stole old x new) e stole in f.0) in
    let again : r ≡ Again → new.stolen ≡ old.stolen = λ e. (let f : Stole {W = W} old Again new = subst (λ (x : Stolen W). Stole old x new) e stole in f.0) in
    ⊎_elim empty again is

-- the kids of a split are taken, unless memory is wanting
pub kids_keep : {W X Y E : Type 0} (old : SeatView) (turn after : List Entry) (p q ks : List ℕ) (y : Y) (t u : Tools W) (r : Result X E) → q ≡ p → IsTurn old turn → Enters turn q (Split old.number q ks) (Ok y) after
    → ((h : List ℕ → ℕ) → IfOk r (λ _. held h u ≡ weigh h (kids_of p ks) + held h t)) → ((h : List ℕ → ℕ) → fetched h u ≡ fetched h t) → IfOk r (λ _. NoneLost old.number old.seen t (p ∷ []) after u)
kids_keep {W} {X} {Y} old turn after p q ks y t u (Ok x) same is enters takes stays =
    split_keeps old turn after p ks y t u is (subst (λ (k : List ℕ). Enters turn k (Split old.number k ks) (Ok y) after) same enters) (λ h. (takes h, stays h))
kids_keep old turn after p q ks y t u (Err e) same is enters takes stays = tt

pub shut_keeps : {W X : Type 0} (old : SeatView) (turn after : List Entry) (p q : List ℕ) (e : Entry) (r : Result X BookError) (t : Tools W) → q ≡ p → r ≡ Err NotOpen → IsTurn old turn → Enters turn q e r after → NoneLost old.number old.seen t (p ∷ []) after t
shut_keeps {W} {X} old turn after p q e r t same not is enters = subst (λ (k : List ℕ). NoneLost old.number old.seen t (k ∷ []) after t) same (not_split_keeps old turn after q e r t not is enters)

-- a path that is needed, and then run
pub needed_keeps : {W X E : Type 0} (n m : ℕ) (s0 s1 s2 : List Entry) (p : List ℕ) (t u : Tools W) (r : Result X E) → m ≡ n → EndsJust n s0 [] s1 → IfOk r (λ _. NoneLost m s1 t (p ∷ []) s2 u) → IfOk r (λ _. NoneLost n s0 t (p ∷ []) s2 u)
needed_keeps n m s0 s1 s2 p t u (Ok x) same ends f =
    lost_then n s0 s1 s2 t t u [] (p ∷ []) (p ∷ []) (λ h. omega arith) (ends_keep n s0 s1 [] t ends) (subst (λ (k : ℕ). NoneLost k s1 t (p ∷ []) s2 u) same f)
needed_keeps n m s0 s1 s2 p t u (Err e) same ends f = tt
