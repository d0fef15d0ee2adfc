-- What a worker knows of its own entries.
use Rattle.std.proofs.Common.{◌≡◌, ℕ, zero, suc, ◌+◌, Bool, true, false, ◌||◌, eqb, if◌then◌else◌, Option, Some, Result, Ok, Err, ◌≤◌, ◌<◌, get_or, List, [], ◌∷◌, ◌++◌, length, sym, refl, ap, ◌∙◌, subst, length-append, eq-eqb, true≢false, arith}
use Rattle.ap_paths.specs.declared.entries.Entry.{Entry}
use Rattle.ap_paths.specs.declared.entries.Entry.TheVariants.{Skip, Stop}
use Rattle.ap_paths.specs.declared.runs.Run.{Run}
use Rattle.ap_paths.specs.declared.limits.Limit.{Limit}
use Rattle.ap_paths.specs.Limits.{IsWithin}
use Rattle.ap_paths.specs.Entries.{entry_of, entries_of, stop, kids}
use Rattle.ap_paths.specs.History.{has_stop}
use Rattle.ap_paths.specs.Trees.{Choices, Outputs, InChoiceTree, IsChoice, IsPlan, Ascends, AreAtMost}
use Rattle.ap_paths.proofs.Histories.{has_stop-last}
use Rattle.ap_book.proofs.Keeping.{entries_of-last}
use Rattle.ap_book.specs.declared.error.BookError.{BookError}
use Rattle.ap_book.specs.declared.error.DoneError.{DoneError}
use Rattle.ap_book.specs.declared.error.SkipError.{SkipError}
use Rattle.ap_book.specs.Answers.{Enters, EntersDone, Skips}
use Rattle.ap_tools.specs.Turns.{Begins, maker_of, own_places_from, places_of}
use Rattle.ap_tools.specs.Seats.{SeatView, IsTurn}
use Rattle.ap_tools.proofs.SeatPlaces.{places_from-append}
use Rattle.ap_tools.specs.Planned.{Plans, IsPlanned, OwnPlanned, AllAreChoices}

own_both : (c : Choices) (plan : Plans) (l : Limit) (n : ℕ) (xs ys : List Entry) → OwnPlanned c plan l n xs → OwnPlanned c plan l n ys → OwnPlanned c plan l n (xs ++ ys)
own_both c plan l n [] ys h g = g
own_both c plan l n (x ∷ xs) ys h g = (h.0, own_both c plan l n xs ys h.1 g)

pub other : (a b : ℕ) → eqb a b ≡ false → a ≡ b → ⊥
other a b no_match same = true≢false (sym (eq-eqb a b same) ∙ no_match)

-- where no entry bears the number
own_none : (c : Choices) (plan : Plans) (l : Limit) (i n : ℕ) (es : List Entry) → own_places_from i n es ≡ [] → OwnPlanned c plan l n es
own_none c plan l i n [] e = tt
own_none c plan l i n (x ∷ xs) e =
    let step : (b : Bool) → eqb (maker_of x) n ≡ b → (if b then i ∷ own_places_from (suc i) n xs else own_places_from (suc i) n xs) ≡ [] → (maker_of x ≡ n → IsPlanned c plan (entry_of x) × IsWithin l (entry_of x)) × OwnPlanned c plan l n xs = λ b.
    elim b as (λ b. eqb (maker_of x) n ≡ b → (if b then i ∷ own_places_from (suc i) n xs else own_places_from (suc i) n xs) ≡ [] → (maker_of x ≡ n → IsPlanned c plan (entry_of x) × IsWithin l (entry_of x)) × OwnPlanned c plan l n xs)
    [ true ↦ λ is nil. absurd (let k = ap length nil in omega arith) | false ↦ λ is nil. ((λ same. absurd (other (maker_of x) n is same)), own_none c plan l (suc i) n xs nil) ] in
    step (eqb (maker_of x) n) refl e

pub same_front : (xs ys : List ℕ) → xs ++ ys ≡ xs → ys ≡ []
same_front xs [] e = refl
same_front xs (y ∷ ys) e = absurd (let n = ap length e in omega (arith, length-append xs (y ∷ ys)))

-- a turn has no other entries of the seat
pub own_turn : (c : Choices) (plan : Plans) (l : Limit) (n : ℕ) (seen turn : List Entry) → Begins seen turn → places_of n turn ≡ places_of n seen → OwnPlanned c plan l n seen → OwnPlanned c plan l n turn
own_turn c plan l n seen turn begins known own =
    let rest = begins.0 in
    let all = sym (places_from-append 0 n seen rest) ∙ ap (places_of n) (sym begins.1) ∙ known in
    let nil = same_front (places_of n seen) (own_places_from (0 + length seen) n rest) all in
    subst (OwnPlanned c plan l n) (sym begins.1) (own_both c plan l n seen rest own (own_none c plan l (0 + length seen) n rest nil))

own_enters : {X : Type 0} (c : Choices) (plan : Plans) (l : Limit) (n : ℕ) (turn after : List Entry) (p : List ℕ) (e : Entry) (r : Result X BookError) → IsPlanned c plan (entry_of e) × IsWithin l (entry_of e) → Enters turn p e r after → OwnPlanned c plan l n turn → OwnPlanned c plan l n after
own_enters c plan l n turn after p e (Ok x) planned enters own = subst (OwnPlanned c plan l n) (sym enters.1) (own_both c plan l n turn (e ∷ []) own ((λ _. planned), tt))
own_enters c plan l n turn after p e (Err cause) planned enters own = subst (OwnPlanned c plan l n) (sym enters.1) own

own_ends : {X : Type 0} (c : Choices) (plan : Plans) (l : Limit) (n : ℕ) (turn after : List Entry) (p : List ℕ) (outs : List Run) (e : Entry) (r : Result X DoneError) → IsPlanned c plan (entry_of e) × IsWithin l (entry_of e) → EntersDone turn p outs e r after → OwnPlanned c plan l n turn
    → OwnPlanned c plan l n after
own_ends c plan l n turn after p outs e (Ok x) planned enters own = subst (OwnPlanned c plan l n) (sym enters.1) (own_both c plan l n turn (e ∷ []) own ((λ _. planned), tt))
own_ends c plan l n turn after p outs e (Err d) planned enters own = subst (OwnPlanned c plan l n) (sym enters.2) own

-- after a turn that told how far the search is
pub own_seen : (c : Choices) (plan : Plans) (l : Limit) (old : SeatView) (n : ℕ) (turn : List Entry) → n ≡ old.number → IsTurn old turn → OwnPlanned c plan l old.number old.seen → OwnPlanned c plan l n turn
own_seen c plan l old n turn same is own = subst (λ (k : ℕ). OwnPlanned c plan l k turn) (sym same) (own_turn c plan l old.number old.seen turn is.0 is.1 own)

-- after a turn that entered a split
pub own_split : {X : Type 0} (c : Choices) (plan : Plans) (l : Limit) (old : SeatView) (n : ℕ) (turn after : List Entry) (p : List ℕ) (e : Entry) (r : Result X BookError) → n ≡ old.number → IsTurn old turn → IsPlanned c plan (entry_of e) × IsWithin l (entry_of e) → Enters turn p e r after
    → OwnPlanned c plan l old.number old.seen → OwnPlanned c plan l n after
own_split c plan l old n turn after p e r same is planned enters own =
    subst (λ (k : ℕ). OwnPlanned c plan l k after) (sym same) (own_enters c plan l old.number turn after p e r planned enters (own_turn c plan l old.number old.seen turn is.0 is.1 own))

-- after a turn that entered an end
pub own_done : {X : Type 0} (c : Choices) (plan : Plans) (l : Limit) (old : SeatView) (n : ℕ) (turn after : List Entry) (p : List ℕ) (outs : List Run) (e : Entry) (r : Result X DoneError) → n ≡ old.number → IsTurn old turn → IsPlanned c plan (entry_of e) × IsWithin l (entry_of e) → EntersDone turn p outs e r after
    → OwnPlanned c plan l old.number old.seen → OwnPlanned c plan l n after
own_done c plan l old n turn after p outs e r same is planned enters own =
    subst (λ (k : ℕ). OwnPlanned c plan l k after) (sym same) (own_ends c plan l old.number turn after p outs e r planned enters (own_turn c plan l old.number old.seen turn is.0 is.1 own))

-- after a turn that left a path out
own_skips : {X : Type 0} (c : Choices) (plan : Plans) (l : Limit) (n : ℕ) (turn after : List Entry) (p : List ℕ) (r : Result X SkipError) → InChoiceTree c p → Skips turn p l n r after → OwnPlanned c plan l n turn → OwnPlanned c plan l n after
own_skips c plan l n turn after p (Ok x) there skips own =
    subst (OwnPlanned c plan l n) (sym skips.1.2) (own_both c plan l n turn (Skip n p skips.1.0 ∷ []) own ((λ _. (there, skips.1.1.0)), tt))
own_skips c plan l n turn after p (Err cause) there skips own = subst (OwnPlanned c plan l n) (sym skips.1) own

pub own_skip : {X : Type 0} (c : Choices) (plan : Plans) (l : Limit) (old : SeatView) (n : ℕ) (turn after : List Entry) (p : List ℕ) (r : Result X SkipError) → n ≡ old.number → IsTurn old turn → InChoiceTree c p → Skips turn p l old.number r after
    → OwnPlanned c plan l old.number old.seen → OwnPlanned c plan l n after
own_skip c plan l old n turn after p r same is there skips own =
    subst (λ (k : ℕ). OwnPlanned c plan l k after) (sym same) (own_skips c plan l old.number turn after p r there skips (own_turn c plan l old.number old.seen turn is.0 is.1 own))

-- after a turn that entered a stop
pub own_stop : (c : Choices) (plan : Plans) (l : Limit) (old : SeatView) (n : ℕ) (turn after : List Entry) → n ≡ old.number → IsTurn old turn → after ≡ (if has_stop (entries_of turn) then turn else turn ++ Stop old.number ∷ []) → OwnPlanned c plan l old.number old.seen → OwnPlanned c plan l n after
own_stop c plan l old n turn after same is stops own =
    let here = own_turn c plan l old.number old.seen turn is.0 is.1 own in
    let step : (b : Bool) → OwnPlanned c plan l old.number (if b then turn else turn ++ Stop old.number ∷ []) = λ b.
    elim b as (λ b. OwnPlanned c plan l old.number (if b then turn else turn ++ Stop old.number ∷ [])) [ true ↦ here | false ↦ own_both c plan l old.number turn (Stop old.number ∷ []) here ((λ _. (tt, tt)), tt) ] in
    subst (λ (k : ℕ). OwnPlanned c plan l k after) (sym same) (subst (OwnPlanned c plan l old.number) (sym stops) (step (has_stop (entries_of turn))))

or-true : (b : Bool) → b || true ≡ true
or-true true = refl
or-true false = refl

-- after a turn that entered a stop, one stands
pub stop_stands : (n : ℕ) (turn after : List Entry) → after ≡ (if has_stop (entries_of turn) then turn else turn ++ Stop n ∷ []) → has_stop (entries_of after) ≡ true
stop_stands n turn after stops =
    let step : (b : Bool) → has_stop (entries_of turn) ≡ b → has_stop (entries_of (if b then turn else turn ++ Stop n ∷ [])) ≡ true = λ b.
    elim b as (λ b. has_stop (entries_of turn) ≡ b → has_stop (entries_of (if b then turn else turn ++ Stop n ∷ [])) ≡ true)
    [ true ↦ λ e. e | false ↦ λ e. ap has_stop (entries_of-last turn (Stop n)) ∙ has_stop-last (entries_of turn) (stop n) ∙ or-true (has_stop (entries_of turn)) ] in
    ap (λ (l : List Entry). has_stop (entries_of l)) stops ∙ step (has_stop (entries_of turn)) refl

-- ascending numbers up to the width are choices
are_choices : (o : Option ℕ) (w i : ℕ) (ks : List ℕ) → o ≡ Some w → 1 ≤ i → Ascends i ks → AreAtMost w ks → AllAreChoices o ks
are_choices o w i [] is low up most = tt
are_choices o w i (k ∷ ks) is low up most = (subst (λ (x : Option ℕ). IsChoice x k) (sym is) (omega arith, most.0), are_choices o w (suc k) ks is (omega arith) up.1 most.1)

-- the kids of a plan ascend, and are choices
pub kids_choices : (c : Choices) (at : Outputs) (plan : Plans) (most : Option ℕ) (p ks : List ℕ) → IsPlan c at p (plan most p) → plan most p ≡ kids ks → Ascends 1 ks × AllAreChoices (c p) ks
kids_choices c at plan most p ks good is =
    let k = subst (IsPlan c at p) is good in
    (k.2, are_choices (c p) k.0 1 ks k.1 (omega arith) k.2 k.3)

-- each of the choices, by its place
pub choice_at : (o : Option ℕ) (ks : List ℕ) (i d : ℕ) → i < length ks → AllAreChoices o ks → IsChoice o (get_or ks i d)
choice_at o [] i d lt h = absurd (omega arith)
choice_at o (k ∷ ks) zero d lt h = h.0
choice_at o (k ∷ ks) (suc i) d lt h = choice_at o ks i d (omega arith) h.1
