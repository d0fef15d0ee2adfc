-- A seat may end its turn with what the book answered.
use Rattle.std.proofs.Common.{◌≡◌, ℕ, Bool, true, false, if◌then◌else◌, None, Result, Ok, Err, List, [], ◌∷◌, ◌++◌, refl, sym, ap, ◌∙◌, subst, append-nil}
use Rattle.atomic_table.specs.Table.{Me}
use Rattle.ap_paths.specs.declared.entries.Entry.{Entry}
use Rattle.ap_paths.specs.declared.entries.Entry.TheVariants.{Skip}
use Rattle.ap_paths.specs.declared.runs.Run.{Run}
use Rattle.ap_book.specs.declared.error.BookError.{BookError}
use Rattle.ap_book.specs.declared.error.DoneError.{DoneError}
use Rattle.ap_book.specs.declared.error.SkipError.{SkipError}
use Rattle.ap_book.specs.Answers.{Enters, EntersDone, Skips}
use Rattle.ap_paths.specs.declared.limits.Limit.{Limit}
use Rattle.ap_tools.specs.declared.locked.view.Stage.TheVariants.{Idle, Turn}
use Rattle.ap_tools.specs.declared.locked.view.View.{View}
use Rattle.ap_tools.specs.Turns.{maker_of, Slot, lone, seat_number, seen_of, Holds, AddsEntries, MayShut, AreBy}

pub adds_nothing : (n : ℕ) (turn : List Entry) → AddsEntries n turn turn
adds_nothing n turn = ([], sym (append-nil turn), tt)

pub adds_one : (n : ℕ) (turn history : List Entry) (e : Entry) → maker_of e ≡ n → history ≡ turn ++ e ∷ [] → AddsEntries n turn history
adds_one n turn history e by is = (e ∷ [], is, (by, tt))

pub adds_entered : {X : Type 0} (n : ℕ) (turn history : List Entry) (path : List ℕ) (e : Entry) (r : Result X BookError) → maker_of e ≡ n → Enters turn path e r history → AddsEntries n turn history
adds_entered n turn history path e (Ok x) by enters = adds_one n turn history e by enters.1
adds_entered n turn history path e (Err cause) by enters = ([], enters.1 ∙ sym (append-nil turn), tt)

pub may_shut : (n : ℕ) (before m : Me Slot View) (seen turn history : List Entry) → before ≡ (lone Idle n seen, []) → Holds before.0 turn m → AddsEntries n turn history → MayShut m history
may_shut n before m seen turn history is holds adds =
    let t = holds.1.0 in
    let e = holds.1.1 in
    let number : seat_number m.0 ≡ n = ap (λ (x : Me Slot View). seat_number x.0) e ∙ ap (λ (x : Me Slot View). seat_number x.0) is in
    let whole : seen_of m.0 ≡ turn = ap (λ (x : Me Slot View). seen_of x.0) e in (
      t,
      e ∙ ap (λ (k : ℕ). (lone (Turn t) k turn, (0, None) ∷ [])) (sym (ap (λ (x : Me Slot View). seat_number x.0) e)) ∙ ap (λ (s : List Entry). (lone (Turn t) (seat_number m.0) s, (0, None) ∷ [])) (sym whole),
      (adds.0, adds.1 ∙ ap (λ (s : List Entry). s ++ adds.0) (sym whole), subst (λ (k : ℕ). AreBy k adds.0) (sym number) adds.2),
    )

pub adds_ended : {X : Type 0} (n : ℕ) (turn history : List Entry) (path : List ℕ) (outs : List Run) (e : Entry) (r : Result X DoneError) → maker_of e ≡ n → EntersDone turn path outs e r history → AddsEntries n turn history
adds_ended n turn history path outs e (Ok x) by enters = adds_one n turn history e by enters.1
adds_ended n turn history path outs e (Err d) by enters = ([], enters.2 ∙ sym (append-nil turn), tt)

pub adds_skipped : {X : Type 0} (n : ℕ) (turn history : List Entry) (path : List ℕ) (l : Limit) (r : Result X SkipError) → Skips turn path l n r history → AddsEntries n turn history
adds_skipped n turn history path l (Ok x) skips = adds_one n turn history (Skip n path skips.1.0) refl skips.1.2
adds_skipped n turn history path l (Err cause) skips = ([], skips.1 ∙ sym (append-nil turn), tt)

pub adds_stop : (n : ℕ) (turn history : List Entry) (stands : Bool) (e : Entry) → maker_of e ≡ n → history ≡ (if stands then turn else turn ++ e ∷ []) → AddsEntries n turn history
adds_stop n turn history true e by is = ([], is ∙ sym (append-nil turn), tt)
adds_stop n turn history false e by is = adds_one n turn history e by is
