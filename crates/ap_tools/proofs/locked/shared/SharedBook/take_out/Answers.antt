use Rattle.std.proofs.Common.{◌≡◌, ◌∙◌, ◌≤◌, sym, subst, ℕ, List, []}
use Rattle.ap_paths.specs.declared.entries.Entry.{Entry}
use Rattle.ap_tools.specs.Seats.{seats_of}
use Rattle.ap_tools.specs.Turns.{AreKnown, times_owned, places_of}
use Rattle.ap_tools.proofs.Endings.{taken_out, none_is, some_is}
use Rattle.ap_tools.proofs.locked.shared.SharedBook.take_out.Goals as goal

pub unreachable-requires : goal.unreachable-requires
unreachable-requires c =
    let t = taken_out _ _ _ _ _ _ c.close_with-closed.ensures.values.2 c.requires.1 c.requires.2 c.take-found.ensures.value in
    none_is t.0 (sym c.in_default.is ∙ t.1)

pub returns-clause-known : goal.returns-clause-known
returns-clause-known c =
    let t = taken_out _ _ _ _ _ _ c.close_with-closed.ensures.values.2 c.requires.1 c.requires.2 c.take-found.ensures.value in
    subst (λ (h : List Entry). AreKnown h c.args.first.me.0.owns) (some_is t.0 c.in-Some.book (sym t.1 ∙ c.in-Some.is)) t.2

pub returns-clause-makers : goal.returns-clause-makers
returns-clause-makers c =
    let t = taken_out _ _ _ _ _ _ c.close_with-closed.ensures.values.2 c.requires.1 c.requires.2 c.take-found.ensures.value in
    subst (λ (h : List Entry). ((n : ℕ) → times_owned n c.args.first.me.0.owns ≡ 0 → places_of n h ≡ []) × ((n : ℕ) → seats_of c.args.self ≤ n → places_of n h ≡ [])) (some_is t.0 c.in-Some.book (sym t.1 ∙ c.in-Some.is)) (t.3, t.4)
