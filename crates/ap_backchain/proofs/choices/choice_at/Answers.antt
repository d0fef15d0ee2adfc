use Rattle.std.proofs.Common.{◌≡◌, List, sym, subst}
use Rattle.std.specs.Prelude.{MatchOption, None, Some}
use Rattle.ap_defs.specs.Goals.{program_in}
use Rattle.ap_search.specs.Continuations.{Waiting}
use Rattle.ap_turns.specs.Marks.{choice_of}
use Rattle.ap_backchain.proofs.choices.choice_at.Goals as goal

pub returns-in-Some : goal.returns-in-Some
returns-in-Some c =
    let program = program_in c.args.clauses.now in
    subst (λ (ws : List Waiting). MatchOption c.choice_of_frame.result (choice_of program ws ≡ None) (λ w. choice_of program ws ≡ Some w))
    (sym c.in-Some.ensures.first.1) c.choice_of_frame.ensures
