use Rattle.std.proofs.Common.{◌≡◌, ℕ, List, [], ◌∷◌, ◌++◌, ap, ◌∙◌, sym, subst}
use Rattle.std.specs.Prelude.{IfOk, Option}
use Rattle.ap_defs.specs.Goals.{program_in}
use Rattle.ap_defs.specs.Types.{locals_of}
use Rattle.ap_search.specs.Marks.{NominalMark, mark_path}
use Rattle.ap_search.specs.Prefixes.{beginning}
use Rattle.ap_turns.specs.Standings.{marks_of_standing, path_of_standing}
use Rattle.ap_turns.specs.Marks.{IsAmongWays, choice_of, marks_from}
use Rattle.ap_machine.specs.Positions.{Position}
use Rattle.ap_machine.specs.Unbound.{answer_by_unbound}
use Rattle.ap_backchain.proofs.step.choose.Goals as goal

pub choose_by-requires-clause-goal : goal.choose_by-requires-clause-goal
choose_by-requires-clause-goal c = c.in-Some.ensures.some.1

pub choose_by-requires-clause-choice : goal.choose_by-requires-clause-choice
choose_by-requires-clause-choice c =
    let program = program_in c.args.clauses.now in
    let choosing = rw c.in-Choosing.is at c.requires.choosing in
    let choice = rw c.in-Choosing.is at c.requires.choice in
    let e = sym choosing ∙ ap (λ (p : Position). choice_of program p.waiting) c.in-Some.ensures.some.0 in
    subst (λ (o : Option ℕ). IsAmongWays c.args.choice o) e choice

pub returns-clause-marks : goal.returns-clause-marks
returns-clause-marks c =
    let program = program_in c.args.clauses.now in let answering = answer_by_unbound (locals_of c.args.locals.now) in
    let e = sym (ap (λ (p : Position). beginning mark_path (p.path ++ c.args.choice ∷ []) (marks_from program answering p)) c.in-Some.ensures.some.0) in
    rw c.in-Choosing.is (subst (λ (ms : List NominalMark). IfOk c.choose_by.result (λ s. marks_of_standing program answering s ≡ ms)) e c.choose_by.ensures.marks)

pub returns-clause-path : goal.returns-clause-path
returns-clause-path c =
    let e = sym (ap (λ (p : Position). p.path ++ c.args.choice ∷ []) c.in-Some.ensures.some.0) in
    rw c.in-Choosing.is (subst (λ (ps : List ℕ). IfOk c.choose_by.result (λ s. path_of_standing s ≡ ps)) e c.choose_by.ensures.path)
