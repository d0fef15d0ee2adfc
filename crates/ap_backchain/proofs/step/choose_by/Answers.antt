use Rattle.std.proofs.Common.{◌≡◌, ◌-◌, List, [], ◌∷◌, ◌++◌, map, ap, sym, ◌∙◌, subst, arith}
use Rattle.std.specs.Prelude.{IfOk}
use Rattle.ap_defs.specs.Goals.{clause_of, either, goal_of, program_in}
use Rattle.ap_defs.specs.Renaming.{rename_goal, rename_term}
use Rattle.ap_defs.specs.Terms.{term_of}
use Rattle.ap_defs.specs.Types.{locals_of}
use Rattle.ap_search.specs.Marks.{NominalMark, mark_path}
use Rattle.ap_search.specs.Prefixes.{beginning}
use Rattle.ap_turns.specs.Standings.{marks_of_standing}
use Rattle.ap_turns.specs.Marks.{clauses_marks, goal_marks, marks_from}
use Rattle.ap_machine.specs.Machines.{position_of}
use Rattle.ap_machine.specs.Positions.{with_choice, with_goal}
use Rattle.ap_backchain.proofs.ChooseLemmas.{atom_marks, deep_enough, left_way, right_way}
use Rattle.ap_machine.specs.Unbound.{answer_by_unbound}
use Rattle.ap_backchain.proofs.step.choose_by.Goals as goal

pub returns-in-Atom-clause-marks : goal.returns-in-Atom-clause-marks
returns-in-Atom-clause-marks c =
    let program = program_in c.args.clauses.now in let answering = answer_by_unbound (locals_of c.args.locals.now) in
    let p = position_of c.args.machine in let k = c.args.choice in let d = c.args.frame.depth in
    let ts = map (rename_term c.args.frame.base) (map term_of c.in-Atom.args) in
    let among = rw c.in-Atom.is at c.requires.choice in
    let terms = ap (λ us. map (rename_term c.args.frame.base) (map term_of us)) c.items.ensures in
    let e =
    ap (λ us. beginning mark_path (p.path ++ k ∷ []) (clauses_marks program answering (d - 1) us (map clause_of c.clauses_at-candidates.result.now) p)) terms
    ∙ ap (λ cs. beginning mark_path (p.path ++ k ∷ []) (clauses_marks program answering (d - 1) ts cs p)) c.clauses_at-candidates.ensures.clauses
    ∙ sym (atom_marks program answering d c.in-Atom.pred ts p k (deep_enough program d c.in-Atom.pred ts k among)) in
    rw c.in-Atom.is (subst (λ (ms : List NominalMark). IfOk c.choose_clause.result (λ s. marks_of_standing program answering s ≡ ms)) e c.choose_clause.ensures.marks)

pub returns-then-choice-eq1-clause-marks : goal.returns-then-choice-eq1-clause-marks
returns-then-choice-eq1-clause-marks c =
    let program = program_in c.args.clauses.now in let answering = answer_by_unbound (locals_of c.args.locals.now) in
    let p = position_of c.args.machine in let d = c.args.frame.depth in
    let l = rename_goal c.args.frame.base (goal_of c.in-Either.left.value) in let r = rename_goal c.args.frame.base (goal_of c.in-Either.right.value) in
    let e =
    ap (λ g. marks_from program answering (with_goal d (rename_goal c.args.frame.base (goal_of g)) (with_choice 1 p))) c.deref.ensures
    ∙ left_way program answering d l r p
    ∙ ap (λ j. beginning mark_path (p.path ++ j ∷ []) (goal_marks program answering d (either l r) p)) (sym c.if-choice-eq1.true) in
    rw c.in-Either.is (subst (λ (ms : List NominalMark). IfOk c.choose_side.result (λ s. marks_of_standing program answering s ≡ ms)) e c.choose_side.ensures.marks)

pub returns-else-choice-eq1-clause-marks : goal.returns-else-choice-eq1-clause-marks
returns-else-choice-eq1-clause-marks c =
    let program = program_in c.args.clauses.now in let answering = answer_by_unbound (locals_of c.args.locals.now) in
    let p = position_of c.args.machine in let d = c.args.frame.depth in
    let l = rename_goal c.args.frame.base (goal_of c.in-Either.left.value) in let r = rename_goal c.args.frame.base (goal_of c.in-Either.right.value) in
    let among = rw c.in-Either.is at c.requires.choice in
    let low = among.0 in let high = among.1 in let other = c.if-choice-eq1.false in
    let two : 2 ≡ c.args.choice = omega (arith, low, high, other) in
    let e =
    ap (λ g. marks_from program answering (with_goal d (rename_goal c.args.frame.base (goal_of g)) (with_choice 2 p))) c.deref-else-choice-eq1.ensures
    ∙ right_way program answering d l r p
    ∙ ap (λ j. beginning mark_path (p.path ++ j ∷ []) (goal_marks program answering d (either l r) p)) two in
    rw c.in-Either.is (subst (λ (ms : List NominalMark). IfOk c.choose_side-else-choice-eq1.result (λ s. marks_of_standing program answering s ≡ ms)) e c.choose_side-else-choice-eq1.ensures.marks)
