use Rattle.std.proofs.Common.{◌<◌, ◌-◌, [], ◌∷◌, ◌++◌, length, map, ap, ◌∙◌, arith}
use Rattle.std.proofs.lemmas.List.{length-map}
use Rattle.ap_defs.specs.Goals.{clause_of, program_in}
use Rattle.ap_defs.specs.Renaming.{rename_term}
use Rattle.ap_defs.specs.Terms.{term_of}
use Rattle.ap_defs.specs.Types.{locals_of}
use Rattle.ap_machine.specs.Machines.{position_of}
use Rattle.ap_machine.specs.Positions.{Position, clause_state}
use Rattle.ap_backchain.proofs.ChooseLemmas.{clause_here, entered_path, fit_here, kid_marks, no_kid_marks}
use Rattle.ap_machine.specs.Unbound.{answer_by_unbound}
use Rattle.ap_backchain.proofs.step.choose_clause.Goals as goal

pub enter_clause-requires-clause-clause : goal.enter_clause-requires-clause-clause
enter_clause-requires-clause-clause c =
    let a = c.requires.low in let b = c.requires.high in
    let h : c.args.choice - 1 < length c.args.candidates.now = omega (arith, a, b) in
    fit_here c.args.candidates.now (c.args.choice - 1) c.index-candidates-choice.result h c.index-candidates-choice.is c.requires.below

pub returns-in_ok-standing-clause-marks : goal.returns-in_ok-standing-clause-marks
returns-in_ok-standing-clause-marks c =
    let a = c.requires.low in let b = c.requires.high in
    let cs = c.args.candidates.now in let d = c.index-candidates-choice.result in
    let h : c.args.choice - 1 < length cs = omega (arith, a, b) in
    let many = length-map cs clause_of in
    let program = program_in c.args.clauses.now in let answering = answer_by_unbound (locals_of c.args.locals.now) in
    let ts = map (rename_term c.args.frame.base) (map term_of c.args.args.now) in
    c.in_ok-standing.ensures.marks
    ∙ kid_marks program answering (c.args.frame.depth - 1) ts (position_of c.args.machine) c.args.choice (clause_of d) (map clause_of cs) a (omega (arith, h, many))
    (clause_here cs (c.args.choice - 1) d h c.index-candidates-choice.is) (position_of c.enter_clause.new.machine) (rw c.if-branch.true at c.in_ok-enter_clause.ensures.entered)

pub returns-in_ok-standing-clause-path : goal.returns-in_ok-standing-clause-path
returns-in_ok-standing-clause-path c =
    let p = position_of c.args.machine in let d = clause_of c.index-candidates-choice.result in
    let ts = map (rename_term c.args.frame.base) (map term_of c.args.args.now) in
    c.in_ok-standing.ensures.path
    ∙ entered_path (program_in c.args.clauses.now) (answer_by_unbound (locals_of c.args.locals.now)) (c.args.frame.depth - 1) p c.args.choice d (clause_state ts p.state d) (position_of c.enter_clause.new.machine)
    (rw c.if-branch.true at c.in_ok-enter_clause.ensures.entered)

pub returns-in_ok-standing-2-clause-marks : goal.returns-in_ok-standing-2-clause-marks
returns-in_ok-standing-2-clause-marks c =
    let a = c.requires.low in let b = c.requires.high in
    let cs = c.args.candidates.now in let d = c.index-candidates-choice.result in
    let h : c.args.choice - 1 < length cs = omega (arith, a, b) in
    let many = length-map cs clause_of in
    let program = program_in c.args.clauses.now in let answering = answer_by_unbound (locals_of c.args.locals.now) in
    let ts = map (rename_term c.args.frame.base) (map term_of c.args.args.now) in
    c.in_ok-standing-2.ensures.marks program answering
    ∙ no_kid_marks program answering (c.args.frame.depth - 1) ts (position_of c.args.machine) c.args.choice (clause_of d) (map clause_of cs) a (omega (arith, h, many))
    (clause_here cs (c.args.choice - 1) d h c.index-candidates-choice.is) (rw c.if-branch.false at c.in_ok-enter_clause.ensures.entered)

pub returns-in_ok-standing-2-clause-path : goal.returns-in_ok-standing-2-clause-path
returns-in_ok-standing-2-clause-path c =
    c.in_ok-standing-2.ensures.path ∙ ap (λ ps. ps.items ++ c.args.choice ∷ []) c.into_path.ensures
    ∙ ap (λ (p : Position). p.path ++ c.args.choice ∷ []) (c.in_ok-enter_clause.ensures.none c.if-branch.false).1

pub returns-in_ok-standing-2-clause-choosing : goal.returns-in_ok-standing-2-clause-choosing
returns-in_ok-standing-2-clause-choosing c = c.in_ok-standing-2.ensures.choosing (program_in c.args.clauses.now)
