use Rattle.std.proofs.Common.{◌≡◌, ◌-◌, List, ◌++◌, map, ap, ap₂, ◌∙◌, subst}
use Rattle.std.specs.Prelude.{IfOk}
use Rattle.ap_defs.specs.Goals.{NominalClause, clause_of, either, goal_of, program_in}
use Rattle.ap_defs.specs.Renaming.{rename_goal, rename_term}
use Rattle.ap_defs.specs.Terms.{term_of}
use Rattle.ap_machine.specs.Machines.{position_of}
use Rattle.ap_machine.specs.Positions.{Position, positions_by_clauses, turned_goal}
use Rattle.ap_backchain.specs.Searches.{positions_followed, pending_positions, positions_with}
use Rattle.ap_backchain.proofs.RunLemmas.{atom_goes, deep_atom}
use Rattle.ap_backchain.proofs.ways.choose_by.Goals as goal

pub overflow_sub-untried : goal.overflow_sub-untried
overflow_sub-untried c =
    let choosing = rw c.in-Atom.is at c.requires.choosing in
    deep_atom (program_in c.args.clauses.now) c.args.frame.depth c.in-Atom.pred choosing.0 choosing.1

pub try_clauses-requires-clause-rest : goal.try_clauses-requires-clause-rest
try_clauses-requires-clause-rest c =
    let fit = rw c.in-Atom.is at c.requires.goal in
    (rw c.items.ensures fit, c.in-Some.ensures.below, c.in-Some.ensures.few)

pub take_left-requires-clause-left : goal.take_left-requires-clause-left
take_left-requires-clause-left c =
    let fit = rw c.in-Either.is at c.requires.goal in
    rw c.deref.ensures fit.0

pub take_left-requires-clause-right : goal.take_left-requires-clause-right
take_left-requires-clause-right c =
    let fit = rw c.in-Either.is at c.requires.goal in
    rw c.deref-in-Either.ensures fit.1

pub returns-in-None-clause-left : goal.returns-in-None-clause-left
returns-in-None-clause-left c =
    let program = program_in c.args.clauses.now in let d = c.args.frame.depth in let p = position_of c.args.machine.now in
    let ps = pending_positions c.args.machine.now c.args.points.now in
    let ts = map (rename_term c.args.frame.base) (map term_of c.in-Atom.args) in
    let choosing = rw c.in-Atom.is at c.requires.choosing in
    rw c.in-Atom.is
    (ap (λ (cs : List NominalClause). positions_by_clauses (d - 1) ts p 1 cs ++ ps) c.in-None.ensures.clauses
    ∙ ap (λ t. positions_followed t ps) (atom_goes program d c.in-Atom.pred ts p choosing.0 choosing.1))

pub returns-in-Some-clause-left : goal.returns-in-Some-clause-left
returns-in-Some-clause-left c =
    let program = program_in c.args.clauses.now in let d = c.args.frame.depth in let p = position_of c.args.machine.now in
    let ps = pending_positions c.args.machine.now c.args.points.now in
    let ts = map (rename_term c.args.frame.base) (map term_of c.in-Atom.args) in
    let choosing = rw c.in-Atom.is at c.requires.choosing in
    let e =
    ap (λ us. positions_by_clauses (d - 1) (map (rename_term c.args.frame.base) (map term_of us)) p 1 (map clause_of c.in-Some.candidates.now) ++ ps) c.items.ensures
    ∙ ap (λ (cs : List NominalClause). positions_by_clauses (d - 1) ts p 1 cs ++ ps) c.in-Some.ensures.clauses
    ∙ ap (λ t. positions_followed t ps) (atom_goes program d c.in-Atom.pred ts p choosing.0 choosing.1) in
    rw c.in-Atom.is (subst (λ (qs : List Position). IfOk c.try_clauses.result (λ b. positions_with b c.try_clauses.new.machine c.try_clauses.new.points ≡ qs)) e c.try_clauses.ensures.left)

pub returns-in_ok-take_left-in-Either-clause-left : goal.returns-in_ok-take_left-in-Either-clause-left
returns-in_ok-take_left-in-Either-clause-left c =
    let p = position_of c.args.machine.now in let ps = pending_positions c.args.machine.now c.args.points.now in
    rw c.in-Either.is
    (c.in_ok-take_left-in-Either.ensures.left
    ∙ ap₂ (λ g h. positions_followed (turned_goal (program_in c.args.clauses.now) c.args.frame.depth (either (rename_goal c.args.frame.base (goal_of g)) (rename_goal c.args.frame.base (goal_of h))) p) ps)
    c.deref.ensures c.deref-in-Either.ensures)
