use Rattle.std.proofs.Common.{[], ◌∷◌, map, ap, ◌∙◌, sym}
use Rattle.std.proofs.lemmas.List.{map-append}
use Rattle.std.specs.Prelude.{Some}
use Rattle.ap_defs.specs.Goals.{program_in}
use Rattle.ap_machine.specs.Machines.{position_of}
use Rattle.ap_machine.specs.Positions.{Position}
use Rattle.ap_derive.specs.Nodes.{selected_node}
use Rattle.ap_derive.specs.Solved.{rest_of, solved_at}
use Rattle.ap_derive.proofs.SolvedLemmas.{all_nodes, fewer_left, nodes_solved, none_waits, one_more, with_nodes}
use Rattle.ap_derive.proofs.selecting.select_along.Goals as goal

pub select-requires-clause-goal : goal.select-requires-clause-goal
select-requires-clause-goal c = c.in-Some.ensures.some.1

pub select-requires-clause-solved : goal.select-requires-clause-solved
select-requires-clause-solved c =
    let program = program_in c.args.clauses.now in
    let path = c.args.path.now in
    let here = nodes_solved (map selected_node c.selecting.all.items) (solved_at program path (position_of c.selecting.machine)) c.requires.solved.0 (sym c.selecting.invariant ∙ c.requires.solved.1) in
    (here.0, sym (ap (λ (p : Position). solved_at program path p) c.in-Some.ensures.some.0) ∙ here.1)

pub selecting-preserved : goal.selecting-preserved
selecting-preserved c =
    let program = program_in c.args.clauses.now in
    let path = c.args.path.now in
    let ns = map selected_node c.selecting.all.items in
    let n = selected_node c.in_ok-selected.selected in
    c.selecting.invariant
    ∙ ap (with_nodes ns) (ap (λ (p : Position). solved_at program path p) c.in-Some.ensures.some.0 ∙ c.in_ok-selected.ensures)
    ∙ sym (one_more ns n (solved_at program path (position_of c.select.new.machine)))
    ∙ ap (λ ms. with_nodes ms (solved_at program path (position_of c.select.new.machine)))
    (sym (ap (map selected_node) c.in_ok-push.ensures.items ∙ map-append selected_node c.selecting.all.items (c.in_ok-selected.selected ∷ [])))

pub selecting-smaller : goal.selecting-smaller
selecting-smaller c =
    let program = program_in c.args.clauses.now in
    let path = c.args.path.now in
    let here = nodes_solved (map selected_node c.selecting.all.items) (solved_at program path (position_of c.selecting.machine)) c.requires.solved.0 (sym c.selecting.invariant ∙ c.requires.solved.1) in
    fewer_left (selected_node c.in_ok-selected.selected) (solved_at program path (position_of c.selecting.machine)) (solved_at program path (position_of c.select.new.machine)) here.0
    (ap (λ (p : Position). solved_at program path p) c.in-Some.ensures.some.0 ∙ c.in_ok-selected.ensures) here.1

pub returns : goal.returns
returns c =
    let program = program_in c.args.clauses.now in
    let path = c.args.path.now in
    let p = position_of c.selecting.machine in
    let ns = map selected_node c.selecting.all.items in
    c.selecting.invariant
    ∙ ap (with_nodes ns) (none_waits program path p c.in_default.ensures.none.0)
    ∙ all_nodes ns p.state (rest_of path p)
    ∙ ap (λ (q : Position). Some (record { state = q.state; nodes = ns; rest = rest_of path q })) (sym c.in_default.ensures.none.1)
