use Rattle.std.proofs.Common.{[], sym, ap, ap₂, ◌++◌, ◌∙◌, map}
use Rattle.ap_shared.specs.declared.derivations.SharedUse.{SharedUse}
use Rattle.ap_shared.specs.declared.derivations.SharedDerivation.{SharedDerivation}
use Rattle.ap_defs.specs.Goals.{goal_of, program_in}
use Rattle.ap_shared.specs.Shared.{shared_at}
use Rattle.ap_derive.specs.Tables.{counts_of, with_uses}
use Rattle.ap_derive.specs.Uses.{uses, uses_of_clause}
use Rattle.ap_derive.specs.Waiting.{bare_derivation, if_any, uses_of_all}
use Rattle.ap_derive.proofs.WaitingLemmas.{node_counts, node_waits}
use Rattle.ap_derive.proofs.counting.walk.count_node.Goals as goal

pub returns-in-Some-clause-uses : goal.returns-in-Some-clause-uses
returns-in-Some-clause-uses c =
    let program = program_in c.args.program.now in
    let u = c.in-Atom.used.value in
    let d = bare_derivation c.in-Atom.below.value in
    let here = ap (λ e. uses program (bare_derivation e) (goal_of c.args.node.goal.now)) c.in-Atom.is
    ∙ c.pred_of_atom.ensures program u.clause u.names (map (shared_at []) u.terms) d
    ∙ ap (λ o. if_any o (λ p. uses_of_clause program p u.clause d)) c.in-Some.is
    ∙ ap₂ (λ (v : SharedUse) (e : SharedDerivation). uses_of_clause program c.in-Some.pred v.clause (bare_derivation e)) (sym c.deref.ensures) (sym c.deref-in-Some.ensures) in
    node_counts c.count_clause.result program c.args.node _ c.args.waiting.now.items (with_uses (uses_of_all program c.count_clause.new.waiting.items) (counts_of c.count_clause.new.table)) (counts_of c.args.table.now) here c.count_clause.ensures.uses

pub returns-in-None-clause-uses : goal.returns-in-None-clause-uses
returns-in-None-clause-uses c =
    let program = program_in c.args.program.now in
    let u = c.in-Atom.used.value in
    let d = bare_derivation c.in-Atom.below.value in
    let none = ap (λ e. uses program (bare_derivation e) (goal_of c.args.node.goal.now)) c.in-Atom.is
    ∙ c.pred_of_atom.ensures program u.clause u.names (map (shared_at []) u.terms) d
    ∙ ap (λ o. if_any o (λ p. uses_of_clause program p u.clause d)) c.in-None.is in
    ap (λ us. with_uses (us ++ uses_of_all program c.args.waiting.now.items) (counts_of c.args.table.now)) (sym none)

pub returns-in-Both-clause-uses : goal.returns-in-Both-clause-uses
returns-in-Both-clause-uses c =
    let program = program_in c.args.program.now in
    let here = ap (λ e. uses program (bare_derivation e) (goal_of c.args.node.goal.now)) c.in-Both.is
    ∙ c.parts_of_both.ensures program (bare_derivation c.in-Both.left.value) (bare_derivation c.in-Both.right.value)
    ∙ ap₂ (λ d e. if_any c.parts_of_both.result (λ p. uses program (bare_derivation d) (goal_of p.0.now) ++ uses program (bare_derivation e) (goal_of p.1.now)))
    (sym c.deref-in-Both.ensures) (sym c.deref-in-Both-2.ensures) in
    node_waits c.wait_for_both.result program c.args.node _ c.args.waiting.now.items c.wait_for_both.new.waiting.items (counts_of c.args.table.now) here (c.wait_for_both.ensures.uses program)

pub returns-in-Left-clause-uses : goal.returns-in-Left-clause-uses
returns-in-Left-clause-uses c =
    let program = program_in c.args.program.now in
    let here = ap (λ e. uses program (bare_derivation e) (goal_of c.args.node.goal.now)) c.in-Left.is
    ∙ c.left_of_either.ensures program (bare_derivation c.in-Left.side.value)
    ∙ ap (λ e. if_any c.left_of_either.result (λ g. uses program (bare_derivation e) (goal_of g.now))) (sym c.deref-in-Left.ensures) in
    node_waits c.wait_for.result program c.args.node _ c.args.waiting.now.items c.wait_for.new.waiting.items (counts_of c.args.table.now) here (c.wait_for.ensures.uses program)

pub returns-in-Right-clause-uses : goal.returns-in-Right-clause-uses
returns-in-Right-clause-uses c =
    let program = program_in c.args.program.now in
    let here = ap (λ e. uses program (bare_derivation e) (goal_of c.args.node.goal.now)) c.in-Right.is
    ∙ c.right_of_either.ensures program (bare_derivation c.in-Right.side.value)
    ∙ ap (λ e. if_any c.right_of_either.result (λ g. uses program (bare_derivation e) (goal_of g.now))) (sym c.deref-in-Right.ensures) in
    node_waits c.wait_for-in-Right.result program c.args.node _ c.args.waiting.now.items c.wait_for-in-Right.new.waiting.items (counts_of c.args.table.now) here (c.wait_for-in-Right.ensures.uses program)

pub returns-in-Exists-clause-uses : goal.returns-in-Exists-clause-uses
returns-in-Exists-clause-uses c =
    let program = program_in c.args.program.now in
    let here = ap (λ e. uses program (bare_derivation e) (goal_of c.args.node.goal.now)) c.in-Exists.is
    ∙ c.below_exists.ensures program (shared_at [] c.in-Exists.field-0) (bare_derivation c.in-Exists.below.value)
    ∙ ap (λ e. if_any c.below_exists.result (λ g. uses program (bare_derivation e) (goal_of g.now))) (sym c.deref-in-Exists.ensures) in
    node_waits c.wait_for-in-Exists.result program c.args.node _ c.args.waiting.now.items c.wait_for-in-Exists.new.waiting.items (counts_of c.args.table.now) here (c.wait_for-in-Exists.ensures.uses program)

pub returns-in-New-clause-uses : goal.returns-in-New-clause-uses
returns-in-New-clause-uses c =
    let program = program_in c.args.program.now in
    let here = ap (λ e. uses program (bare_derivation e) (goal_of c.args.node.goal.now)) c.in-New.is
    ∙ c.below_new.ensures program c.in-New.field-0.value (bare_derivation c.in-New.below.value)
    ∙ ap (λ e. if_any c.below_new.result (λ g. uses program (bare_derivation e) (goal_of g.now))) (sym c.deref-in-New.ensures) in
    node_waits c.wait_for-in-New.result program c.args.node _ c.args.waiting.now.items c.wait_for-in-New.new.waiting.items (counts_of c.args.table.now) here (c.wait_for-in-New.ensures.uses program)
