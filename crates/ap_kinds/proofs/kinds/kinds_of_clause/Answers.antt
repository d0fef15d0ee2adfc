-- The walk over the head and the body has the kinds that type them as its solutions.
use Rattle.std.proofs.Common.{List, map, subst, sym}
use Rattle.ap_defs.specs.Types.{NominalKind, kind_of, signature_of}
use Rattle.ap_defs.specs.RawTerms.{raw_of}
use Rattle.ap_defs.specs.Goals.{goal_over}
use Rattle.ap_types.specs.Triangular.{AreFormed}
use Rattle.ap_kinds.specs.ItemKinds.{HeadTyped, GoalTyped}
use Rattle.ap_kinds.specs.Systems.{EquationSystem, system_of, started}
use Rattle.ap_kinds.specs.Reading.{name_count}
use Rattle.ap_kinds.proofs.GoalWalks.{gathers_clause}
use Rattle.ap_kinds.proofs.Solutions.{made_started}
use Rattle.ap_kinds.proofs.Findings.{Walks, ok_inferred, err_refused}
use Rattle.ap_kinds.proofs.kinds.kinds_of_clause.Goals as goal

pub settle-requires-clause-formed : goal.settle-requires-clause-formed
settle-requires-clause-formed c =
    let sig = signature_of c.args.sig.now in
    let idents = c.args.idents.now in
    let head = map raw_of c.args.args.now in
    let body = goal_over raw_of c.args.body.now in
    let n = name_count sig in
    subst (λ (s : EquationSystem). AreFormed s.table) (sym c.in_ok-system.ensures) (gathers_clause n sig idents c.args.pred head body (started idents) (made_started n idents)).made.formed

pub returns-clause-ok : goal.returns-clause-ok
returns-clause-ok c =
    let sig = signature_of c.args.sig.now in
    let idents = c.args.idents.now in
    let head = map raw_of c.args.args.now in
    let body = goal_over raw_of c.args.body.now in
    let n = name_count sig in
    let typed = λ (ks : List NominalKind). HeadTyped sig c.args.pred head ks × GoalTyped sig body ks in
    ok_inferred c.settle.result (λ ks. map kind_of ks.items) sig idents typed (system_of c.in_ok-system.system)
    (subst (λ (s : EquationSystem). Walks sig idents typed s) (sym c.in_ok-system.ensures) (gathers_clause n sig idents c.args.pred head body (started idents) (made_started n idents)))
    c.settle.ensures.ok

pub returns-clause-err : goal.returns-clause-err
returns-clause-err c =
    let sig = signature_of c.args.sig.now in
    let idents = c.args.idents.now in
    let head = map raw_of c.args.args.now in
    let body = goal_over raw_of c.args.body.now in
    let n = name_count sig in
    let typed = λ (ks : List NominalKind). HeadTyped sig c.args.pred head ks × GoalTyped sig body ks in
    err_refused c.settle.result sig idents typed (system_of c.in_ok-system.system)
    (subst (λ (s : EquationSystem). Walks sig idents typed s) (sym c.in_ok-system.ensures) (gathers_clause n sig idents c.args.pred head body (started idents) (made_started n idents)))
    c.settle.ensures.err
