use Rattle.std.proofs.Common.{refl, sym, ap}
use Rattle.ap_defs.specs.Derivations as nodes
use Rattle.ap_defs.specs.Derivations.{derivation_of}
use Rattle.ap_defs.specs.Goals as goals
use Rattle.ap_defs.specs.Goals.{goal_of}
use Rattle.ap_defs.specs.Terms.{term_of}
use Rattle.ap_judge.specs.declared.scope.Standing.TheVariants as code
use Rattle.ap_steps.specs.Writers.{writing_of}
use Rattle.ap_steps.proofs.BodyLemmas.{goes_brought}
use Rattle.ap_steps.proofs.bodies.visit.Goals as goal

pub returns-in_ok-put-in-Exists-Exists : goal.returns-in_ok-put-in-Exists-Exists
returns-in_ok-put-in-Exists-Exists c =
    let v = c.in-Exists-Exists in
    rw (v.is-0, v.is-1, sym c.deref-in-Exists-Exists.ensures) (goes_brought (writing_of c.args.writer.now) (nodes.exists (term_of c.deref-in-Exists-Exists.result.now) (derivation_of v.below.value)) (goals.exists v.x (goal_of v.goal.value))
    c.args.body.now c.bring.new.self c.put-in-Exists-Exists.new.self _ _ (derivation_of v.below.value) (goal_of v.goal.value)
    c.requires c.in_ok-bring-in-Exists-Exists.ensures.standing c.bring.ensures.pending c.bring.ensures.pieces
    c.put-in-Exists-Exists.ensures.standing c.in_ok-put-in-Exists-Exists.ensures.pending refl c.put-in-Exists-Exists.ensures.pieces
    (ap derivation_of c.deref-in-Exists-Exists-2.ensures) (ap goal_of c.deref-in-Exists-Exists-3.ensures) refl refl)

pub returns-in_ok-put-in-New-New : goal.returns-in_ok-put-in-New-New
returns-in_ok-put-in-New-New c =
    let v = c.in-New-New in
    rw (v.is-0, v.is-1, sym c.deref-in-New-New.ensures) (goes_brought (writing_of c.args.writer.now) (nodes.new c.deref-in-New-New.result.now (derivation_of v.below.value)) (goals.new v.own (goal_of v.goal.value))
    c.args.body.now c.bring-in-New-New.new.self c.put-in-New-New.new.self _ (code.Name v.own c.deref-in-New-New.result.now) (derivation_of v.below.value) (goal_of v.goal.value)
    c.requires c.in_ok-bring-in-New-New.ensures.standing c.bring-in-New-New.ensures.pending c.bring-in-New-New.ensures.pieces
    c.put-in-New-New.ensures.standing c.in_ok-put-in-New-New.ensures.pending refl c.put-in-New-New.ensures.pieces
    (ap derivation_of c.deref-in-New-New-2.ensures) (ap goal_of c.deref-in-New-New-3.ensures) refl refl)
