use Rattle.std.proofs.Common.{List, map, take, subst}
use Rattle.std.proofs.lemmas.List.{take_all}
use Rattle.ap_defs.specs.declared.goals.Constructor.{Constructor}
use Rattle.ap_defs.specs.Types.{NominalConstructor, constructor_of}
use Rattle.ap_types.specs.Rules.{IsLeastSoFar}
use Rattle.ap_types.proofs.RuleLemmas.{constructors_next}
use Rattle.ap_types.proofs.rounds.least_of.Goals as goal

pub loop-constructor-init : goal.loop-constructor-init
loop-constructor-init c = c.nothing-least.ensures c.args.question

pub loop-constructor-preserved : goal.loop-constructor-preserved
loop-constructor-preserved c =
    let cs = c.args.constructors.now in
    let i = c.loop-constructor.constructor-index in
    subst (λ (ds : List NominalConstructor). IsLeastSoFar c.args.question ds c.add_constructor.new.least)
    (constructors_next cs i c.constructor-item.result c.loop-constructor-test.true c.constructor-item.is)
    (c.in_ok-add_constructor.ensures (map constructor_of (take i cs)) c.loop-constructor.invariant)

pub returns : goal.returns
returns c =
    subst (λ (cs : List Constructor). IsLeastSoFar c.args.question (map constructor_of cs) c.loop-constructor.least)
    (take_all c.loop-constructor.constructor-index c.args.constructors.now c.loop-constructor-test.false) c.loop-constructor.invariant
