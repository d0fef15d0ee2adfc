use Rattle.std.proofs.Common.{subst}
use Rattle.ap_store.specs.Founds.{IsPartStep, bare_term}
use Rattle.ap_store.specs.declared.occurrences.Step.{Step}
use Rattle.ap_store.specs.declared.occurrences.Step.TheVariants as steps
use Rattle.ap_store.proofs.OwnLemmas.{both_apart, inner_apart, leaf_apart, variable_apart}
use Rattle.ap_store.proofs.own.take_apart.Goals as goal

pub returns-in-Leaf : goal.returns-in-Leaf
returns-in-Leaf c =
    let t = bare_term c.args.b in
    let k = subst (λ (s : Step). IsPartStep t s) c.in-Leaf.is c.step_of.ensures in
    λ y. leaf_apart y c.args.vars.now.items c.args.waiting.now.items t k

pub returns-in_ok-push-in-Inner : goal.returns-in_ok-push-in-Inner
returns-in_ok-push-in-Inner c =
    let t = bare_term c.args.b in
    let k = subst (λ (s : Step). IsPartStep t s) c.in-Inner.is c.step_of.ensures in
    λ y. inner_apart y c.args.vars.now.items c.args.waiting.now.items t c.in-Inner.inner c.push.new.self.items k c.in_ok-push-in-Inner.ensures.items

pub returns-in_ok-push-in-Both-2 : goal.returns-in_ok-push-in-Both-2
returns-in_ok-push-in-Both-2 c =
    let t = bare_term c.args.b in
    let k = subst (λ (s : Step). IsPartStep t s) c.in-Both.is c.step_of.ensures in
    λ y. both_apart y c.args.vars.now.items c.args.waiting.now.items t c.in-Both.left c.in-Both.right c.push-in-Both.new.self.items c.push-in-Both-2.new.self.items k c.in_ok-push-in-Both.ensures.items c.in_ok-push-in-Both-2.ensures.items

pub returns-in_ok-push-in-Variable : goal.returns-in_ok-push-in-Variable
returns-in_ok-push-in-Variable c =
    let t = bare_term c.args.b in
    let k = subst (λ (s : Step). IsPartStep t s) c.in-Variable.is c.step_of.ensures in
    λ y. variable_apart y c.args.vars.now.items c.args.waiting.now.items t c.in-Variable.x c.push-in-Variable.new.self.items k c.in_ok-push-in-Variable.ensures.items
