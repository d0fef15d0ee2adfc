use Rattle.std.proofs.Common.{subst}
use Rattle.ap_store.specs.Views.{bindings_of}
use Rattle.ap_unify.proofs.SameLemmas.{looked_both, looked_done, looked_on}
use Rattle.ap_unify.proofs.settled.look.Goals as goal
use Rattle.ap_unify.specs.Settled.{MakesSame}

pub looking-init : goal.looking-init
looking-init c = λ h k. h

pub looking-preserved-in-On : goal.looking-preserved-in-On
looking-preserved-in-On c =
    let s = bindings_of c.args.store.now in
    let f = c.look_further.new.ahead in
    let here = c.looking.ahead.next in
    let ws = c.looking.waiting.items in
    looked_on s c.args.first here f ws ws c.looking.invariant (subst (λ t. MakesSame s t f here) c.in-On.is c.look_further.ensures)

pub looking-preserved-in-Both : goal.looking-preserved-in-Both
looking-preserved-in-Both c =
    let s = bindings_of c.args.store.now in
    let f = c.look_further.new.ahead in
    let here = c.looking.ahead.next in
    looked_both s c.args.first here f c.looking.waiting.items c.push.new.self.items c.looking.invariant (subst (λ t. MakesSame s t f here) c.in-Both.is c.look_further.ensures)
    c.in_ok-push-in-Both.ensures.items

pub looking-preserved : goal.looking-preserved
looking-preserved c =
    let s = bindings_of c.args.store.now in
    let f = c.look_further.new.ahead in
    let here = c.looking.ahead.next in
    looked_done s c.args.first here f c.looking.waiting.items c.pop.new.self.items c.looking.invariant (subst (λ t. MakesSame s t f here) c.in-Done.is c.look_further.ensures)
    c.in-Some.next c.in-Some.ensures.items
