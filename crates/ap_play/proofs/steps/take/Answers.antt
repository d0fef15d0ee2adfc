use Rattle.std.proofs.Common.{sym, subst, IfOk, List, ℕ}
use Rattle.ap_tools.specs.declared.events.Event.{Event}
use Rattle.ap_tools.specs.declared.events.Event.TheVariants.{Split}
use Rattle.ap_tools.specs.Steps.{IsStep}
use Rattle.ap_play.specs.Stages.{state_of, past_of, Answered}
use Rattle.ap_play.proofs.steps.take.Goals as goal

pub returns-in-Push : goal.returns-in-Push
returns-in-Push g c =
    let t = c.args.tree.now in
    let past = past_of c.args.endings.now c.args.skipped.now.items in
    subst (λ (e : Event). IfOk c.push.result (λ b. Answered (IsStep (g.T.Tree.choices t) (g.T.Tree.at t) (state_of c.args.workers.now past) e) b (state_of c.push.new.workers past))) (sym c.in-Push.is) (c.push.ensures past)

pub returns-in-Pop : goal.returns-in-Pop
returns-in-Pop g c =
    let t = c.args.tree.now in
    let past = past_of c.args.endings.now c.args.skipped.now.items in
    subst (λ (e : Event). IfOk c.pop.result (λ b. Answered (IsStep (g.T.Tree.choices t) (g.T.Tree.at t) (state_of c.args.workers.now past) e) b (state_of c.pop.new.workers past))) (sym c.in-Pop.is) (c.pop.ensures past)

pub returns-in-Steal : goal.returns-in-Steal
returns-in-Steal g c =
    let t = c.args.tree.now in
    let past = past_of c.args.endings.now c.args.skipped.now.items in
    subst (λ (e : Event). IfOk c.steal.result (λ b. Answered (IsStep (g.T.Tree.choices t) (g.T.Tree.at t) (state_of c.args.workers.now past) e) b (state_of c.steal.new.workers past))) (sym c.in-Steal.is) (c.steal.ensures past)

pub returns-in-Split : goal.returns-in-Split
returns-in-Split g c =
    let t = c.args.tree.now in
    let past = past_of c.args.endings.now c.args.skipped.now.items in
    let made = subst (λ (ks : List ℕ). IfOk c.split.result (λ b. Answered (IsStep (g.T.Tree.choices t) (g.T.Tree.at t) (state_of c.args.workers.now past) (Split c.in-Split.w ks)) b (state_of c.split.new.workers past))) c.items.ensures (c.split.ensures past) in
    subst (λ (e : Event). IfOk c.split.result (λ b. Answered (IsStep (g.T.Tree.choices t) (g.T.Tree.at t) (state_of c.args.workers.now past) e) b (state_of c.split.new.workers past))) (sym c.in-Split.is) made

pub returns-in-Done : goal.returns-in-Done
returns-in-Done g c =
    let t = c.args.tree.now in
    let skipped = c.args.skipped.now.items in
    subst (λ (e : Event). IfOk c.done.result (λ b. Answered (IsStep (g.T.Tree.choices t) (g.T.Tree.at t) (state_of c.args.workers.now (past_of c.args.endings.now skipped)) e) b (state_of c.done.new.workers (past_of c.done.new.endings skipped)))) (sym c.in-Done.is) (c.done.ensures skipped)

pub returns-in-Skip : goal.returns-in-Skip
returns-in-Skip g c =
    let t = c.args.tree.now in
    let past = past_of c.args.endings.now c.args.skipped.now.items in
    subst (λ (e : Event). IfOk c.skip.result (λ b. Answered (IsStep (g.T.Tree.choices t) (g.T.Tree.at t) (state_of c.args.workers.now past) e) b (state_of c.skip.new.workers (past_of c.args.endings.now c.skip.new.skipped.items)))) (sym c.in-Skip.is) c.skip.ensures
