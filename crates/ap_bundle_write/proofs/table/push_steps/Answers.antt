use Rattle.std.proofs.Common.{refl}
use Rattle.ap_shared.specs.Shared.{entry_term, shared_at}
use Rattle.ap_shared.specs.SharedViews.{shared_terms}
use Rattle.ap_bundle_write.proofs.WalkLemmas.{steps_begun}
use Rattle.ap_bundle_write.proofs.table.push_steps.Goals as goal

pub returns-in_ok-push_parts-in-Some : goal.returns-in_ok-push_parts-in-Some
returns-in_ok-push_parts-in-Some c =
    let ts = shared_terms c.args.terms.now in
    steps_begun ts c.args.tasks.now.items c.push.new.self.items c.push_parts.new.tasks.items _ (shared_at ts c.args.line) (entry_term ts c.in-Some.entry.now) c.in_ok-push.ensures.items refl c.in-Some.ensures.term (c.in_ok-push_parts-in-Some.ensures ts)

pub returns-in-None : goal.returns-in-None
returns-in-None c =
    let ts = shared_terms c.args.terms.now in
    steps_begun ts c.args.tasks.now.items c.push.new.self.items c.push.new.self.items _ (shared_at ts c.args.line) _ c.in_ok-push.ensures.items refl c.in-None.ensures.term refl
