use Rattle.std.proofs.Common.{◌≡◌, ◌<◌, [], ◌∷◌, ◌∙◌, ap, sym, subst}
use Rattle.std.specs.Prelude.{reverse}
use Rattle.std.proofs.lemmas.List.{reverse-append}
use Rattle.ap_bundle.specs.Tables.{with_table_terms, with_parts}
use Rattle.ap_shared.specs.Shared.{shared_at}
use Rattle.ap_shared.specs.SharedViews.{shared_terms}
use Rattle.ap_bundle_write.specs.Tables.{held_terms, steps_of, task_step, enter, leave}
use Rattle.ap_bundle_write.proofs.WalkLemmas.{Leads, begun_less, begun_walk, left_walk, steps_last, weigh}
use Rattle.ap_bundle_write.proofs.table.Table.enter.Goals as goal

pub loop-task-preserved-in-Continue-branch-2 : goal.loop-task-preserved-in-Continue-branch-2
loop-task-preserved-in-Continue-branch-2 c =
    let ts = shared_terms c.args.terms.now in
    let w = c.loop-task.invariant.walk in
    let u = shared_at ts c.in-Enter.next in
    let held = held_terms c.loop-task.self in
    let others = steps_of ts c.pop.new.self.items in
    let end = with_table_terms (held_terms c.args.self.now) (with_parts (shared_at ts c.args.line)) in
    let top : steps_of ts c.loop-task.tasks.items ≡ enter u ∷ others =
    ap (steps_of ts) c.in-Some.ensures.items ∙ steps_last ts c.pop.new.self.items c.in-Some.task ∙ ap (λ k. task_step ts k ∷ others) c.in-Enter.is in
    let leads = subst (λ ks. Leads ks held w.0 end (shared_at ts c.args.line)) top w.3 in
    record {
      entering = c.loop-task.invariant.entering;
      walk = begun_walk u others (steps_of ts c.begin.new.tasks.items) held w.0 end (shared_at ts c.args.line) (reverse c.loop-task.numbers.items) (reverse c.begin.new.numbers.items)
          c.loop-task.invariant.entering.table.parts c.in_ok-begin-in-Enter.ensures w.1 w.2 leads;
    }

pub loop-task-smaller-in-Continue-branch-2 : goal.loop-task-smaller-in-Continue-branch-2
loop-task-smaller-in-Continue-branch-2 c =
    let ts = shared_terms c.args.terms.now in
    let u = shared_at ts c.in-Enter.next in
    let others = steps_of ts c.pop.new.self.items in
    let top : steps_of ts c.loop-task.tasks.items ≡ enter u ∷ others =
    ap (steps_of ts) c.in-Some.ensures.items ∙ steps_last ts c.pop.new.self.items c.in-Some.task ∙ ap (λ k. task_step ts k ∷ others) c.in-Enter.is in
    subst (λ ks. weigh (steps_of ts c.begin.new.tasks.items) < weigh ks) (sym top)
    (begun_less u others (steps_of ts c.begin.new.tasks.items) (held_terms c.loop-task.self) (reverse c.loop-task.numbers.items) (reverse c.begin.new.numbers.items) c.in_ok-begin-in-Enter.ensures)

pub loop-task-preserved : goal.loop-task-preserved
loop-task-preserved c =
    let ts = shared_terms c.args.terms.now in
    let w = c.loop-task.invariant.walk in
    let u = shared_at ts c.in-Leave.next in
    let others = steps_of ts c.pop.new.self.items in
    let end = with_table_terms (held_terms c.args.self.now) (with_parts (shared_at ts c.args.line)) in
    let top : steps_of ts c.loop-task.tasks.items ≡ leave u ∷ others =
    ap (steps_of ts) c.in-Some.ensures.items ∙ steps_last ts c.pop.new.self.items c.in-Some.task ∙ ap (λ k. task_step ts k ∷ others) c.in-Leave.is in
    let leads = subst (λ ks. Leads ks (held_terms c.loop-task.self) w.0 end (shared_at ts c.args.line)) top w.3 in
    let got = rw c.in-Some-2.is at c.in_ok-words-in-Leave.ensures in
    let walk = left_walk u others (held_terms c.loop-task.self) w.0 end (shared_at ts c.args.line) (reverse c.loop-task.numbers.items) w.1 w.2 leads (held_terms c.add_line.new.self) c.in-Some-2.words.items (reverse c.words_of.new.numbers.items) c.in_ok-number-in-Leave.number got c.in_ok-number-in-Leave.ensures.number c.in_ok-number-in-Leave.ensures.held in
    let numbers : reverse c.push-in-Leave.new.self.items ≡ c.in_ok-number-in-Leave.number ∷ reverse c.words_of.new.numbers.items =
    ap reverse c.in_ok-push-in-Leave.ensures.items ∙ reverse-append c.words_of.new.numbers.items (c.in_ok-number-in-Leave.number ∷ []) in
    record {
      entering = c.in_ok-number-in-Leave.ensures.entering;
      walk = (walk.0, numbers ∙ walk.1, walk.2, walk.3);
    }
