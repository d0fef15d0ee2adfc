use Rattle.std.proofs.Common.{List, reverse, subst}
use Rattle.std.specs.List.{All}
use Rattle.ap_judge.specs.declared.equality.Compared.{Compared}
use Rattle.ap_judge.specs.Comparisons.{are_alike, mark_of, compared_size}
use Rattle.ap_judge.specs.Stacks.{all_waiting}
use Rattle.ap_judge.specs.Tables.{IsComparedIn}
use Rattle.ap_judge.proofs.StackLemmas.{turn_keeps, turn_true}
use Rattle.ap_judge.proofs.TableLemmas.{last_all}
use Rattle.ap_judge.proofs.equality.are_all_equal.Goals as goal

pub terms-preserved : goal.terms-preserved
terms-preserved c =
    let ds = c.args.answer.now.conds in
    let whole = all_waiting mark_of (are_alike ds) c.args.walk.now.binders.pairs.items (reverse c.args.walk.now.pending.items) in
    record {
      all =
          turn_true mark_of (are_alike ds) compared_size whole c.in-Some.next c.terms.walk.binders.pairs.items c.truncate.new.self.pairs.items c.compare.new.walk.binders.pairs.items
          c.terms.walk.pending.items c.pop.new.self.items c.compare.new.walk.pending.items c.terms.invariant.all c.terms.invariant.within c.in-Some.ensures.items c.in_ok-truncate.ensures.pairs
          c.in_ok-compare.field-0 c.if-not-branch.false c.in_ok-compare.ensures.tested;
      within =
          turn_keeps mark_of (are_alike ds) compared_size whole c.in-Some.next c.terms.walk.binders.pairs.items c.truncate.new.self.pairs.items c.compare.new.walk.binders.pairs.items
          c.terms.walk.pending.items c.pop.new.self.items c.compare.new.walk.pending.items c.terms.invariant.all c.terms.invariant.within c.in-Some.ensures.items c.in_ok-truncate.ensures.pairs
          c.in_ok-compare.field-0 c.if-not-branch.false c.in_ok-compare.ensures.tested;
      found = c.in_ok-compare.ensures.found;
      of = c.in_ok-compare.ensures.of;
    }

pub compare-requires-clause-of : goal.compare-requires-clause-of
compare-requires-clause-of c =
    let ts = c.args.terms.now in
    (last_all (IsComparedIn ts) c.pop.new.self.items c.in-Some.next (subst (λ (cs : List Compared). All (IsComparedIn ts) cs) c.in-Some.ensures.items c.terms.invariant.of)).1

pub compare-requires-clause-others : goal.compare-requires-clause-others
compare-requires-clause-others c =
    let ts = c.args.terms.now in
    (last_all (IsComparedIn ts) c.pop.new.self.items c.in-Some.next (subst (λ (cs : List Compared). All (IsComparedIn ts) cs) c.in-Some.ensures.items c.terms.invariant.of)).0
