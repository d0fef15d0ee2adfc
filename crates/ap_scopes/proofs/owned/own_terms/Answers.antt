use Rattle.std.proofs.Common.{[]}
use Rattle.ap_scopes.specs.Views.{declared_of, found_of}
use Rattle.ap_scopes.proofs.OwnedLemmas.{terms_last}
use Rattle.ap_scopes.proofs.owned.own_terms.Goals as goal

pub loop-tree-preserved : goal.loop-tree-preserved
loop-tree-preserved c = record {
  done = terms_last (declared_of c.args.declared.now) [] c.loop-tree.yielded c.in-Some.tree
      _ (found_of c.loop-tree.found) (found_of c.own_term.new.found) c.loop-tree.terms.items c.push.new.self.items c.in_ok-own_term.field-0
      c.in_ok-push.ensures.items c.loop-tree.invariant.done c.in_ok-own_term.ensures.value;
  numbered = c.in_ok-own_term.ensures.numbered;
}
