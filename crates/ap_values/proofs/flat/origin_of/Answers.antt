use Rattle.std.proofs.Common.{arith, sym, ◌∙◌}
use Rattle.ap_values.proofs.FlatLemmas.{seen_nowhere, seen_there, unseen_first, unseen_further}
use Rattle.ap_values.proofs.flat.origin_of.Goals as goal

pub looking-init : goal.looking-init
looking-init c = unseen_first c.args.moved.now c.args.a

pub returns-then-is_same : goal.returns-then-is_same
returns-then-is_same c = seen_there c.args.moved.now c.args.a c.looking.i _ (omega arith) (sym c.is_same.ensures ∙ c.if-is_same.true)

pub looking-preserved : goal.looking-preserved
looking-preserved c = unseen_further c.args.moved.now c.args.a c.looking.i _ (omega arith) c.looking.invariant (sym c.is_same.ensures ∙ c.if-is_same.false)

pub returns : goal.returns
returns c = seen_nowhere c.args.moved.now c.args.a c.looking.i (omega arith) c.looking.invariant
