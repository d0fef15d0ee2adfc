use Rattle.std.proofs.Common.{arith, sym, ◌∙◌}
use Rattle.ap_values.proofs.FlatLemmas.{between_above, between_all, between_below, found_nowhere, found_there}
use Rattle.ap_values.proofs.flat.image_of.Goals as goal

pub halving-init : goal.halving-init
halving-init c = (omega arith, omega arith, between_all c.args.moved.now c.args.a _ (omega arith))

pub returns-then-is_same : goal.returns-then-is_same
returns-then-is_same c = found_there c.args.moved.now c.args.a 0 0 _ _ (omega arith) (sym c.is_same.ensures ∙ c.if-is_same.true)

pub halving-preserved-then-is_before : goal.halving-preserved-then-is_before
halving-preserved-then-is_before c =
    (omega arith, c.halving.invariant.1, between_above c.args.moved.now c.args.a c.halving.low c.halving.high _ _ (omega arith) c.halving.invariant.2 (sym c.is_before.ensures ∙ c.if-is_before.true))

pub halving-preserved : goal.halving-preserved
halving-preserved c = (
  omega arith,
  omega arith,
  between_below c.args.moved.now c.args.a c.halving.low c.halving.high _ _ (omega arith) c.halving.invariant.2
      (sym c.is_same.ensures ∙ c.if-is_same.false) (sym c.is_before.ensures ∙ c.if-is_before.false),
)

pub returns : goal.returns
returns c = found_nowhere c.args.moved.now c.args.a c.halving.low c.halving.high (omega arith) c.halving.invariant.2
