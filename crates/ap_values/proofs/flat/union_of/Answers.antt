use Rattle.std.proofs.Common.{◌≤◌, ◌⊎◌, arith, inl, inr, length, sym, ◌∙◌}
use Rattle.ap_values.proofs.UnionLemmas.{both_written, left_written, rest_written, right_written}
use Rattle.ap_values.proofs.flat.union_of.Goals as goal
use Rattle.ap_values.proofs.flat.union_of.Goals.{then-merging-test+else-j-right, else-merging-test}

pub merging-preserved-then-is_before : goal.merging-preserved-then-is_before
merging-preserved-then-is_before c =
    let before = c.merging.invariant in
    let left = c.args.left.now in
    let right = c.args.right.now in (
      omega arith,
      before.1,
      λ p q l r.
          left_written p q left right c.merging.i c.merging.j _ _ l r (omega arith) (omega arith) c.merging.names.items c.push.new.self.items _ (before.2 p q l r)
          (sym c.is_before.ensures ∙ c.if-is_before.true) c.in_ok-push.ensures.items,
    )

pub merging-preserved-then-is_before-2 : goal.merging-preserved-then-is_before-2
merging-preserved-then-is_before-2 c =
    let before = c.merging.invariant in
    let left = c.args.left.now in
    let right = c.args.right.now in (
      before.0,
      omega arith,
      λ p q l r.
          right_written p q left right c.merging.i c.merging.j _ _ l r (omega arith) (omega arith) c.merging.names.items c.push-then-is_before-2.new.self.items _ (before.2 p q l r)
          (sym c.is_before-else-is_before.ensures ∙ c.if-is_before-2.true) c.in_ok-push-2.ensures.items,
    )

pub merging-preserved : goal.merging-preserved
merging-preserved c =
    let before = c.merging.invariant in
    let left = c.args.left.now in
    let right = c.args.right.now in (
      omega arith,
      omega arith,
      λ p q l r.
          both_written p q left right c.merging.i c.merging.j _ _ l r (omega arith) (omega arith) c.merging.names.items c.push-else-is_before-2.new.self.items _ (before.2 p q l r)
          (sym c.is_before.ensures ∙ c.if-is_before.false) (sym c.is_before-else-is_before.ensures ∙ c.if-is_before-2.false) c.in_ok-push-3.ensures.items,
    )

pub returns : goal.returns
returns c = λ p q l r.
    rest_written p q c.args.left.now c.args.right.now c.merging.i c.merging.j c.merging.names.items c.add_rest.new.names.items c.add_rest-2.new.names.items _ l r end (c.merging.invariant.2 p q l r)
    (c.in_ok-add_rest.ensures p l) (c.in_ok-add_rest-2.ensures q r)
  where
    end : length c.args.left.now ≤ c.merging.i ⊎ length c.args.right.now ≤ c.merging.j
    end = elim c.merging-test.branch [
      | then-merging-test+else-j-right w ↦ inr (omega arith)
      | else-merging-test w ↦ inl (omega arith)
    ]
