use Rattle.std.proofs.Common.{take, sym, ap, ◌∙◌, add-one, arith}
use Rattle.std.proofs.Math.Seq.{take-suc}
use Rattle.ap_defs.specs.Permutations.{act_name}
use Rattle.ap_judge.proofs.images.Images.of.Goals as goal

pub loop-s-preserved : goal.loop-s-preserved
loop-s-preserved c = λ a.
    let ss = c.args.swaps.now in
    let i = c.loop-s.s-index in
    c.in_ok-swap_in.ensures (take i ss) c.loop-s.invariant a
    ∙ ap (λ q. act_name q a) (sym (take-suc ss i _ (omega arith)) ∙ ap (λ n. take n ss) (sym (add-one i)))
