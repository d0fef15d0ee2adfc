use Rattle.std.proofs.Common.{arith}
use Rattle.ap_answers.specs.Spelled.{spelling_in}
use Rattle.ap_answers.proofs.TextLemmas.{swappings_written}
use Rattle.ap_answers.proofs.beginnings.write_suspension.Goals as goal

pub returns : goal.returns
returns c =
    swappings_written (spelling_in c.args.by.now).names c.args.swaps.now ((spelling_in c.args.by.now).vars c.args.var)
    c.args.out.now.items c.write_heads.new.out.items c.write_var.new.out.items c.loop-swap.out.items c.loop-swap._swap-index
    c.in_ok-write_heads.ensures c.in_ok-write_var.ensures c.loop-swap.invariant (omega arith)
