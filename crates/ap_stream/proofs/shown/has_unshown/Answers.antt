use Rattle.std.proofs.Common.{◌∙◌, sym, arith}
use Rattle.ap_stream.proofs.ShownLemmas.{shown_front}
use Rattle.ap_stream.proofs.shown.has_unshown.Goals as goal

pub looking-preserved : goal.looking-preserved
looking-preserved c = λ k.
    c.looking.invariant (shown_front c.args.locals.now c.local-item.result c.looking.local-index (omega arith) c.local-item.is (sym c.is_unshown.ensures ∙ c.if-is_unshown.false) k)
