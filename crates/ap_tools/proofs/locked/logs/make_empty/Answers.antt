use Rattle.std.proofs.Common.{◌++◌, ◌∷◌, [], ◌∙◌, sym, ap}
use Rattle.ap_tools.specs.Seats.{logs_of}
use Rattle.ap_tools.specs.Noting.{lists_of}
use Rattle.ap_tools.proofs.Logging.{logs_of-last, lists_of-last}
use Rattle.ap_tools.proofs.locked.logs.make_empty.Goals as goal

pub loop-preserved : goal.loop-preserved
loop-preserved c =
    ap lists_of c.in_ok-push.ensures.items ∙ lists_of-last c.loop.logs.items c.new.result
    ∙ ap (λ l. l ++ c.new.result.items ∷ []) c.loop.invariant ∙ ap (λ l. logs_of c.loop.counter [] ++ l ∷ []) c.new.ensures.items
    ∙ sym (logs_of-last c.loop.counter [])
