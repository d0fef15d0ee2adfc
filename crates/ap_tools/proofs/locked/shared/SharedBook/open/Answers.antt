use Rattle.std.proofs.Common.{◌∙◌, Some}
use Rattle.ap_tools.proofs.Allowed.{carried}
use Rattle.ap_tools.proofs.locked.shared.SharedBook.open.Goals as goal

pub exchange-found-requires : goal.exchange-found-requires
exchange-found-requires g c =
    let t = c.take.ensures.1 in
    (c.take.ensures.0 ∙ c.requires.0, (Some t.0, carried _ _ _ t.1.1.1))
