use Rattle.std.proofs.Common.{arith}
use Rattle.ap_tools.proofs.Allowed.{draw_at}
use Rattle.ap_tools.proofs.locked.shared.SharedBook.draw.Goals as goal

pub fetch_add-requires : goal.fetch_add-requires
fetch_add-requires c =
    let n = c.args.self.now.words in
    (c.requires.0, omega arith, draw_at _ _ _ _ c.requires.1)
