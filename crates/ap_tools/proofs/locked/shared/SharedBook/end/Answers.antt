use Rattle.std.proofs.Common.{arith}
use Rattle.ap_tools.proofs.Allowed.{end_at}
use Rattle.ap_tools.proofs.locked.shared.SharedBook.end.Goals as goal

pub fetch_add-requires : goal.fetch_add-requires
fetch_add-requires c =
    let n = c.args.self.now.words in
    (c.requires.0, omega arith, end_at _ _ _ _ c.requires.1)
