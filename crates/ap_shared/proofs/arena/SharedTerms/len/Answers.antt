use Rattle.std.proofs.Common.{arith}
use Rattle.ap_shared.proofs.SharedLemmas.{terms_long}
use Rattle.ap_shared.proofs.arena.SharedTerms.len.Goals as goal

pub returns : goal.returns
returns c = omega (arith, c.len.ensures, terms_long c.args.self.now.lines.items, c.args.self.now.lines.ok)
