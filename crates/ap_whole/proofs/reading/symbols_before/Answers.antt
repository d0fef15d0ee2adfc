use Rattle.std.proofs.Common.{◌≡◌, subst, IfOk}
use Rattle.ap_trees.specs.Symbols.{syms}
use Rattle.ap_syntax.proofs.Readings.{before_is}
use Rattle.ap_whole.proofs.reading.symbols_before.Goals as goal

pub returns : goal.returns
returns c = subst (λ s. IfOk c.symbols_of.result (λ v. syms v.items ≡ s)) (before_is c.args.tokens.now c.args.place) c.symbols_of.ensures
