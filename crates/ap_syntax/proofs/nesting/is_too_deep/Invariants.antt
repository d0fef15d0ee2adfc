use Rattle.std.proofs.Common.{◌≡◌, [], drop, reverse}
use Rattle.ap_trees.specs.Symbols.{syms}
use Rattle.ap_syntax.specs.Nesting.{passes}
use Rattle.ap_syntax.proofs.nesting.is_too_deep.Given as goal

abbrev pub invariant-loop-symbol : goal.invariant-loop-symbol
invariant-loop-symbol l = passes (reverse l.levels.items) (syms (drop l.symbol-index l.symbols)) ≡ passes [] (syms l.symbols)
