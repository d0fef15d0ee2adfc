use Rattle.std.proofs.Common.{◌≡◌, take}
use Rattle.ap_lexer.specs.Tokens.{lexemes}
use Rattle.ap_trees.specs.Symbols.{syms, syms_of}
use Rattle.ap_whole.proofs.symbols.symbols_of.Given as goal

abbrev pub invariant-loop-token : goal.invariant-loop-token
invariant-loop-token l = syms l.symbols.items ≡ syms_of (lexemes (take l.token-index l.tokens))
