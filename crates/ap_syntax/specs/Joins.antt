-- What is joined by commas, and what by semicolons.
use Rattle.std.specs.Prelude.{List, Option}
use Rattle.ap_trees.specs.Goals.{Goal, Both, Either}
use Rattle.ap_trees.specs.Readers.{SymbolReader, after_comma}
use Rattle.ap_trees.specs.Symbols.{Sym}
use Rattle.ap_syntax.specs.declared.joining.Join.{Join}
use Rattle.ap_syntax.specs.declared.joining.Join.TheVariants as joins
use Rattle.ap_syntax.specs.Marks.{after_semicolon}
use Rattle.ap_syntax.specs.GoalReader.{read_simple, read_conj, read_disj}

-- two goals joined
abbrev pub joining : Join → Goal → Goal → Goal
joining joins.Both = Both
joining joins.Either = Either

-- the symbols after the mark between parts
abbrev pub after_mark : Join → List Sym → Option (List Sym)
after_mark joins.Both = after_comma
after_mark joins.Either = after_semicolon

-- one part
abbrev pub read_part : Join → SymbolReader Goal → SymbolReader Goal
read_part joins.Both = read_simple
read_part joins.Either = read_conj

-- one part or more
abbrev pub read_joined : Join → SymbolReader Goal → SymbolReader Goal
read_joined joins.Both = read_conj
read_joined joins.Either = read_disj
