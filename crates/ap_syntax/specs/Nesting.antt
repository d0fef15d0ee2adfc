-- How deep the symbols of an item are nested.
use Rattle.std.specs.Prelude.{ℕ, Bool, true, false, ◌||◌, nat_lt, List, [], ◌∷◌, length}
use Rattle.ap_trees.specs.Symbols.{Sym, Comma, Semicolon, If, Arrow, Open, Close, OpenList, CloseList, Bar, Lambda, Fresh, Equal}
use Rattle.ap_syntax.specs.declared.nesting.Level.{Level}
use Rattle.ap_syntax.specs.declared.nesting.Level.TheVariants.{Round, Square, Under}
use Rattle.ap_syntax.specs.declared.nesting.Step.{Step}
use Rattle.ap_syntax.specs.declared.nesting.Step.TheVariants.{Opens, Closes, Parts, Stays}

-- the levels without each `\` since the last open bracket; the last level comes first
abbrev pub to_bracket : List Level → List Level
to_bracket (Under ∷ levels) = to_bracket levels
to_bracket levels = levels

abbrev pub is_bracket : Level → Bool
is_bracket Under = false
is_bracket level = true

-- `)` or `]` takes away its partner and each `\` since, and changes nothing where it has none
abbrev pub closed : Level → List Level → List Level → List Level
closed Round (Round ∷ rest) levels = rest
closed Square (Square ∷ rest) levels = rest
closed bracket brackets levels = levels

-- what a symbol does to the levels
abbrev pub nesting_step : Sym → Step
nesting_step Open = Opens Round
nesting_step OpenList = Opens Square
nesting_step Lambda = Opens Under
nesting_step Close = Closes Round
nesting_step CloseList = Closes Square
nesting_step Comma = Parts
nesting_step Semicolon = Parts
nesting_step Bar = Parts
nesting_step Equal = Parts
nesting_step Fresh = Parts
nesting_step If = Parts
nesting_step Arrow = Parts
nesting_step t = Stays

-- the levels after a step
abbrev pub next_levels : List Level → Step → List Level
next_levels levels (Opens level) = level ∷ levels
next_levels levels (Closes bracket) = closed bracket (to_bracket levels) levels
next_levels levels Parts = to_bracket levels
next_levels levels Stays = levels

-- the most levels that an item may have
abbrev pub most_levels : ℕ
most_levels = 256

-- whether there are too many levels after one of the symbols, where these are open before them
unfoldable pub passes : List Level → List Sym → Bool
passes levels [] = false
passes levels (t ∷ ts) = nat_lt most_levels (length (next_levels levels (nesting_step t))) || passes (next_levels levels (nesting_step t)) ts

-- whether an item is nested too deeply
abbrev pub is_too_deep : List Sym → Bool
is_too_deep ts = passes [] ts
