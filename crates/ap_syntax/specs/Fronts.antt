-- The first item that is left of a text, as its symbols.
use Rattle.std.specs.Prelude.{ℕ, Bool, true, false, List, [], ◌∷◌, Option, None, Some, ◌≡◌}
use Rattle.ap_lexer.specs.Tokens.{Lexeme}
use Rattle.ap_trees.specs.Symbols.{Sym, syms, syms_of}
use Rattle.ap_syntax.specs.declared.front.Front.{Front}
use Rattle.ap_syntax.specs.Reading.{first_dot, before}

-- whether a `.` ends the first item, and the symbols before it, or all where none comes
abbrev pub HasBefore : List Lexeme → Bool → List Sym → Type 0
HasBefore ts true symbols = (place : ℕ) × (first_dot ts ≡ Some place) × (symbols ≡ before place ts)
HasBefore ts false symbols = (first_dot ts ≡ None) × (symbols ≡ syms_of ts)

-- the first item of some tokens, of which there is one at least
abbrev pub IsFrontOf : List Lexeme → Front → Type 0
IsFrontOf [] f = ⊥
IsFrontOf (t ∷ ts) f = (f.line ≡ t.line) × HasBefore (t ∷ ts) f.ended (syms f.symbols.items)
