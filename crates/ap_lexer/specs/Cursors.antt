-- What a cursor has before it.
use Rattle.std.specs.Prelude.{◌≡◌, List, Option, None, Some, Result, Ok, Err}
use Rattle.ap_defs.specs.declared.faults.SyntaxFault.{SyntaxFault}
use Rattle.ap_lexer.specs.declared.cursor.Cursor.{Cursor}
use Rattle.ap_lexer.specs.Tokens.{Lexeme, scan_from, lexemes_from}

-- the tokens after its place
abbrev pub lexemes_left : Cursor → List Lexeme
lexemes_left c = lexemes_from c.text.now c.place

-- it stands where no token begins, and none after it
abbrev pub HasStopped : Cursor → Type 0
HasStopped c = c.place ≡ (scan_from 0 0 c.text.now).stop

-- these tokens, unless there is a fault
abbrev pub or_fault : List Lexeme → Option SyntaxFault → Result (List Lexeme) SyntaxFault
or_fault ts None = Ok ts
or_fault ts (Some f) = Err f
