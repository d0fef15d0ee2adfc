-- What the grammar sees of a token: its kind, the text of a word, and which mark it is.
use Rattle.std.specs.Prelude.{ℕ, List, map, codes, if◌then◌else◌}
use Rattle.std.specs.Str.{bytes_eq}
use Rattle.ap_lexer.specs.declared.token.TokenKind.{TokenKind}
use Rattle.ap_lexer.specs.declared.token.TokenKind.TheVariants as kinds
use Rattle.ap_lexer.specs.Tokens.{Lexeme}
use Rattle.ap_trees.specs.declared.symbols.Symbol.{Symbol}
use Rattle.ap_trees.specs.declared.symbols.Symbol.TheVariants as symbols

-- a symbol without where its word lies in memory
pub data Sym : Type 0 where
  Var : List ℕ → Sym
  Ident : List ℕ → Sym
  NameType : Sym
  DataType : Sym
  Pred : Sym
  New : Sym
  Exists : Sym
  Swap : Sym
  Dot : Sym
  Comma : Sym
  Semicolon : Sym
  Colon : Sym
  If : Sym
  Ask : Sym
  Arrow : Sym
  Open : Sym
  Close : Sym
  OpenList : Sym
  CloseList : Sym
  Bar : Sym
  Lambda : Sym
  Fresh : Sym
  Equal : Sym
  Other : Sym

abbrev pub sym : Symbol → Sym
sym (symbols.Var word) = Var word.now
sym (symbols.Ident word) = Ident word.now
sym symbols.NameType = NameType
sym symbols.DataType = DataType
sym symbols.Pred = Pred
sym symbols.New = New
sym symbols.Exists = Exists
sym symbols.Swap = Swap
sym symbols.Dot = Dot
sym symbols.Comma = Comma
sym symbols.Semicolon = Semicolon
sym symbols.Colon = Colon
sym symbols.If = If
sym symbols.Ask = Ask
sym symbols.Arrow = Arrow
sym symbols.Open = Open
sym symbols.Close = Close
sym symbols.OpenList = OpenList
sym symbols.CloseList = CloseList
sym symbols.Bar = Bar
sym symbols.Lambda = Lambda
sym symbols.Fresh = Fresh
sym symbols.Equal = Equal
sym symbols.Other = Other

abbrev pub syms : List Symbol → List Sym
syms ts = map sym ts

abbrev pub reserved_sym : List ℕ → Sym
reserved_sym word =
    if bytes_eq word (codes "name_type") then NameType else
    (if bytes_eq word (codes "type") then DataType else
    (if bytes_eq word (codes "pred") then Pred else
    (if bytes_eq word (codes "new") then New else
    (if bytes_eq word (codes "exists") then Exists else
    (if bytes_eq word (codes "swap") then Swap else Other)))))

abbrev pub mark_sym : List ℕ → Sym
mark_sym mark =
    if bytes_eq mark (codes ".") then Dot else
    (if bytes_eq mark (codes ",") then Comma else
    (if bytes_eq mark (codes ";") then Semicolon else
    (if bytes_eq mark (codes ":") then Colon else
    (if bytes_eq mark (codes ":-") then If else
    (if bytes_eq mark (codes "?-") then Ask else
    (if bytes_eq mark (codes "->") then Arrow else
    (if bytes_eq mark (codes "(") then Open else
    (if bytes_eq mark (codes ")") then Close else
    (if bytes_eq mark (codes "[") then OpenList else
    (if bytes_eq mark (codes "]") then CloseList else
    (if bytes_eq mark (codes "|") then Bar else
    (if bytes_eq mark (codes "\\") then Lambda else
    (if bytes_eq mark (codes "#") then Fresh else
    (if bytes_eq mark (codes "=") then Equal else Other))))))))))))))

abbrev pub spelled : TokenKind → List ℕ → Sym
spelled kinds.Var text = Var text
spelled kinds.Ident text = Ident text
spelled kinds.Reserved text = reserved_sym text
spelled kinds.Sign text = mark_sym text

abbrev pub sym_of : Lexeme → Sym
sym_of t = spelled t.kind t.text

abbrev pub syms_of : List Lexeme → List Sym
syms_of ts = map sym_of ts
