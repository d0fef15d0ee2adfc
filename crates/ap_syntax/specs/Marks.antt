-- What comes first, and the symbols after it.
use Rattle.std.specs.Prelude.{ℕ, List, ◌∷◌, Option, None, Some, codes, if◌then◌else◌}
use Rattle.std.specs.Str.{bytes_eq}
use Rattle.ap_trees.specs.Symbols.{Sym, Ident, Var, Colon, Semicolon, Equal, Fresh, New, Exists, If, Ask, Arrow, Pred}
use Rattle.ap_trees.specs.Readers.{SymbolReader, ◌>>=◌, after_open, at_end}

abbrev pub after_semicolon : List Sym → Option (List Sym)
after_semicolon (Semicolon ∷ ts) = Some ts
after_semicolon ts = None

abbrev pub after_equal : List Sym → Option (List Sym)
after_equal (Equal ∷ ts) = Some ts
after_equal ts = None

abbrev pub after_fresh : List Sym → Option (List Sym)
after_fresh (Fresh ∷ ts) = Some ts
after_fresh ts = None

abbrev pub after_new : List Sym → Option (List Sym)
after_new (New ∷ ts) = Some ts
after_new ts = None

abbrev pub after_exists : List Sym → Option (List Sym)
after_exists (Exists ∷ ts) = Some ts
after_exists ts = None

abbrev pub after_if : List Sym → Option (List Sym)
after_if (If ∷ ts) = Some ts
after_if ts = None

abbrev pub after_ask : List Sym → Option (List Sym)
after_ask (Ask ∷ ts) = Some ts
after_ask ts = None

abbrev pub after_arrow : List Sym → Option (List Sym)
after_arrow (Arrow ∷ ts) = Some ts
after_arrow ts = None

abbrev pub after_pred : List Sym → Option (List Sym)
after_pred (Pred ∷ ts) = Some ts
after_pred ts = None

-- an IDENT
abbrev pub read_ident : SymbolReader (List ℕ)
read_ident (Ident w ∷ ts) = Some (w, ts)
read_ident ts = None

-- the variable `_`, each of which is another
abbrev pub blank : List ℕ
blank = codes "_"

-- a VAR
abbrev pub read_var : SymbolReader (List ℕ)
read_var (Var w ∷ ts) = Some (w, ts)
read_var ts = None

abbrev pub unless_blank : List ℕ → List Sym → Option (List ℕ × List Sym)
unless_blank w ts = if bytes_eq w blank then None else Some (w, ts)

-- a VAR that isn't `_`
unfoldable pub read_bound : SymbolReader (List ℕ)
read_bound ts = do
  word ← read_var ts
  unless_blank word.0 word.1

abbrev pub after_colon : List Sym → Option (List Sym)
after_colon (Colon ∷ ts) = Some ts
after_colon ts = None

-- an IDENT and `(`
unfoldable pub opened_ident : SymbolReader (List ℕ)
opened_ident ts = do
  word ← read_ident ts
  inside ← after_open word.1
  Some (word.0, inside)

-- a VAR that isn't `_`, and `(`
unfoldable pub opened_variable : SymbolReader (List ℕ)
opened_variable ts = do
  word ← read_bound ts
  inside ← after_open word.1
  Some (word.0, inside)

-- an IDENT and a colon
unfoldable pub read_declared : SymbolReader (List ℕ)
read_declared ts = do
  word ← read_ident ts
  rest ← after_colon word.1
  Some (word.0, rest)

-- an IDENT and nothing more
unfoldable pub sole_ident : List Sym → Option (List ℕ)
sole_ident ts = do
  word ← read_ident ts
  at_end word.0 word.1
