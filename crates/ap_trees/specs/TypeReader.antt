-- Reading a type.
use Rattle.std.specs.Prelude.{ℕ, zero, suc, List, ◌∷◌, length, Option, None, Some}
use Rattle.ap_trees.specs.Symbols.{Sym, Ident, Open, OpenList}
use Rattle.ap_trees.specs.Types.{Ty, Unit, Word, Array, Abs, tuple_type}
use Rattle.ap_trees.specs.Readers.{SymbolReader, ◌>>=◌, separated, after_comma, after_lambda, after_close, after_close_list, at_end}

abbrev pub type_after_word : SymbolReader Ty → List ℕ → List Sym → Option (List Sym) → Option (Ty × List Sym)
type_after_word read word ts None = Some (Word word, ts)
type_after_word read word ts (Some us) = do
  body ← read us
  Some (Abs word body.0, body.1)

-- a word, alone or as the name type of an abstraction
unfoldable pub type_of_word : SymbolReader Ty → List ℕ → SymbolReader Ty
type_of_word read word ts = type_after_word read word ts (after_lambda ts)

abbrev pub type_after_open : SymbolReader (List Ty) → List Sym → Option (List Sym) → Option (Ty × List Sym)
type_after_open read ts (Some us) = Some (Unit, us)
type_after_open read ts None = do
  parts ← read ts
  rest ← after_close parts.1
  Some (tuple_type parts.0, rest)

-- what stands in parentheses
unfoldable pub type_of_group : SymbolReader Ty → SymbolReader Ty
type_of_group read ts = type_after_open (separated after_comma read (length ts)) ts (after_close ts)

-- the type of lists, behind its bracket
unfoldable pub array_of : SymbolReader Ty → SymbolReader Ty
array_of read ts = do
  element ← read ts
  rest ← after_close_list element.1
  Some (Array element.0, rest)

-- a type; the number falls at each level
unfoldable pub read_type : ℕ → SymbolReader Ty
read_type zero ts = None
read_type (suc n) (Ident word ∷ ts) = type_of_word (read_type n) word ts
read_type (suc n) (Open ∷ ts) = type_of_group (read_type n) ts
read_type (suc n) (OpenList ∷ ts) = array_of (read_type n) ts
read_type (suc n) ts = None

-- the type that all the symbols spell
unfoldable pub all_type : List Sym → Option Ty
all_type ts = do
  whole ← read_type (length ts) ts
  at_end whole.0 whole.1
