-- Reading a term.
use Rattle.std.specs.Prelude.{ℕ, zero, suc, List, ◌∷◌, length, Option, None, Some}
use Rattle.ap_trees.specs.Symbols.{Sym, Var, Ident, Swap, Open, OpenList}
use Rattle.ap_trees.specs.Terms.{Name, Term, OfWord, OfVar, Unit, Variable, Word, Apply, Nil, Abs, Swapped, argument_terms, tuple, cells}
use Rattle.ap_trees.specs.Readers.{SymbolReader, ◌>>=◌, separated, after_lambda, after_comma, after_open, after_close, after_close_list, after_bar, at_end}

-- an abstraction, behind its binder
unfoldable pub abstraction : SymbolReader Term → Name → SymbolReader Term
abstraction read name ts = do
  body ← read ts
  Some (Abs name body.0, body.1)

abbrev pub list_within : SymbolReader Term → SymbolReader (List Term)
list_within read ts = separated after_comma read (length ts) ts

-- a term before the `)` that closes it
abbrev pub before_close : Term → SymbolReader Term
before_close t ts = do
  rest ← after_close ts
  Some (t, rest)

-- a term before the `]` that closes it
abbrev pub before_close_list : Term → SymbolReader Term
before_close_list t ts = do
  rest ← after_close_list ts
  Some (t, rest)

-- an application, behind its bracket
unfoldable pub application : SymbolReader Term → List ℕ → SymbolReader Term
application read w ts = do
  parts ← list_within read ts
  before_close (Apply w (argument_terms parts.0)) parts.1

abbrev pub word_or_more : SymbolReader Term → List ℕ → List Sym → Option (List Sym) → Option (List Sym) → Option (Term × List Sym)
word_or_more read w ts (Some us) other = abstraction read (OfWord w) us
word_or_more read w ts None (Some us) = application read w us
word_or_more read w ts None None = Some (Word w, ts)

unfoldable pub word_term : SymbolReader Term → List ℕ → SymbolReader Term
word_term read w ts = word_or_more read w ts (after_lambda ts) (after_open ts)

abbrev pub variable_or_more : SymbolReader Term → List ℕ → List Sym → Option (List Sym) → Option (Term × List Sym)
variable_or_more read w ts (Some us) = abstraction read (OfVar w) us
variable_or_more read w ts None = Some (Variable w, ts)

unfoldable pub variable : SymbolReader Term → List ℕ → SymbolReader Term
variable read w ts = variable_or_more read w ts (after_lambda ts)

abbrev pub unit_or_tuple : SymbolReader Term → List Sym → Option (List Sym) → Option (Term × List Sym)
unit_or_tuple read ts (Some us) = Some (Unit, us)
unit_or_tuple read ts None = do
  parts ← list_within read ts
  before_close (tuple parts.0) parts.1

unfoldable pub group : SymbolReader Term → SymbolReader Term
group read ts = unit_or_tuple read ts (after_close ts)

abbrev pub end_after : SymbolReader Term → List Sym → Option (List Sym) → Option (Term × List Sym)
end_after read ts None = Some (Nil, ts)
end_after read ts (Some us) = read us

-- the end of a list: a term after a bar, or nothing
unfoldable pub list_end : SymbolReader Term → SymbolReader Term
list_end read ts = end_after read ts (after_bar ts)

unfoldable pub full_list : SymbolReader Term → SymbolReader Term
full_list read ts = do
  parts ← list_within read ts
  end ← list_end read parts.1
  before_close_list (cells parts.0 end.0) end.1

abbrev pub nil_or_list : SymbolReader Term → List Sym → Option (List Sym) → Option (Term × List Sym)
nil_or_list read ts (Some us) = Some (Nil, us)
nil_or_list read ts None = full_list read ts

unfoldable pub list_of : SymbolReader Term → SymbolReader Term
list_of read ts = nil_or_list read ts (after_close_list ts)

-- an identifier
abbrev pub read_id : SymbolReader Name
read_id (Ident w ∷ ts) = Some (OfWord w, ts)
read_id (Var w ∷ ts) = Some (OfVar w, ts)
read_id ts = None

-- an identifier and a comma
unfoldable pub side : SymbolReader Name
side ts = do
  name ← read_id ts
  rest ← after_comma name.1
  Some (name.0, rest)

-- the two sides of a swapping, behind `swap`
unfoldable pub both_sides : SymbolReader (Name × Name)
both_sides ts = do
  inside ← after_open ts
  left ← side inside
  right ← side left.1
  Some ((left.0, right.0), right.1)

-- a swapping, behind `swap`
unfoldable pub swapped : SymbolReader Term → SymbolReader Term
swapped read ts = do
  both ← both_sides ts
  body ← read both.1
  before_close (Swapped both.0.0 both.0.1 body.0) body.1

-- a term; the number falls at each level
unfoldable pub read_term : ℕ → SymbolReader Term
read_term zero ts = None
read_term (suc n) (Var w ∷ ts) = variable (read_term n) w ts
read_term (suc n) (Ident w ∷ ts) = word_term (read_term n) w ts
read_term (suc n) (Open ∷ ts) = group (read_term n) ts
read_term (suc n) (OpenList ∷ ts) = list_of (read_term n) ts
read_term (suc n) (Swap ∷ ts) = swapped (read_term n) ts
read_term (suc n) ts = None

-- the term that all the symbols spell
unfoldable pub all_term : List Sym → Option Term
all_term ts = do
  whole ← read_term (length ts) ts
  at_end whole.0 whole.1
