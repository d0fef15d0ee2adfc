-- Whether a `(` at the start of a goal begins a term: where `=` or `#` comes after its matching `)`.
use Rattle.std.specs.Prelude.{ℕ, zero, suc, ◌+◌, Bool, true, false, List, [], ◌∷◌, Option, None, Some}
use Rattle.ap_trees.specs.Symbols.{Sym, Open, Close, OpenList, CloseList, Equal, Fresh}
use Rattle.ap_trees.specs.Readers.{◌>>=◌, after_open}

-- one less, unless none is open
abbrev pub one_closed : ℕ → Option ℕ
one_closed zero = None
one_closed (suc depth) = Some depth

-- how many more brackets are open after a symbol, or none where it closes the first
abbrev pub depth_after : ℕ → Sym → Option ℕ
depth_after depth Open = Some (depth + 1)
depth_after depth OpenList = Some (depth + 1)
depth_after depth Close = one_closed depth
depth_after depth CloseList = one_closed depth
depth_after depth t = Some depth

abbrev pub further_match : List Sym → (ℕ → Option (List Sym)) → Option ℕ → Option (List Sym)
further_match ts next None = Some ts
further_match ts next (Some depth) = next depth

-- the symbols after the bracket that closes the one before these symbols, where so many more are open
unfoldable pub after_match : ℕ → List Sym → Option (List Sym)
after_match depth [] = None
after_match depth (t ∷ ts) = further_match ts (λ d. after_match d ts) (depth_after depth t)

abbrev pub begins_relation : List Sym → Bool
begins_relation (Equal ∷ ts) = true
begins_relation (Fresh ∷ ts) = true
begins_relation ts = false

abbrev pub begins_after : Option (List Sym) → Bool
begins_after None = false
begins_after (Some ts) = begins_relation ts

-- of the symbols after the `(`
abbrev pub begins_term : List Sym → Bool
begins_term ts = begins_after (after_match 0 ts)

abbrev pub unless_term : List Sym → Bool → Option (List Sym)
unless_term ts true = None
unless_term ts false = Some ts

-- the symbols after a `(` that begins a goal in parentheses
unfoldable pub after_group : List Sym → Option (List Sym)
after_group ts = do
  rest ← after_open ts
  unless_term rest (begins_term rest)
