-- Readers: functions from symbols to a thing and the symbols after it.
use Rattle.std.specs.Prelude.{ℕ, zero, suc, List, [], ◌∷◌, ◌++◌, Option, None, Some}
use Rattle.ap_trees.specs.Symbols.{Sym, Comma, Lambda, Open, Close, CloseList, Bar}

infixl 10 ◌>>=◌
abbrev pub ◌>>=◌ : {A B : Type 0} → Option A → (A → Option B) → Option B
None >>= f = None
(Some x) >>= f = f x

abbrev pub SymbolReader : Type 0 → Type 0
SymbolReader A = List Sym → Option (A × List Sym)

-- the symbols after this one, if it comes first
abbrev pub after_lambda : List Sym → Option (List Sym)
after_lambda (Lambda ∷ ts) = Some ts
after_lambda ts = None

abbrev pub after_comma : List Sym → Option (List Sym)
after_comma (Comma ∷ ts) = Some ts
after_comma ts = None

abbrev pub after_open : List Sym → Option (List Sym)
after_open (Open ∷ ts) = Some ts
after_open ts = None

abbrev pub after_close : List Sym → Option (List Sym)
after_close (Close ∷ ts) = Some ts
after_close ts = None

abbrev pub after_close_list : List Sym → Option (List Sym)
after_close_list (CloseList ∷ ts) = Some ts
after_close_list ts = None

abbrev pub after_bar : List Sym → Option (List Sym)
after_bar (Bar ∷ ts) = Some ts
after_bar ts = None

-- with these before
abbrev pub with_before : {A : Type 0} → List A → Option (List A × List Sym) → Option (List A × List Sym)
with_before front read = read >>= λ x. Some (front ++ x.0, x.1)

-- nothing more, unless a mark comes
abbrev pub further : {A : Type 0} → (List Sym → Option (List Sym)) → SymbolReader (List A) → SymbolReader (List A)
further after more ts = MatchMark more ts (after ts)
  where
    MatchMark : {A : Type 0} → SymbolReader (List A) → List Sym → Option (List Sym) → Option (List A × List Sym)
    MatchMark more ts None = Some ([], ts)
    MatchMark more ts (Some us) = more us

-- one thing or more, with a mark between each two, and no more than so many
unfoldable pub separated : {A : Type 0} → (List Sym → Option (List Sym)) → SymbolReader A → ℕ → SymbolReader (List A)
separated after read zero ts = None
separated after read (suc k) ts = do
  first ← read ts
  with_before (first.0 ∷ []) (further after (separated after read k) first.1)

-- a thing after which nothing is left
abbrev pub at_end : {A : Type 0} → A → List Sym → Option A
at_end x [] = Some x
at_end x (t ∷ ts) = None
