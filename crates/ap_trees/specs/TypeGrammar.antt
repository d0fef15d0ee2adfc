-- The grammar of types. `IsType ts t rest`: the symbols ts are a spelling of the type t, and then rest.
use Rattle.std.specs.Prelude.{ℕ, List, [], ◌∷◌}
use Rattle.ap_trees.specs.Symbols.{Sym, Ident, Open, Close, OpenList, CloseList, Comma, Lambda}
use Rattle.ap_trees.specs.Types.{Ty, Unit, Word, Array, Abs, tuple_type}

mutual
  pub data IsType : List Sym → Ty → List Sym → Type 0 where
    -- IDENT "\" type
    abs : {w : List ℕ} {ts rest : List Sym} {t : Ty} → IsType ts t rest → IsType (Ident w ∷ Lambda ∷ ts) (Abs w t) rest
    -- IDENT
    word : {w : List ℕ} {ts : List Sym} → IsType (Ident w ∷ ts) (Word w) ts
    -- "(" ")"
    unit : {ts : List Sym} → IsType (Open ∷ Close ∷ ts) Unit ts
    -- "(" type { "," type } ")"
    group : {ts rest : List Sym} (parts : List Ty) → AreTypes ts parts (Close ∷ rest) → IsType (Open ∷ ts) (tuple_type parts) rest
    -- "[" type "]"
    array : {ts rest : List Sym} {t : Ty} → IsType ts t (CloseList ∷ rest) → IsType (OpenList ∷ ts) (Array t) rest

  -- type { "," type }
  pub data AreTypes : List Sym → List Ty → List Sym → Type 0 where
    sole : {ts rest : List Sym} {t : Ty} → IsType ts t rest → AreTypes ts (t ∷ []) rest
    several : {ts us rest : List Sym} {t : Ty} {others : List Ty} → IsType ts t (Comma ∷ us) → AreTypes us others rest → AreTypes ts (t ∷ others) rest
