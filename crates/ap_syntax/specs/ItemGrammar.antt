-- The grammar of items. `IsItem ts form`: the symbols ts are a spelling of what an item says.
use Rattle.std.specs.Prelude.{ℕ, List, [], ◌∷◌, None, Some, ◌≡◌}
use Rattle.ap_trees.specs.Symbols.{Sym, Ident, NameType, DataType, Pred, Colon, If, Ask, Arrow, Open, Close}
use Rattle.ap_trees.specs.Readers.{after_open}
use Rattle.ap_trees.specs.Types.{Ty, Unit}
use Rattle.ap_trees.specs.Terms.{Term}
use Rattle.ap_trees.specs.TypeGrammar.{IsType, AreTypes}
use Rattle.ap_trees.specs.Goals.{Goal}
use Rattle.ap_trees.specs.Items.{Saying, ANameType, ADataType, AConstructor, APredicate, AClause, AQuery}
use Rattle.ap_syntax.specs.GoalGrammar.{IsAtom, IsGoal}

-- The types of arguments, and then rest. They are written as one type. A list of types in
-- parentheses is that many arguments, so one argument of a tuple type has doubled parentheses.
pub data AreTypeArguments : List Sym → List Ty → List Sym → Type 0 where
  some_type : {ts rest : List Sym} {t : Ty} → after_open ts ≡ None → IsType ts t rest → AreTypeArguments ts (t ∷ []) rest
  unit_type : {ts : List Sym} → AreTypeArguments (Open ∷ Close ∷ ts) (Unit ∷ []) ts
  type_list : {ts rest : List Sym} {args : List Ty} → AreTypes ts args (Close ∷ rest) → AreTypeArguments (Open ∷ ts) args rest

pub data IsItem : List Sym → Saying → Type 0 where
  -- IDENT ":" "name_type"
  name_type : {w : List ℕ} → IsItem (Ident w ∷ Colon ∷ NameType ∷ []) (ANameType w)
  -- IDENT ":" "type"
  data_type : {w : List ℕ} → IsItem (Ident w ∷ Colon ∷ DataType ∷ []) (ADataType w)
  -- IDENT ":" IDENT
  constant : {w d : List ℕ} → IsItem (Ident w ∷ Colon ∷ Ident d ∷ []) (AConstructor w [] d)
  -- IDENT ":" type "->" IDENT
  constructor : {w d : List ℕ} {ts : List Sym} {args : List Ty} → AreTypeArguments ts args (Arrow ∷ Ident d ∷ []) → IsItem (Ident w ∷ Colon ∷ ts) (AConstructor w args d)
  -- "pred" IDENT
  proposition : {w : List ℕ} → IsItem (Pred ∷ Ident w ∷ []) (APredicate w [])
  -- "pred" IDENT "(" type { "," type } ")"
  predicate : {w : List ℕ} {ts : List Sym} {args : List Ty} → AreTypes ts args (Close ∷ []) → IsItem (Pred ∷ Ident w ∷ Open ∷ ts) (APredicate w args)
  -- atom
  fact : {w : List ℕ} {ts : List Sym} {args : List Term} → IsAtom ts w args [] → IsItem ts (AClause w args None)
  -- atom ":-" goal
  rule : {w : List ℕ} {ts us : List Sym} {args : List Term} {g : Goal} → IsAtom ts w args (If ∷ us) → IsGoal us g [] → IsItem ts (AClause w args (Some g))
  -- "?-" goal
  query : {ts : List Sym} {g : Goal} → IsGoal ts g [] → IsItem (Ask ∷ ts) (AQuery g)
