-- Tables by their sorts.
use Rattle.std.proofs.Common.{◌≡◌, ◌<◌, ℕ, zero, suc, List, [], ◌∷◌, ◌++◌, length, get_or, refl, arith, sym, subst}
use Rattle.ap_defs.specs.Types.{NominalConstructor}
use Rattle.ap_types.specs.declared.holding.Holding.{Holding}
use Rattle.ap_types.specs.Rounds.{IsLeastSet, marked}
use Rattle.ap_types.specs.Holding.{some_holds}
use Rattle.ap_types.specs.Tables.{IsHoldingTable}
use Rattle.ap_restrict.specs.Heads.{AreTables}

pub table_there : (cs : List NominalConstructor) (hs : List Holding) (i : ℕ) (d : Holding) → i < length hs → AreTables cs hs → IsHoldingTable cs (get_or hs i d).sort (get_or hs i d)
table_there cs [] i d l t = absurd (omega arith)
table_there cs (h ∷ hs) zero d l t = t.0
table_there cs (h ∷ hs) (suc i) d l t = table_there cs hs i d (omega arith) t.1

of_its_sort : (cs : List NominalConstructor) (sort : ℕ) (h : Holding) → IsHoldingTable cs sort h → IsHoldingTable cs h.sort h
of_its_sort cs sort h t = (refl, subst (λ s. IsLeastSet (some_holds s) cs (marked h.table.items)) (sym t.0) t.1)

of_a_sort : (cs : List NominalConstructor) (sort : ℕ) (h : Holding) → h.sort ≡ sort → IsHoldingTable cs h.sort h → IsHoldingTable cs sort h
of_a_sort cs sort h e t = (e, subst (λ s. IsLeastSet (some_holds s) cs (marked h.table.items)) e t.1)

pub table_at : (cs : List NominalConstructor) (hs : List Holding) (i : ℕ) (h : Holding) (sort : ℕ) → i < length hs → h ≡ get_or hs i h → h.sort ≡ sort → AreTables cs hs → IsHoldingTable cs sort h
table_at cs hs i h sort l e s t = of_a_sort cs sort h s (subst (λ g. IsHoldingTable cs g.sort g) (sym e) (table_there cs hs i h l t))

tables_then : (cs : List NominalConstructor) (hs : List Holding) (h : Holding) → AreTables cs hs → IsHoldingTable cs h.sort h → AreTables cs (hs ++ h ∷ [])
tables_then cs [] h t u = (u, tt)
tables_then cs (g ∷ hs) h t u = (t.0, tables_then cs hs h t.1 u)

pub tables_push : (cs : List NominalConstructor) (hs gs : List Holding) (h : Holding) (sort : ℕ) → gs ≡ hs ++ h ∷ [] → IsHoldingTable cs sort h → AreTables cs hs → AreTables cs gs
tables_push cs hs gs h sort e u t = subst (AreTables cs) (sym e) (tables_then cs hs h t (of_its_sort cs sort h u))
