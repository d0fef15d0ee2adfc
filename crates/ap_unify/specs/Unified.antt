-- What unification makes of the triple of a store.
use Rattle.std.specs.Prelude.{◌≡◌, ◌<◌, ℕ, Bool, true, false, ◌&&◌, List, [], ◌∷◌, Option, Some, None}
use Rattle.ap_defs.specs.Groundings.{Grounding, agrees, equates_all, meets}
use Rattle.ap_defs.specs.Terms.{NominalTerm}
use Rattle.ap_defs.specs.Unification.{Unified}
use Rattle.ap_defs.specs.declared.terms.Cond.{Cond}
use Rattle.ap_defs.specs.declared.terms.Var.{Var}
use Rattle.ap_store.specs.Triples.{Triple, with_conditions}

-- the answer is true just where there is a result, and then the new triple has it, with the next number as before
abbrev pub IsResult : Option Unified → Triple → Bool → Triple → Type 0
IsResult None a solved b = solved ≡ false
IsResult (Some r) a solved b = (solved ≡ true) × (b ≡ record { bindings = r.bindings; conditions = r.conditions; next = a.next })

-- the grounding agrees with the bindings and meets the conditions
abbrev pub is_of : Grounding → Triple → Bool
is_of g a = agrees g a.bindings && meets g a.conditions

-- and it makes the two sides at each place equal
abbrev pub solves : Grounding → Triple → List NominalTerm → List NominalTerm → Bool
solves g a ts us = is_of g a && equates_all g ts us

-- What freshness makes of the triple of a store: the answer is true just where there are conditions, and then they are added
abbrev pub IsReduced : Option (List Cond) → Triple → Bool → Triple → Type 0
IsReduced None a fresh b = fresh ≡ false
IsReduced (Some cs) a fresh b = (fresh ≡ true) × (b ≡ with_conditions cs a)

-- every number is below n
abbrev pub AreVarsBelow : ℕ → List Var → Type 0
AreVarsBelow n [] = Unit {0}
AreVarsBelow n (x ∷ xs) = (x.num < n) × AreVarsBelow n xs
