-- The terms of an answer beside ground terms that are an instance of them: what each variable stands for.
use Rattle.std.specs.Prelude.{List, [], ◌∷◌, ◌++◌, if◌then◌else◌}
use Rattle.ap_defs.specs.declared.terms.Var.{Var}
use Rattle.ap_defs.specs.Freshness.{var_eq}
use Rattle.ap_defs.specs.Groundings.{Grounding}
use Rattle.ap_defs.specs.Permutations.{inverse, swap_of}
use Rattle.ap_defs.specs.Terms as terms
use Rattle.ap_defs.specs.Terms.{GroundTerm, NominalTerm, act_ground}

-- variables, each with a ground term
abbrev pub Pairs : Type 0
Pairs = List (Var × GroundTerm)

-- each variable of a term with what stands at its place, from the left: below two binders that of the second is exchanged for the first
abbrev pub matched : NominalTerm → GroundTerm → Pairs
matched (terms.pair t u) (terms.pair g h) = matched t g ++ matched u h
matched (terms.app f t) (terms.app k g) = matched t g
matched (terms.abs a t) (terms.abs b g) = matched t (act_ground (swap_of a b ∷ []) g)
matched (terms.susp p x) g = (x, act_ground (inverse p) g) ∷ []
matched _ _ = []

abbrev pub matched_each : List NominalTerm → List GroundTerm → Pairs
matched_each (t ∷ ts) (g ∷ gs) = matched t g ++ matched_each ts gs
matched_each _ _ = []

-- what stands beside a variable first, and another grounding's term where nothing does
abbrev pub given_by : Pairs → Grounding → Grounding
given_by [] f x = f x
given_by (v ∷ ps) f x = if var_eq x v.0 then v.1 else given_by ps f x
