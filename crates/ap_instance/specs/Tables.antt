-- Tables of the terms that are picked for variables.
use Rattle.std.specs.Prelude.{◌≡◌, ℕ, List, position, slice_get, Option, Some, None}
use Rattle.ap_defs.specs.declared.terms.Term.{Term}
use Rattle.ap_defs.specs.declared.terms.Var.{Var}
use Rattle.ap_defs.specs.Freshness.{var_eq}
use Rattle.ap_defs.specs.Terms as terms
use Rattle.ap_defs.specs.Terms.{GroundTerm, NominalTerm, term_of}
use Rattle.ap_defs.specs.Typing.{embedded}
use Rattle.ap_property.specs.Stated.{given}
use Rattle.ap_instance.specs.Settled.{replaced, settled_name}
use Rattle.ap_instance.specs.declared.names.Names.{Names}
use Rattle.ap_instance.specs.declared.picks.Picks.{Picks}

-- the term at a place, or another one
abbrev pub term_or : NominalTerm → Option Term → NominalTerm
term_or other None = other
term_or other (Some t) = term_of t

abbrev pub term_at_place : List Term → NominalTerm → Option ℕ → NominalTerm
term_at_place terms other None = other
term_at_place terms other (Some i) = term_or other (slice_get terms i)

-- the term beside a variable in two lists, or another one
abbrev pub term_beside : List Var → List Term → (Var → NominalTerm) → Var → NominalTerm
term_beside vars terms other x = term_at_place terms (other x) (position (var_eq x) vars)

-- the table has the terms that are given to the variables, and unit for others
abbrev pub IsTableOf : Picks → List (Var × GroundTerm) → Type 0
IsTableOf p ps = (x : Var) → term_beside p.vars.keys p.terms.items (λ y. terms.unit) x ≡ embedded (given ps x)

-- a term of an answer with its names settled and the picked terms for its variables
abbrev pub settled_term : Names → Picks → NominalTerm → NominalTerm
settled_term n p = replaced (settled_name n.free n.first n.known.keys) (term_beside p.vars.keys p.terms.items (λ y. terms.unit))
