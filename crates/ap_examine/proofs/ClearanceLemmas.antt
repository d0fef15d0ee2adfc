-- A property that is false, of which an exam finds nothing: `X = X, a # X`, where X is a name.
use Rattle.std.proofs.Common.{◌≡◌, ℕ, zero, suc, true, false, [], ◌∷◌, refl, arith}
use Rattle.std.specs.Prelude.{codes}
use Rattle.ap_defs.specs.declared.terms.Name.{Name}
use Rattle.ap_defs.specs.Canonical.{canonical}
use Rattle.ap_defs.specs.Derivations as nodes
use Rattle.ap_defs.specs.Goals as goals
use Rattle.ap_defs.specs.Goals.{NominalProgram, NominalQuery}
use Rattle.ap_defs.specs.GroundProofs.{IsDerivable}
use Rattle.ap_defs.specs.Permutations.{name_before, name_eq, swap_name}
use Rattle.ap_defs.specs.Terms as terms
use Rattle.ap_defs.specs.Terms.{NominalTerm, susp}
use Rattle.ap_defs.specs.Types as types
use Rattle.ap_defs.specs.Unification.{ending, unify}
use Rattle.ap_complete.specs.Restriction.{KeepsRestriction}
use Rattle.ap_ground.specs.ShownInstances.{IsTypedDerivable}
use Rattle.ap_program.specs.Typed.{IsTypedQuery, is_marked, term_form}
use Rattle.ap_property.specs.Properties.{conclusion_query, hypothesis_query}
use Rattle.ap_property.specs.Stated.{Instance}
use Rattle.ap_examine.specs.Clearances.{ClearIsNoProof}
use Rattle.ap_examine.specs.Exams.{clear, exam}

-- the name `a`, and the variable `X`
abbrev the_name : Name
the_name = record { sort = 0; num = 1 }

abbrev the_variable : NominalTerm
the_variable = susp [] (record { num = 0 })

abbrev false_query : NominalQuery
false_query = record {
  item = 2;
  line = 1;
  goal = goals.both (goals.equal the_variable the_variable) (goals.fresh (terms.name the_name) the_variable);
  locals = record { kind = types.var (types.names 0); bound = false; text = codes "X" } ∷ record { kind = types.name 0; bound = false; text = codes "a" } ∷ [];
}

abbrev false_program : NominalProgram
false_program = record {
  signature = record { name_types = codes "id" ∷ []; data_types = []; constructors = []; predicates = [] };
  clauses = [];
  queries = false_query ∷ [];
  words = [];
}

nothing_marked : (i : ℕ) → is_marked false_query.locals i ≡ true → ⊥
nothing_marked zero h = cc
nothing_marked (suc zero) h = cc
nothing_marked (suc (suc i)) h = cc

typed_query : IsTypedQuery term_form false_program.signature false_query
typed_query = (
  ((types.names 0, (tt, refl), (tt, refl)), ((0, (refl, refl)), (types.names 0, (tt, refl)))),
  ((0, refl), tt),
  record { marked = tt; once = tt; inside = λ i h. absurd (nothing_marked i h) },
)

kept : KeepsRestriction false_program
kept = record { typed = (tt, (typed_query, tt)); names = tt }

-- X is `a`
abbrev false_instance : Instance
false_instance = record { terms = terms.name the_name ∷ []; sorts = [] }

nothing_found : exam false_program 1 false_query ≡ clear (record { held = 1; unsettled = 0; cut = 0; stuck = 0 })
unfolding swap_name name_eq name_before unify ending canonical
nothing_found = refl

derivable : IsTypedDerivable false_program (hypothesis_query false_query) 1 false_instance.terms
unfolding name_eq
derivable = ((refl, tt), (nodes.equal, refl, omega arith))

no_proof : (height : ℕ) → IsDerivable false_program (conclusion_query false_query) false_instance.terms height → ⊥
unfolding name_eq
no_proof height (nodes.fresh, v, w) = cc
no_proof height d = absurd d.1

pub clear_no_proof : ClearIsNoProof
clear_no_proof = (false_program, kept, false_query, typed_query, false_instance, nothing_found, record { derivable = derivable; unprovable = no_proof })
