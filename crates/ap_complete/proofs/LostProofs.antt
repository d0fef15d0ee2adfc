-- A program just outside the restriction, of which a search loses a proof.
use Rattle.std.proofs.Common.{subst, ◌≡◌, ℕ, zero, suc, true, false, List, [], ◌∷◌, refl, inl, inr, arith}
use Rattle.std.specs.Prelude.{codes}
use Rattle.ap_defs.specs.declared.terms.Name.{Name}
use Rattle.ap_defs.specs.Answers.{query_outs}
use Rattle.ap_defs.specs.Derivations as nodes
use Rattle.ap_defs.specs.Goals as goals
use Rattle.ap_defs.specs.Goals.{NominalClause, NominalProgram, NominalQuery}
use Rattle.ap_defs.specs.GroundProofs.{IsDerivable}
use Rattle.ap_defs.specs.Permutations.{name_before, name_eq, swap_name}
use Rattle.ap_defs.specs.Terms.{NominalTerm, name, susp}
use Rattle.ap_defs.specs.Types as types
use Rattle.ap_defs.specs.Types.{NominalLocal}
use Rattle.ap_defs.specs.Unification.{ending, unify}
use Rattle.ap_program.specs.NameRestriction.{IsRestrictedClause}
use Rattle.ap_program.specs.Typed.{IsTypedProgram, is_marked}
use Rattle.ap_complete.specs.CompleteAnswers.{IsCompleteProgram}
use Rattle.ap_complete.specs.Coverings.{IsShownInstance, SomeAnswer, SomeStuck}
use Rattle.ap_complete.specs.StatementsOnCompleteness.{RestrictionIsNeeded}

abbrev a_name : ℕ → Name
a_name num = record { sort = 0; num = num }

abbrev a_variable : ℕ → NominalTerm
a_variable num = susp [] (record { num = num })

abbrev named : List ℕ → NominalLocal
named text = record { kind = types.name 0; bound = false; text = text }

-- `id : name_type.  pred p(id).  p(X) :- (a # X ; true), X = a.`
abbrev loose_clause : NominalClause
loose_clause = record {
  item = 2;
  line = 3;
  pred = 0;
  args = a_variable 0 ∷ [];
  body = goals.both (goals.either (goals.fresh (name (a_name 1)) (a_variable 0)) goals.succeed) (goals.equal (a_variable 0) (name (a_name 1)));
  locals = record { kind = types.var (types.names 0); bound = false; text = codes "X" } ∷ named (codes "a") ∷ [];
}

-- `?- p(b).`
abbrev loose_query : NominalQuery
loose_query = record { item = 3; line = 4; goal = goals.atom 0 (name (a_name 0) ∷ []); locals = named (codes "b") ∷ [] }

abbrev loose_program : NominalProgram
loose_program = record {
  signature = record { name_types = codes "id" ∷ []; data_types = []; constructors = []; predicates = (types.names 0 ∷ []) ∷ [] };
  clauses = (loose_clause ∷ []) ∷ [];
  queries = loose_query ∷ [];
  words = [];
}

-- The freshness goal stands under `;`, so the clause doesn't keep the restriction.
not_kept : IsRestrictedClause [] loose_clause → ⊥
not_kept h = elim h.0.0 [ inl l ↦ (let e : false ≡ true = l in cc) | inr l ↦ l.2 (0, (let e : l.0 ≡ types.names 0 = cc in cc)) ]

-- In nominal logic the clause's name may be `b`: the query has a ground proof, by the right side of `;`.
derivable : IsDerivable loose_program loose_query [] 1
unfolding name_eq
derivable = (
  nodes.atom 1 (a_name 0 ∷ []) (name (a_name 0) ∷ []) (nodes.both (nodes.right nodes.succeed) nodes.equal),
  (loose_clause, refl, record { sorts = (refl, tt); different = (refl, tt); types = (refl, tt) }, (refl, tt), (tt, refl)),
  omega arith,
)

-- The search takes a new name for it, and finds nothing.
nothing_found : query_outs loose_program.clauses 1 loose_query ≡ []
unfolding swap_name name_eq name_before unify ending
nothing_found = refl

-- So the proof is lost.
lost : IsCompleteProgram loose_program 1 → ⊥
lost h =
    elim (h.0.shown [] (tt, derivable)) [
      | inl i ↦ subst (SomeAnswer (λ a. IsShownInstance [] loose_query.locals a [])) nothing_found i
      | inr i ↦ subst SomeStuck nothing_found i
    ]

nothing_marked : (i : ℕ) → is_marked loose_clause.locals i ≡ true → ⊥
nothing_marked zero h = cc
nothing_marked (suc zero) h = cc
nothing_marked (suc (suc i)) h = cc

nothing_marked_in_query : (i : ℕ) → is_marked loose_query.locals i ≡ true → ⊥
nothing_marked_in_query zero h = cc
nothing_marked_in_query (suc i) h = cc

typed : IsTypedProgram loose_program
typed = (
  (
    (
      (
        refl,
        (((tt, refl), tt), ((((0, (refl, refl)), (types.names 0, (tt, refl))), tt), (types.names 0, (tt, refl), (refl, refl)))),
        ((0, refl), tt),
        record { marked = tt; once = tt; inside = λ i h. absurd (nothing_marked i h) },
      ),
      tt,
    ),
    tt,
  ),
  ((((refl, refl), tt), tt, record { marked = tt; once = tt; inside = λ i h. absurd (nothing_marked_in_query i h) }), tt),
)

pub restriction_needed : RestrictionIsNeeded
restriction_needed = (loose_program, typed, lost)
