-- Where nothing was cut, a greater depth has the same uses.
use Rattle.std.proofs.Common.{◌≡◌, ◌≤◌, ℕ, List, [], ◌∷◌, ◌++◌, map, refl, ap, ap₂}
use Rattle.ap_defs.specs.Answers.{out_in}
use Rattle.ap_defs.specs.Goals.{Clauses, NominalProgram, NominalQuery}
use Rattle.ap_defs.specs.Resolution.{Output, cut, first_state, found, solve_query, chose, stuck}
use Rattle.ap_defs.specs.Types.{NominalLocal}
use Rattle.ap_derive.specs.Uses.{ClauseUse, uses_in_each}
use Rattle.ap_search.specs.Depths.{HasNoCut, HasNoCutOut}
use Rattle.ap_search.proofs.DepthLemmas.{solve_deeper}
use Rattle.ap_query_proofs.specs.QueryUses.{derivations_among}
use Rattle.ap_program_proofs.specs.ProgramUses.{uses_of_queries}
use Rattle.ap_text_commands.specs.Counts.{clause_counts, counts_of_predicates, in_order_of_items}
use Rattle.ap_text_commands.specs.Laws.{HaveNoCuts}

uncut : (locals : List NominalLocal) (os : List Output) → HasNoCutOut (map (out_in locals) os) → HasNoCut os
uncut locals [] h = tt
uncut locals (found p s d ∷ os) h = uncut locals os h
uncut locals (cut p ∷ os) h = h
uncut locals (chose p c ∷ os) h = absurd c
uncut locals (stuck p ∷ os) h = uncut locals os h

uses_deeper : (program : Clauses) (d e : ℕ) (qs : List NominalQuery) → d ≤ e → HaveNoCuts program d qs → uses_of_queries program e qs ≡ uses_of_queries program d qs
uses_deeper program d e [] l h = refl
uses_deeper program d e (q ∷ qs) l h =
    ap₂ (λ (us vs : List ClauseUse). us ++ vs)
    (ap (λ os. uses_in_each program q.goal (derivations_among os)) (solve_deeper program d e q.goal (first_state q) l (uncut q.locals (solve_query program d q) h.0)))
    (uses_deeper program d e qs l h.1)

pub counts_deeper : (p : NominalProgram) (d e : ℕ) → d ≤ e → HaveNoCuts p.clauses d p.queries → clause_counts e p ≡ clause_counts d p
counts_deeper p d e l h = ap (λ us. in_order_of_items (counts_of_predicates 0 p.clauses us)) (uses_deeper p.clauses d e p.queries l h)
