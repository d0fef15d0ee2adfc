-- The identifiers of a query of a program.
use Rattle.std.proofs.Common.{◌≡◌, ℕ, zero, suc, ◌-◌, ◌≤◌, ◌<◌, List, [], ◌∷◌, map, length, get_or, refl, ap, arith}
use Rattle.ap_defs.specs.declared.terms.Term.{Term}
use Rattle.ap_defs.specs.declared.goals.Query.{Query}
use Rattle.ap_defs.specs.declared.goals.Program.{Program}
use Rattle.ap_defs.specs.Types.{locals_of}
use Rattle.ap_defs.specs.Goals.{query_of, program_of}
use Rattle.ap_answers.specs.Queries.{locals_at, query_locals}

located : (qs : List (Query Term)) (k : ℕ) (q : Query Term) → k < length qs → q ≡ get_or qs k q → locals_of q.locals ≡ locals_at (map query_of qs) k
located [] k q h e = absurd (omega arith)
located (r ∷ qs) zero q h e = ap (λ (x : Query Term). locals_of x.locals) e
located (r ∷ qs) (suc k) q h e = located qs k q (omega arith) e

as_many : (qs : List (Query Term)) → length (map query_of qs) ≡ length qs
as_many [] = refl
as_many (q ∷ qs) = ap suc (as_many qs)

pub index_there : (program : Program Term) (k : ℕ) → 1 ≤ k → k ≤ length (program_of program).queries → k - 1 < length program.queries
index_there program k h l = omega (arith, as_many program.queries)

pub locals_there : (program : Program Term) (k : ℕ) (q : Query Term) → 1 ≤ k → k ≤ length (program_of program).queries → q ≡ get_or program.queries (k - 1) q → locals_of q.locals ≡ query_locals (program_of program) k
locals_there program zero q h l e = absurd (omega arith)
locals_there program (suc k) q h l e =
    let before : suc k - 1 ≡ k = omega arith in located program.queries k q (omega (arith, as_many program.queries)) (rw before at e)
