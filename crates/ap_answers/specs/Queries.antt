-- The identifiers of a query, and a value of what is shown, without where it lies in memory.
use Rattle.std.specs.Prelude.{ℕ, zero, suc, List, [], ◌∷◌, map}
use Rattle.ap_defs.specs.declared.terms.Term.{Term}
use Rattle.ap_defs.specs.declared.outcomes.Shown.{Shown}
use Rattle.ap_defs.specs.Terms.{term_of}
use Rattle.ap_defs.specs.Types.{NominalLocal}
use Rattle.ap_defs.specs.Goals.{NominalQuery, NominalProgram}
use Rattle.ap_defs.specs.Lines.{NominalShown, ShownBind}

abbrev pub locals_at : List NominalQuery → ℕ → List NominalLocal
locals_at [] k = []
locals_at (q ∷ qs) zero = q.locals
locals_at (q ∷ qs) (suc k) = locals_at qs k

-- the identifiers of the query of this number, which counts from 1
abbrev pub query_locals : NominalProgram → ℕ → List NominalLocal
query_locals program zero = []
query_locals program (suc k) = locals_at program.queries k

abbrev pub nominal_bind : List ℕ × Term → ShownBind
nominal_bind b = (b.0, term_of b.1)

abbrev pub nominal_shown : Shown → NominalShown
nominal_shown s = record { binds = map nominal_bind s.binds; conds = s.conds; names = s.names; vars = s.vars }
