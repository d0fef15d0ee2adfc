-- What a search gives that begins at a query.
use Rattle.std.proofs.Common.{◌≡◌, List, [], ◌∷◌, map, ap, ◌∙◌, append-nil}
use Rattle.std.specs.Global.{Global}
use Rattle.std.specs.Prelude.{Vec, reverse}
use Rattle.ap_defs.specs.Answers.{NominalOut, query_outs}
use Rattle.ap_defs.specs.Goals.{Clauses, NominalQuery}
use Rattle.ap_defs.specs.Types.{NominalLocal}
use Rattle.ap_program.specs.Typed.{IsTypedProgram, IsTypedQuery, term_form}
use Rattle.ap_machine.specs.Machines.{position_of, track_of}
use Rattle.ap_machine.specs.Positions.{Position, outs_from, outs_from_each}
use Rattle.ap_machine.specs.declared.machine.Machine.{Machine}
use Rattle.ap_machine.proofs.UnboundLemmas.{stack_by_unbound}
use Rattle.ap_machine.specs.Unbound.{answer_by_unbound}
use Rattle.ap_search.specs.Records.{Answering}
use Rattle.ap_backchain.specs.ChoicePoints.{positions_pending}
use Rattle.ap_backchain.specs.Ends.{without_path}
use Rattle.ap_backchain.specs.Problems.{clauses_in, program_of_problem}
use Rattle.ap_backchain.specs.Starts.{first_position}
use Rattle.ap_backchain.specs.declared.points.ChoicePoint.{ChoicePoint}
use Rattle.ap_backchain.specs.declared.problem.Problem.{Problem}
use Rattle.ap_paths.specs.Limits.{part}
use Rattle.ap_paths.specs.declared.limits.Limit.{Limit}
use Rattle.ap_stream.specs.Coming.{outs_coming}

-- a machine where the search of a query begins, and no choices
module _ (p : Problem) (q : NominalQuery) (limit : Limit) (program : Clauses) (b : Machine) (v : Vec ChoicePoint Global)
    (same : program ≡ clauses_in p) (first : position_of b ≡ first_position p.depth q) (none : v.items ≡ []) where
  pub come_by : (answering : Answering) → outs_coming program answering limit b v ≡ map without_path (part limit (outs_from (clauses_in p) answering (first_position p.depth q)))
  come_by answering =
      let wanted = λ (os : List NominalOut). map without_path (part limit os) in
      ap (λ (ps : List ChoicePoint). wanted (outs_from_each program answering (position_of b ∷ positions_pending (track_of b) (reverse ps)))) none
      ∙ ap wanted (append-nil (outs_from program answering (position_of b)))
      ∙ ap (λ (css : Clauses). wanted (outs_from css answering (position_of b))) same
      ∙ ap (λ (x : Position). wanted (outs_from (clauses_in p) answering x)) first

  pub all_come : (locals : List NominalLocal) → locals ≡ q.locals → IsTypedProgram (program_of_problem p) → IsTypedQuery term_form (program_of_problem p).signature q
      → outs_coming program (answer_by_unbound locals) limit b v ≡ map without_path (part limit (query_outs (clauses_in p) p.depth q))
  all_come locals own typed asked =
      let wanted = λ (os : List NominalOut). map without_path (part limit os) in
      come_by (answer_by_unbound locals)
      ∙ ap (λ ls. wanted (outs_from (clauses_in p) (answer_by_unbound ls) (first_position p.depth q))) own
      ∙ ap wanted (stack_by_unbound (program_of_problem p) typed p.depth q asked)
