use Rattle.std.proofs.Common.{List, map, ap, ◌∙◌, ◌≡◌, subst}
use Rattle.std.specs.Prelude.{IfOk}
use Rattle.ap_defs.specs.Answers.{NominalOut, outs_of}
use Rattle.ap_defs.specs.Goals.{program_in}
use Rattle.ap_defs.specs.Types.{locals_of}
use Rattle.ap_paths.specs.Limits.{part}
use Rattle.ap_backchain.specs.Ends.{kept_out}
use Rattle.ap_machine.specs.Machines.{position_of}
use Rattle.ap_machine.specs.Positions.{Position, outs_from}
use Rattle.ap_machine.specs.Unbound.{answer_by_unbound}
use Rattle.ap_backchain.proofs.run.outputs_of_query.Goals as goal

pub returns : goal.returns
returns c =
    let program = program_in c.args.clauses.now in
    subst (λ (os : List NominalOut). IfOk c.outputs_from.result (λ v. outs_of v.items ≡ os))
    (ap (λ answering. map (kept_out c.args.paths) (part c.args.limit (outs_from program answering (position_of c.in_ok-first.first)))) (c.in_ok-asked.ensures ∙ ap (λ ls. answer_by_unbound (locals_of ls)) c.items.ensures)
    ∙ ap (λ (p : Position). map (kept_out c.args.paths) (part c.args.limit (outs_from program (answer_by_unbound (locals_of c.args.query.now.locals)) p))) c.in_ok-first.ensures) c.outputs_from.ensures
