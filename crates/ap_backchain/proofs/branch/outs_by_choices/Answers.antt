use Rattle.std.proofs.Common.{◌≡◌, List, map, sym, subst}
use Rattle.std.specs.Prelude.{IfOk, IfSome}
use Rattle.ap_defs.specs.Answers.{NominalOut, outs_of}
use Rattle.ap_defs.specs.Goals.{program_in}
use Rattle.ap_search.proofs.MarkLemmas.{marks_stack}
use Rattle.ap_backchain.specs.Ends.{kept_out}
use Rattle.ap_machine.specs.Machines.{position_of}
use Rattle.ap_machine.specs.Asking.{answering_of}
use Rattle.ap_backchain.proofs.branch.outs_by_choices.Goals as goal

pub returns-in-Choosing-clause-outs : goal.returns-in-Choosing-clause-outs
returns-in-Choosing-clause-outs c =
    let p = position_of c.in-Choosing.machine in
    rw c.in-Choosing.is
    (subst (λ (os : List NominalOut). IfOk c.outputs_by_choices.result (λ o. IfSome o (λ v. outs_of v.items ≡ map (kept_out c.args.paths) os)))
    (sym (marks_stack (program_in c.args.clauses.now) (answering_of c.args.asked.now) p.waiting p.path p.state p.brought)) c.outputs_by_choices.ensures.outs)

pub returns-in-Choosing-clause-few : goal.returns-in-Choosing-clause-few
returns-in-Choosing-clause-few c = rw c.in-Choosing.is c.outputs_by_choices.ensures.few

pub returns-in-Choosing-clause-many : goal.returns-in-Choosing-clause-many
returns-in-Choosing-clause-many c = rw c.in-Choosing.is c.outputs_by_choices.ensures.many
