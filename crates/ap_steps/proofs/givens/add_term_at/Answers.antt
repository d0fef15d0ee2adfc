use Rattle.std.proofs.Common.{◌++◌, sym, ap, ◌∙◌, arith}
use Rattle.std.specs.Prelude.{Option}
use Rattle.std.proofs.lemmas.List.{append-nil}
use Rattle.ap_defs.specs.Terms.{term_of}
use Rattle.ap_defs.specs.Types.{NominalLocal}
use Rattle.ap_spelling.specs.Spelt.{givens_of}
use Rattle.ap_steps.specs.Givens.{by_local, var_given}
use Rattle.ap_steps.proofs.GivenLemmas.{local_past}
use Rattle.ap_steps.proofs.givens.add_term_at.Goals as goal

pub returns-then-place-locals : goal.returns-then-place-locals
returns-then-place-locals c =
    let given = givens_of c.args.given.now.items in
    sym (append-nil given)
    ∙ ap (λ (o : Option NominalLocal). given ++ by_local o (var_given (term_of c.args.term.now))) (sym (local_past c.args.locals.now c.args.number (omega arith)))
