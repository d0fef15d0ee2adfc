use Rattle.std.proofs.Common.{List, sym, ap, ◌∙◌}
use Rattle.ap_defs.specs.Answers.{NominalOut}
use Rattle.ap_defs.specs.Goals.{program_of}
use Rattle.ap_defs.specs.Types.{locals_of}
use Rattle.ap_stream.specs.Builders.{report_with}
use Rattle.ap_stream.proofs.report.push_outputs.Goals as goal

pub returns-in_default : goal.returns-in_default
returns-in_default c =
    let over = c.in_ok-out.ensures.none c.in_default.is in
    λ query. ap (λ (us : List NominalOut). report_with (program_of c.args.program.now) query (locals_of c.args.locals.now) c.searching.builder us) (sym over)
    ∙ c.searching.invariant.report query
