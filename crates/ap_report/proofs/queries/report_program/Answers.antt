use Rattle.std.proofs.Common.{◌≡◌, ◌+◌, ◌-◌, rules, subst}
use Rattle.ap_defs.specs.Goals.{program_of}
use Rattle.ap_report.specs.Queries.{query_report}
use Rattle.ap_report.proofs.QueryReports.{one_more}
use Rattle.ap_report.proofs.queries.report_program.Goals as goal

pub loop-place-preserved : goal.loop-place-preserved
loop-place-preserved g c =
    let program = program_of c.args.program.now in
    let place = c.loop-place.place in
    let report = c.in_ok-report.report.items in
    let made : report ≡ query_report program c.args.depth c.args.limit (place + 1 - 1) =
    subst (λ d. report ≡ query_report program d c.args.limit (place + 1 - 1)) c.get.ensures.number c.in_ok-report.ensures in
    one_more program c.args.depth c.args.limit place c.loop-place.bytes.items report c.add_report.new.bytes.items
    (search rules) c.in_ok-add_report.ensures made c.loop-place.invariant
