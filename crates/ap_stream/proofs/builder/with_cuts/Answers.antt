use Rattle.std.proofs.Common.{◌++◌, ◌∙◌, [], replicate, ap, sym}
use Rattle.ap_defs.specs.Answers.{cut}
use Rattle.ap_stream.specs.Builders.{built_text}
use Rattle.ap_stream.specs.declared.builder.PendingRun.{PendingRun}
use Rattle.ap_stream.proofs.LineLemmas.{cuts_begin, cuts_go_on}
use Rattle.ap_stream.proofs.builder.with_cuts.Goals as goal

pub returns-in_ok-count-in-Cuts : goal.returns-in_ok-count-in-Cuts
returns-in_ok-count-in-Cuts c = λ program locals os totals.
    let old = c.args.out.now.items in
    cuts_go_on program locals c.in-Cuts.count c.args.more c.in_ok-count-in-Cuts.count os old totals c.in_ok-count-in-Cuts.ensures
    ∙ ap (λ (r : PendingRun). built_text program locals old r (replicate c.args.more (cut []) ++ os) totals) (sym c.in-Cuts.is)

pub returns-in_ok-write_stuck-in-Stuck : goal.returns-in_ok-write_stuck-in-Stuck
returns-in_ok-write_stuck-in-Stuck c = λ program locals os totals.
    let old = c.args.out.now.items in
    cuts_begin program locals c.in-Stuck.count c.args.more os old c.write_stuck.new.out.items totals c.requires c.in_ok-write_stuck-in-Stuck.ensures
    ∙ ap (λ (r : PendingRun). built_text program locals old r (replicate c.args.more (cut []) ++ os) totals) (sym c.in-Stuck.is)
