use Rattle.ap_steps.proofs.HtmlLemmas.{marked_next}
use Rattle.ap_steps.proofs.html.write_marked.Goals as goal

pub marks-preserved : goal.marks-preserved
marks-preserved c =
    marked_next c.marks.out.items c.write_coloured.new.out.items c.marks.rest.now c.parted.result.1.now c.parted.result.0.now c.marks.left.now c.in-Some.others.now
    c.in-Some.mark.now _ c.in-Some.ensures.cases.0 c.parted.ensures.front c.parted.ensures.rest c.in_ok-write_coloured.ensures c.marks.invariant
