use Rattle.std.proofs.Common.{ap, sym, ◌++◌, ◌∷◌, [], List, get_or, ◌∙◌}
use Rattle.ap_defs.specs.declared.terms.Name.{Name}
use Rattle.ap_values.proofs.UnionLemmas.{kept_further, kept_past, mark_lacks, mark_tells}
use Rattle.ap_values.proofs.flat.marked.Goals as goal
use Rattle.ap_values.proofs.flat.marked.Goals.{then-marks-i-eq1+in_ok-push, else-marks-i-eq1}

pub loop-i-preserved : goal.loop-i-preserved
loop-i-preserved c = λ p q marks.
    let names = c.args.names.now in
    let i = c.loop-i.i in
    let none : Name = record { sort = 0; num = 0 } in
    let before = c.loop-i.invariant p q marks in
    elim c.if-marks-i-eq1.branch [
      | then-marks-i-eq1+in_ok-push w ↦ rw (w.picked-is)
          (w.in_ok-push.ensures.items ∙ ap (λ (ns : List Name). ns ++ get_or names i none ∷ []) before
          ∙ sym (kept_further p q names i none c.loop-i-test.true (mark_tells p q names c.args.marks.now i 0 none c.loop-i-test.true marks w.if-marks-i-eq1.true)))
      | else-marks-i-eq1 w ↦ rw (w.picked-is)
          (before ∙ sym (kept_past p q names i none c.loop-i-test.true (mark_lacks p q names c.args.marks.now i 0 none c.loop-i-test.true marks w.if-marks-i-eq1.false)))
    ]
