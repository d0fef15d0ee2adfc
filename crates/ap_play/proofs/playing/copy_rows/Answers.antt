use Rattle.std.proofs.Common.{◌∙◌, ◌∷◌, ◌++◌, [], sym, ap, take, append_assoc}
use Rattle.std.proofs.lemmas.List.{take_more}
use Rattle.ap_tools.specs.States.{joined_all}
use Rattle.ap_play.proofs.Stepping.{joined_more}
use Rattle.ap_play.proofs.playing.copy_rows.Goals as goal

pub loop-row-preserved : goal.loop-row-preserved
loop-row-preserved c =
    let rows = c.args.rows.now in
    let i = c.loop-row.row-index in
    let row = c.row-item.result in
    let before = c.args.all.now.items in
    c.in_ok-copy_row.ensures ∙ ap (λ r. c.loop-row.all.items ++ r) c.items.ensures ∙ ap (λ a. a ++ row) c.loop-row.invariant ∙ append_assoc before (joined_all (take i rows)) row
    ∙ ap (λ l. before ++ l) (sym (joined_more (take i rows) row) ∙ ap joined_all (ap (λ r. take i rows ++ r ∷ []) c.row-item.is ∙ sym (take_more rows i row c.loop-row-test.true)))
