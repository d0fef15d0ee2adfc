use Rattle.std.proofs.Common.{◌≡◌, ◌∙◌, ◌+◌, List, ap, ap₂, sym, take}
use Rattle.std.specs.Prelude.{fold}
use Rattle.std.proofs.lemmas.List.Sums.{fold_more}
use Rattle.clap.specs.Words.{App, app_of, with_subcommand}
use Rattle.ap_words.specs.Program.{bare_program, with_command}
use Rattle.ap_words.specs.declared.table.CommandName.{CommandName}
use Rattle.ap_words.proofs.program.program.Goals as goal

pub loop-command-preserved : goal.loop-command-preserved
loop-command-preserved c =
    let items = c.all-command-items.ensures in
    let xs = c.all-command-items.result.now in
    let i = c.loop-command.command-index in
    let before : app_of c.loop-command.made ≡ fold with_command bare_program (take i xs) =
    c.loop-command.invariant ∙ ap (λ (ys : List CommandName). fold with_command bare_program (take i ys)) (sym items) in
    c.in_ok-made.ensures.shape c.in_ok-subcommand.ensures.local ∙ ap₂ with_subcommand before (ap (λ (a : App). a.top) c.in_ok-subcommand.ensures.made)
    ∙ sym (fold_more with_command bare_program xs i _ c.loop-command-test.true) ∙ ap (λ (ys : List CommandName). fold with_command bare_program (take (i + 1) ys)) items
