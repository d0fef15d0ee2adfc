use Rattle.std.proofs.Common.{◌≡◌, ◌∙◌, ◌+◌, ◌||◌, Bool, List, ap, ap₂, sym, take}
use Rattle.std.specs.Prelude.{fold}
use Rattle.std.proofs.lemmas.List.Sums.{fold_more}
use Rattle.clap.specs.Words.{app_of, with_rule}
use Rattle.ap_words.specs.Program.{bare_subcommand, with_option}
use Rattle.ap_words.specs.declared.table.OptionName.{OptionName}
use Rattle.ap_words.proofs.program.subcommand.Goals as goal

pub loop-option-preserved : goal.loop-option-preserved
loop-option-preserved c =
    let items = c.options-option-items.ensures in
    let xs = c.options-option-items.result.now in
    let i = c.loop-option.option-index in
    let bare = bare_subcommand c.args.command in
    let before : app_of c.loop-option.made ≡ fold with_option bare (take i xs) =
    c.loop-option.invariant.made ∙ ap (λ (ys : List OptionName). fold with_option bare (take i ys)) (sym items) in
    record {
      made = c.in_ok-made.ensures.shape c.argument.ensures.local ∙ ap₂ with_rule before c.argument.ensures.rule
          ∙ sym (fold_more with_option bare xs i _ c.loop-option-test.true) ∙ ap (λ (ys : List OptionName). fold with_option bare (take (i + 1) ys)) items;
      local = c.in_ok-made.ensures.globals ∙ ap₂ (λ (a b : Bool). a || b) c.loop-option.invariant.local c.argument.ensures.local;
    }
