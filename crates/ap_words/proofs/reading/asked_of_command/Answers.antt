use Rattle.std.proofs.Common.{◌∙◌, ap, map, List, string_bytes}
use Rattle.std.specs.Prelude.{option_and_then}
use Rattle.ap_words.specs.declared.table.OptionName.{OptionName}
use Rattle.ap_words.specs.Words.{asked_together, settings_of}
use Rattle.ap_words.proofs.reading.asked_of_command.Goals as goal

pub returns-in-Some : goal.returns-in-Some
returns-in-Some c =
    let found = rw c.in-Some.is at c.in_ok-settings.ensures in
    let wanted = ap (λ (os : List OptionName). settings_of os (map string_bytes c.args.words.now)) c.options.ensures in
    c.asked_together.ensures ∙ ap (asked_together c.args.command) c.as_slice.ensures.value
    ∙ ap (option_and_then (asked_together c.args.command)) (found ∙ wanted)

pub returns-in-None : goal.returns-in-None
returns-in-None c =
    let found = rw c.in-None.is at c.in_ok-settings.ensures in
    let wanted = ap (λ (os : List OptionName). settings_of os (map string_bytes c.args.words.now)) c.options.ensures in
    ap (option_and_then (asked_together c.args.command)) (found ∙ wanted)
