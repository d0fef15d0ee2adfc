use Rattle.std.proofs.Common.{Err, sym, ◌∙◌}
use Rattle.ap_words.proofs.Numbers.{number_parsed, number_missed}
use Rattle.ap_words.proofs.settings.number.Goals as goal

pub returns-in_default : goal.returns-in_default
returns-in_default c =
    let digits = sym c.all_digits.ensures ∙ c.if-not-all_digits.false in
    number_missed c.args.text.now digits (number_parsed c.args.text.now (Err c.in_default.field-0) digits c.in_default.ensures.value.0)
