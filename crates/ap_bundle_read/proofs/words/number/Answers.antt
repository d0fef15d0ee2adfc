use Rattle.std.proofs.Common.{sym, ◌∙◌}
use Rattle.ap_bundle_read.proofs.NumberLemmas.{numeral_utf8, numeral_refused}
use Rattle.ap_bundle_read.proofs.words.number.Goals as goal

pub returns-in_default : goal.returns-in_default
returns-in_default c = absurd (c.in_default.ensures.cases.0 (numeral_utf8 c.args.text.now (sym c.is_numeral.ensures ∙ c.if-not-is_numeral.false)))

pub returns-in_default-parse : goal.returns-in_default-parse
returns-in_default-parse c =
    numeral_refused c.args.text.now _ c.in_default-parse.field-0 c.in-Ok.ensures.cases.0 (sym c.is_numeral.ensures ∙ c.if-not-is_numeral.false) c.in_default-parse.ensures.value.0
