use Rattle.std.proofs.Common.{arith, ◌∙◌}
use Rattle.ap_defs.specs.Printing.{whole}
use Rattle.ap_answers.proofs.TextLemmas.{declares_some}
use Rattle.ap_answers.proofs.leaves.stands_alone.Goals as goal

pub returns : goal.returns
returns c = λ h.
    let some = declares_some c.args.constructors.now c.args.f c.index-constructors-index.result whole (omega arith) (omega arith) (omega arith) c.index-constructors-index.is in
    some.at ∙ c.is_bare.ensures h
