use Rattle.std.proofs.Common.{◌≡◌, ◌-◌, None, arith, drop, refl}
use Rattle.std.proofs.lemmas.Grind.{common_steps}
use Rattle.ap_bundle.specs.Forms.{form, forms, term_onto}
use Rattle.ap_bundle_read.proofs.LoopLemmas.{forms_none}
use Rattle.ap_bundle_read.proofs.terms.term_from.Goals as goal

pub returns-then-not-branch : goal.returns-then-not-branch
unfolding form
returns-then-not-branch c =
    let none : forms term_onto (drop (c.loop-left.left - 1) c.args.words.now) ≡ None = grind (arith, common_steps) in
    rw (forms_none term_onto (c.loop-left.left - 1) c.args.words.now none) refl
