use Rattle.std.proofs.Common.{refl, ap, ◌∙◌}
use Rattle.ap_defs.specs.Spines.{term_within}
use Rattle.ap_defs.specs.Terms.{term_of}
use Rattle.ap_judge.proofs.OutsideLemmas.{closed_part}
use Rattle.ap_judge.proofs.outside.Outside.close.Goals as goal

pub returns : goal.returns
returns c = λ n l.
    let t = term_of c.args.part in
    closed_part c.args.self.now t c.in_ok-made.made (c.in_ok-made.ensures ∙ ap (λ v. term_within v.items t) c.replace-layers.ensures.value) n
    (record { halves = c.pop.new.self; layers = c.push.new.self }) c.in-Some.half c.pop.new.self.items l c.in-Some.ensures.items refl c.in_ok-push.ensures.items
