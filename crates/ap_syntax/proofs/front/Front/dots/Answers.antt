use Rattle.std.proofs.Common.{cond, sym, ap, ◌∙◌}
use Rattle.ap_syntax.proofs.Fronts.{front_dots}
use Rattle.ap_syntax.proofs.front.Front.dots.Goals as goal

pub returns-then-self-clause-value : goal.returns-then-self-clause-value
returns-then-self-clause-value c = λ all h. sym (front_dots c.args.self.now all h ∙ ap (λ b. cond b 1 0) c.if-self.true)

pub returns-else-self-clause-value : goal.returns-else-self-clause-value
returns-else-self-clause-value c = λ all h. sym (front_dots c.args.self.now all h ∙ ap (λ b. cond b 1 0) c.if-self.false)
