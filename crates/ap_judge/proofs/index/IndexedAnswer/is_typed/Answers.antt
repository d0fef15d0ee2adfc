use Rattle.std.proofs.Common.{ap, map, ◌∙◌}
use Rattle.std.specs.Prelude.{is_some}
use Rattle.ap_shared.specs.declared.derivations.SharedAnswer.{SharedAnswer}
use Rattle.ap_defs.specs.Answers.{typed_var_of}
use Rattle.ap_defs.specs.Unification.{has_var}
use Rattle.ap_judge.proofs.IndexLemmas.{found_typed}
use Rattle.ap_judge.proofs.index.IndexedAnswer.is_typed.Goals as goal

pub returns : goal.returns
returns c =
    c.contains_key.ensures ∙ ap is_some (c.self.invariant.places c.args.x.num) ∙ found_typed 0 c.self.inside.answer.now.vars c.args.x
    ∙ ap (λ (a : SharedAnswer). has_var c.args.x (map (λ v. v.0) (map typed_var_of a.vars))) c.self.view_is
