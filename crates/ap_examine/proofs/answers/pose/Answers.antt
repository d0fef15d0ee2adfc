use Rattle.std.proofs.Common.{List, map, subst}
use Rattle.ap_defs.specs.declared.goals.Local.{Local}
use Rattle.ap_defs.specs.Answers.{answer_of}
use Rattle.ap_defs.specs.Types.{constructor_of, locals_of}
use Rattle.ap_instance.specs.Views.{IsStated}
use Rattle.ap_property.specs.Stated.{stated}
use Rattle.ap_examine.proofs.answers.pose.Goals as goal

pub returns-clause-query : goal.returns-clause-query
returns-clause-query c =
    let cs = map constructor_of c.args.picker.now.constructors.now in
    let a = answer_of c.args.answer.now in
    c.in_ok-posed.ensures (stated cs (locals_of c.args.query.now.locals) a)
    (subst (λ (ls : List Local). IsStated c.in_ok-stated.stated (stated cs (locals_of ls) a)) c.items.ensures c.in_ok-stated.ensures)
