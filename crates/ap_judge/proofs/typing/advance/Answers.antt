use Rattle.std.proofs.Common.{◌++◌, [], ◌∷◌, map, subst, ap}
use Rattle.ap_defs.specs.Answers.{typed_var_of}
use Rattle.ap_defs.specs.Types.{constructor_of}
use Rattle.ap_checks.specs.TypeTests.{type_beside}
use Rattle.ap_shared.specs.SharedViews.{shared_terms}
use Rattle.ap_judge.specs.declared.typing.Task.{Task}
use Rattle.ap_judge.specs.Typings.{AreEarned}
use Rattle.ap_judge.proofs.TypingLemmas.{earned_last}
use Rattle.ap_judge.proofs.typing.advance.Goals as goal

pub returns-in_ok-keep-in-Known-clause-typed : goal.returns-in_ok-keep-in-Known-clause-typed
returns-in_ok-keep-in-Known-clause-typed c =
    let ts = shared_terms c.args.terms.now in
    let cs = map constructor_of c.args.constructors.now in
    let vars = type_beside (map typed_var_of c.args.answer.now.vars) in
    let old = c.args.tasks.now.items in
    c.in_ok-keep-in-Known.ensures ts cs vars
    (earned_last ts cs vars old c.in-Known.line c.in-Known.ty (subst (λ (k : Task). AreEarned ts cs vars (old ++ k ∷ [])) c.in-Known.is c.requires.earned))
    c.requires.typed
