use Rattle.std.proofs.Common.{ap, ◌∙◌, ◌&&◌}
use Rattle.ap_store.specs.Views.{present}
use Rattle.ap_unify.proofs.ResultLemmas.{instances_of_result}
use Rattle.ap_unify.proofs.unify.unify.Goals as goal
use Rattle.ap_unify.specs.Lists.{renamed_terms_in}
use Rattle.ap_unify.specs.Unified.{is_of}

pub returns-in-Ok-true-clause-instances : goal.returns-in-Ok-true-clause-instances
returns-in-Ok-true-clause-instances c = λ g.
    let b = present c.unify_forward.new.store in
    instances_of_result g (present c.args.store.now) b (renamed_terms_in c.args.left) (renamed_terms_in c.args.right) c.in-Ok-true.field-0 c.in-Ok-true.ensures.defined
    ∙ ap (λ v. v && is_of g b) c.in-Ok-true.field-0-test

pub returns-in-Ok-false-clause-instances : goal.returns-in-Ok-false-clause-instances
returns-in-Ok-false-clause-instances c = λ g.
    let b = present c.unify_forward.new.store in
    instances_of_result g (present c.args.store.now) b (renamed_terms_in c.args.left) (renamed_terms_in c.args.right) c.in-Ok-false.field-0 c.in-Ok-false.ensures.defined
    ∙ ap (λ v. v && is_of g b) c.in-Ok-false.field-0-test
