use Rattle.std.proofs.Common.{◌++◌, ◌∷◌, []}
use Rattle.ap_store.proofs.HeldLemmas.{changed_at, kept_at, length_set, on_err}
use Rattle.ap_store.proofs.held.push_at.Goals as goal

pub returns-in_err-push-clause-unchanged : goal.returns-in_err-push-clause-unchanged
returns-in_err-push-clause-unchanged c =
    on_err c.from_residual.result
    (kept_at c.args.held.now.items c.args.place c.push.new.self c.index_mut.result.now c.requires c.index_mut.ensures.value c.in_err-push.ensures.items)

pub returns-in_err-push-clause-length : goal.returns-in_err-push-clause-length
returns-in_err-push-clause-length c = length_set c.args.held.now.items c.args.place c.push.new.self

pub returns-clause-held : goal.returns-clause-held
returns-clause-held c =
    changed_at (λ cs. cs ++ c.args.c ∷ []) c.args.held.now.items c.args.place c.push.new.self c.index_mut.result.now c.requires c.index_mut.ensures.value c.in_ok-push.ensures.items

pub returns-clause-length : goal.returns-clause-length
returns-clause-length c = length_set c.args.held.now.items c.args.place c.push.new.self
