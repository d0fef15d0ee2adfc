use Rattle.ap_checker.proofs.refusals.verdict_on_shared.Goals as goal

pub returns : goal.returns
returns c = rw c.as_ref-terms.ensures at c.verify.ensures
