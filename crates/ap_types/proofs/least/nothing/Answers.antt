use Rattle.ap_types.specs.Questions.{test_of}
use Rattle.ap_types.proofs.RuleLemmas.{stands_nothing}
use Rattle.ap_types.proofs.least.nothing.Goals as goal

pub returns : goal.returns
returns c question = stands_nothing (test_of question) c.new.result.items c.new-2.result.items c.new.ensures.items c.new-2.ensures.items
