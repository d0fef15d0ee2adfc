use Rattle.std.proofs.Common.{map}
use Rattle.ap_defs.specs.Types.{constructor_of}
use Rattle.ap_types.specs.Questions.{test_of}
use Rattle.ap_types.proofs.QuestionLemmas.{test_grows}
use Rattle.ap_types.proofs.RuleLemmas.{stands_least}
use Rattle.ap_types.proofs.rounds.least_table.Goals as goal

pub returns : goal.returns
returns c =
    let least = c.in_ok-least.least in
    stands_least (test_of c.args.question) (test_grows c.args.question) (map constructor_of c.args.constructors.now) least.table.items least.waiting.items c.in_ok-least.ensures
