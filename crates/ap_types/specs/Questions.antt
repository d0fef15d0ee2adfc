-- The two questions that are answered in rounds.
use Rattle.ap_types.specs.declared.rounds.Question.{Question}
use Rattle.ap_types.specs.declared.rounds.Question.TheVariants as questions
use Rattle.ap_types.specs.Rounds.{Test}
use Rattle.ap_types.specs.Inhabited.{all_inhabited}
use Rattle.ap_types.specs.Holding.{some_holds}

abbrev pub test_of : Question → Test
test_of questions.Inhabited = all_inhabited
test_of (questions.Holds sort) = some_holds sort
