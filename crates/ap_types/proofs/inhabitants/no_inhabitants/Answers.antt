use Rattle.ap_types.specs.declared.rounds.Question.TheVariants as questions
use Rattle.ap_types.proofs.inhabitants.no_inhabitants.Goals as goal

pub returns : goal.returns
returns c = c.nothing.ensures questions.Inhabited
