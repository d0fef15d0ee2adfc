use Rattle.ap_words.proofs.Names.{unnamed}
use Rattle.ap_words.proofs.settings.option_named.Goals as goal

pub returns-in-None : goal.returns-in-None
returns-in-None c = unnamed c.args.options.now c.args.word.now c.in-None.ensures.cases
