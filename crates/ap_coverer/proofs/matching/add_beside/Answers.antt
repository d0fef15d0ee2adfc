use Rattle.ap_defs.specs.Terms.{term_of}
use Rattle.ap_coverer.proofs.MatchLemmas.{adds_one}
use Rattle.ap_coverer.proofs.matching.add_beside.Goals as goal

pub returns-clause-added : goal.returns-clause-added
returns-clause-added c =
    adds_one c.args.picks.now c.add.new.self c.args.x (term_of c.in_ok-term.term) (term_of c.args.beside.now) c.args.undoing.now c.in_ok-term.ensures c.requires.closed c.in_ok-add.ensures.added
