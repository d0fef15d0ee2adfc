use Rattle.ap_derive.specs.Closing.{closing_terms}
use Rattle.ap_shared.proofs.SharingLemmas.{grown_none}
use Rattle.ap_derive.proofs.assembling.close_node.Goals as goal

pub returns-in-Equal-clause-grown : goal.returns-in-Equal-clause-grown
returns-in-Equal-clause-grown c = grown_none (closing_terms c.args.closing.now)

pub returns-in-Fresh-clause-grown : goal.returns-in-Fresh-clause-grown
returns-in-Fresh-clause-grown c = grown_none (closing_terms c.args.closing.now)

pub returns-in-True-clause-grown : goal.returns-in-True-clause-grown
returns-in-True-clause-grown c = grown_none (closing_terms c.args.closing.now)

pub returns-in-Both-clause-grown : goal.returns-in-Both-clause-grown
returns-in-Both-clause-grown c = grown_none (closing_terms c.args.closing.now)

pub returns-in-Left-clause-grown : goal.returns-in-Left-clause-grown
returns-in-Left-clause-grown c = grown_none (closing_terms c.args.closing.now)

pub returns-in-Right-clause-grown : goal.returns-in-Right-clause-grown
returns-in-Right-clause-grown c = grown_none (closing_terms c.args.closing.now)

pub returns-in_ok-boxed-in-New-clause-grown : goal.returns-in_ok-boxed-in-New-clause-grown
returns-in_ok-boxed-in-New-clause-grown c = grown_none (closing_terms c.args.closing.now)
