use Rattle.ap_shared.specs.SharedViews.{shared_terms}
use Rattle.ap_shared.proofs.SharingLemmas.{grown_none}
use Rattle.ap_shared.proofs.sharing.share_first.Goals as goal

pub returns-in-Eq-clause-grown : goal.returns-in-Eq-clause-grown
returns-in-Eq-clause-grown c = grown_none (shared_terms c.args.table.now)

pub returns-in-Fresh-clause-grown : goal.returns-in-Fresh-clause-grown
returns-in-Fresh-clause-grown c = grown_none (shared_terms c.args.table.now)

pub returns-in-True-clause-grown : goal.returns-in-True-clause-grown
returns-in-True-clause-grown c = grown_none (shared_terms c.args.table.now)

pub returns-in-Both-clause-grown : goal.returns-in-Both-clause-grown
returns-in-Both-clause-grown c = grown_none (shared_terms c.args.table.now)

pub returns-in-Left-clause-grown : goal.returns-in-Left-clause-grown
returns-in-Left-clause-grown c = grown_none (shared_terms c.args.table.now)

pub returns-in-Right-clause-grown : goal.returns-in-Right-clause-grown
returns-in-Right-clause-grown c = grown_none (shared_terms c.args.table.now)

pub returns-in_ok-boxed-in-New-clause-grown : goal.returns-in_ok-boxed-in-New-clause-grown
returns-in_ok-boxed-in-New-clause-grown c = grown_none (shared_terms c.args.table.now)
