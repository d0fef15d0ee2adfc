use Rattle.ap_shared.specs.Shared.{entry_term}
use Rattle.ap_shared.specs.SharedViews.{shared_terms}
use Rattle.ap_derive.specs.Closing.{closing_terms}
use Rattle.ap_derive.proofs.ClosingLemmas.{added}
use Rattle.ap_derive.proofs.closing.add_line.Goals as goal

pub returns-clause-grown : goal.returns-clause-grown
returns-clause-grown c =
    let ts = closing_terms c.args.closing.now in
    let a = added ts (shared_terms c.add.new.self) (entry_term ts c.args.entry) c.in_ok-line.line c.in_ok-line.ensures.terms c.in_ok-line.ensures.line in
    a.0

pub returns-clause-within : goal.returns-clause-within
returns-clause-within c =
    let ts = closing_terms c.args.closing.now in
    let a = added ts (shared_terms c.add.new.self) (entry_term ts c.args.entry) c.in_ok-line.line c.in_ok-line.ensures.terms c.in_ok-line.ensures.line in
    a.1

pub returns-clause-line : goal.returns-clause-line
returns-clause-line c =
    let ts = closing_terms c.args.closing.now in
    let a = added ts (shared_terms c.add.new.self) (entry_term ts c.args.entry) c.in_ok-line.line c.in_ok-line.ensures.terms c.in_ok-line.ensures.line in
    a.2
