use Rattle.std.proofs.Common.{arith}
use Rattle.ap_defs.specs.Terms.{unit}
use Rattle.ap_shared.specs.Shared.{shared_at}
use Rattle.ap_shared.specs.SharedViews.{shared_terms}
use Rattle.ap_judge.proofs.PlaceLemmas.{get_or_no_view, get_or_view}
use Rattle.ap_judge.proofs.cited.line_at.Goals as goal

pub returns-then-place-lines-clause-term : goal.returns-then-place-lines-clause-term
returns-then-place-lines-clause-term c = get_or_no_view (shared_at (shared_terms c.args.given.terms.now)) c.args.given.lines.now c.args.place unit (omega arith)

pub returns-clause-term : goal.returns-clause-term
returns-clause-term c =
    get_or_view (shared_at (shared_terms c.args.given.terms.now)) c.args.given.lines.now c.args.place 0 unit (omega arith)
