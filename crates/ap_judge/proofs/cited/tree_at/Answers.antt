use Rattle.std.proofs.Common.{sym, ap, ◌∙◌, arith}
use Rattle.ap_defs.specs.Terms.{term_of, unit}
use Rattle.ap_judge.proofs.PlaceLemmas.{get_or_no_view, get_or_view}
use Rattle.ap_judge.proofs.cited.tree_at.Goals as goal

pub returns-then-place-terms : goal.returns-then-place-terms
returns-then-place-terms c = get_or_no_view term_of c.args.terms.now c.args.place unit (omega arith)

pub returns : goal.returns
returns c = get_or_view term_of c.args.terms.now c.args.place c.index-terms-place.result unit (omega arith) ∙ ap term_of (sym c.index-terms-place.is)
