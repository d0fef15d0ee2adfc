use Rattle.std.proofs.Common.{◌≡◌, ◌∙◌, ap, rules}
use Rattle.ap_paths.specs.Runs.{outs_of_runs}
use Rattle.ap_book.specs.Values.{merged_values}
use Rattle.ap_book.proofs.Merges.{merged_view}
use Rattle.ap_book.proofs.merging.merge.Goals as goal

pub returns-clause-outputs : goal.returns-clause-outputs
returns-clause-outputs c =
    let value : c.in_ok-all.all.items ≡ merged_values c.args.closed.history = search rules in ap outs_of_runs value ∙ merged_view c.args.closed.history
