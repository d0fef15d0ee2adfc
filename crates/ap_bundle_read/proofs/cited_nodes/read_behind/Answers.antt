use Rattle.ap_shared.specs.SharedViews.{shared_terms}
use Rattle.ap_bundle_read.proofs.cited_nodes.read_behind.Goals as goal

pub returns-in-Whole : goal.returns-in-Whole
returns-in-Whole c = rw c.in-Whole.is (c.without_terms_at.ensures (shared_terms c.args.table.now))
