use Rattle.std.proofs.Common.{refl}
use Rattle.ap_bundle.specs.TableForms.{read_cited}
use Rattle.ap_shared.specs.SharedViews.{shared_terms}
use Rattle.ap_bundle_read.specs.Outcomes.{place_of}
use Rattle.ap_bundle_read.proofs.CitedLemmas.{derivation_none, derivation_some}
use Rattle.ap_bundle_read.proofs.cited_nodes.read_derivation.Goals as goal

pub returns-in_default : goal.returns-in_default
returns-in_default c =
    let ts = shared_terms c.args.table.now in
    rw (c.wrong.ensures, derivation_none (read_cited ts) ts c.in_ok-nodes.nodes.items c.in_ok-derivation.field-0 (place_of c.args.place) (place_of c.in_ok-nodes.rest) c.in_ok-nodes.ensures c.in_ok-derivation.ensures c.in_default.not-Some) refl

pub returns : goal.returns
returns c =
    let ts = shared_terms c.args.table.now in
    derivation_some (read_cited ts) ts c.in_ok-nodes.nodes.items c.in_ok-derivation.field-0 (place_of c.args.place) (place_of c.in_ok-nodes.rest) c.in_ok-nodes.ensures c.in_ok-derivation.ensures c.in-Some.derivation c.in-Some.is
