use Rattle.std.proofs.Common.{[], ap}
use Rattle.ap_defs.specs.Answers.{cut, outs_of}
use Rattle.ap_defs.specs.declared.paths.Out.TheVariants as variants
use Rattle.ap_paths.proofs.RunLemmas.{none_left, one_added}
use Rattle.ap_paths.proofs.runs.push_cuts.Goals as goal

pub adding-preserved : goal.adding-preserved
adding-preserved c =
    one_added c.adding.outs.items c.push.new.self.items (variants.Cut c.root.result) (cut []) c.adding.left _ (ap cut c.root.ensures) c.in_ok-push.ensures.items c.adding-test.true c.adding.invariant

pub returns : goal.returns
returns c = none_left (outs_of c.adding.outs.items) (cut []) c.adding.left _ c.adding-test.false c.adding.invariant
