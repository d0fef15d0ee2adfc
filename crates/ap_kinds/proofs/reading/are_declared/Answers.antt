use Rattle.ap_kinds.proofs.InhabitedLemmas.{all_declared}
use Rattle.ap_kinds.proofs.reading.are_declared.Goals as goal

pub returns-clause-all : goal.returns-clause-all
returns-clause-all c e by ts count h = all_declared by ts c.args.reads.now count c.loop-read.read-index h c.loop-read-test.false c.loop-read.invariant
