-- The set has the facts so far.
use Rattle.std.proofs.Common.{take}
use Rattle.ap_facts.specs.Facts.{HasSame}
use Rattle.ap_facts.proofs.facts.gathered.Given as goal

abbrev pub invariant-loop-fact : goal.invariant-loop-fact
invariant-loop-fact l = HasSame l.known.keys (take l.fact-index l.facts)
