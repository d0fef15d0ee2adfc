use Rattle.std.proofs.Common.{refl}
use Rattle.ap_defs.specs.Permutations.{name_eq}
use Rattle.ap_facts.specs.Facts.{has_fact}
use Rattle.ap_facts.proofs.FactLemmas.{fact_added}
use Rattle.ap_facts.proofs.facts.gathered.Goals as goal

pub loop-fact-preserved : goal.loop-fact-preserved
unfolding name_eq
loop-fact-preserved c f =
    fact_added f _ _ c.args.facts.now c.loop-fact.fact-index (has_fact f c.loop-fact.known.keys) (has_fact f c.insert.new.self.keys)
    c.loop-fact-test.true refl (c.in_ok-insert.ensures.updates.0 f) (c.loop-fact.invariant f)
