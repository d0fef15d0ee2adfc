use Rattle.ap_defs.specs.Goals.{program_of}
use Rattle.ap_index.proofs.KeyLemmas.{restricted_narrow}
use Rattle.ap_index.proofs.index.Index.of.Goals as goal

pub predicates_of-requires : goal.predicates_of-requires
predicates_of-requires c = rw (c.items.ensures, c.program.ensures.same) (restricted_narrow (program_of c.args.program.now) c.program.ensures.restricted)
