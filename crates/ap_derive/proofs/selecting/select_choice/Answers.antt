use Rattle.ap_defs.specs.Goals.{program_in}
use Rattle.ap_derive.proofs.selecting.select_choice.Goals as goal

pub select_side-requires-clause-solved : goal.select_side-requires-clause-solved
select_side-requires-clause-solved c =
    let s = rw c.in-Either.is at c.requires.solved in
    (program_in c.args.clauses.now, rw (c.deref.ensures, c.deref-in-Either.ensures) s)
