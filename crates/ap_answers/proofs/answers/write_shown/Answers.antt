use Rattle.ap_answers.specs.Spelled.{spelling_in}
use Rattle.ap_answers.proofs.SeparatedLemmas.{binds_written}
use Rattle.ap_answers.proofs.answers.write_shown.Goals as goal

pub returns : goal.returns
returns c =
    rw (← binds_written (spelling_in c.args.by.now) c.args.binds.now c.first-item.result c.args.conds.now c.args.out.now.items c.write_bind.new.out.items c.write_further_binds.new.out.items
    c.in-len1-up.len_at_least c.first-item.is c.in_ok-write_bind.ensures c.in_ok-write_further_binds.ensures) c.write_conds.ensures
