use Rattle.std.proofs.Common.{get_or}
use Rattle.std.proofs.lemmas.List.{get_or_default}
use Rattle.ap_defs.specs.declared.terms.Cond.{Cond}
use Rattle.ap_answers.specs.Spelled.{spelling_in}
use Rattle.ap_answers.proofs.SeparatedLemmas.{conds_written}
use Rattle.ap_answers.proofs.answers.write_conds.Goals as goal

pub returns-in_ok-write_further_conds : goal.returns-in_ok-write_further_conds
returns-in_ok-write_further_conds c =
    let first : Cond = get_or c.args.conds.now 0 (record { name = record { sort = 0; num = 0 }; var = record { num = 0 } }) in
    conds_written (spelling_in c.args.by.now) c.args.conds.now first c.args.out.now.items c.extend_from_slice.new.self.items c.write_cond.new.out.items c.write_further_conds.new.out.items
    c.in-len1-up.len_at_least (get_or_default c.args.conds.now 0 _ _ c.in-len1-up.len_at_least) c.in_ok-extend_from_slice.ensures.items c.in_ok-write_cond.ensures c.in_ok-write_further_conds.ensures
