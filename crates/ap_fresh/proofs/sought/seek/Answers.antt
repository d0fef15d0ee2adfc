use Rattle.std.specs.BTreeSet.{contains}
use Rattle.ap_fresh.specs.Sought.{cond_key, cond_key_cmp}
use Rattle.ap_fresh.proofs.SoughtLemmas.{one_more, still_kept}
use Rattle.ap_fresh.proofs.sought.seek.Goals as goal

pub returns-in_ok-is_new-clause-sought : goal.returns-in_ok-is_new-clause-sought
returns-in_ok-is_new-clause-sought c = λ d h.
    one_more c.args.c.now d (contains cond_key_cmp c.args.sought.now.pairs) (contains cond_key_cmp c.insert.new.self) (rw c.key_of.ensures at (c.in_ok-is_new.ensures.updates.0 (cond_key d))) h

pub returns-in_ok-is_new-clause-kept : goal.returns-in_ok-is_new-clause-kept
returns-in_ok-is_new-clause-kept c = λ d h.
    still_kept c.args.c.now d (contains cond_key_cmp c.args.sought.now.pairs) (contains cond_key_cmp c.insert.new.self) (rw c.key_of.ensures at (c.in_ok-is_new.ensures.updates.0 (cond_key d))) h
