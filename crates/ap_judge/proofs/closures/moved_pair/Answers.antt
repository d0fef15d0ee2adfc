use Rattle.ap_judge.proofs.closures.moved_pair.Goals as goal

pub returns-clause-of : goal.returns-clause-of
returns-clause-of c = λ ts h k. (c.in_ok-left.ensures.of ts h, c.in_ok-right.ensures.of ts k)
