use Rattle.ap_judge.proofs.cited.layer_of.Goals as goal

pub returns-in-Tree-clause-of : goal.returns-in-Tree-clause-of
returns-in-Tree-clause-of c = λ ts h. c.layer_of_tree.ensures.of ts
