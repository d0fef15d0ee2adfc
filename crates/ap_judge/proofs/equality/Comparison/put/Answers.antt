use Rattle.ap_judge.proofs.TableLemmas.{compared_put}
use Rattle.ap_judge.proofs.equality.Comparison.put.Goals as goal

pub returns-clause-of : goal.returns-clause-of
returns-clause-of c = λ ts h k l. compared_put ts c.args.self.now.pending.items c.push.new.self.items c.args.left c.args.right _ c.in_ok-push.ensures.items h k l
