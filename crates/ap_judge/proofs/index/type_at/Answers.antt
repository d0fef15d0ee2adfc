use Rattle.ap_judge.proofs.IndexLemmas.{beside_at}
use Rattle.ap_judge.proofs.index.type_at.Goals as goal

pub returns : goal.returns
returns c = λ x h. beside_at c.args.vars.now x c.args.place c.index-vars-place.result h
