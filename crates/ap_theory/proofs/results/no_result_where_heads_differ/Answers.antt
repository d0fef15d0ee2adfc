use Rattle.ap_theory.proofs.RefusalLemmas.{unify_heads}
use Rattle.ap_theory.proofs.results.no_result_where_heads_differ.Goals as goal

pub returns : goal.returns
returns c = unify_heads
