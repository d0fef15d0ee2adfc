use Rattle.ap_text_commands.proofs.DepthLemmas.{counts_deeper}
use Rattle.ap_text_commands.proofs.counting.laws.deeper_counts_are_the_same.Goals as goal

pub returns : goal.returns
returns c = counts_deeper
