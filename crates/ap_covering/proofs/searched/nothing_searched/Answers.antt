use Rattle.std.proofs.Common.{refl, ap, ◌∙◌}
use Rattle.ap_defs.specs.Answers.{outs_of}
use Rattle.ap_covering.proofs.SearchedLemmas.{outs_none}
use Rattle.ap_covering.proofs.searched.nothing_searched.Goals as goal

pub returns : goal.returns
returns c p depth = record { asked = refl; outs = ap outs_of c.new.ensures.items ∙ outs_none p depth }
