use Rattle.ap_syntax.proofs.Readings.{gives_every}
use Rattle.ap_whole.proofs.reading.parse.Goals as goal

pub returns-clause-only : goal.returns-clause-only
returns-clause-only c = λ r h. gives_every _ c.read_items.result _ _ c.read_items.ensures r h
