use Rattle.std.proofs.lemmas.Slice.Eq.{slice_eq-Decides}
use Rattle.ap_unify.proofs.SolvedLemmas.{swap_decides}
use Rattle.ap_unify.proofs.solved.are_one.Goals as goal

pub returns : goal.returns
returns c = λ h. (slice_eq-Decides swap_decides _ _ _ c.eq.ensures).0 h
