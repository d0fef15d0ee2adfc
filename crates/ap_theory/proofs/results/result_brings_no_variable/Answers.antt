use Rattle.std.proofs.Common.{true, ◌≡◌}
use Rattle.ap_theory.proofs.OpenSoundnessLemmas.{unify_keeps}
use Rattle.ap_theory.proofs.results.result_brings_no_variable.Goals as goal

pub returns : goal.returns
returns c = λ test. unify_keeps (λ x. test x ≡ true)
