use Rattle.std.proofs.Common.{ℕ, List, ◌+◌, ap, Err, ◌∙◌}
use Rattle.std.specs.Prelude.{count_by}
use Rattle.ap_bundle.specs.Readers.{is_lf}
use Rattle.ap_bundle.specs.Reading.{at_line}
use Rattle.ap_bundle.specs.Written.{written_shared}
use Rattle.ap_bundle.specs.declared.faults.BundleKind.TheVariants.{Unended}
use Rattle.ap_bundle_laws.proofs.BundleLemmas.{take_all}
use Rattle.ap_bundle_laws.proofs.SharedLemmas.{again, prefix}
use Rattle.ap_bundle_laws.proofs.laws.shared_is_read.Goals as goal

pub returns-clause-again : goal.returns-clause-again
returns-clause-again c = λ b h r. ap (at_line (written_shared b)) (again b h r)

pub returns-clause-prefixes : goal.returns-clause-prefixes
returns-clause-prefixes c = λ b v u h r e some. ap (at_line v) (prefix b h r v u e some) ∙ ap (λ (z : List ℕ). Err (record { line = 1 + count_by is_lf z; kind = Unended })) (take_all v)
