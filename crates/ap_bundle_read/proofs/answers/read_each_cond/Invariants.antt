-- What has been read, and what is left, are all.
use Rattle.std.proofs.Common.{◌≡◌, ◌-◌}
use Rattle.ap_bundle.specs.Readers.{repeated, with_front}
use Rattle.ap_bundle.specs.declared.faults.BundleKind.TheVariants.{Term}
use Rattle.ap_bundle.specs.LineForms.{cond_form}
use Rattle.ap_bundle.specs.Readers.{read_form}
use Rattle.ap_bundle_read.specs.Outcomes.{place_of}
use Rattle.ap_bundle_read.proofs.answers.read_each_cond.Given as goal

abbrev pub invariant-loop : goal.invariant-loop
invariant-loop l = with_front l.conds.items (repeated (read_form Term cond_form) (l.count - l.counter) (place_of l.place)) ≡ repeated (read_form Term cond_form) l.count (place_of l.fn.place)
