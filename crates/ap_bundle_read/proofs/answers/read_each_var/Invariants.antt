-- What has been read, and what is left, are all.
use Rattle.std.proofs.Common.{◌≡◌, ◌-◌, map}
use Rattle.ap_bundle.specs.Readers.{repeated, with_front}
use Rattle.ap_defs.specs.Answers.{typed_var_of}
use Rattle.ap_bundle.specs.declared.faults.BundleKind.TheVariants.{Term}
use Rattle.ap_bundle.specs.LineForms.{var_form}
use Rattle.ap_bundle.specs.Readers.{read_form}
use Rattle.ap_bundle_read.specs.Outcomes.{place_of}
use Rattle.ap_bundle_read.proofs.answers.read_each_var.Given as goal

abbrev pub invariant-loop : goal.invariant-loop
invariant-loop l = with_front (map typed_var_of l.vars.items) (repeated (read_form Term var_form) (l.count - l.counter) (place_of l.place)) ≡ repeated (read_form Term var_form) l.count (place_of l.fn.place)
