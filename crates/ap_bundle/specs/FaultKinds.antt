-- The kinds of faults of a bundle: the number of each, and its word.
use Rattle.std.specs.Prelude.{ℕ, List, codes}
use Rattle.ap_bundle.specs.declared.faults.BundleKind.{BundleKind}
use Rattle.ap_bundle.specs.declared.faults.BundleKind.TheVariants as kinds

abbrev pub bundle_number : BundleKind → ℕ
bundle_number kinds.Header = 1
bundle_number kinds.Node = 2
bundle_number kinds.Term = 3
bundle_number kinds.Unended = 4
bundle_number kinds.Expanded = 5

abbrev pub bundle_word : BundleKind → List ℕ
bundle_word kinds.Header = codes "Header"
bundle_word kinds.Node = codes "Node"
bundle_word kinds.Term = codes "Term"
bundle_word kinds.Unended = codes "Unended"
bundle_word kinds.Expanded = codes "Expanded"
