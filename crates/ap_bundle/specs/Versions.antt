-- The versions of bundles, and how their first lines are spelled.
use Rattle.std.specs.Prelude.{ℕ, List, codes}
use Rattle.ap_bundle.specs.declared.version.Version.{Version}
use Rattle.ap_bundle.specs.declared.version.Version.TheVariants.{One, Two}

abbrev pub version_line : Version → List ℕ
version_line One = codes "alphaprolog bundle 1"
version_line Two = codes "alphaprolog bundle 2"
