-- How many answers a search still looks for.
use Rattle.std.specs.Prelude.{◌-◌, List}
use Rattle.ap_defs.specs.Answers.{NominalOut}
use Rattle.ap_paths.specs.Limits.{found_in}
use Rattle.ap_paths.specs.declared.limits.Limit.{Limit}
use Rattle.ap_paths.specs.declared.limits.Limit.TheVariants as limits

-- what is still wanted after these outputs
abbrev pub wanted_after : Limit → List NominalOut → Limit
wanted_after limits.All os = limits.All
wanted_after (limits.First n) os = limits.First (n - found_in os)
