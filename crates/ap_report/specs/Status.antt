-- The numbers that the program exits with.
use Rattle.std.specs.Prelude.{ℕ}
use Rattle.ap_report.specs.declared.status.Status.{Status}
use Rattle.ap_report.specs.declared.status.Status.TheVariants as status

abbrev pub code_of : Status → ℕ
code_of status.Ok = 0
code_of status.Usage = 1
code_of status.Syntax = 2
code_of status.Types = 3
code_of status.Names = 4
code_of status.Read = 5
code_of status.Write = 6
code_of status.Memory = 7
code_of status.NotChecked = 8
code_of status.TooLarge = 9
code_of status.NotCovered = 11
code_of status.NotAProperty = 12
