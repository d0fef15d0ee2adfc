-- What a refusal tells.
use Rattle.ap_defs.specs.RawTerms.{RawTerm}
use Rattle.ap_defs.specs.Goals.{ProgramOver}
use Rattle.ap_program.specs.NameRestriction.{IsNameFault}
use Rattle.ap_restrict.specs.declared.errors.NameError.{NameError}
use Rattle.ap_restrict.specs.declared.errors.NameError.TheVariants as errors

-- the fault is the program's first one
abbrev pub IsRefusal : ProgramOver RawTerm → NameError → Type 0
IsRefusal p (errors.Fault f) = IsNameFault p f
IsRefusal p errors.Memory = Unit {0}
