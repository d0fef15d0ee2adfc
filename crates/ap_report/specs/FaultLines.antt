-- The report of a text's first fault: one line.
use Rattle.std.specs.Prelude.{ℕ, List, ◌++◌, codes}
use Rattle.std.specs.Fmt.{decimal}
use Rattle.ap_defs.specs.FaultKinds.{syntax_number, syntax_word, type_number, type_word, name_number, name_kind_word}
use Rattle.ap_defs.specs.declared.faults.Place.{Place}
use Rattle.ap_defs.specs.declared.faults.Fault.{Fault}
use Rattle.ap_defs.specs.declared.faults.Fault.TheVariants as faults
use Rattle.ap_report.specs.declared.report.Report.{Report}
use Rattle.ap_report.specs.declared.status.Status.TheVariants as status

-- the line of a fault at a place, with its kind's number and what is said of it
abbrev pub fault_line : List ℕ → Place → ℕ → List ℕ → List ℕ
fault_line what place kind said =
    codes "% " ++ (what ++ (codes " fault: item " ++ (decimal place.item ++ (codes ", line " ++ (decimal place.line
    ++ (codes ", kind " ++ (decimal kind ++ (codes " " ++ (said ++ codes "\n")))))))))

-- the report of a fault
abbrev pub fault_report : Fault → Report
fault_report (faults.Syntax f) = record { bytes = fault_line (codes "syntax") f.place (syntax_number f.kind) (syntax_word f.kind); status = status.Syntax }
fault_report (faults.Types f) = record { bytes = fault_line (codes "type") f.place (type_number f.kind) (type_word f.kind); status = status.Types }
fault_report (faults.Names f) = record {
  bytes = fault_line (codes "name") f.place (name_number f.kind) (name_kind_word f.kind ++ (codes ", name " ++ f.name));
  status = status.Names;
}
