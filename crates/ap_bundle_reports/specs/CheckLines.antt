-- The lines that are written of a bundle.
use Rattle.std.specs.Prelude.{ℕ, ◌==◌, if◌then◌else◌, List, ◌++◌, codes}
use Rattle.std.specs.Fmt.{decimal}
use Rattle.ap_bundle.specs.FaultKinds.{bundle_number, bundle_word}
use Rattle.ap_bundle.specs.declared.faults.BundleFault.{BundleFault}
use Rattle.ap_verdicts.specs.Verdicts.{RefusedProof}

-- the line of a bundle's fault
abbrev pub bundle_fault_line : BundleFault → List ℕ
bundle_fault_line f =
    codes "% bundle fault: line " ++ (decimal f.line ++ (codes ", kind " ++ (decimal (bundle_number f.kind) ++ (codes " " ++ (bundle_word f.kind ++ codes "\n")))))

-- the word of the rule with this number, from 1 to 10
abbrev pub rule_word : ℕ → List ℕ
rule_word n =
    if n == 1 then codes "Shape"
    else (if n == 2 then codes "Clause"
    else (if n == 3 then codes "Count"
    else (if n == 4 then codes "Distinct"
    else (if n == 5 then codes "Typing"
    else (if n == 6 then codes "Head"
    else (if n == 7 then codes "Equal"
    else (if n == 8 then codes "Fresh"
    else (if n == 9 then codes "NewName"
    else codes "Answer"))))))))

-- the line of a derivation that is refused
abbrev pub refused_line : RefusedProof → List ℕ
refused_line r =
    codes "% derivation " ++ (decimal r.number ++ (codes ": node " ++ (decimal r.node ++ (codes ", rule " ++ (decimal r.rule ++ (codes " " ++ (rule_word r.rule ++ codes "\n")))))))

-- the line of so many derivations that check
abbrev pub checked_line : ℕ → List ℕ
checked_line n = codes "% " ++ (decimal n ++ codes " derivations checked\n")
