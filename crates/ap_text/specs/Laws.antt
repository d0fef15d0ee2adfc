-- A text has one program or one first fault at most.
use Rattle.std.specs.Prelude.{◌≡◌, ℕ, List}
use Rattle.ap_defs.specs.Goals.{NominalProgram}
use Rattle.ap_defs.specs.declared.faults.Fault.{Fault}
use Rattle.ap_text.specs.Texts.{IsProgramOfText, IsFaultOfText}

abbrev pub ProgramIsOne : Type 0
ProgramIsOne = (text : List ℕ) (p q : NominalProgram) → IsProgramOfText text p → IsProgramOfText text q → p ≡ q

abbrev pub FaultIsOne : Type 0
FaultIsOne = (text : List ℕ) (f g : Fault) → IsFaultOfText text f → IsFaultOfText text g → f ≡ g

abbrev pub ProgramOrFault : Type 0
ProgramOrFault = (text : List ℕ) (p : NominalProgram) (f : Fault) → IsProgramOfText text p → IsFaultOfText text f → ⊥
