-- What holds of the typing of texts.
use Rattle.std.specs.Prelude.{◌≡◌, ◌≤◌, List, length}
use Rattle.ap_defs.specs.RawTerms.{RawTerm}
use Rattle.ap_defs.specs.Goals.{ProgramOver}
use Rattle.ap_trees.specs.Items.{ItemOf}
use Rattle.ap_program.specs.Typed.{IsTypedRawProgram}
use Rattle.ap_program.specs.NameRestriction.{item_count}
use Rattle.ap_defs.specs.declared.faults.TypeFault.{TypeFault}
use Rattle.ap_typecheck.specs.Checking.{IsProgramOf, IsFirstTypeFault}

-- each item of the program of a text is typed by its kinds, with all that the text declares
abbrev pub ProgramsAreTyped : Type 0
ProgramsAreTyped = (is : List ItemOf) (p : ProgramOver RawTerm) → IsProgramOf is p → IsTypedRawProgram p

-- it has no more of all things than the text has items
abbrev pub ProgramsAreSmall : Type 0
ProgramsAreSmall = (is : List ItemOf) (p : ProgramOver RawTerm) → IsProgramOf is p → item_count p ≤ length is

-- a text has one program at most
abbrev pub TypedProgramIsOne : Type 0
TypedProgramIsOne = (is : List ItemOf) (p q : ProgramOver RawTerm) → IsProgramOf is p → IsProgramOf is q → p ≡ q

-- one first fault at most
abbrev pub TypeFaultIsOne : Type 0
TypeFaultIsOne = (is : List ItemOf) (f g : TypeFault) → IsFirstTypeFault is f → IsFirstTypeFault is g → f ≡ g

-- and not both
abbrev pub TypedProgramOrFault : Type 0
TypedProgramOrFault = (is : List ItemOf) (p : ProgramOver RawTerm) (f : TypeFault) → IsProgramOf is p → IsFirstTypeFault is f → ⊥
