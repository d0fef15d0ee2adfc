-- Where a term stands, what is written before and behind its parts there, and where these stand.
use Rattle.std.specs.Prelude.{ℕ, zero, suc, Bool, true, false, if◌then◌else◌, List, [], ◌++◌, codes, Option, Some, None}
use Rattle.ap_defs.specs.Printing as printing
use Rattle.ap_defs.specs.Printing.{TermContext, barred, nil_text, constructor_in, constructor_text, argument_count}
use Rattle.ap_defs.specs.Types.{NominalConstructor}
use Rattle.ap_answers.specs.declared.place.Place.TheVariants as code
use Rattle.ap_answers.specs.declared.place.Place as places

abbrev pub written_place : places.Place → TermContext
written_place code.Whole = printing.whole
written_place code.Part = printing.part
written_place code.Rest = printing.rest
written_place code.Cell = printing.cell
written_place (code.Arguments n) = printing.arguments n

-- a pair has parentheses of its own, unless its parts go on what stands before it
abbrev pub has_parentheses : TermContext → Bool
has_parentheses printing.part = false
has_parentheses printing.cell = false
has_parentheses (printing.arguments (suc (suc n))) = false
has_parentheses place = true

-- what stands between the parts of a pair, and where the right one stands
abbrev pub between : TermContext → List ℕ
between printing.cell = []
between place = codes ","

abbrev pub part_after : TermContext → TermContext
part_after printing.cell = printing.rest
part_after (printing.arguments (suc (suc n))) = printing.arguments (suc n)
part_after place = printing.part

-- what stands before the left part of a pair, and behind the right one
abbrev pub pair_opening : TermContext → List ℕ
pair_opening place = if has_parentheses place then barred place (codes "(") else []

abbrev pub pair_closing : TermContext → List ℕ
pair_closing place = if has_parentheses place then codes ")" else []

-- what stands before the arguments of so many, and behind them
abbrev pub arguments_opening : ℕ → List ℕ
arguments_opening zero = []
arguments_opening (suc n) = codes "("

abbrev pub arguments_closing : ℕ → List ℕ
arguments_closing zero = []
arguments_closing (suc n) = codes ")"

abbrev pub arguments_place : ℕ → Option TermContext
arguments_place zero = None
arguments_place (suc n) = Some (printing.arguments (suc n))

-- what stands before a list cell, and behind it
abbrev pub cell_opening : TermContext → List ℕ
cell_opening printing.rest = codes ","
cell_opening place = codes "["

abbrev pub cell_closing : TermContext → List ℕ
cell_closing printing.rest = []
cell_closing place = codes "]"

-- what stands before the arguments of a declared constructor, behind them, and where they stand
abbrev pub declared_opening : Option NominalConstructor → TermContext → List ℕ
declared_opening c place = barred place [] ++ (constructor_text c ++ arguments_opening (argument_count c))

abbrev pub declared_closing : Option NominalConstructor → List ℕ
declared_closing c = arguments_closing (argument_count c)

abbrev pub declared_place : Option NominalConstructor → Option TermContext
declared_place c = arguments_place (argument_count c)

-- what stands before the argument of an application, and behind it
abbrev pub opening : List NominalConstructor → ℕ → TermContext → List ℕ
opening cs zero place = nil_text place
opening cs (suc zero) place = cell_opening place
opening cs f place = declared_opening (constructor_in cs f) place

abbrev pub closing : List NominalConstructor → ℕ → TermContext → List ℕ
closing cs zero place = []
closing cs (suc zero) place = cell_closing place
closing cs f place = declared_closing (constructor_in cs f)

-- where the argument of an application stands, if it is written
abbrev pub argument_place : List NominalConstructor → ℕ → Option TermContext
argument_place cs zero = None
argument_place cs (suc zero) = Some printing.cell
argument_place cs f = declared_place (constructor_in cs f)
