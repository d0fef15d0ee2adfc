-- The kinds of faults: the number of each, by which the kinds are ordered, and its word.
use Rattle.std.specs.Prelude.{ℕ, List, codes}
use Rattle.ap_defs.specs.declared.faults.SyntaxKind.{SyntaxKind}
use Rattle.ap_defs.specs.declared.faults.SyntaxKind.TheVariants as syntax
use Rattle.ap_defs.specs.declared.faults.TypeKind.{TypeKind}
use Rattle.ap_defs.specs.declared.faults.TypeKind.TheVariants as types
use Rattle.ap_defs.specs.declared.faults.NameKind.{NameKind}
use Rattle.ap_defs.specs.declared.faults.NameKind.TheVariants as names

abbrev pub syntax_number : SyntaxKind → ℕ
syntax_number syntax.NotUtf8 = 1
syntax_number syntax.Character = 2
syntax_number syntax.Grammar = 3
syntax_number syntax.TooDeep = 4
syntax_number syntax.Unended = 5

abbrev pub syntax_word : SyntaxKind → List ℕ
syntax_word syntax.NotUtf8 = codes "NotUtf8"
syntax_word syntax.Character = codes "Character"
syntax_word syntax.Grammar = codes "Grammar"
syntax_word syntax.TooDeep = codes "TooDeep"
syntax_word syntax.Unended = codes "Unended"

abbrev pub type_number : TypeKind → ℕ
type_number types.Undeclared = 1
type_number types.Redeclared = 2
type_number types.Arity = 3
type_number types.Clash = 4
type_number types.Ambiguous = 5
type_number types.Empty = 6

abbrev pub type_word : TypeKind → List ℕ
type_word types.Undeclared = codes "Undeclared"
type_word types.Redeclared = codes "Redeclared"
type_word types.Arity = codes "Arity"
type_word types.Clash = codes "Clash"
type_word types.Ambiguous = codes "Ambiguous"
type_word types.Empty = codes "Empty"

abbrev pub name_number : NameKind → ℕ
name_number names.VariableBinder = 1
name_number names.VariableSwap = 2
name_number names.HeadName = 3

abbrev pub name_kind_word : NameKind → List ℕ
name_kind_word names.VariableBinder = codes "VariableBinder"
name_kind_word names.VariableSwap = codes "VariableSwap"
name_kind_word names.HeadName = codes "HeadName"
