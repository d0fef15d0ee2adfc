-- Identifiers of a query of which those whose bindings aren't shown are marked as bound.
use Rattle.std.specs.Prelude.{◌≡◌, Bool, ◌||◌, ◌&&◌, List, codes, map}
use Rattle.std.specs.Str.{bytes_eq}
use Rattle.ap_defs.specs.Lines.{name_texts, var_texts}
use Rattle.ap_defs.specs.Renaming.{local_names}
use Rattle.ap_defs.specs.Types.{NominalLocal}
use Rattle.ap_program.specs.FreeLocals.{is_free_var}

-- a variable that is written `_`
abbrev pub is_unshown : NominalLocal → Bool
is_unshown l = is_free_var l && bytes_eq l.text (codes "_")

abbrev pub shown_local : NominalLocal → NominalLocal
shown_local l = record l { bound = l.bound || is_unshown l }

abbrev pub shown_locals : List NominalLocal → List NominalLocal
shown_locals = map shown_local

-- with these identifiers in place of those the lines of answers are the same
abbrev pub IsHeading : List NominalLocal → List NominalLocal → Type 0
IsHeading hs ls = (var_texts hs ≡ var_texts ls) × (local_names 0 hs ≡ local_names 0 ls) × (name_texts hs ≡ name_texts ls)
