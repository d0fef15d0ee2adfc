-- Names and variables without doubles, with those that occur further on.
use Rattle.std.specs.Prelude.{List, ◌++◌}
use Rattle.ap_defs.specs.declared.terms.Name.{Name}
use Rattle.ap_defs.specs.declared.terms.Var.{Var}
use Rattle.ap_defs.specs.Printing.{first_names, first_vars}

abbrev pub more_names : List Name → List Name → List Name
more_names seen as' = seen ++ first_names seen as'

abbrev pub more_vars : List Var → List Var → List Var
more_vars seen xs = seen ++ first_vars seen xs
