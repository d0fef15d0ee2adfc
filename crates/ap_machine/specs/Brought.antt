-- What ranges of variables stand for.
use Rattle.std.specs.Prelude.{List, [], ◌∷◌, ◌++◌}
use Rattle.ap_defs.specs.Renaming.{local_vars}
use Rattle.ap_defs.specs.Types.{locals_of}
use Rattle.ap_defs.specs.declared.terms.Var.{Var}
use Rattle.ap_machine.specs.declared.brought.Brought.{Brought}
use Rattle.ap_machine.specs.declared.brought.Brought.TheVariants as ranges

abbrev pub vars_of_one : Brought → List Var
vars_of_one (ranges.Exists n) = record { num = n } ∷ []
vars_of_one (ranges.Clause n ls) = local_vars n (locals_of ls.now)

-- the variables that clauses and `exists` brought, in order
abbrev pub vars_of_brought : List Brought → List Var
vars_of_brought [] = []
vars_of_brought (b ∷ bs) = vars_of_one b ++ vars_of_brought bs
