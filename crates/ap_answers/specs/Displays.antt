-- What a display shows.
use Rattle.std.specs.Prelude.{◌≡◌, zero, List, ◌++◌}
use Rattle.ap_defs.specs.Types.{NominalLocal}
use Rattle.ap_defs.specs.Renaming.{local_names}
use Rattle.ap_defs.specs.Lines.{NominalShown}
use Rattle.ap_answers.specs.declared.shown.Display.{Display}
use Rattle.ap_answers.specs.Bindings.{binds_of}
use Rattle.ap_answers.specs.VarSets.{vars_of_set}

-- It shows this of an answer to a query with these identifiers, whose free names come first.
pub record Shows (locals : List NominalLocal) (d : Display) (s : NominalShown) : Type 0 where
  pub binds : binds_of d.binds.items ≡ s.binds
  pub names : d.names.keys ≡ local_names zero locals ++ s.names
  pub vars : vars_of_set d.vars ≡ s.vars
  pub conds : d.conds.items ≡ s.conds
