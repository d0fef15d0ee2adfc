-- The names and variables of a derivation are told apart by how they are spelled.
use Rattle.std.specs.Prelude.{◌+◌, ◌*◌, ◌<◌, ◌^◌, zero, [], length}
use Rattle.ap_defs.specs.Answers.{NominalAnswer}
use Rattle.ap_defs.specs.Derivations.{NominalDerivation}
use Rattle.ap_defs.specs.Goals.{NominalProgram, NominalQuery}
use Rattle.ap_defs.specs.Printing.{first_vars}
use Rattle.ap_defs.specs.Renaming.{local_names}
use Rattle.ap_answers.specs.Occurring.{more_names}
use Rattle.ap_spelling.specs.Differing.{TellsApart}
use Rattle.ap_steps.specs.Names.{names_in, vars_of_proof}
use Rattle.ap_steps.specs.Spelling.{all_givens, spelling_by, spelt}

-- Of the free names of the query and the names and variables of the answer and of the derivation no two are spelled alike.
abbrev pub IsToldApart : NominalProgram → NominalQuery → NominalAnswer → NominalDerivation → Type 0
IsToldApart p q a d =
    let by = spelling_by p (spelt p q a d) in
    TellsApart by.names by.vars (more_names (local_names zero q.locals) (names_in a d)) (first_vars [] (vars_of_proof a d))

-- So derivations are spelled, where numbers of 64 bits have room for all that is spelled.
abbrev pub DerivationsAreToldApart : Type 0
DerivationsAreToldApart = (p : NominalProgram) (q : NominalQuery) (a : NominalAnswer) (d : NominalDerivation)
    → 2 * length p.words + length (all_givens p q a d) + 2 < 2 ^ 64 → IsToldApart p q a d
