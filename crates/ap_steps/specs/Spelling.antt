-- How the names and variables of a derivation are spelled: as the identifiers that stand for them.
use Rattle.std.specs.Prelude.{ℕ, zero, List, [], ◌∷◌, ◌++◌, map, codes, position, None}
use Rattle.ap_defs.specs.declared.terms.Name.{Name}
use Rattle.ap_defs.specs.declared.terms.Var.{Var}
use Rattle.ap_defs.specs.Answers.{NominalAnswer}
use Rattle.ap_defs.specs.Derivations.{NominalDerivation}
use Rattle.ap_defs.specs.Freshness.{var_eq}
use Rattle.ap_defs.specs.Goals.{NominalProgram, NominalQuery}
use Rattle.ap_defs.specs.Lines.{name_texts, var_texts}
use Rattle.ap_defs.specs.Permutations.{name_eq}
use Rattle.ap_defs.specs.Printing.{Spelling, first_vars}
use Rattle.ap_defs.specs.Renaming.{local_names}
use Rattle.ap_defs.specs.Types.{NominalConstructor, NominalLocal}
use Rattle.ap_answers.specs.Occurring.{more_names}
use Rattle.ap_answers.specs.Spelled.{text_at}
use Rattle.ap_spelling.specs.Words.{NominalGiven, NominalSpelt, Numbered, give_each, kept_words, name, var}
use Rattle.ap_steps.specs.Givens.{givens, names_given}
use Rattle.ap_steps.specs.Names.{names_in, vars_of_proof}

abbrev pub text_of_constructor : NominalConstructor → List ℕ
text_of_constructor c = c.text

-- the query's free variables, the constructors, and `_`
abbrev pub first_numbered : NominalProgram → List NominalLocal → Numbered
first_numbered p locals = kept_words (codes "_" ∷ []) (kept_words (map text_of_constructor p.signature.constructors) (kept_words (var_texts locals) (λ w. None)))

-- nothing is spelled, and these words are left to what has them
abbrev pub first_spelt : NominalProgram → List NominalLocal → NominalSpelt
first_spelt p locals = record { names = []; name_words = []; vars = []; var_words = []; last = first_numbered p locals }

-- those for which no identifier stands
abbrev pub bare_names : List Name → List NominalGiven
bare_names = map (λ a. name a [])

abbrev pub bare_vars : List Var → List NominalGiven
bare_vars = map (λ x. var x [])

-- what an answer to a query with its derivation gives: the query's free names come first
abbrev pub other_givens : NominalProgram → NominalQuery → NominalAnswer → NominalDerivation → List NominalGiven
other_givens p q a d =
    givens p.clauses q.locals d q.goal ++ (bare_names (more_names (local_names zero q.locals) (names_in a d)) ++ bare_vars (first_vars [] (vars_of_proof a d)))

abbrev pub all_givens : NominalProgram → NominalQuery → NominalAnswer → NominalDerivation → List NominalGiven
all_givens p q a d = names_given (local_names zero q.locals) (name_texts q.locals) ++ other_givens p q a d

abbrev pub spelt : NominalProgram → NominalQuery → NominalAnswer → NominalDerivation → NominalSpelt
spelt p q a d = give_each p.words (all_givens p q a d) (first_spelt p q.locals)

-- what is spelled nowhere is left out
abbrev pub spelling_by : NominalProgram → NominalSpelt → Spelling
spelling_by p s = record {
  names = λ a. text_at s.name_words (position (name_eq a) s.names);
  vars = λ x. text_at s.var_words (position (var_eq x) s.vars);
  constructors = p.signature.constructors;
}
