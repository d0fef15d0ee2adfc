-- What is shown of a derivation of an answer: the query with its answer, and below it the steps.
use Rattle.std.specs.Prelude.{ℕ, List, [], ◌∷◌, ◌++◌, codes, Option, Some, None}
use Rattle.std.specs.Fmt.{decimal}
use Rattle.ap_defs.specs.Answers.{NominalAnswer}
use Rattle.ap_defs.specs.Derivations.{NominalDerivation}
use Rattle.ap_defs.specs.Goals.{NominalProgram, NominalQuery}
use Rattle.ap_defs.specs.Lines.{shown_binds, shown_text, var_texts}
use Rattle.ap_defs.specs.Renaming.{local_names}
use Rattle.ap_bundle.specs.Bundles.{NominalProved}
use Rattle.ap_checks.specs.Checks.{query_at}
use Rattle.ap_checks.specs.OpenEnvironments.{OpenEnvironment, open_environment}
use Rattle.ap_steps.specs.Spelling.{spelling_by, spelt}
use Rattle.ap_steps.specs.Steps.{NominalStep, DerivationWriting, pieces, sides_in, steps_below}

-- how a derivation of an answer to a query is written
abbrev pub writing : NominalProgram → List (List ℕ) → NominalQuery → NominalAnswer → NominalDerivation → DerivationWriting
writing p words q a d = record { clauses = p.clauses; words = words; by = spelling_by p (spelt p q a d) }

-- the rule of the query with this number at a line
abbrev pub query_rule : ℕ → ℕ → List ℕ
query_rule k line = codes "query " ++ decimal k ++ codes ", line " ++ decimal line

-- each free name of the query stands for itself
abbrev pub query_environment : NominalQuery → NominalAnswer → OpenEnvironment
query_environment q a = open_environment q.locals (local_names 0 q.locals) a.binds

-- the step of a query with its answer
abbrev pub root_step : DerivationWriting → NominalQuery → ℕ → NominalAnswer → List (List ℕ) → NominalStep
root_step w q k a sides = record {
  depth = 0;
  judgement = shown_text w.by (shown_binds (var_texts q.locals) a.binds) a.conds;
  rule = query_rule k q.line;
  sides = sides;
}

-- the steps of a derivation of an answer to a query
abbrev pub query_steps : NominalQuery → ℕ → NominalAnswer → NominalDerivation → DerivationWriting → List NominalStep
query_steps q k a d w =
    root_step w q k a (sides_in (pieces w d q.goal (query_environment q a))) ∷ steps_below w 1 d q.goal (query_environment q a)

abbrev pub steps_on_query : Option NominalQuery → (NominalQuery → List NominalStep) → List NominalStep
steps_on_query None steps = []
steps_on_query (Some q) steps = steps q

-- the steps of a derivation of a bundle for a program, whose predicates have these words
abbrev pub shown_steps : NominalProgram → List (List ℕ) → NominalProved → List NominalStep
shown_steps p words d =
    steps_on_query (query_at p.queries d.query) (λ q. query_steps q d.query d.answer d.derivation (writing p words q d.answer d.derivation))
