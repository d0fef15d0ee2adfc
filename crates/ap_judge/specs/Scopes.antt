-- What stands for the identifiers of an item at a node of a derivation.
use Rattle.std.specs.Prelude.{if◌then◌else◌, List, [], ◌∷◌, Option, Some, None}
use Rattle.ap_defs.specs.declared.terms.Name.{Name}
use Rattle.ap_defs.specs.declared.terms.Var.{Var}
use Rattle.ap_defs.specs.Freshness.{var_eq}
use Rattle.ap_defs.specs.GroundProofs.{name_for}
use Rattle.ap_defs.specs.Permutations.{name_eq}
use Rattle.ap_defs.specs.Renaming.{local_names, local_vars}
use Rattle.ap_defs.specs.Terms.{NominalTerm, unit}
use Rattle.ap_defs.specs.Types.{locals_of}
use Rattle.ap_checks.specs.OpenEnvironments.{OpenEnvironment, open_environment, open_term_for, with_open_name, with_open_term}
use Rattle.ap_judge.specs.Cited.{cited_term, cited_terms}
use Rattle.ap_judge.specs.declared.scope.Standing.{Standing}
use Rattle.ap_judge.specs.declared.scope.Standing.TheVariants as code

-- An item's free identifiers stand for what they are given, whatever stood before; one that was brought hides another.
abbrev pub environment_with : Standing → OpenEnvironment → OpenEnvironment
environment_with (code.Query ls ts) e = open_environment (locals_of ls) (local_names 0 (locals_of ls)) (cited_terms ts)
environment_with (code.Clause ls names ts) e = open_environment (locals_of ls) names.now (cited_terms ts)
environment_with (code.Name a c) e = with_open_name e a c
environment_with (code.Term x t) e = with_open_term e x (cited_term t)

-- the innermost last
abbrev pub environment_from : List Standing → OpenEnvironment → OpenEnvironment
environment_from [] e = e
environment_from (s ∷ ss) e = environment_from ss (environment_with s e)

abbrev pub nothing_put : OpenEnvironment
nothing_put = record { names = λ a. a; terms = λ x. unit }

abbrev pub environment_of : List Standing → OpenEnvironment
environment_of ss = environment_from ss nothing_put

-- the name for a name, where it is told
abbrev pub name_stood : Standing → Name → Option Name
name_stood (code.Query ls ts) b = Some b
name_stood (code.Clause ls names ts) b = Some (name_for (local_names 0 (locals_of ls)) names.now b)
name_stood (code.Name a c) b = if name_eq a b then Some c else None
name_stood (code.Term x t) b = None

abbrev pub term_brought : Standing → Var → Option NominalTerm
term_brought (code.Query ls ts) y = None
term_brought (code.Clause ls names ts) y = None
term_brought (code.Name a c) y = None
term_brought (code.Term x t) y = if var_eq x y then Some (cited_term t) else None

-- what an item has for a variable
abbrev pub item_term : Standing → Var → Option NominalTerm
item_term (code.Query ls ts) y = Some (open_term_for (local_vars 0 (locals_of ls)) (cited_terms ts) y)
item_term (code.Clause ls names ts) y = Some (open_term_for (local_vars 0 (locals_of ls)) (cited_terms ts) y)
item_term (code.Name a c) y = None
item_term (code.Term x t) y = None
