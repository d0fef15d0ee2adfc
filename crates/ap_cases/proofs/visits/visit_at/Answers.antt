use Rattle.std.proofs.Common.{sym, subst}
use Rattle.ap_paths.specs.Trees.{InChoiceTree}
use Rattle.ap_backchain.specs.declared.problem.Problem.{Problem}
use Rattle.ap_replay.specs.ProblemTrees.{problem_choices}
use Rattle.ap_cases.proofs.visits.visit_at.Goals as goal

pub visit-requires : goal.visit-requires
visit-requires c = subst (λ (p : Problem). InChoiceTree (problem_choices p) c.args.path.now) (sym c.of.ensures.problem) c.in-Ok.ensures.there
