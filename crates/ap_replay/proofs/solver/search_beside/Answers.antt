use denote.Param.Send.{sendable}
use Rattle.std.proofs.Common.{[], map, ap, ◌∙◌}
use Rattle.ap_defs.specs.Answers.{query_outs}
use Rattle.ap_backchain.specs.Ends.{kept_out}
use Rattle.ap_backchain.specs.Problems.{clauses_in}
use Rattle.ap_paths.specs.Limits.{part}
use Rattle.ap_replay.proofs.Shared.{tree_sync}
use Rattle.ap_replay.proofs.WholeLemmas.{whole_is_query}
use Rattle.ap_replay.specs.ProblemTrees.{kept_outs}
use Rattle.ap_replay.proofs.Kept.{part_kept}
use Rattle.ap_replay.proofs.solver.search_beside.Goals as goal

pub search_within-requires-sync-T : goal.search_within-requires-sync-T
search_within-requires-sync-T g c κs within = search (sendable, tree_sync)

pub returns : goal.returns
returns g c = λ q asked.
    let p = c.args.problem.now in
    let paths = c.args.paths in
    let l = c.args.limit in
    c.part.ensures ∙ ap (part l) c.in_ok-runs.ensures.outputs ∙ c.in_ok-closed.ensures.whole
    ∙ ap (λ x. part l (kept_outs x c.of-tree.result.problem [])) c.of-tree.ensures.paths
    ∙ ap (λ x. part l (kept_outs paths x [])) c.of-tree.ensures.problem
    ∙ ap (λ os. part l (map (kept_out paths) os)) (whole_is_query p q asked)
    ∙ part_kept paths l (query_outs (clauses_in p) p.depth q)
