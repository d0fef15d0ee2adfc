use Rattle.std.proofs.Common.{◌≡◌, ◌∙◌, ℕ, List, sym, subst, true}
use Rattle.ap_backchain.specs.Branches.{IsNodeAt, path_of_branch}
use Rattle.ap_backchain.specs.Problems.{clauses_in, program_of_problem}
use Rattle.ap_bundle.specs.Bundles.{proved_of}
use Rattle.ap_defs.specs.declared.paths.Node.TheVariants as nodes
use Rattle.ap_defs.specs.Derivations.{path}
use Rattle.ap_defs.specs.PathOrder.{has_prefix}
use Rattle.ap_coverer.specs.Coverer.{IsStuckBefore}
use Rattle.ap_coverer.specs.Followed.{CoversPath}
use Rattle.ap_coverer.proofs.CovererLemmas.{end_at, proof_covers_path, stuck_there}
use Rattle.ap_coverer.proofs.covering.cover.Goals as goal

pub follow-requires-clause-covers : goal.follow-requires-clause-covers
follow-requires-clause-covers c =
    subst (CoversPath c.args.p.now) (sym (c.choices.ensures ∙ c.in_ok-path.ensures))
    (proof_covers_path c.args.p.now c.requires.query c.program-program.ensures.restricted (proved_of c.args.proved.now) c.requires.checks c.requires.closed c.requires.within)

pub covering_at-requires-clause-path : goal.covering_at-requires-clause-path
covering_at-requires-clause-path c =
    end_at c.node.result.now _ nodes.Answer (path_of_branch c.in_ok-branch.branch) _ c.node.ensures.node c.in-Answer.is c.in_ok-branch.ensures.ended ∙ c.choices.ensures ∙ c.in_ok-path.ensures

pub unreachable-requires : goal.unreachable-requires
unreachable-requires c = end_at c.node.result.now _ _ (path_of_branch c.in_ok-branch.branch) _ c.node.ensures.node c.in-Choice.is c.in_ok-branch.ensures.ended

pub unreachable-requires-in-Cut : goal.unreachable-requires-in-Cut
unreachable-requires-in-Cut c = end_at c.node.result.now _ nodes.Cut (path_of_branch c.in_ok-branch.branch) _ c.node.ensures.node c.in-Cut.is c.in_ok-branch.ensures.ended

pub unreachable-requires-in-Failed : goal.unreachable-requires-in-Failed
unreachable-requires-in-Failed c = end_at c.node.result.now _ nodes.Failed (path_of_branch c.in_ok-branch.branch) _ c.node.ensures.node c.in-Failed.is c.in_ok-branch.ensures.ended

pub returns-in_ok-end-in-Stuck : goal.returns-in_ok-end-in-Stuck
returns-in_ok-end-in-Stuck c = λ q asked.
    let p = c.args.p.now in
    let d = proved_of c.args.proved.now in
    let l = path_of_branch c.in_ok-branch.branch in
    let ended : has_prefix l c.choices.result.now ≡ true = end_at c.node.result.now _ nodes.Stuck l _ c.node.ensures.node c.in-Stuck.is c.in_ok-branch.ensures.ended in
    let begins : has_prefix l (path d.derivation) ≡ true = subst (λ (k : List ℕ). has_prefix l k ≡ true) (c.choices.ensures ∙ c.in_ok-path.ensures) ended in
    let here : IsNodeAt (clauses_in p) p.depth q l nodes.Stuck =
    subst (IsNodeAt (clauses_in p) p.depth q l) c.in-Stuck.is (c.node.ensures.exact p q asked (c.in_ok-branch.ensures.of)) in
    let same : c.of-in-Stuck.result ≡ l = c.of-in-Stuck.ensures ∙ c.in_ok-end-in-Stuck.ensures.items_if_clones_equal (λ x y e. e) ∙ c.path-in-Stuck.ensures in
    subst (IsStuckBefore (program_of_problem p) q p.depth d) (sym same) (stuck_there p c.requires.query c.program-program.ensures.restricted d c.requires.checks c.requires.closed c.requires.within q asked l here begins)
