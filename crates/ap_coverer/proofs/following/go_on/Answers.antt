use Rattle.std.proofs.Common.{◌≡◌, ◌∷◌, ◌++◌, []}
use Rattle.std.proofs.lemmas.Result.{IfOk-weaker}
use Rattle.ap_backchain.specs.Branches.{path_of_branch}
use Rattle.ap_coverer.specs.Followed.{IsInSearch}
use Rattle.ap_coverer.proofs.FollowLemmas.{in_search_next}
use Rattle.ap_coverer.proofs.following.go_on.Goals as goal

pub returns-clause-there : goal.returns-clause-there
returns-clause-there c =
    IfOk-weaker c.step.result (λ b. path_of_branch b ≡ path_of_branch c.args.branch ++ c.args.choice ∷ []) (λ b. IsInSearch c.args.p.now (path_of_branch b))
    (λ b e. in_search_next c.args.p.now c.args.branch c.args.choice (path_of_branch b) c.requires.of c.requires.choice c.requires.there e) c.step.ensures.path
