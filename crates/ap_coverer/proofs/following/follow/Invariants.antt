-- The branch is that of the choices so far, each of which the search has.
use Rattle.std.proofs.Common.{◌≡◌, ◌++◌, length}
use Rattle.ap_backchain.specs.Branches.{IsBranchOf, path_of_branch}
use Rattle.ap_coverer.specs.Followed.{IsInSearch}
use Rattle.ap_coverer.proofs.following.follow.Given as goal

abbrev pub invariant-following : goal.invariant-following
invariant-following l = record {
  of : IsBranchOf l.p l.branch;
  whole : path_of_branch l.branch ++ l.rest ≡ l.path;
  there : IsInSearch l.p (path_of_branch l.branch);
}

abbrev pub decreases-following : goal.decreases-following
decreases-following l = length l.rest
