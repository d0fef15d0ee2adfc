-- What is taken so far is right where the slots are.
use Rattle.std.proofs.Common.{◌≡◌, map}
use Rattle.std.specs.Prelude.{All}
use Rattle.ap_defs.specs.Terms.{term_of}
use Rattle.ap_search.specs.Records.{closed_vars}
use Rattle.ap_machine.specs.Chains.{IsRight}
use Rattle.ap_machine.specs.Views.{state_in}
use Rattle.ap_machine.proofs.chains.all_taken.Given as goal

abbrev pub invariant-taking : goal.invariant-taking
invariant-taking l = All (IsRight (state_in l.store)) l.yielded → map term_of l.terms.items ≡ closed_vars (state_in l.store) (map (λ e. e.var) l.yielded)
