-- What is left of the term, from what is wanted there, gives the whole.
use Rattle.std.proofs.Common.{◌≡◌, ◌≤◌, ◌+◌, ◌*◌, map}
use Rattle.ap_defs.specs.RawTerms.{raw_of}
use Rattle.ap_defs.specs.Types.{constructor_of}
use Rattle.ap_spines.proofs.SpineLemmas.{raw_size}
use Rattle.ap_kinds.specs.Gathering.{gather_term, wanting_of}
use Rattle.ap_kinds.specs.Systems.{system_of}
use Rattle.ap_kinds.proofs.terms.+terms.Given as goal

abbrev pub decreases-right_of_pair : goal.decreases-right_of_pair
decreases-right_of_pair l = 2 * raw_size (raw_of l.left.now) + 1

abbrev pub decreases-gather_term : goal.decreases-gather_term
decreases-gather_term l = 2 * raw_size (raw_of l.t.now)

abbrev pub invariant-gather_term-loop-rest : goal.invariant-gather_term-loop-rest
invariant-gather_term-loop-rest l = record {
  all : gather_term (map constructor_of l.constructors) l.idents (raw_of l.rest) (wanting_of l.now) (system_of l.system) ≡ gather_term (map constructor_of l.fn.constructors) l.fn.idents (raw_of l.fn.t) (wanting_of l.fn.want) (system_of l.fn.system);
  smaller : raw_size (raw_of l.rest) ≤ raw_size (raw_of l.fn.t);
}

abbrev pub decreases-gather_term-loop-rest : goal.decreases-gather_term-loop-rest
decreases-gather_term-loop-rest l = raw_size (raw_of l.rest)
