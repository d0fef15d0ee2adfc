-- The least set by the constructors so far.
use Rattle.std.proofs.Common.{map, take}
use Rattle.ap_defs.specs.Types.{constructor_of}
use Rattle.ap_types.specs.Rules.{IsLeastSoFar}
use Rattle.ap_types.proofs.rounds.least_of.Given as goal

abbrev pub invariant-loop-constructor : goal.invariant-loop-constructor
invariant-loop-constructor l = IsLeastSoFar l.question (map constructor_of (take l.constructor-index l.constructors)) l.least
