-- the variable is among all where it is among those that are left
use Rattle.std.proofs.Common.{◌≡◌, length}
use Rattle.ap_defs.specs.Unification.{has_var}
use Rattle.ap_store.proofs.own.is_among.Given as goal

abbrev pub invariant-seeking : goal.invariant-seeking
invariant-seeking l = has_var l.x l.rest ≡ has_var l.x l.vars

abbrev pub decreases-seeking : goal.decreases-seeking
decreases-seeking l = length l.rest
