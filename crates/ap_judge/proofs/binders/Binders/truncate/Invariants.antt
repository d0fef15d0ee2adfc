-- As many of the outermost pairs stand there as are to be left.
use Rattle.std.proofs.Common.{◌≡◌, length, take}
use Rattle.ap_judge.specs.Binders.{AreBinders}
use Rattle.ap_judge.proofs.binders.Binders.truncate.Given as goal

abbrev pub invariant-loop-self : goal.invariant-loop-self
invariant-loop-self l = record {
  found : AreBinders l.self;
  pairs : take l.len l.self.pairs.items ≡ take l.len l.initial.self.pairs.items;
}

abbrev pub decreases-loop-self : goal.decreases-loop-self
decreases-loop-self l = length l.self.pairs.items
