use Rattle.std.proofs.Common.{◌≡◌, take}
use Rattle.ap_paths.specs.History.{kids_of}
use Rattle.ap_book.specs.Kept.{paths_of}
use Rattle.ap_book.proofs.kids.make_kids.Given as goal

abbrev pub invariant-loop-k : goal.invariant-loop-k
invariant-loop-k l = paths_of l.made.items ≡ kids_of l.path (take l.k-index l.kids)
