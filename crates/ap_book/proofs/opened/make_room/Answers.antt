use Rattle.ap_book.proofs.Opening.{same_shuffled}
use Rattle.ap_book.proofs.opened.make_room.Goals as goal

pub returns-clause-same : goal.returns-clause-same
returns-clause-same c = same_shuffled _ _ c.in_ok-reserve.ensures.keys.0
