use Rattle.ap_values.proofs.PermLemmas.{one_viewed, still_canonical}
use Rattle.ap_values.proofs.perm.Perm.equal_ones_are_one.Goals as goal

pub returns : goal.returns
returns c = one_viewed c.args.self.now c.args.other.now
    (still_canonical c.self.inside.moved.items c.self.inside.flat c.args.self.now c.self.view_is)
    (still_canonical c.other.inside.moved.items c.other.inside.flat c.args.other.now c.other.view_is)
