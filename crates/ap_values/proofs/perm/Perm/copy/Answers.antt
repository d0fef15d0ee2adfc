use Rattle.std.proofs.Common.{sym, ◌∙◌}
use Rattle.ap_values.proofs.PermLemmas.{flat_by, viewed_by}
use Rattle.ap_values.proofs.perm.Perm.copy.Goals as goal

pub invariant_of-result : goal.invariant_of-result
invariant_of-result c =
    let flat = c.self.inside.flat in
    (flat_by flat.0 c.in_ok-moved.moved.items (flat.1.1 ∙ sym (c.in_ok-moved.ensures.ok ∙ c.deref.ensures)), tt)

pub returns : goal.returns
returns c =
    let flat = c.self.inside.flat in
    viewed_by c.in_ok-moved.moved.items c.result-1.given.0 flat.0 (flat.1.1 ∙ sym (c.in_ok-moved.ensures.ok ∙ c.deref.ensures)) ∙ flat.1.0 ∙ c.self.view_is
