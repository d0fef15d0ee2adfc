use Rattle.std.proofs.Common.{ap, sym, ◌∙◌}
use Rattle.ap_defs.specs.Canonical.{canonical}
use Rattle.ap_values.proofs.perm.Perm.swaps.Goals as goal

pub returns-clause-list : goal.returns-clause-list
returns-clause-list c =
    let p = c.self.inside.flat.0 in
    let same = c.self.inside.flat.1.1 in
    c.in_ok-swaps.ensures p (c.in_ok-images.ensures p (same ∙ sym c.deref.ensures)) (c.in_ok-origins.ensures p (same ∙ sym c.deref-2.ensures))
    ∙ c.self.inside.flat.1.0 ∙ c.self.view_is

pub returns-clause-canonical : goal.returns-clause-canonical
returns-clause-canonical c =
    let p = c.self.inside.flat.0 in
    let same = c.self.inside.flat.1.1 in
    c.in_ok-swaps.ensures p (c.in_ok-images.ensures p (same ∙ sym c.deref.ensures)) (c.in_ok-origins.ensures p (same ∙ sym c.deref-2.ensures))
    ∙ ap canonical c.self.view_is
