use Rattle.std.proofs.Common.{ap, sym, ◌∙◌}
use Rattle.ap_defs.specs.Permutations.{act_name, inverse}
use Rattle.ap_values.proofs.perm.Perm.preimage.Goals as goal

pub returns : goal.returns
returns c =
    let flat = c.self.inside.flat in
    c.origin_of.ensures flat.0 (flat.1.1 ∙ sym c.deref.ensures) ∙ ap (λ p. act_name (inverse p) c.args.a) c.self.view_is
