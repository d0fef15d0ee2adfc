use Rattle.std.proofs.Common.{◌≡◌, ◌∙◌, refl, sym, ap, subst}
use Rattle.ap_defs.specs.Types.{hole}
use Rattle.ap_types.specs.declared.nodes.Node.{Node}
use Rattle.ap_types.specs.Equations.{filled}
use Rattle.ap_types.specs.Assignments.{IsNameOrHole}
use Rattle.ap_types.specs.Triangular.{layer_of, shapes_of_nodes, value_of}
use Rattle.ap_types.proofs.solved.is_name_or_hole.Goals as goal

pub returns-in-Place : goal.returns-in-Place
returns-in-Place c =
    let f = value_of (shapes_of_nodes c.args.nodes.now) in
    let y = c.in-Place.field-0 in
    let open_place = c.entry_at.ensures.open_place y c.in-Place.is in
    let e : f c.args.x ≡ hole y = c.entry_at.ensures.stands ∙ ap (λ (n : Node). filled f (layer_of n)) c.in-Place.is ∙ open_place in
    ((λ h. subst (IsNameOrHole c.args.name_types) (sym e) tt), (λ h. refl))
