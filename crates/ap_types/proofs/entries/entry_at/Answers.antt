use Rattle.std.proofs.Common.{◌≡◌, ◌∙◌, get_or, refl, sym, ap, subst, arith}
use Rattle.ap_defs.specs.Types.{hole}
use Rattle.ap_types.specs.declared.nodes.Node.TheVariants as nodes
use Rattle.ap_types.specs.Equations.{filled}
use Rattle.ap_types.specs.Solving.{shape_at}
use Rattle.ap_types.specs.Joining.{link}
use Rattle.ap_types.specs.Triangular.{layer_of, shapes_of_nodes, value_of}
use Rattle.ap_types.proofs.TableLemmas.{length_table, layer_at}
use Rattle.ap_types.proofs.SettledLemmas.{open_value, past_value}
use Rattle.ap_types.proofs.entries.entry_at.Goals as goal

pub returns-then-x-nodes : goal.returns-then-x-nodes
returns-then-x-nodes c =
    let ts = shapes_of_nodes c.args.nodes.now in
    let long = length_table c.args.nodes.now in
    let past = past_value ts c.args.x (omega (arith, c.if-x-nodes.true)) in record {
      stands = refl;
      open_place = λ y e. subst (λ z. value_of ts z ≡ hole z) (ap (link 0) (ap layer_of e)) past;
    }

pub returns : goal.returns
returns c =
    let ns = c.args.nodes.now in
    let ts = shapes_of_nodes ns in
    let at = c.links.at in
    let layer : layer_of (get_or ns at (nodes.Place 0)) ≡ shape_at ts at = layer_at ns at c.links.invariant.1 in record {
      stands = c.links.invariant.0 ∙ c.requires.fits at ∙ sym (ap (filled (value_of ts)) layer);
      open_place = λ y e.
          let shown : shape_at ts at ≡ hole y = sym layer ∙ ap layer_of e in
          let same : y ≡ at = sym (ap (link at) shown) ∙ sym c.links.invariant.2 ∙ c.links-test.false in
          subst (λ z. value_of ts z ≡ hole z) (sym same) (open_value ts at (shown ∙ ap hole same));
    }
