use Rattle.std.proofs.Common.{sym, ◌∙◌}
use Rattle.std.specs.BTreeMap.{get}
use Rattle.ap_perm.specs.Images.{key_cmp}
use Rattle.ap_perm.proofs.DifferenceLemmas.{other_added}
use Rattle.ap_perm.proofs.swappings.add_if_differing.Goals as goal

pub returns : goal.returns
returns c = λ r s f g.
    other_added r s (get key_cmp c.args.p.now) (get key_cmp c.args.q.now) c.args.a c.image_in.result c.image_in-2.result f g c.image_in.ensures c.image_in-2.ensures
    c.args.names.now.keys c.insert.new.self.keys (sym c.is_same.ensures ∙ c.if-is_same.false) c.in_ok-insert.ensures.keys
