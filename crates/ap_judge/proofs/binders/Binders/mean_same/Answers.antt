use Rattle.std.proofs.Common.{map, ap, ◌∙◌}
use Rattle.ap_judge.specs.Binders.{left_key, means, right_key}
use Rattle.ap_judge.specs.Latest.{last_place}
use Rattle.ap_judge.proofs.LatestLemmas.{mean_found}
use Rattle.ap_judge.proofs.binders.Binders.mean_same.Goals as goal

pub returns : goal.returns
returns c =
    let ss = c.args.self.now.pairs.items in
    c.agree.ensures ∙ ap (means c.place-left.result c.place-right.result) c.is_same.ensures
    ∙ mean_found ss c.args.a c.args.b c.place-left.result c.place-right.result
    (c.place-left.ensures (map left_key ss) c.requires.lefts ∙ ap (last_place (map left_key ss)) c.key_of.ensures)
    (c.place-right.ensures (map right_key ss) c.requires.rights ∙ ap (last_place (map right_key ss)) c.key_of-2.ensures)
