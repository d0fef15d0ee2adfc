use Rattle.std.proofs.Common.{◌∙◌, arith}
use Rattle.ap_store.specs.Slots.{bound_in}
use Rattle.ap_store.proofs.MentionLemmas.{all_mentioned, one_mentioned}
use Rattle.ap_store.proofs.mentions.mentions_in.Goals as goal

pub gathering-preserved : goal.gathering-preserved
gathering-preserved c =
    let ss = c.args.table.now in
    let m = c.gathering.mentions in
    let n = c.mention_found.new.self in
    one_mentioned m n ss c.gathering.i c.gathering.invariant c.mention_found.ensures.kept c.mention_found.ensures.stay
    (λ k g. c.mention_found.ensures.put k (bound_in ss c.gathering.i) c.found_at.ensures.found (c.found_at.ensures.mark ∙ g))

pub returns : goal.returns
returns c = all_mentioned c.gathering.mentions c.args.table.now c.gathering.i (omega arith) c.gathering.invariant
