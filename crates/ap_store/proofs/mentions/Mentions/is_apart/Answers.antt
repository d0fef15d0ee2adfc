use Rattle.std.proofs.Common.{◌≡◌, ◌≤◌, true, false, true≢false, sym, ap, ◌∙◌, arith}
use Rattle.std.specs.Prelude.{not}
use Rattle.ap_store.proofs.MentionLemmas.{not_true}
use Rattle.ap_store.proofs.mentions.Mentions.is_apart.Goals as goal

pub returns : goal.returns
returns c =
    let m = c.args.self.now in
    let l : m.below ≤ c.args.x.num = omega arith in
    λ h. (c.if-not-self.false, λ k. true≢false (sym (k l) ∙ sym c.is_marked.ensures ∙ not_true c.is_marked.result h))
