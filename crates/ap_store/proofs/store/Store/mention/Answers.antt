use Rattle.std.proofs.Common.{◌∙◌}
use Rattle.ap_store.specs.Slots.{value_term}
use Rattle.ap_store.proofs.MentionLemmas.{mentioned_more}
use Rattle.ap_store.proofs.store.Store.mention.Goals as goal

pub invariant_of-self : goal.invariant_of-self
invariant_of-self c =
    let s = c.args.self.now in
    let more = mentioned_more s.mentions c.mention_found.new.self s.table.items s.mentioned c.mention_found.ensures.kept c.mention_found.ensures.stay in
    record { stored = s.stored; holds = s.holds; marked = s.marked; likened = s.likened; mentioned = more; ranked = s.ranked }

pub returns-clause-mentioned : goal.returns-clause-mentioned
returns-clause-mentioned c = λ k g. c.mention_found.ensures.put k (value_term c.args.value.now) c.found_value.ensures.found (c.found_value.ensures.mark ∙ g)
