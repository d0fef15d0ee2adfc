use Rattle.std.proofs.Common.{◌≡◌, Option, true≢false, sym, ap, subst, ◌∙◌}
use Rattle.ap_defs.specs.Terms.{NominalTerm}
use Rattle.ap_store.specs.Founds.{IsWhatIsFound, bare_term, is_ground_found}
use Rattle.ap_store.specs.Mentions.{IsMentioned}
use Rattle.ap_store.specs.declared.slots.Found.{Found}
use Rattle.ap_store.proofs.MentionLemmas.{found_moved, found_nothing, found_plain}
use Rattle.ap_store.proofs.mentions.Mentions.mention_found.Goals as goal

pub returns-in-Nothing-clause-put : goal.returns-in-Nothing-clause-put
returns-in-Nothing-clause-put c = λ k o h g. found_nothing (IsMentioned c.args.self.now) o (subst (λ (f : Found). IsWhatIsFound o f) c.in-Nothing.is h)

pub returns-in-Ground-clause-put : goal.returns-in-Ground-clause-put
returns-in-Ground-clause-put c = λ k o h g. absurd (true≢false (sym (ap is_ground_found c.in-Ground.is) ∙ g))

pub returns-in-Plain-clause-put : goal.returns-in-Plain-clause-put
returns-in-Plain-clause-put c = λ k o h g. found_plain (IsMentioned c.mention.new.self) o (bare_term c.in-Plain.b) (subst (λ (f : Found). IsWhatIsFound o f) c.in-Plain.is h) (c.mention.ensures.put k)

pub returns-in-Moved-clause-put : goal.returns-in-Moved-clause-put
returns-in-Moved-clause-put c = λ k o h g.
    let (p, e) = subst (λ (f : Found). IsWhatIsFound o f) c.in-Moved.is h in
    found_moved (IsMentioned c.mention-in-Moved.new.self) o p (bare_term c.in-Moved.b) e (c.mention-in-Moved.ensures.put k)
