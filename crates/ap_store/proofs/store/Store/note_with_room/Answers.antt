use Rattle.std.proofs.Common.{◌≡◌, ◌<◌, ◌++◌, ◌∷◌, [], List, ap, sym, subst, ◌∙◌}
use Rattle.ap_defs.specs.Renaming.{IsBelow}
use Rattle.ap_defs.specs.Substitution.{occurs, under}
use Rattle.ap_store.specs.Changes.{has_on, with_bound}
use Rattle.ap_store.specs.Likes.{IsAlike}
use Rattle.ap_store.specs.Marks.{HasNoVars}
use Rattle.ap_store.specs.Slots.{kept_term}
use Rattle.ap_store.specs.Triples.{Triple}
use Rattle.ap_store.specs.Views.{present}
use Rattle.ap_store.proofs.store.Store.note_with_room.Goals as goal
use Rattle.ap_theory.specs.Variables.{IsUnbound}

pub note_binding-requires-clause-made : goal.note_binding-requires-clause-made
note_binding-requires-clause-made c = subst (λ (a : Triple). c.args.x.num < a.next) (sym (c.mention.ensures.present ∙ c.keep_mentions.ensures.present ∙ c.make_room.ensures.present)) c.requires.made

pub note_binding-requires-clause-unbound : goal.note_binding-requires-clause-unbound
note_binding-requires-clause-unbound c = subst (λ (a : Triple). IsUnbound a.bindings c.args.x) (sym (c.mention.ensures.present ∙ c.keep_mentions.ensures.present ∙ c.make_room.ensures.present)) c.requires.unbound

pub note_binding-requires-clause-term : goal.note_binding-requires-clause-term
note_binding-requires-clause-term c = subst (λ (a : Triple). IsBelow a.next (kept_term c.args.value)) (sym (c.mention.ensures.present ∙ c.keep_mentions.ensures.present ∙ c.make_room.ensures.present)) c.requires.term

pub note_binding-requires-clause-absent : goal.note_binding-requires-clause-absent
note_binding-requires-clause-absent c = ap (λ (a : Triple). occurs c.args.x (under a.bindings (kept_term c.args.value))) (c.mention.ensures.present ∙ c.keep_mentions.ensures.present ∙ c.make_room.ensures.present) ∙ c.requires.absent

pub note_binding-requires-clause-mark : goal.note_binding-requires-clause-mark
note_binding-requires-clause-mark c = λ h. subst (λ (a : Triple). HasNoVars (under a.bindings (kept_term c.args.value))) (sym (c.mention.ensures.present ∙ c.keep_mentions.ensures.present ∙ c.make_room.ensures.present)) (c.requires.mark h)

pub note_binding-requires-clause-like : goal.note_binding-requires-clause-like
note_binding-requires-clause-like c = subst (λ (a : Triple). IsAlike c.args.like a.bindings (kept_term c.args.value)) (sym (c.mention.ensures.present ∙ c.keep_mentions.ensures.present ∙ c.make_room.ensures.present)) c.requires.like

pub note_binding-requires-clause-apart : goal.note_binding-requires-clause-apart
note_binding-requires-clause-apart c = ap (λ (a : Triple). has_on c.args.x a.conditions) (c.mention.ensures.present ∙ c.keep_mentions.ensures.present ∙ c.make_room.ensures.present) ∙ c.requires.apart

pub note_binding-requires-clause-room : goal.note_binding-requires-clause-room
note_binding-requires-clause-room c = c.mention.ensures.room (c.keep_mentions.ensures.room c.in_ok-make_room.ensures.room)

pub note_binding-requires-clause-mentioned : goal.note_binding-requires-clause-mentioned
note_binding-requires-clause-mentioned c = c.mention.ensures.mentioned

pub returns-clause-kinds : goal.returns-clause-kinds
returns-clause-kinds c = c.note_binding.ensures.kinds ∙ c.mention.ensures.kinds ∙ c.keep_mentions.ensures.kinds ∙ c.make_room.ensures.kinds

pub returns-clause-present : goal.returns-clause-present
returns-clause-present c = c.note_binding.ensures.present ∙ ap (λ (a : Triple). with_bound c.args.x (under a.bindings (kept_term c.args.value)) a) (c.mention.ensures.present ∙ c.keep_mentions.ensures.present ∙ c.make_room.ensures.present)

pub returns-clause-versions : goal.returns-clause-versions
returns-clause-versions c = c.note_binding.ensures.versions ∙ ap (λ (vs : List Triple). vs ++ present c.note_binding.new.self ∷ []) (c.mention.ensures.versions ∙ c.keep_mentions.ensures.versions ∙ c.make_room.ensures.versions)
