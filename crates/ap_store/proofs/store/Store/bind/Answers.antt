use Rattle.std.proofs.Common.{◌≡◌, ap, ap₂, sym, subst, ◌∙◌}
use Rattle.std.specs.Prelude.{Some}
use Rattle.ap_defs.specs.Renaming.{IsBelow}
use Rattle.ap_defs.specs.Substitution.{occurs, under}
use Rattle.ap_defs.specs.Terms.{NominalTerm}
use Rattle.ap_perm.specs.Closures.{closure_term}
use Rattle.ap_store.specs.Changes.{has_on, with_bound}
use Rattle.ap_store.specs.Likes.{IsAlike}
use Rattle.ap_store.specs.Marks.{HasNoVars}
use Rattle.ap_store.specs.Slots.{kept_term, term_or_unit}
use Rattle.ap_store.specs.Triples.{Triple}
use Rattle.ap_store.specs.Views.{bindings_of, present}
use Rattle.ap_store.proofs.AscendingLemmas.{has_on_apart}
use Rattle.ap_store.proofs.store.Store.bind.Goals as goal

pub note_binding-requires-clause-bound : goal.note_binding-requires-clause-bound
note_binding-requires-clause-bound c = c.in_ok-value.ensures.term ∙ ap Some (sym (ap term_or_unit c.in_ok-value.ensures.term))

pub note_binding-requires-clause-term : goal.note_binding-requires-clause-term
note_binding-requires-clause-term c =
    let e : kept_term c.in_ok-value.value ≡ closure_term c.args.c = ap term_or_unit c.in_ok-value.ensures.term in
    subst (λ n. IsBelow n (kept_term c.in_ok-value.value)) (sym (ap (λ (a : Triple). a.next) (c.mention.ensures.present ∙ c.in_ok-taken.ensures.present)))
    (subst (λ (t : NominalTerm). IsBelow (present c.args.self.now).next t) (sym e) c.requires.term)

pub note_binding-requires-clause-absent : goal.note_binding-requires-clause-absent
note_binding-requires-clause-absent c =
    let e : kept_term c.in_ok-value.value ≡ closure_term c.args.c = ap term_or_unit c.in_ok-value.ensures.term in
    ap₂ (λ (a : Triple) (t : NominalTerm). occurs c.args.x (under a.bindings t)) (c.mention.ensures.present ∙ c.in_ok-taken.ensures.present) e ∙ c.requires.absent

pub note_binding-requires-clause-apart : goal.note_binding-requires-clause-apart
note_binding-requires-clause-apart c =
    ap (λ (a : Triple). has_on c.args.x a.conditions) (c.mention.ensures.present ∙ c.in_ok-taken.ensures.present) ∙ has_on_apart c.args.x (present c.args.self.now).conditions

pub note_binding-requires-clause-mark : goal.note_binding-requires-clause-mark
note_binding-requires-clause-mark c =
    let e : kept_term c.in_ok-value.value ≡ closure_term c.args.c = ap term_or_unit c.in_ok-value.ensures.term in
    λ h. subst (λ (a : Triple). HasNoVars (under a.bindings (kept_term c.in_ok-value.value))) (sym (c.mention.ensures.present ∙ c.in_ok-taken.ensures.present))
    (subst (λ (t : NominalTerm). HasNoVars (under (bindings_of c.args.self.now) t)) (sym e) (c.requires.no_vars (c.in_ok-value.ensures.mark h)))

pub note_binding-requires-clause-like : goal.note_binding-requires-clause-like
note_binding-requires-clause-like c =
    let e : kept_term c.in_ok-value.value ≡ closure_term c.args.c = ap term_or_unit c.in_ok-value.ensures.term in
    subst (λ (a : Triple). IsAlike c.kept_behind-like.result a.bindings (kept_term c.in_ok-value.value)) (sym (c.mention.ensures.present ∙ c.in_ok-taken.ensures.present))
    (subst (IsAlike c.kept_behind-like.result (bindings_of c.args.self.now)) (sym e) c.kept_behind-like.ensures)

pub note_binding-requires-clause-room : goal.note_binding-requires-clause-room
note_binding-requires-clause-room c = c.mention.ensures.room c.in_ok-taken.ensures.room

pub note_binding-requires-clause-mentioned : goal.note_binding-requires-clause-mentioned
note_binding-requires-clause-mentioned c = c.mention.ensures.mentioned

pub returns-clause-present : goal.returns-clause-present
returns-clause-present c =
    let e : kept_term c.in_ok-value.value ≡ closure_term c.args.c = ap term_or_unit c.in_ok-value.ensures.term in
    c.note_binding.ensures.present ∙ ap₂ (λ (a : Triple) (t : NominalTerm). with_bound c.args.x (under a.bindings t) a) (c.mention.ensures.present ∙ c.in_ok-taken.ensures.present) e
