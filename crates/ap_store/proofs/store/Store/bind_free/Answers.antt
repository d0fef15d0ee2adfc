use Rattle.std.proofs.Common.{◌≡◌, true≢false, ap, refl, sym, subst, ◌∙◌}
use Rattle.std.specs.Prelude.{Err, Ok, OnOk, Result, Some}
use Rattle.ap_defs.specs.Renaming.{IsBelow, rename_term}
use Rattle.ap_defs.specs.Substitution.{occurs, under}
use Rattle.ap_defs.specs.Terms.{NominalTerm, term_of}
use Rattle.ap_store.specs.Changes.{with_bound}
use Rattle.ap_store.specs.Likes.{IsAlike}
use Rattle.ap_store.specs.Marks.{HasNoVars}
use Rattle.ap_store.specs.Slots.{kept_term, term_or_unit}
use Rattle.ap_store.specs.Views.{bindings_of, present, versions}
use Rattle.ap_store.proofs.StoreLemmas.{free_bound}
use Rattle.ap_store.proofs.TrailLemmas.{goes_on_one}
use Rattle.ap_store.proofs.store.Store.bind_free.Goals as goal

on_ok : {T E : Type 0} (r : Result T E) {P Q : Type 0} → (P → Q) → OnOk r P → OnOk r Q
on_ok (Ok x) f h = f h
on_ok (Err e) f h = h

pub note_binding-requires-clause-bound : goal.note_binding-requires-clause-bound
note_binding-requires-clause-bound c =
    c.plain_value-value.ensures.term ∙ ap Some (sym (ap term_or_unit c.plain_value-value.ensures.term))

pub note_binding-requires-clause-term : goal.note_binding-requires-clause-term
note_binding-requires-clause-term c =
    let e : kept_term c.plain_value-value.result ≡ rename_term c.args.base (term_of c.args.term.now) = ap term_or_unit c.plain_value-value.ensures.term in
    subst (IsBelow (present c.args.self.now).next) (sym e) c.requires.term

pub note_binding-requires-clause-within : goal.note_binding-requires-clause-within
note_binding-requires-clause-within c =
    c.plain_value-value.ensures.below c.args.end c.requires.within

pub note_binding-requires-clause-absent : goal.note_binding-requires-clause-absent
note_binding-requires-clause-absent c =
    let e : kept_term c.plain_value-value.result ≡ rename_term c.args.base (term_of c.args.term.now) = ap term_or_unit c.plain_value-value.ensures.term in
    ap (λ (t : NominalTerm). occurs c.args.x (under (bindings_of c.args.self.now) t)) e ∙ c.requires.absent

pub note_binding-requires-clause-mark : goal.note_binding-requires-clause-mark
note_binding-requires-clause-mark c =
    let e : kept_term c.plain_value-value.result ≡ rename_term c.args.base (term_of c.args.term.now) = ap term_or_unit c.plain_value-value.ensures.term in
    λ h. subst (λ (t : NominalTerm). HasNoVars (under (bindings_of c.args.self.now) t)) (sym e) (c.requires.no_vars (c.is_ground.ensures.0 (sym c.plain_value-value.ensures.mark ∙ h)))

pub note_binding-requires-clause-like : goal.note_binding-requires-clause-like
note_binding-requires-clause-like c = tt

pub note_binding-requires-clause-mentioned : goal.note_binding-requires-clause-mentioned
note_binding-requires-clause-mentioned c = λ k. absurd (true≢false (sym k ∙ c.is_ready.ensures.unkept c.if-is_ready.true))

pub note_with_room-requires-clause-bound : goal.note_with_room-requires-clause-bound
note_with_room-requires-clause-bound c =
    c.plain_value-value.ensures.term ∙ ap Some (sym (ap term_or_unit c.plain_value-value.ensures.term))

pub note_with_room-requires-clause-term : goal.note_with_room-requires-clause-term
note_with_room-requires-clause-term c =
    let e : kept_term c.plain_value-value.result ≡ rename_term c.args.base (term_of c.args.term.now) = ap term_or_unit c.plain_value-value.ensures.term in
    subst (IsBelow (present c.args.self.now).next) (sym e) c.requires.term

pub note_with_room-requires-clause-within : goal.note_with_room-requires-clause-within
note_with_room-requires-clause-within c =
    c.plain_value-value.ensures.below c.args.end c.requires.within

pub note_with_room-requires-clause-absent : goal.note_with_room-requires-clause-absent
note_with_room-requires-clause-absent c =
    let e : kept_term c.plain_value-value.result ≡ rename_term c.args.base (term_of c.args.term.now) = ap term_or_unit c.plain_value-value.ensures.term in
    ap (λ (t : NominalTerm). occurs c.args.x (under (bindings_of c.args.self.now) t)) e ∙ c.requires.absent

pub note_with_room-requires-clause-mark : goal.note_with_room-requires-clause-mark
note_with_room-requires-clause-mark c =
    let e : kept_term c.plain_value-value.result ≡ rename_term c.args.base (term_of c.args.term.now) = ap term_or_unit c.plain_value-value.ensures.term in
    λ h. subst (λ (t : NominalTerm). HasNoVars (under (bindings_of c.args.self.now) t)) (sym e) (c.requires.no_vars (c.is_ground.ensures.0 (sym c.plain_value-value.ensures.mark ∙ h)))

pub note_with_room-requires-clause-like : goal.note_with_room-requires-clause-like
note_with_room-requires-clause-like c =
    let e : kept_term c.plain_value-value.result ≡ rename_term c.args.base (term_of c.args.term.now) = ap term_or_unit c.plain_value-value.ensures.term in
    subst (IsAlike c.like.result (bindings_of c.args.self.now)) (sym e) (c.like.ensures (bindings_of c.args.self.now) (rename_term c.args.base (term_of c.args.term.now)) c.requires.like)

pub returns-then-is_ready-clause-present : goal.returns-then-is_ready-clause-present
returns-then-is_ready-clause-present c =
    let e : kept_term c.plain_value-value.result ≡ rename_term c.args.base (term_of c.args.term.now) = ap term_or_unit c.plain_value-value.ensures.term in
    c.note_binding.ensures.present
    ∙ ap (λ (t : NominalTerm). with_bound c.args.x (under (bindings_of c.args.self.now) t) (present c.args.self.now)) e
    ∙ free_bound (present c.args.self.now) (present c.args.self.now) c.args.x (rename_term c.args.base (term_of c.args.term.now)) refl c.requires.apart

pub returns-then-is_ready-clause-past : goal.returns-then-is_ready-clause-past
returns-then-is_ready-clause-past c = goes_on_one (versions c.args.self.now) (versions c.note_binding.new.self) _ c.note_binding.ensures.versions

pub returns-clause-present : goal.returns-clause-present
returns-clause-present c =
    let e : kept_term c.plain_value-value.result ≡ rename_term c.args.base (term_of c.args.term.now) = ap term_or_unit c.plain_value-value.ensures.term in
    on_ok c.note_with_room.result (λ h. h
    ∙ ap (λ (t : NominalTerm). with_bound c.args.x (under (bindings_of c.args.self.now) t) (present c.args.self.now)) e
    ∙ free_bound (present c.args.self.now) (present c.args.self.now) c.args.x (rename_term c.args.base (term_of c.args.term.now)) refl c.requires.apart) c.note_with_room.ensures.present

pub returns-clause-past : goal.returns-clause-past
returns-clause-past c =
    on_ok c.note_with_room.result (λ h. goes_on_one (versions c.args.self.now) (versions c.note_with_room.new.self) _ h) c.note_with_room.ensures.versions
