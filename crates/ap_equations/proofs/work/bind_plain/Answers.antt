use Rattle.std.proofs.Common.{◌≡◌, ◌++◌, ◌∙◌, [], false, ap, refl, sym}
use Rattle.std.proofs.lemmas.List.{append-nil}
use Rattle.std.specs.Prelude.{Err, Ok, OnOk, Result, filter}
use Rattle.ap_defs.specs.Substitution.{under}
use Rattle.ap_store.proofs.AscendingLemmas.{on_none}
use Rattle.ap_store.specs.Changes.{has_on}
use Rattle.ap_store.specs.Triples.{Triple, is_on}
use Rattle.ap_store.specs.Views.{present}
use Rattle.ap_rules.proofs.WorkLemmas.{go_bound}
use Rattle.ap_equations.proofs.work.bind_plain.Goals as goal
use Rattle.ap_equations.specs.Plain.{plain_term}

on_ok : {T E : Type 0} (r : Result T E) {P Q : Type 0} → (P → Q) → OnOk r P → OnOk r Q
on_ok (Ok x) f h = f h
on_ok (Err e) f h = h

pub bind_free-requires-clause-apart : goal.bind_free-requires-clause-apart
bind_free-requires-clause-apart c = sym c.has_conditions.ensures ∙ c.if-has_conditions.false

pub bind_free-requires-clause-within : goal.bind_free-requires-clause-within
bind_free-requires-clause-within c = c.args.p.below

pub returns-clause-bindings : goal.returns-clause-bindings
returns-clause-bindings c = on_ok c.bind_free.result (λ e. ap (λ (a : Triple). a.bindings) e) c.bind_free.ensures.present

pub returns-clause-goes_on : goal.returns-clause-goes_on
returns-clause-goes_on c =
    let a = present c.args.store.now in
    let w = c.args.work.now in
    let k : has_on c.args.x a.conditions ≡ false = sym c.has_conditions.ensures ∙ c.if-has_conditions.false in
    let e : w.taken.items ≡ w.taken.items ++ filter (is_on c.args.x) a.conditions = sym (append-nil w.taken.items) ∙ ap (λ cs. w.taken.items ++ cs) (sym (on_none c.args.x a.conditions k)) in
    on_ok c.bind_free.result (λ h. go_bound a (present c.bind_free.new.self) w w c.args.x (under a.bindings (plain_term c.args.p)) c.requires.unbound h refl e) c.bind_free.ensures.present
