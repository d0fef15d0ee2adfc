use Rattle.std.proofs.Common.{◌<◌, ◌+◌, ◌∙◌, ap, ap₂, inl, inr, map, subst, sym, arith}
use Rattle.ap_defs.specs.Renaming.{IsBelow, rename_name, rename_swap, rename_term}
use Rattle.ap_defs.specs.Substitution.{occurs, under}
use Rattle.ap_defs.specs.Terms.{abs, app, pair, term_of}
use Rattle.ap_defs.specs.declared.terms.Term.{Term}
use Rattle.ap_store.proofs.occurrences.step_of.Goals as goal

-- the term of a part is below its end
pub overflow_add-x : goal.overflow_add-x
overflow_add-x c =
    let b = c.args.b in
    let k = subst (λ (u : Term). IsBelow b.end (rename_term b.base (term_of u))) c.in-Susp.is b.below in
    let l : b.base + c.in-Susp.x.num < b.end = k.1 in
    omega arith

pub returns-in-Unit : goal.returns-in-Unit
returns-in-Unit c = λ bs y. ap (λ (u : Term). occurs y (under bs (rename_term c.args.b.base (term_of u)))) c.in-Unit.is

pub returns-in-Name : goal.returns-in-Name
returns-in-Name c = λ bs y. ap (λ (u : Term). occurs y (under bs (rename_term c.args.b.base (term_of u)))) c.in-Name.is

-- both parts of a pair
pub with_term-requires : goal.with_term-requires
with_term-requires c =
    let b = c.args.b in
    let named = λ (u : Term). rename_term b.base (term_of u) in
    let k = subst (λ (u : Term). IsBelow b.end (named u)) c.in-Pair.is b.below in
    subst (λ (u : Term). IsBelow b.end (named u)) (sym c.deref.ensures) k.0

pub with_term-requires-in-Pair : goal.with_term-requires-in-Pair
with_term-requires-in-Pair c =
    let b = c.args.b in
    let named = λ (u : Term). rename_term b.base (term_of u) in
    let k = subst (λ (u : Term). IsBelow b.end (named u)) c.in-Pair.is b.below in
    subst (λ (u : Term). IsBelow b.end (named u)) (sym c.deref-in-Pair.ensures) k.1

pub returns-in-Pair : goal.returns-in-Pair
returns-in-Pair c =
    let named = λ (u : Term). rename_term c.args.b.base (term_of u) in
    ap named c.in-Pair.is
    ∙ ap₂ pair (ap named (sym c.deref.ensures) ∙ sym c.with_term.ensures) (ap named (sym c.deref-in-Pair.ensures) ∙ sym c.with_term-in-Pair.ensures)

-- what is under a constructor or a binder
pub with_term-requires-in-App : goal.with_term-requires-in-App
with_term-requires-in-App c =
    let b = c.args.b in
    let named = λ (u : Term). rename_term b.base (term_of u) in
    let k = subst (λ (u : Term). IsBelow b.end (named u)) c.in-App.is b.below in
    subst (λ (u : Term). IsBelow b.end (named u)) (sym c.deref-in-App.ensures) k

pub returns-in-App : goal.returns-in-App
returns-in-App c =
    let f = c.in-App.field-0 in
    let named = λ (u : Term). rename_term c.args.b.base (term_of u) in
    inl (f, ap named c.in-App.is ∙ ap (app f) (ap named (sym c.deref-in-App.ensures) ∙ sym c.with_term-in-App.ensures))

pub with_term-requires-in-Abs : goal.with_term-requires-in-Abs
with_term-requires-in-Abs c =
    let b = c.args.b in
    let named = λ (u : Term). rename_term b.base (term_of u) in
    let k = subst (λ (u : Term). IsBelow b.end (named u)) c.in-Abs.is b.below in
    subst (λ (u : Term). IsBelow b.end (named u)) (sym c.deref-in-Abs.ensures) k.1

pub returns-in-Abs : goal.returns-in-Abs
returns-in-Abs c =
    let base = c.args.b.base in
    let a = rename_name base (record { sort = c.in-Abs.field-0; num = c.in-Abs.field-1 }) in
    let named = λ (u : Term). rename_term base (term_of u) in
    inr (a, ap named c.in-Abs.is ∙ ap (abs a) (ap named (sym c.deref-in-Abs.ensures) ∙ sym c.with_term-in-Abs.ensures))

pub returns-in-Susp : goal.returns-in-Susp
returns-in-Susp c =
    let base = c.args.b.base in
    (map (rename_swap base) c.in-Susp.field-0, ap (λ (u : Term). rename_term base (term_of u)) c.in-Susp.is)
