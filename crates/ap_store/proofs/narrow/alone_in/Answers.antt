use Rattle.std.proofs.Common.{◌≡◌, refl, sym, ap, ◌∙◌, subst}
use Rattle.ap_defs.specs.Renaming.{IsBelow, rename_term}
use Rattle.ap_defs.specs.Substitution.{under}
use Rattle.ap_defs.specs.Terms.{NominalTerm, pair, term_of, unit}
use Rattle.ap_defs.specs.declared.terms.Term.{Term}
use Rattle.ap_store.specs.Founds.{bare_term}
use Rattle.ap_store.specs.Likes.{HaveSameVars}
use Rattle.ap_store.specs.Views.{bindings_of}
use Rattle.ap_store.proofs.NarrowLemmas.{alone_same, before_more}
use Rattle.ap_store.proofs.narrow.alone_in.Goals as goal

pub scanning-init : goal.scanning-init
scanning-init c = record { same = (unit, (λ y. refl), (λ y. refl)); below = c.args.b.below }

pub scanning-preserved-in-Pair-1 : goal.scanning-preserved-in-Pair-1
scanning-preserved-in-Pair-1 c =
    let bs = bindings_of c.args.store.now in
    let base = c.args.b.base in
    let left = rename_term base (term_of c.deref.result.now) in
    let right = rename_term base (term_of c.deref-rest.result.now) in
    let e : rename_term base (term_of c.scanning.rest.now) ≡ pair left right =
    ap (λ (u : Term). rename_term base (term_of u)) c.in-Pair.is ∙ ap (λ (u : Term). pair (rename_term base (term_of u)) (rename_term base (term_of c.in-Pair.right.value))) (sym c.deref.ensures)
    ∙ ap (λ (u : Term). pair left (rename_term base (term_of u))) (sym c.deref-rest.ensures) in
    let (before, h, k) = c.scanning.invariant.same in
    let whole : HaveSameVars (under bs (pair before (pair left right))) (under bs (bare_term c.args.b)) = subst (λ (u : NominalTerm). HaveSameVars (under bs (pair before u)) (under bs (bare_term c.args.b))) e k in
    let b : IsBelow c.args.b.end (pair left right) = subst (λ (u : NominalTerm). IsBelow c.args.b.end u) e c.scanning.invariant.below in
    record { same = (pair before left, c.both-joined.ensures bs before left h c.alone_in_branch.ensures, before_more bs before left right (bare_term c.args.b) whole); below = b.1 }

pub returns-in_default : goal.returns-in_default
returns-in_default c =
    let bs = bindings_of c.args.store.now in
    let rest = rename_term c.args.b.base (term_of c.scanning.rest.now) in
    let (before, h, k) = c.scanning.invariant.same in
    alone_same bs (pair before rest) (bare_term c.args.b) _ (λ y. sym (k y)) (c.both.ensures bs before rest h c.alone_in_branch-in_default.ensures)
