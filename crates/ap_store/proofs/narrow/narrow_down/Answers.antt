use Rattle.std.proofs.Common.{[], refl, ◌∙◌, subst}
use Rattle.ap_defs.specs.Substitution.{under}
use Rattle.ap_defs.specs.Terms.{susp}
use Rattle.ap_store.specs.Founds.{IsSight, bare_term}
use Rattle.ap_store.specs.Likes.{HaveSameVars}
use Rattle.ap_store.specs.Narrow.{IsAlone}
use Rattle.ap_store.specs.Views.{bindings_of}
use Rattle.ap_store.specs.declared.occurrences.Sight.TheVariants as sights
use Rattle.ap_store.proofs.FollowLemmas.{bound_occurs}
use Rattle.ap_store.proofs.NarrowLemmas.{goes_same}
use Rattle.ap_store.proofs.narrow.narrow_down.Goals as goal

pub narrowing-init : goal.narrowing-init
narrowing-init c = λ y. refl

pub returns-in-Nothing : goal.returns-in-Nothing
returns-in-Nothing c =
    let s = c.args.store.now in
    let h = goes_same s (bare_term c.args.first) c.narrowing.like c.narrowing.b c.narrowing.invariant in
    let k = subst (IsAlone (bindings_of s) (bare_term c.narrowing.b)) c.in-Nothing.is c.alone_in.ensures in
    λ y. h y ∙ k y

pub returns-in-Ground : goal.returns-in-Ground
returns-in-Ground c =
    let s = c.args.store.now in
    let h = goes_same s (bare_term c.args.first) c.narrowing.like c.narrowing.b c.narrowing.invariant in
    let k = subst (IsAlone (bindings_of s) (bare_term c.narrowing.b)) c.in-One.is c.alone_in.ensures in
    let g = subst (IsSight s c.in-One.w) c.in-Ground.is c.seen.ensures in
    λ y. h y ∙ k y ∙ g y

pub returns-in-Unbound : goal.returns-in-Unbound
returns-in-Unbound c =
    let s = c.args.store.now in
    let h = goes_same s (bare_term c.args.first) c.narrowing.like c.narrowing.b c.narrowing.invariant in
    let k = subst (IsAlone (bindings_of s) (bare_term c.narrowing.b)) c.in-One.is c.alone_in.ensures in
    (subst (IsSight s c.in-One.w) c.in-Unbound.is c.seen.ensures, λ y. h y ∙ k y)

pub narrowing-preserved : goal.narrowing-preserved
narrowing-preserved c =
    let s = c.args.store.now in
    let w = c.in-One.w in
    let h = goes_same s (bare_term c.args.first) c.narrowing.like c.narrowing.b c.narrowing.invariant in
    let k : HaveSameVars (under (bindings_of s) (bare_term c.narrowing.b)) (under (bindings_of s) (susp [] w)) = subst (IsAlone (bindings_of s) (bare_term c.narrowing.b)) c.in-One.is c.alone_in.ensures in
    let g : IsSight s w (sights.Below c.in-Below.further) = subst (IsSight s w) c.in-Below.is c.seen.ensures in
    let (p, m) = g in
    ((λ y. h y ∙ k y ∙ bound_occurs s y w [] p (bare_term c.in-Below.further) m), λ y. h y ∙ k y)
