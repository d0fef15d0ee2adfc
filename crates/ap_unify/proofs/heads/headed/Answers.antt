use Rattle.std.proofs.Common.{refl, subst, ◌∙◌}
use Rattle.ap_store.specs.Views.{present, rank}
use Rattle.ap_unify.proofs.heads.headed.Goals as goal
use Rattle.ap_unify.specs.Parts.{IsLook}
use Rattle.ap_unify.specs.declared.heads.Look.TheVariants as looks

pub following-init : goal.following-init
following-init c = record { meaning = refl; mark = λ h. h; below = λ h. h }

pub following-smaller : goal.following-smaller
following-smaller c =
    let s = c.args.store.now in
    let k : IsLook (present s) (rank s) c.following.p (looks.Further c.in-Further.further) = subst (IsLook (present s) (rank s) c.following.p) c.in-Further.is c.look_at.ensures in
    let (e, b, l) = k.0 in l

pub following-preserved : goal.following-preserved
following-preserved c =
    let s = c.args.store.now in
    let k : IsLook (present s) (rank s) c.following.p (looks.Further c.in-Further.further) = subst (IsLook (present s) (rank s) c.following.p) c.in-Further.is c.look_at.ensures in
    let (e, b, l) = k.0 in
    record { meaning = e ∙ c.following.invariant.meaning; mark = λ h. k.1 (c.following.invariant.mark h); below = λ h. b (c.following.invariant.below h) }

pub returns-in-Form-clause-head : goal.returns-in-Form-clause-head
returns-in-Form-clause-head c =
    let s = c.args.store.now in
    let k = subst (IsLook (present s) (rank s) c.following.p) c.in-Form.is c.look_at.ensures in
    k

pub returns-in-Free-clause-head : goal.returns-in-Free-clause-head
returns-in-Free-clause-head c =
    let s = c.args.store.now in
    let k = subst (IsLook (present s) (rank s) c.following.p) c.in-Free.is c.look_at.ensures in
    k

pub returns-in-Other-clause-head : goal.returns-in-Other-clause-head
returns-in-Other-clause-head c =
    let s = c.args.store.now in
    let k = subst (IsLook (present s) (rank s) c.following.p) c.in-Other.is c.look_at.ensures in
    k
