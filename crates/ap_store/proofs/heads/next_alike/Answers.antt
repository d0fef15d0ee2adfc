use Rattle.std.proofs.Common.{[], subst, ◌∙◌}
use Rattle.ap_defs.specs.Substitution.{under}
use Rattle.ap_defs.specs.Terms.{susp}
use Rattle.ap_defs.specs.declared.terms.Var.{Var}
use Rattle.ap_store.specs.Heads.{IsHeadLook}
use Rattle.ap_store.specs.Likes.{AreAlike}
use Rattle.ap_store.specs.Views.{bindings_of}
use Rattle.ap_store.proofs.LikeLemmas.{same_some}
use Rattle.ap_store.proofs.heads.next_alike.Goals as goal

pub returns-in-None : goal.returns-in-None
returns-in-None c =
    let s = c.args.store.now in
    let h = subst (IsHeadLook s c.args.x) c.in-Further.is c.look_at.ensures in
    λ w e. subst (λ (v : Var). AreAlike (under (bindings_of s) (susp [] c.args.x)) (under (bindings_of s) (susp [] v))) (same_some c.in-Further.y w e) h.0

pub returns-in-Some : goal.returns-in-Some
returns-in-Some c =
    let s = c.args.store.now in
    let h = subst (IsHeadLook s c.args.x) c.in-Further.is c.look_at.ensures in
    λ w e. c.alike.ensures w (c.in-Some.is ∙ e) h.2
