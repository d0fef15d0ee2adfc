use Rattle.std.proofs.Common.{List, [], ap, sym, subst, ◌∙◌}
use Rattle.ap_defs.specs.Substitution.{under}
use Rattle.ap_defs.specs.Terms.{susp}
use Rattle.ap_defs.specs.declared.terms.Var.{Var}
use Rattle.ap_store.specs.Likes.{HaveSameVars, IsAlike, like_in}
use Rattle.ap_store.specs.Slots.{var_at}
use Rattle.ap_store.specs.Views.{bindings_of}
use Rattle.ap_store.specs.declared.likes.Like.{Like}
use Rattle.ap_store.proofs.LikeLemmas.{like_stands, same_some}
use Rattle.ap_store.proofs.store.Store.like.Goals as goal

pub returns-in-Vars : goal.returns-in-Vars
returns-in-Vars c =
    let s = c.args.self.now in
    let x = c.args.x in
    let e = ap (λ (ls : List Like). like_in ls x.num) (sym c.deref.ensures.value) ∙ sym c.like_of.ensures ∙ c.in-Vars.is in
    λ w h k. subst (λ (v : Var). HaveSameVars (under (bindings_of s) (susp [] x)) (under (bindings_of s) (susp [] v))) (same_some (var_at c.in-Vars.num) w h)
    (subst (λ (l : Like). IsAlike l (bindings_of s) (susp [] x)) e (like_stands s x k))

pub returns-in-Head : goal.returns-in-Head
returns-in-Head c =
    let s = c.args.self.now in
    let x = c.args.x in
    let e = ap (λ (ls : List Like). like_in ls x.num) (sym c.deref.ensures.value) ∙ sym c.like_of.ensures ∙ c.in-Head.is in
    λ w h k. subst (λ (v : Var). HaveSameVars (under (bindings_of s) (susp [] x)) (under (bindings_of s) (susp [] v))) (same_some (var_at c.in-Head.num) w h)
    (subst (λ (l : Like). IsAlike l (bindings_of s) (susp [] x)) e (like_stands s x k)).0
