use Rattle.std.proofs.Common.{◌≡◌, ◌||◌, ◌++◌, ◌∷◌, Bool, [], List, sym, ap, ap₂, ◌∙◌, arith}
use Rattle.std.proofs.lemmas.List.{append-nil, nil_from_length}
use Rattle.ap_defs.specs.Substitution.{occurs}
use Rattle.ap_defs.specs.Unification.{has_var}
use Rattle.ap_defs.specs.declared.terms.Var.{Var}
use Rattle.ap_theory.proofs.BooleanLemmas.{or_nothing}
use Rattle.ap_store.specs.Founds.{bare_term}
use Rattle.ap_store.specs.Own.{occurs_own}
use Rattle.ap_store.specs.declared.bare.Bare.{Bare}
use Rattle.ap_store.proofs.OwnLemmas.{one_waits_own}
use Rattle.ap_store.proofs.own.own_vars.Goals as goal

pub gathering-init : goal.gathering-init
gathering-init c = λ y.
    ap₂ (λ (vs : List Var) (bs : List Bare). has_var y vs || occurs_own y bs) c.new-vars.ensures.items (c.in_ok-push.ensures.items ∙ ap (λ (bs : List Bare). bs ++ c.args.first ∷ []) c.new-waiting.ensures.items)
    ∙ or_nothing (occurs y (bare_term c.args.first))

pub gathering-preserved : goal.gathering-preserved
gathering-preserved c = λ y.
    c.in_ok-take_apart.ensures y
    ∙ ap (λ (o : Bool). has_var y c.gathering.vars.items || o) (sym (one_waits_own y c.pop.new.self.items c.gathering.waiting.items c.in-Some.here c.in-Some.ensures.items)) ∙ c.gathering.invariant y

pub returns-in_default : goal.returns-in_default
returns-in_default c =
    let ws = c.gathering.waiting.items in
    let none : ws ≡ [] = c.in_default.ensures.items ∙ append-nil c.pop.new.self.items ∙ nil_from_length c.pop.new.self.items (let l = c.pop.new.self.ok.0 in let h = c.in_default.ensures.cases in omega (arith, l, h.1)) in
    λ y. sym (ap (λ (bs : List Bare). has_var y c.gathering.vars.items || occurs_own y bs) none ∙ or_nothing (has_var y c.gathering.vars.items)) ∙ c.gathering.invariant y
