use Rattle.std.proofs.Common.{◌≡◌, ◌∙◌, List, ◌∷◌, map, sym, ap}
use Rattle.ap_defs.specs.declared.terms.Term.{Term}
use Rattle.ap_defs.specs.declared.terms.Var.{Var}
use Rattle.ap_defs.specs.Goals.{both, goal_of}
use Rattle.ap_defs.specs.Terms.{term_of}
use Rattle.ap_defs.specs.declared.spines.GoalLayer.TheVariants as around
use Rattle.ap_defs.proofs.SpineLemmas.{goal_goes_in}
use Rattle.ap_instance.specs.Equations.{with_equations}
use Rattle.ap_instance.proofs.putting.equations.Goals as goal

pub adding-preserved : goal.adding-preserved
adding-preserved c g =
    let made = c.in_ok-equation.field-0 in
    let left = c.adding.left.now in
    let right = c.adding.right.now in
    let part = with_equations c.in-Some.others.now (map term_of c.in-Some-split_first.more.now) g in
    let e : with_equations left (map term_of right) g ≡ both (goal_of made) part =
    ap (λ (xs : List Var). with_equations xs (map term_of right) g) c.in-Some.ensures.cases.0
    ∙ ap (λ (ts : List Term). with_equations (c.in-Some.x.now ∷ c.in-Some.others.now) (map term_of ts) g) c.in-Some-split_first.ensures.cases.0
    ∙ ap (λ h. both h part) (sym c.in_ok-equation.ensures) in
    goal_goes_in c.adding.layers.items c.push.new.self.items (around.Both made) _ part _ c.in_ok-push.ensures.items e (c.adding.invariant g)
