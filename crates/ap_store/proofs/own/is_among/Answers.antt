use Rattle.std.proofs.Common.{◌≡◌, ◌||◌, ◌∷◌, Bool, List, sym, ap, ◌∙◌}
use Rattle.ap_defs.specs.Freshness.{var_eq}
use Rattle.ap_defs.specs.Unification.{has_var}
use Rattle.ap_theory.proofs.BooleanLemmas.{false_if_not}
use Rattle.ap_theory.proofs.TermLemmas.{number_same, same_number}
use Rattle.ap_defs.specs.declared.terms.Var.{Var}
use Rattle.ap_store.proofs.own.is_among.Goals as goal

pub returns-then-x-y : goal.returns-then-x-y
returns-then-x-y c =
    let y = c.in-Some.y.now in
    let rest = c.in-Some.others.now in
    sym (ap (λ (b : Bool). b || has_var c.args.x rest) (same_number c.args.x.num y.num c.if-x-y.true)) ∙ sym (ap (has_var c.args.x) c.in-Some.ensures.cases.0) ∙ c.seeking.invariant

pub seeking-preserved : goal.seeking-preserved
seeking-preserved c =
    let y = c.in-Some.y.now in
    let rest = c.in-Some.others.now in
    sym (ap (λ (b : Bool). b || has_var c.args.x rest) (false_if_not (var_eq c.args.x y) (λ i. c.if-x-y.false (number_same c.args.x.num y.num i)))) ∙ sym (ap (has_var c.args.x) c.in-Some.ensures.cases.0) ∙ c.seeking.invariant
