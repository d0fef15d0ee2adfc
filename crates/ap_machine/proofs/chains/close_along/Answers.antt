use Rattle.std.proofs.Common.{◌<◌, List, length, ap, ◌∙◌, subst, arith}
use Rattle.std.specs.Prelude.{All, Some}
use Rattle.std.proofs.lemmas.List.{length-map}
use Rattle.std.proofs.lemmas.List.Elements.{All-pop}
use Rattle.ap_defs.specs.declared.terms.Var.{Var}
use Rattle.ap_machine.specs.declared.chains.ToClose.{ToClose}
use Rattle.ap_machine.proofs.chains.close_along.Goals as goal

pub closing-preserved : goal.closing-preserved
closing-preserved c =
    let slots = c.closing.slots.items in
    let more = c.close_at.new.slots.items in
    let vars = c.in_ok-close_at.ensures.vars in
    let same = ap (λ (xs : List Var). length xs) vars in
    let before = length-map slots (λ (e : ToClose). e.var) in
    let after = length-map more (λ (e : ToClose). e.var) in
    let inside = All-pop (λ i. i < length slots) c.closing.way.items c.pop.new.self.items (Some c.in-Some.place) c.in-Some.ensures.items c.closing.invariant.inside in
    record {
      inside = subst (λ n. All (λ i. i < n) c.pop.new.self.items) (omega (arith, same, before, after)) inside.0;
      right = c.in_ok-close_at.ensures.right;
      vars = vars ∙ c.closing.invariant.vars;
    }
