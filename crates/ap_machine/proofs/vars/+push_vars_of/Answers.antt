use Rattle.std.proofs.Common.{◌≡◌, ◌^◌, ◌++◌, [], sym, ap, ◌∙◌, subst}
use Rattle.ap_defs.specs.Renaming.{IsBelow, rename_term}
use Rattle.ap_defs.specs.Terms.{NominalTerm, pair, term_of}
use Rattle.ap_defs.specs.Unification.{vars_then}
use Rattle.ap_defs.specs.declared.terms.Term.{Term}
use Rattle.ap_machine.proofs.VarLemmas.{pair_left, right_smaller}
use Rattle.ap_machine.proofs.vars.+push_vars_of.Goals as goal

pub loop-rest-preserved-in-Pair-1 : goal.loop-rest-preserved-in-Pair-1
loop-rest-preserved-in-Pair-1 t c =
    let left = term_of c.deref.result.now in
    let right = term_of c.deref-rest.result.now in
    let e : term_of c.loop-rest.rest.now ≡ pair left right =
    ap term_of c.in-Pair.is ∙ ap (λ (u : Term). pair (term_of u) (term_of c.in-Pair.right.value)) (sym c.deref.ensures) ∙ ap (λ (u : Term). pair left (term_of u)) (sym c.deref-rest.ensures) in
    let b : IsBelow (2 ^ 64) (rename_term c.args.base (pair left right)) = subst (λ (u : NominalTerm). IsBelow (2 ^ 64) (rename_term c.args.base u)) e c.loop-rest.invariant.below in
    record {
      all = pair_left (rename_term c.args.base left) (rename_term c.args.base right) c.loop-rest.vars.items c.push_vars_of.new.vars.items _ c.in_ok-push_vars_of-in-Pair.ensures
          (ap (λ u. c.loop-rest.vars.items ++ vars_then (rename_term c.args.base u) []) (sym e) ∙ c.loop-rest.invariant.all);
      below = b.1;
      smaller = right_smaller _ left right _ e c.loop-rest.invariant.smaller;
    }
