use Rattle.std.proofs.Common.{◌≡◌, ◌+◌, ◌≤◌, sym, ap, ◌∙◌, subst, arith}
use Rattle.std.specs.Prelude.{IfSome, Option}
use Rattle.ap_defs.specs.Canonical.{canonical_term}
use Rattle.ap_defs.specs.Renaming.{IsBelow, rename_term}
use Rattle.ap_defs.specs.Terms.{NominalTerm, app, pair, term_of}
use Rattle.ap_defs.specs.Unification.{size}
use Rattle.ap_defs.specs.declared.terms.Term.{Term}
use Rattle.ap_machine.specs.Closed.{closed_within, plain_meaning, rounds_work}
use Rattle.ap_machine.proofs.along.go_along.Goals as goal

pub going-preserved : goal.going-preserved
going-preserved c =
    let s = c.args.store.now in
    let f = c.in-Some.f in
    let left = term_of c.in-Some.left.now in
    let right = term_of c.in-Some.right.now in
    let m : NominalTerm → NominalTerm = plain_meaning s c.args.base in
    let cell : term_of c.going.rest.now ≡ app f (pair left right) = c.in-Some.ensures in
    let rounds = c.going.rounds.items in
    let made : term_of c.in-Some-2.made ≡ canonical_term (m left) =
    subst (λ (o : Option Term). IfSome o (λ u. term_of u ≡ canonical_term (m left))) c.in-Some-2.is c.in_ok-made.ensures in
    let sizes : size (m (term_of c.going.rest.now)) ≡ size (app f (pair (m left) (m right))) = ap (λ t. size (m t)) cell in
    let work : rounds_work s c.keep_cell.new.rounds.items ≤ rounds_work s rounds + 1 = c.in_ok-keep_cell.ensures.work s in
    record {
      below = (subst (λ (t : NominalTerm). IsBelow c.args.end (rename_term c.args.base t)) cell c.going.invariant.below).1;
      same = c.in_ok-keep_cell.ensures.same s (canonical_term (m right))
          ∙ ap (λ t. closed_within s rounds (app f (pair t (canonical_term (m right))))) made
          ∙ ap (λ t. closed_within s rounds (canonical_term (m t))) (sym cell) ∙ c.going.invariant.same;
      less = omega (arith, c.going.invariant.less, sizes, work);
    }
