use Rattle.std.proofs.Common.{ap, sym, ◌∙◌}
use Rattle.ap_defs.specs.Goals.{goal_over}
use Rattle.ap_defs.specs.RawTerms.{raw_of}
use Rattle.ap_program.specs.NameRestriction.{in_each, terms_of_goal}
use Rattle.ap_restrict.specs.Places.{first_var, variables_at}
use Rattle.ap_restrict.proofs.PlaceLemmas.{both_right, either_right, first_right}
use Rattle.ap_restrict.proofs.places.+first_in_goal.Goals as goal

pub loop-rest-preserved-in-Both-1 : goal.loop-rest-preserved-in-Both-1
loop-rest-preserved-in-Both-1 t c =
    let first = λ (u : _). first_var (in_each (variables_at c.args.place) (terms_of_goal (goal_over raw_of u))) in
    record {
      all = ap first c.deref-rest.ensures
          ∙ first_right c.args.place (goal_over raw_of c.in-Both.left.value) (goal_over raw_of c.in-Both.right.value) (ap first (sym c.deref.ensures) ∙ sym c.first_in_goal.ensures ∙ c.in_default.is)
          ∙ ap first (sym c.in-Both.is) ∙ c.loop-rest.invariant.all;
      smaller = rw c.deref-rest.ensures (both_right _ (goal_over raw_of c.in-Both.left.value) (goal_over raw_of c.in-Both.right.value) _ (ap (goal_over raw_of) c.in-Both.is) c.loop-rest.invariant.smaller);
    }

pub loop-rest-preserved-in-Either-1 : goal.loop-rest-preserved-in-Either-1
loop-rest-preserved-in-Either-1 t c =
    let first = λ (u : _). first_var (in_each (variables_at c.args.place) (terms_of_goal (goal_over raw_of u))) in
    record {
      all = ap first c.deref-rest-in-Either.ensures
          ∙ first_right c.args.place (goal_over raw_of c.in-Either.left.value) (goal_over raw_of c.in-Either.right.value) (ap first (sym c.deref-in-Either.ensures) ∙ sym c.first_in_goal-in-Either.ensures ∙ c.in_default-first_in_goal.is)
          ∙ ap first (sym c.in-Either.is) ∙ c.loop-rest.invariant.all;
      smaller = rw c.deref-rest-in-Either.ensures (either_right _ (goal_over raw_of c.in-Either.left.value) (goal_over raw_of c.in-Either.right.value) _ (ap (goal_over raw_of) c.in-Either.is) c.loop-rest.invariant.smaller);
    }
