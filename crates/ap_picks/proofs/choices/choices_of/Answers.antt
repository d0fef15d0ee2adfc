use Rattle.std.proofs.Common.{◌≡◌, ◌∙◌, ◌+◌, suc, map, arith, subst, sym}
use Rattle.ap_defs.specs.Types.{constructor_of}
use Rattle.ap_types.specs.Rounds.{marked}
use Rattle.ap_picks.specs.Picks.{data_bound}
use Rattle.ap_picks.specs.ChoiceRounds.{AreChoicesAfter}
use Rattle.ap_picks.proofs.ChoiceLemmas.{last_choices, round_after, still_choices}
use Rattle.ap_picks.proofs.choices.choices_of.Goals as goal

pub returns-then-not-go_round : goal.returns-then-not-go_round
returns-then-not-go_round c =
    let cs = map constructor_of c.args.constructors.now in
    let r = c.loop-rounds.rounds in
    let old = c.loop-rounds.choices.items in
    let new = c.go_round.new.choices.items in
    let before = c.loop-rounds.invariant.after in
    let after = round_after cs r (marked c.in_ok-found.found.items) old new c.go_round.result before (rw c.deref.ensures.value at c.in_ok-found.ensures) (rw c.deref-in-loop-rounds.ensures.value at c.go_round.ensures) in
    let same = c.go_round.ensures.same c.if-not-go_round.true in
    still_choices cs r new (subst (AreChoicesAfter cs r) (sym same) before) after

pub loop-rounds-preserved : goal.loop-rounds-preserved
loop-rounds-preserved c =
    let cs = map constructor_of c.args.constructors.now in
    let r = c.loop-rounds.rounds in
    let next : suc r ≡ r + 1 = omega arith in
    record {
      long = c.go_round.ensures.as_long ∙ c.loop-rounds.invariant.long;
      after =
          subst (λ n. AreChoicesAfter cs n c.go_round.new.choices.items) next
          (round_after cs r (marked c.in_ok-found.found.items) c.loop-rounds.choices.items c.go_round.new.choices.items c.go_round.result c.loop-rounds.invariant.after (rw c.deref.ensures.value at c.in_ok-found.ensures) (rw c.deref-in-loop-rounds.ensures.value at c.go_round.ensures));
    }

pub returns : goal.returns
returns c =
    let cs = map constructor_of c.args.constructors.now in
    let end = c.loop-rounds.auto.rounds-end in
    let far = c.loop-rounds-test.false in
    let bound = c.bound_of-bound.ensures in
    let all : c.loop-rounds.rounds ≡ data_bound cs = omega (arith, end, far, bound) in
    last_choices cs c.loop-rounds.choices.items (subst (λ n. AreChoicesAfter cs n c.loop-rounds.choices.items) all c.loop-rounds.invariant.after)
