use Rattle.std.proofs.Common.{ap}
use Rattle.ap_defs.specs.Types.{shape_of, list}
use Rattle.ap_defs.specs.declared.terms.Shape.{Shape}
use Rattle.ap_values.proofs.WritingLemmas.{across_pair, across_abs, put_pair, put_abs, put_list}
use Rattle.ap_values.proofs.writing.put_in.Goals as goal

pub returns-in_ok-push-in-FirstOfPair : goal.returns-in_ok-push-in-FirstOfPair
returns-in_ok-push-in-FirstOfPair c =
    rw c.in-FirstOfPair.is (λ f. across_pair f c.args.layers.now.items c.push.new.self.items c.args.made c.in-FirstOfPair.z c.in_ok-push-in-FirstOfPair.ensures.items)

pub returns-in_ok-push-in-FirstOfAbs : goal.returns-in_ok-push-in-FirstOfAbs
returns-in_ok-push-in-FirstOfAbs c =
    rw c.in-FirstOfAbs.is (λ f. across_abs f c.args.layers.now.items c.push-in-FirstOfAbs.new.self.items c.args.made c.in-FirstOfAbs.z c.in_ok-push-in-FirstOfAbs.ensures.items)

pub returns-in_ok-pair_of-in-SecondOfPair : goal.returns-in_ok-pair_of-in-SecondOfPair
returns-in_ok-pair_of-in-SecondOfPair c =
    rw c.in-SecondOfPair.is (λ f. put_pair f c.args.layers.now.items c.in-SecondOfPair.left c.args.made c.in_ok-pair_of-in-SecondOfPair.field-0 c.in_ok-pair_of-in-SecondOfPair.ensures)

pub returns-in_ok-abstraction_of-in-SecondOfAbs : goal.returns-in_ok-abstraction_of-in-SecondOfAbs
returns-in_ok-abstraction_of-in-SecondOfAbs c =
    rw c.in-SecondOfAbs.is (λ f. put_abs f c.args.layers.now.items c.in-SecondOfAbs.left c.args.made c.in_ok-abstraction_of-in-SecondOfAbs.field-0 c.in_ok-abstraction_of-in-SecondOfAbs.ensures)

pub returns-in_ok-new-in-List : goal.returns-in_ok-new-in-List
returns-in_ok-new-in-List c = rw c.in-List.is (λ f. put_list f c.args.layers.now.items c.args.made _ (ap (λ (s : Shape). list (shape_of s)) c.in_ok-new-in-List.ensures.ok))
