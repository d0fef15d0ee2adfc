use Rattle.std.proofs.Common.{◌≡◌, Bool, false, List, refl, sym, subst}
use Rattle.ap_types.specs.Rounds.{Within, marked}
use Rattle.ap_types.specs.Questions.{test_of}
use Rattle.ap_types.proofs.QuestionLemmas.{test_grows}
use Rattle.ap_types.proofs.RuleLemmas.{stands_waiting, stands_given}
use Rattle.ap_types.proofs.least.look_at.Goals as goal

pub returns-in_ok-wait-in-Some-clause-leads : goal.returns-in_ok-wait-in-Some-clause-leads
returns-in_ok-wait-in-Some-clause-leads c rest question cs =
    let waits = c.in_ok-wait-in-Some.ensures in
    stands_waiting (test_of question) cs rest c.new.result.items c.args.rule (record { gives = c.args.rule.gives; needs = c.next_missing.new.needs }) c.in-Some.base
    c.args.least.now.table.items c.args.least.now.waiting.items c.wait.new.waiting.items refl
    (subst (λ (bs : List Bool). marked bs c.in-Some.base ≡ false) c.as_slice.ensures.value c.in-Some.ensures.out)
    (λ p w. c.in-Some.ensures.same p (subst (λ (bs : List Bool). Within (marked bs) p) (sym c.as_slice.ensures.value) w))
    c.new.ensures.items waits.here waits.others

pub returns-in_ok-mark-in-None-clause-leads : goal.returns-in_ok-mark-in-None-clause-leads
returns-in_ok-mark-in-None-clause-leads c rest question cs =
    let marks = c.in_ok-mark-in-None.ensures in
    let released = c.release.ensures in
    stands_given (test_of question) (test_grows question) cs rest c.release.result.items c.args.rule
    c.args.least.now.table.items c.mark.new.table.items c.args.least.now.waiting.items c.release.new.waiting.items
    (λ p w. c.in-None.ensures.same p (subst (λ (bs : List Bool). Within (marked bs) p) (sym c.as_slice.ensures.value) w))
    marks.here marks.others released.given released.here released.others
