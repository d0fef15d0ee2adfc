use Rattle.std.proofs.Common.{subst}
use Rattle.ap_text.specs.Outlooks.{IsOutlookOf}
use Rattle.ap_text.proofs.Outlooks.{typed_text, mistyped, ungrammatical}
use Rattle.ap_text.proofs.text.type_items.Goals as goal

pub returns-in-Typed-clause-typed : goal.returns-in-Typed-clause-typed
returns-in-Typed-clause-typed c =
    let text = c.args.text.now in
    let typing = c.outlook_of.new.typing in
    typed_text text typing (subst (IsOutlookOf text typing) c.in-Typed.is c.in_ok-outlook.ensures.outlook)

pub returns-in-Mistyped-clause-fault : goal.returns-in-Mistyped-clause-fault
returns-in-Mistyped-clause-fault c =
    let text = c.args.text.now in
    let typing = c.outlook_of.new.typing in
    mistyped text typing c.in-Mistyped.fault (subst (IsOutlookOf text typing) c.in-Mistyped.is c.in_ok-outlook.ensures.outlook)

pub returns-in-Ungrammatical-clause-fault : goal.returns-in-Ungrammatical-clause-fault
returns-in-Ungrammatical-clause-fault c =
    let text = c.args.text.now in
    let typing = c.outlook_of.new.typing in
    ungrammatical text typing c.in-Ungrammatical.fault (subst (IsOutlookOf text typing) c.in-Ungrammatical.is c.in_ok-outlook.ensures.outlook)
