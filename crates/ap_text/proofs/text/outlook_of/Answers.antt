use Rattle.std.proofs.Common.{[], None, Some, subst}
use Rattle.ap_lexer.specs.Cursors.{lexemes_left}
use Rattle.ap_text.specs.Outlooks.{IsOutlook}
use Rattle.ap_text.specs.Texts.{faulty_token}
use Rattle.ap_text.proofs.Outlooks.{started, lexed_all}
use Rattle.ap_text.proofs.text.outlook_of.Goals as goal

pub read_items-requires-clause-few : goal.read_items-requires-clause-few
read_items-requires-clause-few c = started c.of-cursor.result c.args.text.now c.of-cursor.ensures.whole c.of-cursor.ensures.left c.requires.few

pub returns-in-Some-clause-fault : goal.returns-in-Some-clause-fault
returns-in-Some-clause-fault c =
    let e = c.in_ok-items.ensures in
    faulty_token c.in-Some.fault (lexed_all c.of-cursor.result c.read_items.new.cursor c.args.text.now c.in_ok-items.items.next (Some c.in-Some.fault)
    c.of-cursor.ensures.whole c.of-cursor.ensures.left e.whole e.text e.next (c.in-Some.ensures.read e.stop))

pub returns-in-None-clause-outlook : goal.returns-in-None-clause-outlook
returns-in-None-clause-outlook c =
    let e = c.in_ok-items.ensures in
    let start = c.of-cursor.result in
    let end = c.read_items.new.cursor in
    let text = c.args.text.now in
    let items = c.in_ok-items.items in
    let begun = c.of-cursor.ensures in (
      lexemes_left start,
      lexed_all start end text items.next None begun.whole begun.left e.whole e.text e.next (c.in-None.ensures.read e.stop),
      started start text begun.whole begun.left c.requires.few,
      subst (λ n. IsOutlook (lexemes_left start) [] n c.read_items.new.typing items.outlook) e.next e.outlook,
    )
