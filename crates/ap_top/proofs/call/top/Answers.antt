use Rattle.std.proofs.Common.{map, string_bytes}
use Rattle.ap_words.specs.Words.{asked_of}
use Rattle.ap_run.proofs.PutLemmas.{put_unwritten, put_written}
use Rattle.ap_top.proofs.Reports.{told_report}
use Rattle.ap_top.proofs.call.top.Goals as goal

pub returns-in-Ok-clause-run : goal.returns-in-Ok-clause-run
returns-in-Ok-clause-run g c free =
    let made = c.in-Ok.ensures.made in
    let told = told_report (asked_of (map string_bytes c.args.words.now)) made.0 c.in-Ok.report made.2.is in
    (made.0, c.in-Ok.report, made.1, made.2, put_written _ c.in-Ok.report c.put.result told c.put.ensures)

pub returns-in-Ok-clause-memory : goal.returns-in-Ok-clause-memory
returns-in-Ok-clause-memory g c is =
    let made = c.in-Ok.ensures.made in
    put_unwritten _ c.in-Ok.report c.put.result (told_report (asked_of (map string_bytes c.args.words.now)) made.0 c.in-Ok.report made.2.is) c.put.ensures is
