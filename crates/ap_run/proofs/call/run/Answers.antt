use Rattle.std.proofs.Common.{map, string_bytes}
use Rattle.ap_run.specs.Runs.{wanted_in}
use Rattle.ap_run.proofs.PutLemmas.{put_unwritten, put_written}
use Rattle.ap_run.proofs.RunLemmas.{told_run}
use Rattle.ap_run.proofs.call.run.Goals as goal

pub returns-in-Ok-clause-run : goal.returns-in-Ok-clause-run
returns-in-Ok-clause-run g c free =
    let made = c.in-Ok.ensures.made in
    let told = told_run (wanted_in (map string_bytes c.args.words.now)) made.0 c.in-Ok.report made.2.is in
    (made.0, c.in-Ok.report, made.1, made.2, put_written _ c.in-Ok.report c.put.result told c.put.ensures)

pub returns-in-Ok-clause-memory : goal.returns-in-Ok-clause-memory
returns-in-Ok-clause-memory g c is =
    let made = c.in-Ok.ensures.made in
    put_unwritten _ c.in-Ok.report c.put.result (told_run (wanted_in (map string_bytes c.args.words.now)) made.0 c.in-Ok.report made.2.is) c.put.ensures is
