use Rattle.ap_defs.specs.Goals.{program_of}
use Rattle.ap_documents.proofs.DocumentLemmas.{all_written, none_written, one_written}
use Rattle.ap_documents.proofs.documents.write_derivations.Goals as goal

pub derivations-init : goal.derivations-init
derivations-init c = none_written c.args.format (program_of c.args.program.now) c.args.words.now c.args.proved.now c.args.out.now.items

pub derivations-preserved : goal.derivations-preserved
derivations-preserved c =
    one_written c.args.format (program_of c.args.program.now) c.args.words.now c.args.proved.now c.args.out.now.items
    c.in-Some.first.now c.derivations.rest.now c.in-Some.others.now c.derivations.out.items c.write_proved.new.out.items
    c.in-Some.ensures.cases.0 c.derivations.invariant c.in_ok-write_proved.ensures
