use Rattle.ap_text_commands.proofs.QueryLemmas.{three_pieces}
use Rattle.ap_text_commands.specs.Generated.{term}
use Rattle.ap_text_commands.proofs.texts.programs.write_query.Goals as goal

pub returns-clause-text : goal.returns-clause-text
returns-clause-text c =
    three_pieces c.args.out.now.items _ (term 3 c.args.draws.now.state).text _ c.extend_from_slice-2.new.self.items c.extend_from_slice.new.self.items
    c.write_term.new.out.items c.in_ok-extend_from_slice.ensures.items c.in_ok-write_term.ensures.text c.in_ok-extend_from_slice-2.ensures.items
