use Rattle.std.specs.Prelude.{is_ok}
use Rattle.ap_shared.proofs.SharedLemmas.{lines_pushed, terms_added}
use Rattle.ap_shared.proofs.arena.SharedTerms.add.Goals as goal

pub invariant_of-self : goal.invariant_of-self
invariant_of-self c = record {
  formed = lines_pushed (is_ok c.push.result) c.args.self.now.lines.items c.push.new.self.items (record { entry = c.args.entry; size = c.entry_size-size.result }) c.push.ensures.items c.args.self.now.formed c.requires c.entry_size-size.ensures;
}

pub returns-clause-terms : goal.returns-clause-terms
returns-clause-terms c = terms_added c.args.self.now.lines.items c.push.new.self.items (record { entry = c.args.entry; size = c.entry_size-size.result }) c.in_ok-push.ensures.items
