use Rattle.std.proofs.lemmas.Map.Text.{hash_map_updates_str}
use Rattle.ap_scopes.proofs.numbers.Numbers.set.Goals as goal

pub returns : goal.returns
returns c = λ w. hash_map_updates_str c.args.word.now c.args.self.now.places c.insert.new.self _ c.in_ok-insert.ensures.updates w
