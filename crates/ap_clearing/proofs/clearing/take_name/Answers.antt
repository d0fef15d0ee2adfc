use Rattle.std.proofs.Common.{◌∙◌, ap}
use Rattle.std.specs.Option.{unwrap_or}
use Rattle.ap_defs.specs.Permutations.{name_eq}
use Rattle.ap_clearing.proofs.ClearsLemmas.{added, from_start, next_start}
use Rattle.ap_clearing.proofs.clearing.take_name.Goals as goal

pub next_unused-requires : goal.next_unused-requires
next_unused-requires c = record {
  from =
      from_start c.args.used.now.keys c.args.starts.now c.requires.starts c.args.sort c.unwrap_or-from.result
      (c.unwrap_or-from.ensures ∙ ap (λ o. unwrap_or o 0) (c.copied.ensures ∙ c.get.ensures.value));
}

pub returns-clause-used : goal.returns-clause-used
unfolding name_eq
returns-clause-used c =
    added c.args.used.now.keys c.insert.new.self.keys (record { sort = c.args.sort; num = c.in_ok-num.num }) c.in_ok-num.ensures.least.unused c.in_ok-insert.ensures.keys

pub returns-clause-starts : goal.returns-clause-starts
returns-clause-starts c =
    next_start c.args.used.now.keys c.insert.new.self.keys c.args.sort c.in_ok-num.num c.args.starts.now c.insert-2.new.self c.requires.starts c.in_ok-num.ensures.least.least
    (returns-clause-used c) c.in_ok-insert-2.ensures.updates.0
