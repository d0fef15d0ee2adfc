use Rattle.std.proofs.Common.{rules, ◌≡◌, ◌∙◌, length}
use Rattle.ap_perm.specs.Closures.{closure_term}
use Rattle.ap_rules.proofs.SuspensionLemmas.{back_by_none}
use Rattle.ap_rules.proofs.moves.moved_back.Goals as goal

pub returns-then-is_empty : goal.returns-then-is_empty
returns-then-is_empty c =
    let n : length c.args.p.now ≡ 0 = search rules in
    c.settled.ensures ∙ back_by_none (closure_term c.args.c) c.args.p.now n
