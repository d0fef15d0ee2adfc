use Rattle.std.proofs.Common.{◌≡◌, [], sym, ap, ◌∙◌, arith}
use Rattle.std.proofs.lemmas.Grind.{common_steps}
use Rattle.ap_defs.specs.Goals.{goal_of, program_in}
use Rattle.ap_shared.specs.LineDerivations.{derivation_lines}
use Rattle.ap_shared.specs.Shared.{shared_at}
use Rattle.ap_derive.specs.Tables.{counts_of, with_uses}
use Rattle.ap_derive.specs.Waiting.{uses_of_all, weight_of_all}
use Rattle.ap_derive.proofs.WaitingLemmas.{last_first, last_weight, uses_over}
use Rattle.ap_derive.proofs.counting.walk.add_uses.Goals as goal

pub walking-smaller : goal.walking-smaller
walking-smaller c =
    let whole = ap weight_of_all c.in-Some.ensures.items ∙ last_weight c.pop.new.self.items c.in-Some.node in
    let less = c.in_ok-count_node.ensures.weight in
    omega (arith, whole, less)

pub walking-preserved : goal.walking-preserved
walking-preserved c =
    let program = program_in c.args.program.now in
    c.in_ok-count_node.ensures.uses
    ∙ ap (λ us. with_uses us (counts_of c.walking.table)) (sym (ap (uses_of_all program) c.in-Some.ensures.items ∙ last_first program c.pop.new.self.items c.in-Some.node))
    ∙ c.walking.invariant

pub returns : goal.returns
returns c =
    let program = program_in c.args.program.now in
    let none : c.walking.waiting.items ≡ [] = grind (arith, common_steps) in
    λ ts.
    ap (λ ws. with_uses (uses_of_all program ws) (counts_of c.walking.table)) (sym none) ∙ c.walking.invariant
    ∙ ap (λ us. with_uses us (counts_of c.args.table.now)) (uses_over program (shared_at []) (shared_at ts) (derivation_lines c.args.derivation.now) (goal_of c.args.goal.now))
