use Rattle.std.proofs.Common.{◌+◌, ◌-◌, ◌++◌, sym, ap, ap₂, ◌∙◌, append_assoc, arith}
use Rattle.ap_text_commands.specs.Generated.{queries, query, term}
use Rattle.ap_text_commands.proofs.QueryLemmas.{one_query}
use Rattle.ap_text_commands.proofs.texts.programs.program_of.Goals as goal

pub loop-preserved : goal.loop-preserved
loop-preserved c =
    let x = c.loop.draws.state in
    let left = c.args.size - (c.loop.counter + 1) in
    let old = c.loop.out.items in
    ap₂ (λ l s. l ++ queries left s) c.in_ok-write_query.ensures.text c.in_ok-write_query.ensures.state
    ∙ append_assoc old (query x) (queries left (term 3 x).state)
    ∙ ap (λ l. old ++ l) (sym (one_query (c.args.size - c.loop.counter) left x (omega arith)))
    ∙ c.loop.invariant
