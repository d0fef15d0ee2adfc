use Rattle.std.proofs.Common.{◌≡◌, ◌∙◌, ap, ap₂, map, rules, subst}
use Rattle.std.specs.Global.{Global}
use Rattle.std.specs.Prelude.{ℕ, Vec}
use Rattle.ap_defs.specs.Goals.{program_of}
use Rattle.ap_derive.specs.Tables.{added_rows, counts_of}
use Rattle.ap_derive.specs.Uses.{use_table}
use Rattle.ap_query_proofs.specs.QueryUses.{uses_of_query}
use Rattle.ap_program_proofs.proofs.CountSumLemmas.{one_more}
use Rattle.ap_program_proofs.proofs.counting.uses_of_program.Goals as goal

pub loop-place-preserved : goal.loop-place-preserved
loop-place-preserved g c =
    let p = program_of c.args.program.now in
    let place = c.loop-place.place in
    let more = counts_of c.in_ok-more.more in
    one_more p.clauses c.args.depth p.queries place (counts_of c.loop-place.table) more (counts_of c.in_ok-sum.sum) (search rules)
    (λ q found. subst (λ d. more ≡ use_table p.clauses (uses_of_query p.clauses d q)) c.get.ensures.number (c.in_ok-more.ensures q found))
    (c.in_ok-sum.ensures ∙ ap₂ added_rows (ap (map (λ (r : Vec ℕ Global). r.items)) c.deref.ensures.value) (ap (map (λ (r : Vec ℕ Global). r.items)) c.deref-in-loop-place.ensures.value))
    c.loop-place.invariant
