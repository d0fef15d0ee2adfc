use Rattle.std.proofs.Common.{◌≡◌, ap, map, subst, ◌∙◌}
use Rattle.std.specs.Global.{Global}
use Rattle.std.specs.Prelude.{Vec, ℕ}
use Rattle.std.proofs.lemmas.Result.{IfOk-weaker}
use Rattle.ap_defs.specs.Goals.{program_in, program_of}
use Rattle.ap_defs.specs.declared.goals.Program.{Program}
use Rattle.ap_defs.specs.declared.terms.Term.{Term}
use Rattle.ap_derive.specs.Tables.{counts_of}
use Rattle.ap_derive.specs.Uses.{use_table}
use Rattle.ap_program_proofs.specs.ProgramUses.{uses_of_queries}
use Rattle.ap_text_commands.proofs.RowLemmas.{all_counted}
use Rattle.ap_text_commands.proofs.counting.text.clause_counts.Goals as goal

pub returns : goal.returns
returns g c =
    let counted = λ (p : Program Term). counts_of c.in_ok-table.table ≡ use_table (program_of p).clauses (uses_of_queries (program_of p).clauses c.args.depth (program_of p).queries) in
    IfOk-weaker c.in_order_of_items.result _ _
    (λ v made.
    all_counted c.args.depth (program_of c.args.program.now) (program_in c.items.result.now) (map (λ (r : Vec ℕ Global). r.items) c.deref.result.now) c.deref-2.result.now v.items
    (ap program_in (c.items.ensures ∙ ap (λ (r : Program Term). r.clauses) c.program.ensures.same))
    (ap (map (λ (r : Vec ℕ Global). r.items)) c.deref.ensures.value ∙ subst counted c.in_ok-index.ensures c.in_ok-table.ensures)
    (c.deref-2.ensures.value ∙ c.in_ok-counts.ensures) made)
    c.in_order_of_items.ensures
