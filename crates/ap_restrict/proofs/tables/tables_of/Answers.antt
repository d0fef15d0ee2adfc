use Rattle.std.proofs.Common.{map, subst, sym, ap, ◌∙◌}
use Rattle.ap_defs.specs.Types.{constructor_of}
use Rattle.ap_restrict.specs.Heads.{AreTables}
use Rattle.ap_restrict.proofs.TableLemmas.{tables_push}
use Rattle.ap_restrict.proofs.tables.tables_of.Goals as goal
use Rattle.ap_restrict.proofs.tables.tables_of.Goals.{then-ne+in_ok-types_holding+in_ok-push, else-ne}

pub loop-sort-preserved : goal.loop-sort-preserved
loop-sort-preserved c =
    let cs = map constructor_of c.args.sig.now.constructors in
    elim c.if-ne.branch [
      | then-ne+in_ok-types_holding+in_ok-push w ↦
          tables_push cs c.loop-sort.tables.items c.if-ne.tables.items w.in_ok-types_holding.field-0 _
          (ap (λ v. v.items) w.tables-is ∙ w.in_ok-push.ensures.items) w.in_ok-types_holding.ensures c.loop-sort.invariant
      | else-ne w ↦ subst (λ v. AreTables cs v.items) (sym w.tables-is) c.loop-sort.invariant
    ]
